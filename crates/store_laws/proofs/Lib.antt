mod Lists
mod Blocks
pub mod Disks
pub mod Calls
pub mod FewBlocks
pub mod StepCalls
pub mod Steps
pub mod Parts
