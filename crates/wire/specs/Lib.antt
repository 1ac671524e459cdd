pub mod Storers
pub mod Parts
pub mod Messages
