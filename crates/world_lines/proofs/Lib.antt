pub mod Sizes
mod Firsts
mod Ways
pub mod Machine
pub mod Loops
pub mod Made
pub mod Messages
pub mod PartLines
pub mod TreeLines
