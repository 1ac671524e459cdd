pub mod Faults
pub mod Forgetting
pub mod Holding
mod Indexed
pub mod Lengths
mod Plans
mod Sizes
