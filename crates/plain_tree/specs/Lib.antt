pub mod Counts
pub mod Plain
