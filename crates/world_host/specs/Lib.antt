pub mod Starts
pub mod Shows
