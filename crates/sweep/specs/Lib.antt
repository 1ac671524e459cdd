pub mod Draws
pub mod Calls
pub mod Lines
pub mod Runs
pub mod Texts
