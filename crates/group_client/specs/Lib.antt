pub mod Rule
pub mod Calling
