pub mod Told
pub mod Calls
pub mod Steps
pub mod Laws
