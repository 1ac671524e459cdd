pub mod First
pub mod Servers
pub mod Waits
