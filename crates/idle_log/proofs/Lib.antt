pub mod TakingUp
pub mod FormTests
pub mod Giving
pub mod Booting
pub mod Logs
