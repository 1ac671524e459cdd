pub mod SetOnce
pub mod Targets
pub mod Histories
