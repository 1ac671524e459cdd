pub mod Traffic
pub mod Memory
pub mod Readings
pub mod Told
pub mod Adapters
pub mod Peers
pub mod Lateness
