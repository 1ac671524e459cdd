pub mod World
pub mod Turns
pub mod Given
pub mod Steps
pub mod Hosts
pub mod Deliveries
pub mod Clocks
pub mod Shows
