pub mod Calls
pub mod Moves
pub mod Faults
mod Tellings
mod Ends
