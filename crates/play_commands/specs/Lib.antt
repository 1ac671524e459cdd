pub mod Exit
pub mod Play
pub mod Observe
pub mod Door
