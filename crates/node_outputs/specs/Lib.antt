pub mod Messages
pub mod Said
pub mod Makes
pub mod Records
