pub mod CountLaws
pub mod TallyLaws
pub mod Deliveries
pub mod Counting
pub mod PlayLaws
pub mod ClockLaws
mod Readings
mod Generated
mod Swept
