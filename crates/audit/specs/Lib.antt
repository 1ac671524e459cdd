pub mod Pictures
pub mod Flaws
pub mod Entries
pub mod Sound
pub mod Rescued
pub mod Laws
pub mod Named
pub mod Stretches
