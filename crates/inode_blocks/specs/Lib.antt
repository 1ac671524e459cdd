pub mod Holds
pub mod Changes
pub mod Laws
