pub mod Views
pub mod Sources
pub mod Choices
pub mod Unique
