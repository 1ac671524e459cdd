pub mod Slots
pub mod Parents
pub mod Pages
pub mod Laws
pub mod Searches
