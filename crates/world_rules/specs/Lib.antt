pub mod Spellings
pub mod Host
pub mod Steps
