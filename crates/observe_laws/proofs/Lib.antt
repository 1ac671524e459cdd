pub mod Traced
pub mod Taken
pub mod Within
pub mod Peeked
pub mod Texts
pub mod Told
