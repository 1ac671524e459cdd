pub mod Ascending
pub mod Places
pub mod Walks
pub mod Indexing
pub mod Dropping
