pub mod Record
pub mod Bytes
pub mod Forms
