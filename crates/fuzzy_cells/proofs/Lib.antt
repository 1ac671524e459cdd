pub mod Spans
pub mod Fuzzy
pub mod Disks
pub mod Alike
