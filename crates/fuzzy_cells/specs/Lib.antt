pub mod History
pub mod Fuzzy
pub mod Laws
pub mod Disk
pub mod DiskLaws
