pub mod Credentials
pub mod Paths
pub mod Fronts
pub mod Changes
pub mod Mounts
pub mod Allowances
pub mod Steps
pub mod Walks
