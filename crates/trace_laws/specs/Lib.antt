pub mod Stops
pub mod Laws
pub mod FirstParts
pub mod Stores
pub mod StoreLaws
pub mod DiskLaws
