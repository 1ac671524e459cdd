pub mod Overlay
pub mod Indices
pub mod Index
pub mod Laws
