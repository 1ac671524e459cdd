pub mod Scene
pub mod Run
pub mod Reading
pub mod Trace
pub mod Peeks
pub mod Told
