pub mod Exit
pub mod Words
pub mod Folders
pub mod Texts
pub mod Serve
pub mod Door
pub mod Run
