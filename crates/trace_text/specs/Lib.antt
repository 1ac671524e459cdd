pub mod Fields
pub mod Replies
pub mod Messages
pub mod Reading
pub mod Fits
pub mod Grammar
