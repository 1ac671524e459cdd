pub mod Fields
pub mod Words
pub mod Reading
pub mod Grammar
