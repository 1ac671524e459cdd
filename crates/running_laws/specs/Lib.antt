pub mod Events
pub mod Lives
pub mod Histories
pub mod Books
pub mod Statement
pub mod Follows
pub mod Parts
