pub mod Resending
pub mod Leading
pub mod Following
pub mod Commits
pub mod Trees
pub mod Asking
pub mod Listing
