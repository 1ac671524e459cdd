pub mod Truth
pub mod Rule
pub mod Records
