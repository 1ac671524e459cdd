pub mod Rule
pub mod Local
pub mod Served
