pub mod Places
pub mod Linearizable
