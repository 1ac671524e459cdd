pub mod Places
pub mod Verdicts
pub mod Judging
pub mod Texts
