pub mod Audited
pub mod Verdicts
pub mod Texts
pub mod Left
pub mod Laws
