pub mod PathLaws
pub mod GroupLaws
pub mod CredentialLaws
pub mod WalkLaws
