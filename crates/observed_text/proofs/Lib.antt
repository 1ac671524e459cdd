pub mod ReadLaws
pub mod ActLaws
pub mod ObservedLaws
pub mod OneObserved
