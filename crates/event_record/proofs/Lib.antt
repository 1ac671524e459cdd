pub mod Standing
pub mod RecordLaws
pub mod Sizes
