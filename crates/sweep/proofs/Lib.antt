pub mod NumberLaws
pub mod LineLaws
mod RunLaws
mod StepsFit
mod TextLaws
