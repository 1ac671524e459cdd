pub mod Text
pub mod Lines
pub mod Fits
pub mod Steps
pub mod TraceLines
pub mod StepFits
