pub mod Hex
pub mod Numerals
pub mod OneLine
pub mod Octal
pub mod OneStepLine
