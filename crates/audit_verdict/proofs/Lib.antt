pub mod TreesOfCells
pub mod Verdicts
pub mod ListingTexts
