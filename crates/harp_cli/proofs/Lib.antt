pub mod AuditLaws
pub mod WordLaws
pub mod DoorWordLaws
pub mod Checks
pub mod ServeLaws
pub mod SweepLaws
pub mod PlayLaws
pub mod DoorServerLaws
