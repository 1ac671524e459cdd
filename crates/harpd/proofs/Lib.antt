pub mod WordLaws
pub mod DoorWordLaws
pub mod ServeLaws
pub mod DoorLaws
