pub mod Posted
pub mod Due
pub mod Machine
pub mod Kept
pub mod Book
pub mod Given
pub mod Lines
pub mod Laws
