pub mod TreeCells
pub mod Table
pub mod Short
pub mod Stands
pub mod Laws
