pub mod CellsRead
pub mod Gathering
pub mod BlocksRead
pub mod Objects
