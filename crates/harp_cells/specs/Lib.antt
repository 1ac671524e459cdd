pub mod Effect
pub mod ValueBytes
pub mod CellBytes
pub mod Memory
pub mod CellsOfTree
pub mod Laws
pub mod Kinds
