pub mod Above
pub mod CountLaws
pub mod HolderTable
pub mod PageLemmas
pub mod Writing
