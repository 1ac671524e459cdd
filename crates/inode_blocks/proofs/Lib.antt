pub mod Places
pub mod BlockCells
pub mod PutLaws
pub mod CutLaws
pub mod TreeLaws
pub mod Steps
