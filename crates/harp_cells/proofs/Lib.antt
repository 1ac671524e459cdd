pub mod CellLemmas
pub mod KeyOrder
pub mod TreeLaws
pub mod ValueLaws
pub mod ChangeLaws
