pub mod Counts
pub mod Tally
pub mod Reading
pub mod OnTheWay
pub mod SweptLaws
