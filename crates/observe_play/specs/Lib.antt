pub mod Watch
pub mod Ends
pub mod OnTheWay
