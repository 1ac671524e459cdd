pub mod Stage
pub mod Reading
pub mod Trace
pub mod Exit
pub mod Ends
pub mod OnTheWay
