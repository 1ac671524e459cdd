pub mod Waits
mod Peers
mod Answered
pub mod HostSteps
mod Spelled
mod Fronts
pub mod Sized
pub mod Hosts
pub mod Lists
pub mod Right
pub mod Logs
pub mod Moves
pub mod Plain
pub mod Rules
pub mod Saved
pub mod StockSteps
pub mod Starts
pub mod Told
pub mod Sends
pub mod Trees
pub mod Truths
pub mod Outlines
pub mod Numbered
pub mod BookLogs
pub mod BookMoves
pub mod NoReads
pub mod StepKinds
pub mod Growth
pub mod Kept
