mod ClockLaws
mod Chains
mod Fronts
mod Lefts
mod Results
mod Scenes
mod Stays
mod Tellings
mod Watchings
pub mod HeardLaws
