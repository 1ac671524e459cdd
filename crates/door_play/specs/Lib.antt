pub mod Steps
pub mod Replies
pub mod Played
pub mod Laws
pub mod OnTheWay
pub mod Told
pub mod Playing
