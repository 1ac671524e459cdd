pub mod Taking
pub mod Closing
pub mod Causes
pub mod OneVerdict
pub mod Deciding
pub mod Turning
