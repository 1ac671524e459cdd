pub mod Kept
pub mod Pulls
pub mod Gives
pub mod Boots
pub mod LogLaws
