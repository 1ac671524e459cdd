mod PartLaws
pub mod MessageLaws
mod DecodeLaws
