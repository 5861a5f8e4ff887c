pub mod SmallLaws
pub mod RangeLaws
