pub mod TableLaws
pub mod SignLaws
pub mod PeelLaws
pub mod StayLaws
