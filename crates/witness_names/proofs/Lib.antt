pub mod RowLaws
pub mod StayLaws
