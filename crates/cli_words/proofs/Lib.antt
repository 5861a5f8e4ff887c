pub mod Numbers
pub mod LineLaws
pub mod TableLaws
pub mod RowLaws
pub mod RequestLaws
