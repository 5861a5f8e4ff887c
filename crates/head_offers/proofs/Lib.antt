pub mod MarkLaws
pub mod PassLaws
pub mod FlagLaws
