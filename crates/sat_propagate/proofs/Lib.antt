pub mod ClauseTableLaws
mod CodeLaws
pub mod ListLaws
pub mod PlaceLaws
pub mod PropagatorLaws
pub mod EntryLaws
pub mod TableLaws
pub mod LevelLaws
pub mod BackLaws
pub mod InsertLaws
pub mod DetachLaws
pub mod ForcedLaws
pub mod DeciderLaws
pub mod RecentLaws
