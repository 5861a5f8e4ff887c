pub mod CompleteLaws
pub mod CountLaws
pub mod TrailLaws
pub mod WatchLaws
pub mod AnalysisLaws
pub mod PackingLaws
