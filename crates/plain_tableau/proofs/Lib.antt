pub mod ListLaws
pub mod BranchLaws
pub mod GrownLaws
pub mod LineLaws
pub mod CutLaws
pub mod DueLaws
pub mod NotedLaws
pub mod WalkingLaws
pub mod OneLaws
pub mod MachineLaws
pub mod ExpandLaws
pub mod TableLaws
pub mod CarriedLaws
pub mod ReachedLaws
pub mod UsedLaws
pub mod SmallTrees
mod BegunLaws
