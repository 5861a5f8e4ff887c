pub mod TreeLaws
pub mod GatherLaws
pub mod ReadLaws
pub mod FileLaws
