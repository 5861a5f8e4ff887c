pub mod ToldFiles
pub mod OneAnswer
pub mod HeadlineLaws
pub mod ModelLaws
pub mod ScheduleLaws
