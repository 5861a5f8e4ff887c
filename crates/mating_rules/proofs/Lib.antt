pub mod FilterLaws
pub mod StayLaws
pub mod KeyLaws
pub mod HeadLaws
pub mod ArityLaws
pub mod PairLaws
pub mod NoteLaws
