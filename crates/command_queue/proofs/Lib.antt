pub mod BagLaws
pub mod OrderLaws
pub mod HeapLaws
pub mod AgendaLaws
