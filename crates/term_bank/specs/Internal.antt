-- Means of proof: what private contracts and proofs speak of.
pub mod ShapeHash
pub mod ShapeLaws
pub mod Marks
pub mod MarksView
pub mod Sound
pub mod Inside
pub mod Copied
pub mod ContentCode
pub mod Places
