-- Means of proof: what private contracts and proofs speak of.
pub mod Kind
pub mod Marks
