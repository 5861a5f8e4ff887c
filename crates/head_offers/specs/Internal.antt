-- Means of proof: what private contracts and proofs speak of.
pub mod Marks
pub mod Passing
