-- Means of proof: what private contracts and proofs speak of.
pub mod Sizes
pub mod Room
