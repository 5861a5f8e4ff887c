-- Means of proof: what private contracts and proofs speak of.
pub mod Answers
pub mod Heads
pub mod Codes
