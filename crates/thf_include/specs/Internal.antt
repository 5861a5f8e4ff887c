-- Means of proof: what private contracts and proofs speak of.
pub mod Chain
pub mod Names
pub mod Opening
pub mod Steps
pub mod Selection
