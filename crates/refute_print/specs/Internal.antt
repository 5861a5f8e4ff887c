-- Means of proof: what private contracts and proofs speak of.
pub mod Pieces
pub mod TreeCode
pub mod LiteralCode
pub mod TreeSizes
pub mod TreeFalls
