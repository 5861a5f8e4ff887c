-- Means of proof: what private contracts and proofs speak of.
pub mod Denials
pub mod Stems
