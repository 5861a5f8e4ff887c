-- Means of proof: what private contracts and proofs speak of.
pub mod SameKey
pub mod Memos
pub mod Replacing
pub mod Body
pub mod Parts
pub mod LiftedHeads
pub mod FindingForms
pub mod Connectives
pub mod Expanded
