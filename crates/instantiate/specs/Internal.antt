-- Means of proof: what private contracts and proofs speak of.
pub mod Groups
pub mod PartialCode
pub mod PartialSizes
pub mod PartialFalls
pub mod Holes
pub mod Slots
pub mod Blanks
pub mod Interned
pub mod Fitting
pub mod Cases
