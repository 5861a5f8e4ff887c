-- Means of proof: what private contracts and proofs speak of.
pub mod Refused
pub mod Turning
pub mod Searching
pub mod Standing
