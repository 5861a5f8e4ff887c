-- Means of proof: what private contracts and proofs speak of.
pub mod Places
pub mod Shared
pub mod Seen
pub mod Numbers
pub mod Branches
pub mod Lines
pub mod Taking
pub mod Strictly
