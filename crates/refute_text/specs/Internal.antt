-- Means of proof: what private contracts and proofs speak of.
pub mod Reader
pub mod TermReader
pub mod LineReader
pub mod Refusals
pub mod Places
pub mod Known
