-- Means of proof: what private contracts speak of.
pub mod Denied
