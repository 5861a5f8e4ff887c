-- Means of proof: what private contracts and proofs speak of.
pub mod Chosen
pub mod Keys
pub mod Origins
pub mod Spans
pub mod Stepping
