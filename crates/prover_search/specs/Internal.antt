-- Means of proof: what private contracts and proofs speak of.
pub mod Working
pub mod Running
pub mod Developing
pub mod Progress
pub mod Starting
pub mod Answers
