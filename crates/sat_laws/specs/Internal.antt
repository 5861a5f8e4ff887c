-- Means of proof: what private contracts and proofs speak of.
pub mod Watching
pub mod Complete
pub mod Counting
pub mod Packing
pub mod Trail
pub mod Analysis
