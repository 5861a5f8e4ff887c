-- Means of proof: what private contracts and proofs speak of.
pub mod WatchLists
pub mod Propagator
pub mod Insertion
pub mod Finding
pub mod Trail
pub mod ClauseTable
pub mod Decider
pub mod Recent
