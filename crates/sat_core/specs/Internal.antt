-- Means of proof: what private contracts and proofs speak of.
pub mod Learner
pub mod Learned
pub mod Marks
pub mod Uses
pub mod Keeper
pub mod Restarts
pub mod Reasons
pub mod Sides
pub mod Spares
