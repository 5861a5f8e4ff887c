-- Means of proof: what private contracts and proofs speak of.
pub mod Drafts
pub mod Walks
pub mod Arenas
pub mod Numbers
pub mod Branches
pub mod LineParts
pub mod Needed
pub mod Written
pub mod Flags
