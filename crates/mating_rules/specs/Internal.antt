-- Means of proof: what private contracts and proofs speak of.
pub mod NotesCode
pub mod Keys
pub mod Groups
pub mod Pairing
