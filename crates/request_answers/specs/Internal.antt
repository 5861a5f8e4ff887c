-- Means of proof: what private contracts and proofs speak of.
pub mod Unread
pub mod RefusedFiles
pub mod RefusedTexts
pub mod RefusedModes
pub mod RefusedSchedules
pub mod ReadFaults
pub mod Texts
