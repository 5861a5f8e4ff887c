-- Means of proof: what private contracts speak of.
pub mod Parts
pub mod Drafted
pub mod Typed
pub mod Functions
pub mod Numbered
pub mod Declaring
pub mod Used
pub mod Made
pub mod Compared
