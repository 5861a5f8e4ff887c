pub mod Lists
pub mod Writes
