pub mod Firsts
pub mod Gaps
pub mod Pieces
pub mod Quotes
pub mod Readings
pub mod Runs
pub mod Words
