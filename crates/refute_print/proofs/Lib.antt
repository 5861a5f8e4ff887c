mod Lists
mod Writes
mod NamesAt
mod TermTexts
pub mod LineTexts
mod SharedLists
pub mod AllLaws
