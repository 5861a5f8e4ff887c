mod Lists
mod Writes
mod TermTexts
mod LineTexts
mod TermPoolLaws
