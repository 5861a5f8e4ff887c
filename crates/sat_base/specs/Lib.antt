pub mod Literal
pub mod Truth
