-- Instances by matching: patterns of a universal literal, and matching them with terms.
pub mod Variables
pub mod Patterns
pub mod Groups
pub mod Flexes
pub mod Match
pub mod Laws
pub mod Examples
