pub mod Individuals
