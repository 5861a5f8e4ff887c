pub mod LiteralLaws
pub mod TruthLaws
pub mod CountLaws
