pub use Rattle.outside.specs.Writing
pub use Rattle.thf_grammar.specs.Bytes
pub mod Names
