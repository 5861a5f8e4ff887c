pub use Rattle.thf_grammar.specs.Bytes
pub use Rattle.thf_grammar.specs.Reading
pub use Rattle.thf_grammar.specs.Texts
pub mod Internal
