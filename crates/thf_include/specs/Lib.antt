pub use Rattle.outside.specs.Causes
pub use Rattle.outside.specs.Limits
pub use Rattle.outside.specs.Seen
pub use Rattle.thf_grammar.specs.Reading
pub use Rattle.thf_grammar.specs.Trees
pub use Rattle.thf_grammar.specs.View as ThfGrammarView
pub use Rattle.thf_grammar.specs.Words
pub use Rattle.thf_grammar.specs.contracts.formula.Surface
pub use Rattle.thf_grammar.specs.contracts.types.SurfaceTy
pub use Rattle.thf_parse.specs.Parsing
pub mod View
pub mod Gathering
pub mod Answer
pub mod Internal
