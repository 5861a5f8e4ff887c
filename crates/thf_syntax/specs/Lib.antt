pub use Rattle.outside.specs.Causes
pub use Rattle.outside.specs.Prefix
pub use Rattle.outside.specs.Writing
pub use Rattle.thf_grammar.specs.Reading
pub use Rattle.thf_grammar.specs.Statements
pub use Rattle.thf_grammar.specs.Texts as ThfGrammarTexts
pub use Rattle.thf_grammar.specs.Trees
pub use Rattle.thf_grammar.specs.View
pub use Rattle.thf_grammar.specs.Words
pub use Rattle.thf_names.specs.Names
pub mod Slots
pub mod Texts
pub mod Places
pub mod Law
