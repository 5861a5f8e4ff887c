pub use Rattle.stt_core.specs.Declarations
pub use Rattle.stt_core.specs.Lambda
pub use Rattle.stt_core.specs.Lift
pub use Rattle.stt_core.specs.PlainProblem
pub use Rattle.stt_core.specs.Signature
pub use Rattle.stt_core.specs.SimpleType
pub use Rattle.stt_core.specs.TypedName
pub use Rattle.stt_core.specs.TypedProblem
pub use Rattle.stt_core.specs.Typing
pub use Rattle.stt_core.specs.View as SttCoreView
pub use Rattle.thf_grammar.specs.Trees
pub use Rattle.thf_grammar.specs.View as ThfGrammarView
pub use Rattle.thf_include.specs.View as ThfIncludeView
pub mod Outcome
pub mod Types
pub mod Typed
pub mod Rows
pub mod Terms
pub mod Statements
pub mod Checks
pub mod Internal
