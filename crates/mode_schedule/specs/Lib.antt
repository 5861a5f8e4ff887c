pub use Rattle.delta_defs.specs.Unfolding
pub use Rattle.mode_file.specs.Given
pub use Rattle.mode_file.specs.Grammar as ModeGrammar
pub use Rattle.mode_file.specs.Refusals as ModeRefusals
pub use Rattle.outside.specs.Lines
pub use Rattle.prover_run.specs.Ended
pub use Rattle.search_spec.specs.Queue
pub use Rattle.search_spec.specs.Result
pub use Rattle.search_spec.specs.State
pub use Rattle.stt_core.specs.PlainProblem
pub use Rattle.stt_core.specs.TypedProblem
pub use Rattle.tableau_calculus.specs.Literals
pub use Rattle.tableau_calculus.specs.Start
pub use Rattle.type_bound.specs.Modest
pub mod Grammar
pub mod Refusals
pub mod Turns
pub mod Laws
pub mod Ends
pub mod Scheduled
pub mod Internal
