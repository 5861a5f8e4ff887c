pub use Rattle.bank_normal.specs.Forms
pub use Rattle.bank_normal.specs.Right
pub use Rattle.delta_defs.specs.Unfolding
pub use Rattle.delta_normal.specs.Forms as DeltaNormalForms
pub use Rattle.literal_map.specs.Atoms
pub use Rattle.stt_core.specs.Declarations
pub use Rattle.stt_core.specs.PlainProblem
pub use Rattle.stt_core.specs.TypedProblem
pub use Rattle.stt_core.specs.View
pub use Rattle.tableau_calculus.specs.Literals
pub use Rattle.tableau_calculus.specs.Start
pub use Rattle.term_bank.specs.Content
pub use Rattle.term_bank.specs.Terms
pub mod Unfolds
