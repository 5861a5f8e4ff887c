pub use Rattle.stt_core.specs.Lambda
pub use Rattle.stt_core.specs.SimpleType
pub use Rattle.tableau_calculus.specs.Witnesses
pub use Rattle.term_bank.specs.Content
pub use Rattle.term_bank.specs.Terms
pub mod Rows
pub mod Laws
