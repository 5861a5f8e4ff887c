pub use Rattle.command_queue.specs.Queue
pub use Rattle.instantiate.specs.Growing
pub use Rattle.instantiate.specs.Listing
pub use Rattle.literal_map.specs.Atoms
pub use Rattle.prover_state.specs.Lasting
pub use Rattle.search_spec.specs.Commands
pub use Rattle.tableau_calculus.specs.Each
pub use Rattle.search_spec.specs.Heads
pub use Rattle.search_spec.specs.Offers
pub use Rattle.search_spec.specs.Partial
pub use Rattle.search_spec.specs.Preparing
pub use Rattle.search_spec.specs.State
pub use Rattle.search_spec.specs.Terms as SearchSpecTerms
pub use Rattle.search_spec.specs.TypedState
pub use Rattle.search_spec.specs.Witness
pub use Rattle.stt_core.specs.Lambda
pub use Rattle.stt_core.specs.SimpleType
pub use Rattle.stt_core.specs.View
pub use Rattle.tableau_calculus.specs.Literals
pub use Rattle.tableau_calculus.specs.Rules
pub use Rattle.term_bank.specs.Content
pub use Rattle.term_bank.specs.Terms as TermBankTerms
pub mod Internal
