pub use Rattle.sat_base.specs.Literal
pub use Rattle.search_spec.specs.Clauses
pub use Rattle.tableau_calculus.specs.Each
pub use Rattle.search_spec.specs.Numbered
pub use Rattle.tableau_calculus.specs.Kinds
pub mod Table
pub mod Internal
