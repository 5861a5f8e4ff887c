pub use Rattle.sat_base.specs.Literal
pub use Rattle.sat_base.specs.Truth
pub use Rattle.sat_log.specs.Chains
pub use Rattle.sat_log.specs.Propagation
pub mod Solver
pub mod Internal
