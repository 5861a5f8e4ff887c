pub use Rattle.sat_base.specs.Literal
pub use Rattle.sat_log.specs.Propagation
pub mod Internal
