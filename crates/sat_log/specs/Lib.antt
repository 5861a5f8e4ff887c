pub use Rattle.sat_base.specs.Literal
pub use Rattle.sat_base.specs.Truth
pub mod Resolution
pub mod Chains
pub mod Propagation
pub mod Internal
