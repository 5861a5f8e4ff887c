pub use Rattle.outside.specs.Causes
pub use Rattle.outside.specs.Prefix
pub use Rattle.outside.specs.Writing
pub mod Chain
