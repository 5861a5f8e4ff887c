pub use Rattle.outside.specs.Causes
pub use Rattle.outside.specs.Prefix
pub mod Buffered
