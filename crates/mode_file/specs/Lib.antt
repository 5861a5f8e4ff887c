pub use Rattle.outside.specs.Decimal
pub use Rattle.outside.specs.Fronts
pub use Rattle.outside.specs.Lines as OutsideLines
pub mod Keys
pub mod Given
pub mod Lines
pub mod Grammar
pub mod Refusals
pub mod Internal
