pub use Rattle.outside.specs.Decimal
pub mod Options
pub mod Line
pub mod Names
pub mod Requests
pub mod View
pub mod Rows
