-- Means of proof: what private contracts and proofs speak of.
pub mod Outcome
pub mod Reader
pub mod FormulaReader
pub mod NoteReader
pub mod StatementReader
pub mod Passes
pub mod Reads
