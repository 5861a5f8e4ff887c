pub mod DeclaredNames
pub mod TypedProblems
mod BinderLaws
mod DeclaredTypes
mod Maps
mod MoreDeclared
mod OutcomeLaws
pub mod ProblemLaws
mod RowTypes
mod ScopeLaws
mod StatementLaws
mod Symbols
mod TreeSizes
mod TypedTerms
