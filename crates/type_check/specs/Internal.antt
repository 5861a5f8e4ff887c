-- Means of proof: what private contracts and proofs speak of.
pub mod Answers
pub mod TypedView
pub mod Infixes
pub mod ScopeView
pub mod Quantifiers
pub mod ReadingView
pub mod ProblemNames
pub mod Fingerprint
