-- Means of proof: what private contracts and proofs speak of.
pub mod CanonicalType
pub mod TypeCode
pub mod LambdaCode
pub mod Missing
pub mod ProblemCode
pub mod Sizes
