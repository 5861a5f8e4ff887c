pub mod ResolutionLaws
pub mod ResolverLaws
pub mod ChainLaws
pub mod Implied
pub mod PropagationLaws
pub mod VariableLaws
