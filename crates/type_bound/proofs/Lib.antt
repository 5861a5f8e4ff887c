pub mod NormalLaws
pub mod ModestTerms
pub mod ModestSteps
pub mod ModestRun
pub mod StartLaws
pub mod FlatRun
pub mod SmallLaws
pub mod UnfoldLaws
