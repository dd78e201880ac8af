pub mod BindingLemmas
pub mod EnvLemmas
pub mod LogicLemmas
pub mod OpeningLemmas
pub mod SmallLemmas
pub mod SumLemmas
pub mod WordLemmas
