pub mod FactLemmas
pub mod NameLemmas
pub mod SpellingLemmas
