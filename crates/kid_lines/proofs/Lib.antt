pub mod LinesRead
pub mod ListLemmas
pub mod MovesRead
pub mod RulesRead
