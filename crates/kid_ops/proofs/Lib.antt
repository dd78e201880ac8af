pub mod BitLemmas
pub mod EntryViews
pub mod ItemLemmas
pub mod MergeLemmas
pub mod NumberLemmas
pub mod RowItems
pub mod SumLemmas
