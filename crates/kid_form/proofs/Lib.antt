pub mod DataLaws
pub mod ExampleProofs
pub mod LeafLaws
pub mod ListLaws
pub mod ListLemmas
pub mod SharedLaws
pub mod TreeLaws
pub mod WordLaws
