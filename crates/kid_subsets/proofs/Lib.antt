pub mod ExampleProofs
pub mod SubsetsCutLaws
pub mod SubsetsLaws
pub mod SubsetsLifting
pub mod SubsetsTheory
