pub mod Examples
pub mod Subsets
pub mod SubsetsAnswer
pub mod SubsetsCuts
pub mod SubsetsPieces
