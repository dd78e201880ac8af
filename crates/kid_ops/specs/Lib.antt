pub mod Bits
pub mod Chosen
pub mod Items
pub mod Kinds
pub mod Merged
pub mod Parts
pub mod RowItems
pub mod Sums
