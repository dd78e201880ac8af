-- What the operators give. A part of another kind than a row names counts as false, 0 or empty.
pub mod Kinds
pub mod Logic
pub mod Map
pub mod Number
pub mod Pair
pub mod Parts
pub mod Seq
pub mod Set
pub mod Sums
pub mod Word
