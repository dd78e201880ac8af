pub mod Calls
pub mod Fronts
pub mod JoinLemmas
pub mod KeyLemmas
pub mod Limits
pub mod NewNames
pub mod SoundDefinitions
