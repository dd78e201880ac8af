pub mod Answers
pub mod Binders
pub mod Declaring
pub mod ScopeView
