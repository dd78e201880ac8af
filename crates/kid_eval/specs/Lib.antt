pub mod Binding
pub mod EnvCode
pub mod EnvView
pub mod Inside
pub mod KnownView
pub mod Opening
pub mod ScopeView
pub mod Truth
