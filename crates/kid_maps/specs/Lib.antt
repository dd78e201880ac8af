pub mod Examples
pub mod Maps
pub mod MapsPieces
