pub mod ExampleProofs
pub mod MapMeaning
pub mod MapsLaws
pub mod MapsLifting
