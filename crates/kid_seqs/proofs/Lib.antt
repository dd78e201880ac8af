pub mod ExampleProofs
pub mod SeqsLaws
pub mod SeqsLifting
pub mod SequenceMeaning
