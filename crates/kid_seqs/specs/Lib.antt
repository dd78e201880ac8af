pub mod Examples
pub mod Seqs
pub mod SeqsPieces
