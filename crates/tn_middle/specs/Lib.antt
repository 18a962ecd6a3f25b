-- The files of definitions of this crate.
pub mod Pairs
pub mod Firms
pub mod SetLemmas
pub mod WithinLemmas
pub mod LawLemmas
pub mod PairLaw
