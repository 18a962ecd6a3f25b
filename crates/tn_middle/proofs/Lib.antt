-- The files of lemmas of this crate.
pub mod BalanceLemmas
pub mod PairLemmas
