-- The files of lemmas of this crate.
pub mod RowLemmas
pub mod TestLemmas
pub mod DecisionLemmas
