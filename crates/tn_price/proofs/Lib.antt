-- The files of lemmas of this crate.
pub mod SurplusLemmas
pub mod JudgeLemmas
pub mod SupportLemmas
pub mod CycleLemmas
