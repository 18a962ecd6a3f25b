-- The files of lemmas of this crate.
pub mod TakenLemmas
pub mod FitLemmas
pub mod PartLemmas
pub mod VerdictLemmas
pub mod UnitLemmas
pub mod NamedLemmas
pub mod CompleteLemmas
pub mod NumberLemmas
pub mod OwnLemmas
pub mod ReplayLemmas
pub mod CaseLemmas
pub mod HeadlineLemmas
pub mod LinedLemmas
