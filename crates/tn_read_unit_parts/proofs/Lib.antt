-- The files of lemmas of this crate.
pub mod EntryLemmas
pub mod ArrangementLemmas
pub mod EditLemmas
