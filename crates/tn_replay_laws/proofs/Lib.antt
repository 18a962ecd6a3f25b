-- The files of lemmas of this crate.
pub mod FitLemmas
pub mod Frame
pub mod NameLemmas
pub mod ListLemmas
pub mod EntryLemmas
pub mod ClaimLemmas
pub mod DocumentLemmas
pub mod ExtraLemmas
pub mod CheckedLemmas
pub mod FoundLemmas
pub mod OutcomeLemmas
pub mod LineLemmas
pub mod RunLemmas
