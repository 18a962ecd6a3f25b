-- The files of lemmas of this crate.
pub mod MeetLemmas
pub mod ReferenceLemmas
pub mod FirmLemmas
pub mod PartLemmas
pub mod DocumentLemmas
pub mod RunLemmas
pub mod LineLemmas
pub mod RowLemmas
