-- The files of lemmas of this crate.
pub mod JsonLemmas
pub mod DocumentLeads
pub mod DocumentStops
pub mod ReadingLemmas
pub mod SizeLemmas
