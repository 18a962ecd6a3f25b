-- The files of lemmas of this crate.
pub mod EndsLemmas
pub mod ReferenceLeads
pub mod EntryLeads
pub mod ToldLemmas
pub mod ReferenceStops
