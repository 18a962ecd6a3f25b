-- The files of lemmas of this crate.
pub mod PriceLemmas
pub mod ListLeads
pub mod ListStops
pub mod ArrangementLeads
pub mod ArrangementStops
pub mod OutcomeLeads
pub mod OutcomeStops
pub mod EditLeads
pub mod EditStops
pub mod EntryLemmas
pub mod OutcomeLaws
pub mod EditLaws
pub mod ArrangementLaws
