-- The files of lemmas of this crate.
pub mod ShapeLemmas
pub mod EachLemmas
pub mod LeadLemmas
pub mod ShapeLeads
pub mod StopLemmas
pub mod WordLemmas
pub mod ShapeStops
