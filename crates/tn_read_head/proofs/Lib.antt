-- The files of lemmas of this crate.
pub mod BesideLemmas
pub mod NameLeads
pub mod ListingLeads
pub mod NameStops
pub mod ListingStops
pub mod CountLemmas
