-- The files of lemmas of this crate.
pub mod TaxLemmas
pub mod CycleLemmas
pub mod ScaleLemmas
pub mod OfferLemmas
