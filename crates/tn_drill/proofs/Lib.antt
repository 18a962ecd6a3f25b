-- The files of lemmas of this crate.
pub mod DrawLemmas
mod NumberLemmas
mod FirmLemmas
mod NetworkLemmas
