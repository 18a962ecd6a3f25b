-- The files of lemmas of this crate.
pub mod StandingLemmas
pub mod LeavingLemmas
