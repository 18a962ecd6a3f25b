-- The files of lemmas of this crate.
pub mod StallLemmas
pub mod RingLemmas
pub mod DealerLemmas
