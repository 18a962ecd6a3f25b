-- The files of lemmas of this crate.
pub mod StandLemmas
pub mod TableLemmas
pub mod ContentLemmas
pub mod HoldingLemmas
pub mod TestLemmas
pub mod ReplayLemmas
