-- The files of lemmas of this crate.
pub mod HeldLemmas
pub mod TradeLemmas
pub mod ResidualLemmas
pub mod MakingLemmas
pub mod PositionLemmas
pub mod CountLemmas
pub mod SurplusLemmas
pub mod ReachLemmas
