-- The files of lemmas of this crate.
pub mod FourLemmas
pub mod WalkLemmas
pub mod VerdictLemmas
pub mod FirstLemmas
mod FullLemmas
mod QuadLemmas
mod TradeLemmas
