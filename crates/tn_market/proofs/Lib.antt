-- The files of lemmas of this crate.
pub mod GraphLemmas
pub mod MarketLemmas
pub mod AscentLemmas
pub mod BonusLemmas
pub mod AskLemmas
pub mod LevyLemmas
pub mod RowLemmas
