-- The files of lemmas of this crate.
pub mod CheckLemmas
pub mod StepLemmas
pub mod FallLemmas
pub mod NumberLemmas
pub mod SubsetLemmas
pub mod SumLemmas
pub mod TestedLemmas
pub mod DocumentLeads
pub mod HeadLeads
pub mod AmountLemmas
pub mod PlacedLemmas
pub mod MarketLemmas
pub mod SameLemmas
pub mod LoopLemmas
pub mod MadeLemmas
pub mod FirmStops
pub mod LawLemmas
