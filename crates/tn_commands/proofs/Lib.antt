-- The files of lemmas of this crate.
pub mod NumberLemmas
pub mod CheckLemmas
pub mod OutcomeLemmas
pub mod SolveLemmas
pub mod SupportedLemmas
pub mod RangeLemmas
pub mod EditLemmas
pub mod AwayLemmas
pub mod DrillLemmas
pub mod ReasonLemmas
