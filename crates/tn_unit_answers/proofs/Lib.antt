-- The files of lemmas of this crate.
pub mod SolutionLemmas
pub mod AlikeLemmas
pub mod StepLemmas
pub mod RangedLemmas
pub mod SupportedLemmas
pub mod KeptLemmas
pub mod ListedLemmas
pub mod BundleLemmas
pub mod EditedLemmas
pub mod UsableLemmas
pub mod StateLemmas
pub mod StandingLemmas
pub mod JudgedLemmas
pub mod CheckLemmas
pub mod FirmLemmas
