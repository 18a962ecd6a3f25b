-- The files of lemmas of this crate.
pub mod JoinLemmas
pub mod MadeLemmas
pub mod SplitLemmas
pub mod WideLemmas
pub mod DropLemmas
pub mod FreeLemmas
pub mod TwinLemmas
pub mod CompletionLemmas
pub mod TaxLemmas
pub mod BlockLemmas
pub mod ChoiceLemmas
pub mod OfferLemmas
pub mod GainLemmas
pub mod CauseLemmas
