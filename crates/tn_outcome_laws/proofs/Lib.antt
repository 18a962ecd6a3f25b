-- The files of lemmas of this crate.
pub mod AddingLemmas
pub mod ReducedLemmas
pub mod SignedLemmas
pub mod RationalLemmas
pub mod StableLemmas
pub mod MirrorLemmas
pub mod SplitLemmas
pub mod CompletionLemmas
pub mod NoMoreLemmas
pub mod ArcLemmas
pub mod FixedLemmas
