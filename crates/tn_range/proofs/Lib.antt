-- The files of lemmas of this crate.
mod PathLemmas
mod RangeLemmas
