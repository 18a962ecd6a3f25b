-- The files of lemmas of this crate.
pub mod DropLemmas
pub mod CompletionLemmas
