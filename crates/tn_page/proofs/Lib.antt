-- The files of lemmas of this crate.
mod RunLemmas
mod WordLemmas
