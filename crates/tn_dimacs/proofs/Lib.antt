-- The files of lemmas of this crate.
pub mod FlowLemmas
pub mod ServedLemmas
pub mod SumLemmas
