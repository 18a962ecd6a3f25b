-- The files of lemmas of this crate.
pub mod RoundLemmas
pub mod WorthLemmas
pub mod SolverLemmas
