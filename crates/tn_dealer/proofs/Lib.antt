-- The files of lemmas of this crate.
pub mod MatchingLemmas
pub mod RepeatLemmas
pub mod CertificateLemmas
pub mod CostLemmas
pub mod PathLemmas
