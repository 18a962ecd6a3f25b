-- The files of definitions of this crate.
pub mod Pairs
pub mod Matchings
pub mod MatchingLaw
pub mod Firms
pub mod WorthLemmas
pub mod WithinLemmas
pub mod LawLemmas
pub mod Certificates
pub mod Costs
pub mod Paths
