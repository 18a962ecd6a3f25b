-- The files of lemmas of this crate.
pub mod NearLemmas
pub mod ListLemmas
pub mod CheckLemmas
pub mod FlowLemmas
pub mod ConcaveLemmas
pub mod StepLemmas
pub mod RoundLemmas
pub mod TotalLemmas
pub mod LawLemmas
pub mod GainLemmas
pub mod SearchLemmas
pub mod SizeLemmas
pub mod BalanceLemmas
