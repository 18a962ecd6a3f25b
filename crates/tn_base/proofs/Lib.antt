-- The files of lemmas of this crate.
pub mod SetLemmas
pub mod SizeLemmas
pub mod SumLemmas
pub mod WalkLemmas
pub mod FirmLemmas
pub mod TableLemmas
pub mod BuysLemmas
pub mod LimbLemmas
pub mod ExchangeLemmas
