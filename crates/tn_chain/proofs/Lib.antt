-- The files of lemmas of this crate.
pub mod MoveLemmas
pub mod ListedLemmas
pub mod KeptLemmas
pub mod CostLemmas
pub mod RowLemmas
pub mod SeenLemmas
pub mod NumberLemmas
pub mod CycleLemmas
pub mod SizeLemmas
pub mod SolvedLemmas
pub mod SearchLemmas
pub mod ChainLemmas
