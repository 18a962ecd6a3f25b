-- The files of lemmas of this crate.
pub mod ValueLemmas
pub mod MaskLemmas
pub mod FaultLemmas
pub mod RowLemmas
