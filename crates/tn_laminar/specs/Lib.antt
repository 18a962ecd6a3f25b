-- The files of definitions of this crate.
pub mod Masked
pub mod Faults
pub mod Sum
pub mod Firms
pub mod WithinLemmas
pub mod LawLemmas
pub mod Rows
