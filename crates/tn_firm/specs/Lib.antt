-- The files of definitions of this crate.
pub mod Firms
pub mod FirmLemmas
pub mod Raw
