-- The files of definitions of this crate.
pub mod Taxed
pub mod Laws
