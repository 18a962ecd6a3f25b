-- The files of definitions of this crate.
pub mod Laws
pub mod Runs
