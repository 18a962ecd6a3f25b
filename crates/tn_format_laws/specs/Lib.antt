-- The files of definitions of this crate.
pub mod Versions
pub mod Runs
pub mod Lines
