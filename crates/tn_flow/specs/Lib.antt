-- The files of definitions of this crate.
pub mod Underway
pub mod Solved
