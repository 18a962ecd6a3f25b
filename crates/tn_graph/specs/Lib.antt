-- The files of definitions of this crate.
pub mod Blocks
pub mod BlockLemmas
pub mod Layout
pub mod Reading
