-- The files of definitions of this crate.
pub mod Widths
pub mod Standing
