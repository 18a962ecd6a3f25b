-- The files of definitions of this crate.
pub mod Draws
pub mod Drill
