-- The files of definitions of this crate.
pub mod Split
pub mod Verdict
pub mod Completion
pub mod Blocks
pub mod Judges
pub mod Served
