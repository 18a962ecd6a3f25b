-- The files of definitions of this crate.
pub mod Limits
pub mod Fixing
pub mod FixingLemmas
pub mod Verdict
pub mod Drops
pub mod Completion
pub mod Judges
