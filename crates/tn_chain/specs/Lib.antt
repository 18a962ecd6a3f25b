-- The files of definitions of this crate.
pub mod Limits
pub mod Kept
pub mod Moves
pub mod Numbers
pub mod Listed
pub mod Search
