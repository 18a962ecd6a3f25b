-- The files of definitions of this crate.
pub mod Checks
pub mod Supports
pub mod Standings
