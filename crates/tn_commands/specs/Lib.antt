-- The files of definitions of this crate.
pub mod Limits
pub mod Implied
pub mod Check
pub mod Solve
pub mod Support
pub mod Judge
pub mod Range
pub mod Session
pub mod Drill
pub mod Replay
