-- The files of definitions of this crate.
pub mod Limits
pub mod Counts
pub mod Trades
pub mod Heads
pub mod Own
pub mod Steps
pub mod Sets
pub mod Checks
pub mod Firms
pub mod Worths
pub mod Documents
pub mod Placed
pub mod Laws
pub mod Stops
