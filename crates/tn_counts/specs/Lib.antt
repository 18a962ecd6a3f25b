-- The files of definitions of this crate.
pub mod Widths
pub mod Counts
pub mod Laminar
pub mod Markets
pub mod Tree
pub mod Laws
pub mod Outcomes
pub mod Ranges
