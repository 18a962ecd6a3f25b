-- The files of definitions of this crate.
pub mod Widths
pub mod Order
pub mod Cells
pub mod Searched
pub mod Kept
pub mod Queue
pub mod Graphs
pub mod GraphLemmas
pub mod ListingLemmas
pub mod Reading
pub mod Answers
