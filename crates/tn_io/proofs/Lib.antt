-- Lemmas on what reads take, on what writes add, and on the ends in memory.
pub mod Taken
pub mod Grown
pub mod Moved
pub mod LineLemmas
