-- The files of definitions of this crate.
pub mod Entries
pub mod Arranged
pub mod Edited
