-- The files of definitions of this crate.
pub mod Ordered
pub mod References
pub mod Entries
