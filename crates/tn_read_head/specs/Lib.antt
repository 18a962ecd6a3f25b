-- The files of definitions of this crate.
pub mod Beside
pub mod Refused
pub mod Naming
pub mod Listing
pub mod Counts
