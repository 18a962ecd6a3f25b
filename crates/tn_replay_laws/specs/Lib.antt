-- The files of definitions of this crate.
pub mod Fits
pub mod Replayed
pub mod Laws
pub mod Lines
pub mod Runs
