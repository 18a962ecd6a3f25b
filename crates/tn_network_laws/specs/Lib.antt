-- The files of definitions of this crate.
pub mod Laws
pub mod Bounds
pub mod Along
pub mod Kept
pub mod Rounds
pub mod Barred
