-- The files of definitions of this crate.
pub mod First
pub mod Walk
pub mod Quads
