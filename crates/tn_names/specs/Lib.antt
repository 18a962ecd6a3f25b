-- The files of definitions of this crate.
pub mod Names
pub mod Named
