-- The files of definitions of this crate.
pub mod Circulations
pub mod Served
