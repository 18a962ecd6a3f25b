-- The files of definitions of this crate.
pub mod Tables
pub mod TableLemmas
