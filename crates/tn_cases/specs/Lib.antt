-- The files of definitions of this crate.
pub mod Case
pub mod Book
