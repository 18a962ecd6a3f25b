-- The files of definitions of this crate.
pub mod Answered
pub mod Told
pub mod Words
