-- The files of definitions of this crate.
pub mod Rational
pub mod Laws
pub mod Fixed
