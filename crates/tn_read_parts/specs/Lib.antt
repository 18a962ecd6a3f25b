-- The files of definitions of this crate.
pub mod Lists
pub mod Arranged
pub mod Signed
pub mod Edited
pub mod Laws
