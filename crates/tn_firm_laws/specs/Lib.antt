-- The files of definitions of this crate.
pub mod Places
pub mod Additive
pub mod Local
pub mod Nested
pub mod Ordered
pub mod Laws
pub mod Close
pub mod Quads
pub mod Worths
