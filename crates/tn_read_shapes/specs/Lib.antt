-- The files of definitions of this crate.
pub mod Reading
pub mod Shapes
pub mod Claims
pub mod Members
