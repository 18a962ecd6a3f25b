-- The files of definitions of this crate.
pub mod Lists
pub mod Nets
pub mod Levels
pub mod Held
pub mod Shapes
pub mod Steps
pub mod Supports
pub mod Pinned
pub mod Ranges
