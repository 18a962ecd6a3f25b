-- The files of definitions of this crate.
pub mod Members
pub mod Planned
pub mod Claimed
pub mod Laws
