-- The files of definitions of this crate.
pub mod Limits
pub mod Stands
pub mod Firms
pub mod Laws
pub mod Test
