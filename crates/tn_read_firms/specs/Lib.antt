-- The files of definitions of this crate.
pub mod OwnNumbers
pub mod Tables
pub mod Laminars
pub mod Middlemen
pub mod Dealers
pub mod Kinds
pub mod Firms
pub mod FirstFailure
pub mod Laws
