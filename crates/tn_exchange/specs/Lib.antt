-- The files of definitions of this crate.
pub mod Widths
pub mod Rows
pub mod TestOrder
pub mod Verdicts
pub mod RowsLaw
