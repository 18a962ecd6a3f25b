-- The files of definitions of this crate.
pub mod Words
pub mod Values
pub mod ReasonText
pub mod Sayable
pub mod Kept
pub mod Rows
pub mod Cells
pub mod Topics
pub mod Pages
pub mod AnswerText
pub mod Fields
pub mod Laws
pub mod Apart
