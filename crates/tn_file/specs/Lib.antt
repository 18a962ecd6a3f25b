-- The files of definitions of this crate.
pub mod Json
pub mod Document
pub mod Asked
pub mod RawData
pub mod Parts
pub mod Refusal
pub mod Readings
pub mod Laws
pub mod Reads
