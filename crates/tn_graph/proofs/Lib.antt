-- The files of lemmas of this crate.
pub mod CellLemmas
pub mod EndLemmas
pub mod RoomLemmas
pub mod LayoutLemmas
pub mod PlacedLemmas
pub mod StandLemmas
pub mod AskedLemmas
pub mod ReadingLemmas
pub mod LineLemmas
pub mod AdmitLemmas
pub mod DetachLemmas
