-- The files of lemmas of this crate.
pub mod FitLemmas
pub mod FloatLemmas
pub mod MapLemmas
pub mod CountLemmas
pub mod LawLemmas
pub mod DataTexts
pub mod PlainAnswers
pub mod EachLemmas
pub mod RowLemmas
pub mod BundleLemmas
pub mod SameRows
pub mod DataParts
pub mod ListsApart
pub mod MembersApart
pub mod ApartLemmas
pub mod LayoutsApart
