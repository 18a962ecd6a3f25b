-- The files of lemmas of this crate.
pub mod WrittenLemmas
pub mod AnswerLemmas
pub mod RunLemmas
pub mod ExchangeLemmas
