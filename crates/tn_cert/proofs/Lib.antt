-- The files of lemmas of this crate.
mod RoundLemmas
mod RefutedLemmas
pub mod ExchangeLemmas
mod UtilityLemmas
mod WeighLemmas
mod LeastLemmas
mod KeptLemmas
mod TermLemmas
mod ChoiceLemmas
mod CountedLemmas
mod LeaveLemmas
mod BlockingLemmas
mod CompletedLemmas
pub mod OutcomeRefuted
mod ReplayLemmas
mod RefutedClaims
pub mod PlanLaw
mod PlanRefuted
mod PlanSums
