-- The files of lemmas of this crate.
pub mod MemberLeads
pub mod OwnCounts
pub mod PlanLemmas
pub mod ClaimLeads
pub mod KindLeads
pub mod MemberStops
pub mod ClaimStops
pub mod FaultKinds
