-- A plan in parts with a reason against it isn't worth more than every set of trades.
use Rattle.std.proofs.Common.{◌≡◌, List, ℤ, ◌≤ℤ◌, arith, Option, Some, None}
use Rattle.std.specs.Prelude.{◌<ℤ◌, IsSome}
use Rattle.std.proofs.lemmas.Int.{ints}
use Rattle.std.proofs.lemmas.Option.{slice_get_within}
use Rattle.tn_base.specs.Firm.{Firm}
use Rattle.tn_model.specs.declared.ends.Ends.{Ends}
use Rattle.tn_said.specs.declared.part.Part.{Part}
use Rattle.tn_said.specs.declared.reason.Reason.{Reason}
use Rattle.tn_said.specs.declared.reason.Reason.TheVariants.{Impossible, Shares, Balance, Whole}
use Rattle.tn_cert.specs.Plans.{IsPlanAgainst, RefutesPlan}

some_none : (o : Option ℤ) → IsSome o → o ≡ None → ⊥
some_none None some none = absurd (cc some)
some_none (Some a) some none = absurd (cc none)

against_itself : (a b : ℤ) → a ≤ℤ b → b <ℤ a → ⊥
against_itself a b least greater = absurd (omega (arith, ints, least, greater))

pub plan_refuted : (firms : List Firm) (trades : List Ends) (plan : List Part) (over : ℤ) (reason : Reason)
    → RefutesPlan firms trades plan over reason
    → IsPlanAgainst firms trades plan over → ⊥
plan_refuted firms trades plan over (Shares f) (inside, _, above) against =
    against_itself _ _ (against.shares f inside) above
plan_refuted firms trades plan over (Impossible f) (_, _, (firm, is, bad)) against =
    some_none _ (against.possible f firm (slice_get_within firms f firm is) is bad.at bad.part bad.is bad.own)
    bad.impossible
plan_refuted firms trades plan over (Balance t) (_, _, _, trade, is, unbalanced) against =
    unbalanced (against.balanced t trade (slice_get_within trades t trade is) is)
plan_refuted firms trades plan over (Whole listed surplus) (_, _, _, whole) against =
    against_itself _ _ whole.as_great (against.greater whole.on surplus whole.within whole.surplus_is)
plan_refuted firms trades plan over reason refutes against = absurd refutes
