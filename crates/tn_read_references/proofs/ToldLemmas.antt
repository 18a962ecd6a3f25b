-- Faults that speak of named trades in ascending lists, and whose numbers are short.
use Rattle.std.proofs.Common.{◌≢◌, ℕ, List, [], ◌∷◌, Option, Result, sym, ap, subst, ◌∙◌, arith, true≢false}
use Rattle.std.specs.Prelude.{All, IfSome, IsSome}
use Rattle.std.proofs.lemmas.List.Elements.{All-nil, All-cons}
use Rattle.tn_said.specs.declared.fault.FaultKind.TheVariants.{TooLong}
use Rattle.tn_said.specs.declared.place.PlaceStep.{PlaceStep}
use Rattle.tn_said.specs.declared.place.PlaceStep.TheVariants.{Key, Index, Trade}
use Rattle.tn_said.specs.declared.said.Fault.{Fault}
use Rattle.tn_said.specs.declared.said.Shown.{Shown}
use Rattle.tn_names.specs.Named.{HasShortIndex, IsAscendingTriple, IsNamedStep, IsNamedTriple, IsSayableFault}
use Rattle.tn_read_shapes.proofs.StopLemmas.{Stops, stops_as, is_plain_kind, IsPlainStep, IsPlainPlace, IsPlain, StopsPlainly}

-- a plain place is named, whatever the names, and its numbers are short
named_step : (trades : List (List ℕ)) (step : PlaceStep) → IsPlainStep step → IsNamedStep trades step
named_step trades (Key word) plain = tt
named_step trades (Index k) plain = tt
named_step trades (Trade t) plain = absurd plain

pub named_place : (trades : List (List ℕ)) (place : List PlaceStep) → IsPlainPlace place
    → All (IsNamedStep trades) place
named_place trades [] plain = All-nil (IsNamedStep trades)
named_place trades (step ∷ place) plain =
    All-cons (IsNamedStep trades) step place (named_step trades step plain.0) (named_place trades place plain.1)

short_step : (step : PlaceStep) → IsPlainStep step → HasShortIndex step
short_step (Key word) plain = tt
short_step (Index k) plain = omega (arith, plain)
short_step (Trade t) plain = absurd plain

pub short_place : (place : List PlaceStep) → IsPlainPlace place → All HasShortIndex place
short_place [] plain = All-nil HasShortIndex
short_place (step ∷ place) plain =
    All-cons HasShortIndex step place (short_step step plain.0) (short_place place plain.1)

-- a fault that speaks of named trades in ascending lists, and whose numbers are short
pub record IsTold (trades : List (List ℕ)) (f : Fault) : Type 0 where
  pub sayable : IsSayableFault trades f
  pub short : All HasShortIndex f.place
  pub ascending : IfSome f.shown IsAscendingTriple
  pub read : f.kind ≢ TooLong

-- a plain fault speaks of no trade, whatever the names
pub told_plain : (trades : List (List ℕ)) (f : Fault) → IsPlain f → IsTold trades f
told_plain trades f is = record {
  sayable = record {
    place = named_place trades f.place is.place;
    triple = subst (λ (shown : Option Shown). IfSome shown (IsNamedTriple trades)) (sym is.none) tt;
    exactly = (
      λ there. absurd (true≢false (sym (subst IsSome is.none there))),
      λ same. absurd (true≢false (sym is.other ∙ ap is_plain_kind same)),
    );
  };
  short = short_place f.place is.place;
  ascending = subst (λ (shown : Option Shown). IfSome shown IsAscendingTriple) (sym is.none) tt;
  read = λ same. absurd (true≢false (sym is.other ∙ ap is_plain_kind same));
}

pub told_from_plain : {A : Type 0} (trades : List (List ℕ)) (r : Result A Fault) → StopsPlainly r
    → Stops (IsTold trades) r
told_from_plain trades r plain = stops_as IsPlain (IsTold trades) r (told_plain trades) plain
