-- Wherever the reading of a list of an extra part stops, its fault speaks of named trades.
use Rattle.std.proofs.Common.{◌≡◌, ℕ, zero, suc, ◌+◌, ◌<◌, ◌≤◌, Bool, true, false, cond, List, [], ◌∷◌, ◌++◌, length, Option, Some, None, refl, sym, arith, true≢false}
use Rattle.std.specs.Prelude.{pos, replicate}
use Rattle.std.proofs.lemmas.List.Elements.{All-push}
use Rattle.std.proofs.lemmas.Nat.{pow_pos}
use Rattle.std.proofs.lemmas.Option.{none-some, same_Some}
use Rattle.serde_json.specs.Data.{Data, Items}
use Rattle.tn_base.specs.Sets.{has, size, toggle}
use Rattle.tn_said.specs.declared.fault.FaultKind.TheVariants.{PriceMissing}
use Rattle.tn_said.specs.declared.place.PlaceStep.{PlaceStep}
use Rattle.tn_said.specs.declared.place.PlaceStep.TheVariants.{Index, Trade}
use Rattle.tn_names.specs.Named.{HasShortIndex, IsNamedStep, IsSayableFault}
use Rattle.tn_read_shapes.specs.Reading.{each, fault}
use Rattle.tn_read_shapes.proofs.StopLemmas.{IsPlain, IsPlainPlace, Stops, StopsPlainly, plain_within, stops_bind, stops_each, stops_err, stops_ok}
use Rattle.tn_read_references.specs.References.{new_trade}
use Rattle.tn_read_references.proofs.ReferenceLeads.{new_trade_leads}
use Rattle.tn_read_references.proofs.ReferenceStops.{RefersPlainly, entries_stop, few_members, new_trade_stops}
use Rattle.tn_read_references.proofs.ToldLemmas.{IsTold, named_place, short_place, told_from_plain}
use Rattle.tn_read_parts.specs.Lists.{first_without, named_prices, one_on, prices_of, unless_missing}
use Rattle.tn_read_parts.proofs.ListLeads.{IsSetOf, one_on_leads}

-- the first number without a price is one of those that were asked
pub first_without_within : (named t n s : ℕ) → first_without named t n ≡ Some s → s < t + n
first_without_within named t zero s e = absurd (none-some s e)
first_without_within named t (suc n) s e = by_test (has named t) e (first_without_within named (t + 1) n s)
  where
    by_test : (b : Bool) → cond b (first_without named (t + 1) n) (Some t) ≡ Some s
        → (first_without named (t + 1) n ≡ Some s → s < t + 1 + n) → s < t + suc n
    by_test true is later = omega (arith, later is)
    by_test false is later = let same = same_Some t s is in omega (arith, same)

module _ (trades : List (List ℕ)) (few : length trades ≤ 16384) (place : List PlaceStep)
    (plain : IsPlainPlace place) where
  one_on_stops : (on : ℕ) (value : Data) → IsSetOf trades place on → StopsPlainly (one_on trades place on value)
  unfolding one_on
  one_on_stops on value below =
      let few_before : size on ≤ 16384 = few_members (length trades) on below few in
      stops_bind IsPlain (new_trade trades (place ++ Index (size on) ∷ []) on value) _
      (new_trade_stops (place ++ Index (size on) ∷ []) (plain_within place (Index (size on) ∷ []) plain (
        few_before,
        tt,
      )) trades on value) (λ t.
      stops_ok IsPlain (toggle on t))

  pub set_stops : (references : Items) → StopsPlainly (each (one_on trades place) 0 references)
  set_stops references =
      stops_each IsPlain (IsSetOf trades place) (one_on trades place) (one_on_leads trades place) one_on_stops 0
      references (pow_pos (length trades))

  pub trades_refer : RefersPlainly (length trades) (new_trade trades)
  trades_refer = record {
    stops = λ at named value plainly. new_trade_stops at plainly trades named value;
    below = λ at named value. new_trade_leads trades at named value;
  }

  missing_told : (t : ℕ) → t < length trades → IsTold trades (fault PriceMissing (place ++ Trade t ∷ []))
  missing_told t known = record {
    sayable = sayable;
    short =
        All-push HasShortIndex place (Trade t) (short_place place plain) tt;
    ascending = tt;
    read = λ same. absurd (cc);
  }
    where
      sayable : IsSayableFault trades (fault PriceMissing (place ++ Trade t ∷ []))
      sayable = record {
        place = All-push (IsNamedStep trades) place (Trade t) (named_place trades place plain) known;
        triple = tt;
        exactly = (λ there. absurd (true≢false (sym there)), λ same. absurd (cc));
      }

  pub missing_stops : (found : Option ℕ) → ((t : ℕ) → found ≡ Some t → t < length trades)
      → Stops (IsTold trades) (unless_missing place found)
  missing_stops None known = stops_ok (IsTold trades) tt
  missing_stops (Some t) known =
      stops_err (IsTold trades) (fault PriceMissing (place ++ Trade t ∷ [])) (missing_told t (known t refl))

  pub named_stops : (limit : ℕ) (entries : Items) → StopsPlainly (named_prices trades place limit entries)
  unfolding named_prices
  named_stops limit entries =
      entries_stop (length trades) few (new_trade trades) trades_refer place plain limit
      (replicate (length trades) (pos 0)) entries

  pub prices_stop : (limit : ℕ) (entries : Items) → Stops (IsTold trades) (prices_of trades place limit entries)
  unfolding prices_of
  prices_stop limit entries =
      stops_bind (IsTold trades) (named_prices trades place limit entries) _
      (told_from_plain trades _ (named_stops limit entries)) (λ priced.
      stops_bind (IsTold trades) (unless_missing place (first_without priced.named 0 (length trades))) _
      (missing_stops (first_without priced.named 0 (length trades)) (λ t e. let below =
      first_without_within priced.named 0 (length trades) t e in omega (arith, below))) (λ complete.
      stops_ok (IsTold trades) priced.numbers))
