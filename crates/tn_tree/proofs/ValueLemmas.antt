-- What firms of a market within the limits have, and what they gain, is small: each such number is one of a claim.
use Rattle.std.proofs.Common.{◌≡◌, ℕ, suc, ◌*◌, ◌^◌, ◌<◌, Bool, true, false, ◌==◌, if◌then◌else◌, List, [], ◌∷◌, length, Option, Some, None, option_map, slice_get, refl, sym, ap, ◌∙◌, arith, inl, inr, ℤ, pos, ◌+ℤ◌, ◌-ℤ◌}
use Rattle.std.proofs.lemmas.Int.{ints}
use Rattle.std.proofs.lemmas.Bool.{cases_eq, eq-eqb, ne_eqb}
use Rattle.std.proofs.lemmas.Option.{none-some, same_Some}
use Rattle.std.proofs.Math.IntN.{*ℤ_comm}
use Rattle.tn_base.specs.Arcs.{IsAtMost}
use Rattle.tn_base.specs.Options.{both}
use Rattle.tn_base.proofs.WalkLemmas.{both_parts}
use Rattle.tn_counts.specs.Counts.{AreCounts, paid_to, payments, trade_at}
use Rattle.tn_counts.specs.Laminar.{amount_sum, firm_of, net_count, set_number, set_sum}
use Rattle.tn_counts.specs.Markets.{IsCountSet, IsUnitMarket}
use Rattle.tn_counts.specs.Widths.{most_unit_amount, most_unit_price}
use Rattle.tn_counts.specs.declared.market.UnitMarket.{UnitMarket}
use Rattle.tn_counts.specs.declared.set.CountSet.{CountSet}
use Rattle.tn_counts.specs.declared.trade.UnitTrade.{UnitTrade}
use Rattle.tn_counts.proofs.WelfareLemmas.{has_worth}
use Rattle.tn_counts.proofs.WorthLemmas.{level_of}
use Rattle.tn_tree.specs.declared.held.FirmCount.{FirmCount}
use Rattle.tn_tree.specs.Held.{IsHeld, IsHeldAt, utility_at}
use Rattle.tn_tree.specs.Lists.{count_in, own_counts, price_in}
use Rattle.tn_tree.proofs.FirmLemmas.{amounts_within, number_small, small_amounts, units_bring}
use Rattle.tn_tree.proofs.NetLemmas.{times_unit}

-- what the sets of a firm add
sum_small : (firms : ℕ) (trades : List UnitTrade) (f : ℕ) (counts : ℕ → ℕ) (sets : List CountSet) (sum : ℤ)
    → ((i : ℕ) (set : CountSet) → slice_get sets i ≡ Some set → IsCountSet firms set)
    → set_sum trades f counts sets ≡ Some sum → IsAtMost sum (length sets * (2097153 * most_unit_amount))
sum_small firms trades f counts [] sum each is =
    let none = same_Some (pos 0) sum is in
    record { low = omega (arith, ints, none); high = omega (arith, ints, none) }
sum_small firms trades f counts (set ∷ sets) sum each is = elim (cases_eq f set.firm) [
  | inl own ↦
      let parts = both_parts (set_number trades set counts) (set_sum trades f counts sets) sum
      (sym (ap (λ (b : Bool). if b then both (set_number trades set counts) (set_sum trades f counts sets)
      else set_sum trades f counts sets) (eq-eqb f set.firm own)) ∙ is) in
      let rest = sum_small firms trades f counts sets parts.second (λ i one at. each (suc i) one at) parts.second_is in
      let level = level_of set (net_count trades set counts +ℤ pos set.back) parts.first parts.first_is in
      let small = number_small most_unit_amount firms set level.level (each 0 set refl) level.within in
      let value = level.value_is in
      let sum_is = parts.sum_is in
      record {
        low = omega (arith, ints, rest.low, small.low, value, sum_is);
        high = omega (arith, ints, rest.high, small.high, value, sum_is);
      }
  | inr other ↦
      let rest = sum_small firms trades f counts sets sum (λ i one at. each (suc i) one at)
      (sym (ap (λ (b : Bool). if b then both (set_number trades set counts) (set_sum trades f counts sets)
      else set_sum trades f counts sets) (ne_eqb f set.firm other)) ∙ is) in
      record { low = omega (arith, ints, rest.low); high = omega (arith, ints, rest.high) }
]

module _ (market : UnitMarket) (is : IsUnitMarket market) (f : ℕ) (counts : ℕ → ℕ)
    (within : AreCounts market.trades.items counts) where
  worth_small : (worth : ℤ) → (firm_of market f).worth counts ≡ Some worth → IsAtMost worth (2 * 10 ^ 17)
  worth_small worth has =
      let parts = both_parts (Some (amount_sum market.trades.items market.amounts.items f counts))
      (set_sum market.trades.items f counts market.sets.items) worth has in
      let first = same_Some (amount_sum market.trades.items market.amounts.items f counts) parts.first parts.first_is in
      let amounts = amounts_within market market.amounts.items counts f most_unit_amount is (small_amounts market is) within in
      let sets = sum_small market.firms market.trades.items f counts market.sets.items parts.second is.each parts.second_is in
      let few = is.few_sets in
      let sum = parts.sum_is in
      record {
        low = omega (arith, ints, first, amounts.low, sets.low, few, sum);
        high = omega (arith, ints, first, amounts.high, sets.high, few, sum);
      }

  pays_small : (prices : List ℤ) → length prices ≡ length market.trades.items
      → ((t : ℕ) → t < length prices → IsAtMost (price_in prices t) most_unit_price)
      → IsAtMost (payments market.trades.items (price_in prices) f counts) (1048576 * most_unit_price)
  pays_small prices sized small =
      units_bring market (λ t. paid_to f (price_in prices t) (trade_at market.trades.items t)) counts most_unit_price is
      (λ t inside. either (f == (trade_at market.trades.items t).seller) (f == (trade_at market.trades.items t).buyer)
      (price_in prices t) (small t (omega (arith, inside, sized)))) within
    where
      either : (s b : Bool) (z : ℤ) → IsAtMost z most_unit_price
          → IsAtMost ((if s then z else pos 0) -ℤ (if b then z else pos 0)) most_unit_price
      either true true z most = record { low = omega (arith, ints); high = omega (arith, ints) }
      either true false z most = record { low = omega (arith, ints, most.low); high = omega (arith, ints, most.high) }
      either false true z most = record { low = omega (arith, ints, most.high); high = omega (arith, ints, most.low) }
      either false false z most = record { low = omega (arith, ints); high = omega (arith, ints) }

  value_small : (prices : List ℤ) (value : ℤ) → length prices ≡ length market.trades.items
      → ((t : ℕ) → t < length prices → IsAtMost (price_in prices t) most_unit_price)
      → utility_at market.trades.items prices f (firm_of market f) counts ≡ Some value → IsAtMost value (5 * 10 ^ 17)
  value_small prices value sized small has =
      let own = has_worth (pos 1) (payments market.trades.items (price_in prices) f counts)
      ((firm_of market f).worth counts) value has in
      let worth = worth_small own.worth own.is in
      let pays = pays_small prices sized small in
      let turned = *ℤ_comm (pos 1) own.worth in
      let unit = times_unit own.worth in
      let sum = own.value_is in
      record {
        low = omega (arith, ints, worth.low, pays.low, turned, unit, sum);
        high = omega (arith, ints, worth.high, pays.high, turned, unit, sum);
      }

gained : (utility : Option ℤ) (most value : ℤ) → option_map (λ own. most -ℤ own) utility ≡ Some value
    → (own : ℤ) × (utility ≡ Some own) × (value ≡ most -ℤ own)
gained None most value is = absurd (none-some value is)
gained (Some own) most value is = (own, refl, sym (same_Some (most -ℤ own) value is))

-- so what is said of them is, too
pub held_small : (market : UnitMarket) (counts : List ℕ) (prices : List ℤ) (sold bought : List ℕ) (f : ℕ)
    (said : FirmCount) → IsUnitMarket market → AreCounts market.trades.items (count_in counts)
    → length prices ≡ length market.trades.items
    → ((t : ℕ) → t < length prices → IsAtMost (price_in prices t) most_unit_price)
    → IsHeldAt market.trades.items f (firm_of market f) counts prices sold bought said
    → IsHeld market.trades.items f (firm_of market f) counts prices sold bought said
held_small market counts prices sold bought f said is within sized small held =
    let own = value_small market is f (count_in counts) within prices in
    let best = value_small market is f (own_counts market.trades.items sold bought f) held.best_is.within prices said.best
    sized small held.best_is.is in
    record {
      worth_is = held.worth_is;
      utility_is = held.utility_is;
      best_is = held.best_is;
      gain_is = held.gain_is;
      own = held.own;
      small_worth = λ value has.
          let most = worth_small market is f (count_in counts) within value (sym held.worth_is ∙ has) in
          record { low = omega (arith, ints, most.low); high = omega (arith, ints, most.high) };
      small_utility = λ value has.
          let most = own value sized small (sym held.utility_is ∙ has) in
          record { low = omega (arith, ints, most.low); high = omega (arith, ints, most.high) };
      small_best = record { low = omega (arith, ints, best.low); high = omega (arith, ints, best.high) };
      small_gain = λ value has.
          let parts = gained said.utility said.best value (sym held.gain_is ∙ has) in
          let most = own parts.0 sized small (sym held.utility_is ∙ parts.1) in
          let sum = parts.2 in
          record {
            low = omega (arith, ints, most.low, most.high, best.low, best.high, sum);
            high = omega (arith, ints, most.low, most.high, best.low, best.high, sum);
          };
    }
