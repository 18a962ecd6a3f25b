-- The numbers of a verdict fit an answer.
use Rattle.std.proofs.Common.{◌≡◌, ℕ, ◌+◌, ◌*◌, ◌^◌, ◌≤◌, ℤ, pos, ◌+ℤ◌, ◌*ℤ◌, List, [], ◌∷◌, length, refl, sym, ap, ◌∙◌, arith}
use Rattle.std.specs.Prelude.{Option, Some, None, option_map, option_and_then}
use Rattle.std.proofs.lemmas.Int.{ints}
use Rattle.std.proofs.lemmas.Option.{none-some, same_Some}
use Rattle.tn_base.specs.Arcs.{IsAtMost}
use Rattle.tn_base.specs.Sets.{sum_over}
use Rattle.tn_base.specs.Firm.{Firm, payments, utility}
use Rattle.tn_firm_laws.proofs.KeepLemmas.{option_map-some}
use Rattle.tn_model.specs.declared.ends.Ends.{Ends}
use Rattle.tn_model.specs.Network.{part}
use Rattle.tn_market.specs.Equilibrium.{surplus_from}
use Rattle.tn_market.specs.Valued.{IsWorthAtMost}
use Rattle.tn_firm_laws.proofs.BoundLemmas.{sum_over_small}
use Rattle.tn_market.specs.Widths.{most_own, most_worth}
use Rattle.tn_model.specs.Limits.{most_price}
use Rattle.tn_market.proofs.AskLemmas.{payment_small}

-- each firm of a list has worths of at most `most_worth` in size
abbrev pub AreSmallFirms : List Firm → Type 0
AreSmallFirms [] = Unit {0}
AreSmallFirms (firm ∷ firms) = IsWorthAtMost most_worth firm × AreSmallFirms firms

-- a surplus is at most `most_worth` for each firm
pub surplus_small : (trades : List Ends) (on f : ℕ) (firms : List Firm) (s : ℤ) → AreSmallFirms firms
    → surplus_from trades on f firms ≡ Some s → IsAtMost s (length firms * most_worth)
surplus_small trades on f [] s small is = let e : pos 0 ≡ s = same_Some (pos 0) s is in
    record { low = omega (arith, ints, e); high = omega (arith, ints, e) }
surplus_small trades on f (firm ∷ firms) s small is =
    with_worth (λ rest e. surplus_small trades on (f + 1) firms rest small.1 e)
    (firm.worth (part trades f firm.count on)) refl
  where
    sum : ℤ → Option ℤ
    sum w = option_map (λ rest. w +ℤ rest) (surplus_from trades on (f + 1) firms)

    with_worth : ((rest : ℤ) → surplus_from trades on (f + 1) firms ≡ Some rest
        → IsAtMost rest (length firms * most_worth)) → (o : Option ℤ) → firm.worth (part trades f firm.count on) ≡ o
        → IsAtMost s (length (firm ∷ firms) * most_worth)
    with_worth later None e = absurd (none-some s (sym (ap (option_and_then sum) e) ∙ is))
    with_worth later (Some w) e =
        let rest = option_map-some (λ rest. w +ℤ rest) (surplus_from trades on (f + 1) firms) s
        (sym (ap (option_and_then sum) e) ∙ is) in
        let below = later rest.0 rest.1 in
        let here = small.0 (part trades f firm.count on) w e in
        let total = rest.2 in
        record {
          low = omega (arith, ints, total, below.low, here.low);
          high = omega (arith, ints, total, below.high, here.high);
        }

-- the utility of a bundle at prices of an arrangement
pub utility_small : (firm : Firm) (prices : ℕ → ℤ) (x : ℕ) (value : ℤ) → firm.count ≤ most_own
    → IsWorthAtMost most_worth firm → ((k : ℕ) → IsAtMost (prices k) most_price)
    → utility (pos 1) prices firm x ≡ Some value → IsAtMost value (7 * 10 ^ 15)
utility_small firm prices x value few worths small is =
    let worth = option_map-some (λ a. pos 1 *ℤ a +ℤ sum_over (payments firm.buys prices) firm.count x) (firm.worth x)
    value is in
    let amount = worths x worth.0 worth.1 in
    let paid = sum_over_small (payments firm.buys prices) firm.count x most_price
    (λ k below. payment_small firm.buys prices k most_price (small k)) in
    let total = worth.2 in
    record {
      low = omega (arith, ints, total, few, amount.low, paid.low);
      high = omega (arith, ints, total, few, amount.high, paid.high);
    }
