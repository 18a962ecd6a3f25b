-- What a firm gains at the prices that are listed for it.
use Rattle.std.proofs.Common.{◌≡◌, ℕ, inl, inr, refl, sym, ap, ap₂, ◌∙◌, subst, List, map, take, arith, ℤ, pos, ◌+ℤ◌, ◌-ℤ◌, ◌*ℤ◌, Some, None}
use Rattle.std.specs.Prelude.{slice_get}
use Rattle.std.proofs.lemmas.Int.{ints, to_z-of_z}
use Rattle.std.proofs.lemmas.Option.{same_Some}
use mir.Syntax.{w128}
use mir.Val.{SFits, to_z, of_z}
use Rattle.tn_base.specs.Arcs.{IsAtMost}
use Rattle.tn_market.specs.Widths.{most_utility}
use Rattle.tn_base.specs.Firm.{Firm, payments, utility}
use Rattle.tn_base.specs.Sets.{sum_over}
use Rattle.tn_model.specs.declared.ends.Ends.{Ends}
use Rattle.tn_model.specs.Prices.{price_at}
use Rattle.tn_said.specs.ClaimLimits.{IsFirmWith}
use Rattle.tn_model.specs.Network.{part}
use Rattle.tn_market.proofs.AskLemmas.{as_is, impossible_worth}
use Rattle.tn_price.specs.Standings.{AreOwnPrices}
use Rattle.tn_price.proofs.JudgeLemmas.{firm_is, utility_there}
use Rattle.tn_cert.specs.Replays.{TellsGain}

-- a fact of a firm of a list of firms of any type
pub firm_has : {V : Type 0} (firm_of : V → Firm) (firms : List V) (f : ℕ) (v : V) (holds : Firm → Type 0)
    → slice_get firms f ≡ Some v → IsFirmWith (map firm_of firms) f holds → holds (firm_of v)
firm_has firm_of firms f v holds is (firm, there, fact) =
    subst holds (same_Some firm (firm_of v) (sym there ∙ firm_is firm_of firms f v is)) fact

-- firm f is v, these are its prices, and this is its own bundle
pub record IsAsked {V : Type 0} (firm_of : V → Firm) (firms : List V) (trades : List Ends) (on : ℕ) (prices : ℕ
    → ℤ) (f n held : ℕ) (list : List ℤ) (v : V) : Type 0 where
  pub is : slice_get firms f ≡ Some v
  pub counted : n ≡ (firm_of v).count
  pub held_is : held ≡ part trades f (firm_of v).count on
  pub listed : AreOwnPrices trades prices f n list

-- what it gains by x, from two utilities
pub gain_told : {V : Type 0} (firm_of : V → Firm) (firms : List V) (trades : List Ends) (on : ℕ) (prices : ℕ
    → ℤ) (f n held : ℕ) (list : List ℤ) (v : V) (x : ℕ) (value other : ℤ)
    → IsAsked firm_of firms trades on prices f n held list v
    → utility (pos 1) (price_at (take n list)) (firm_of v) held ≡ Some value
    → utility (pos 1) (price_at (take n list)) (firm_of v) x ≡ Some other
    → TellsGain (map firm_of firms) trades on prices f x (Some (other -ℤ value))
gain_told firm_of firms trades on prices f n held list v x value other asked value_is other_is =
    let same = utility_there trades (pos 1) prices f n list (firm_of v) asked.counted asked.listed in (
      firm_of v,
      firm_is firm_of firms f v asked.is,
      record {
        value = other;
        value_is = sym (same x) ∙ other_is;
        other = value;
        other_is = sym (same (part trades f (firm_of v).count on))
            ∙ ap (utility (pos 1) (price_at (take n list)) (firm_of v)) (sym asked.held_is) ∙ value_is;
        gain_is = refl;
      },
    )

-- the difference of two utilities fits
pub gain_as_is : (value other : ℤ) → IsAtMost value most_utility → IsAtMost other most_utility
    → to_z w128 (of_z w128 (to_z w128 (of_z w128 other) -ℤ to_z w128 (of_z w128 value))) ≡ other -ℤ value
gain_as_is value other small other_small =
    ap₂ (λ (a b : ℤ). to_z w128 (of_z w128 (a -ℤ b))) (as_is other other_small) (as_is value small)
    ∙ to_z-of_z w128 (other -ℤ value) fits
  where
    fits : SFits w128 (other -ℤ value)
    fits =
        let low = small.low in
        let high = small.high in
        let other_low = other_small.low in
        let other_high = other_small.high in
        omega (arith, ints, low, high, other_low, other_high)

-- no utility, since the bundle is impossible
without_utility : (firm : Firm) (prices : ℕ → ℤ) (x : ℕ) → utility (pos 1) prices firm x ≡ None → firm.worth x ≡ None
without_utility firm prices x =
    impossible_worth (λ a. pos 1 *ℤ a +ℤ sum_over (payments firm.buys prices) firm.count x) (firm.worth x)

pub own_impossible : {V : Type 0} (firm_of : V → Firm) (firms : List V) (trades : List Ends) (on : ℕ) (prices : ℕ
    → ℤ) (f n held : ℕ) (list : List ℤ) (v : V) (x : ℕ)
    → IsAsked firm_of firms trades on prices f n held list v
    → utility (pos 1) (price_at (take n list)) (firm_of v) held ≡ None
    → TellsGain (map firm_of firms) trades on prices f x None
own_impossible firm_of firms trades on prices f n held list v x asked none = (
  firm_of v,
  firm_is firm_of firms f v asked.is,
  inl (ap (firm_of v).worth (sym asked.held_is)
      ∙ without_utility (firm_of v) (price_at (take n list)) held none),
)

pub other_impossible : {V : Type 0} (firm_of : V → Firm) (firms : List V) (trades : List Ends) (on : ℕ) (prices : ℕ
    → ℤ) (f n held : ℕ) (list : List ℤ) (v : V) (x : ℕ)
    → IsAsked firm_of firms trades on prices f n held list v
    → utility (pos 1) (price_at (take n list)) (firm_of v) x ≡ None
    → TellsGain (map firm_of firms) trades on prices f x None
other_impossible firm_of firms trades on prices f n held list v x asked none =
    (firm_of v, firm_is firm_of firms f v asked.is, inr (without_utility (firm_of v) (price_at (take n list)) x none))
