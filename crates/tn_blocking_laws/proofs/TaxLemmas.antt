-- Taxed firms: their surplus, and that where trades are on they have more reduced worth than none.
use Rattle.std.proofs.Common.{◌≡◌, ℕ, zero, suc, ◌+◌, ◌<◌, ◌≤◌, Bool, true, false, if◌then◌else◌, List, [], ◌∷◌, length, map, slice_get, Option, Some, None, option_map, refl, sym, ap, ap₂, ◌∙◌, subst, arith, inl, inr, ℤ, pos, negsuc, ◌+ℤ◌, ◌*ℤ◌, ◌≤ℤ◌}
use Rattle.std.specs.Prelude.{option_and_then}
use Rattle.std.proofs.lemmas.Int.{ints}
use Rattle.std.proofs.lemmas.Bool.{cases_eq}
use Rattle.std.proofs.lemmas.Option.{same_Some, slice_get-map, slice_get_cases, option_and_then_some}
use Rattle.tn_base.specs.Sets.{has, size_below, sum_over}
use Rattle.tn_base.specs.Firm.{Firm}
use Rattle.tn_base.specs.Walks.{arcs_among, is_admitted, KeepsArcs}
use Rattle.tn_base.proofs.SumLemmas.{times-plus, sum_over-empty}
use Rattle.tn_firm_laws.proofs.KeepLemmas.{option_map-some, times-le}
use Rattle.tn_model.specs.declared.ends.Ends.{Ends}
use Rattle.tn_model.specs.declared.contract.Contract.{Contract}
use Rattle.tn_model.specs.Network.{part, IsNetwork}
use Rattle.tn_market.specs.Equilibrium.{surplus_from}
use Rattle.tn_market.specs.Admitted.{admitted}
use Rattle.tn_market.specs.Reduced.{reduced_firms, reduced_arc}
use Rattle.tn_market.proofs.GraphLemmas.{has-part, seller_end}
use Rattle.tn_network_laws.proofs.AdmittedLemmas.{admitted_network}
use Rattle.tn_network_laws.proofs.WelfareLemmas.{equilibrium_is_efficient}
use Rattle.tn_outcome_laws.specs.Rational.{IsRationalOutcome}
use Rattle.tn_outcome_laws.proofs.CompletionLemmas.{no_part, reduced_network}
use Rattle.tn_outcome_laws.proofs.NoMoreLemmas.{numbers_leave_no_more, surplus_from-admitted, empty_inside}
use Rattle.tn_blocking_laws.specs.Taxed.{taxed, taxed_firms, IsTaxedEquilibrium}

-- ---- the list of taxed firms

pub taxed_is : (scale : ℤ) (firms : List Firm) (f : ℕ) (firm : Firm) → slice_get firms f ≡ Some firm
    → slice_get (map (taxed scale) firms) f ≡ Some (taxed scale firm)
taxed_is scale firms f firm is = slice_get-map (taxed scale) firms f ∙ ap (option_map (taxed scale)) is

pub taxed_from : (scale : ℤ) (firms : List Firm) (f : ℕ) (other : Firm)
    → slice_get (map (taxed scale) firms) f ≡ Some other
    → (firm : Firm) × (slice_get firms f ≡ Some firm) × (other ≡ taxed scale firm)
taxed_from scale firms f other is = by (slice_get firms f) refl (sym (slice_get-map (taxed scale) firms f) ∙ is)
  where
    by : (o : Option Firm) → slice_get firms f ≡ o → option_map (taxed scale) o ≡ Some other → (firm : Firm)
        × (slice_get firms f ≡ Some firm) × (other ≡ taxed scale firm)
    by None there e = absurd (cc e)
    by (Some firm) there e = (firm, there, same_Some _ _ (sym e))

pub taxed_network : (scale : ℤ) (firms : List Firm) (trades : List Ends) → IsNetwork firms trades
    → IsNetwork (map (taxed scale) firms) trades
taxed_network scale firms trades network = record {
  apart = network.apart;
  sold = λ t trade is. let there = network.sold t trade is in
      (taxed scale there.0, taxed_is scale firms trade.seller there.0 there.1, there.2, there.3);
  bought = λ t trade is. let there = network.bought t trade is in
      (taxed scale there.0, taxed_is scale firms trade.buyer there.0 there.1, there.2, there.3);
  whole = λ f k other is below. let there = taxed_from scale firms f other is in
      network.whole f k there.0 there.1 (subst (λ (z : Firm). k < z.count) there.2 below);
  once = network.once;
}

-- ---- taxes

-- the tax on a bundle is its size
pub tax_is : (n x : ℕ) → sum_over (λ k. negsuc 0) n x +ℤ pos (size_below n x) ≡ pos 0
unfolding sum_over size_below
tax_is zero x = refl
tax_is (suc n) x = let rest = tax_is n x in by_case (has x n) (sum_over (λ k. negsuc 0) n x) (size_below n x) rest
  where
    by_case : (b : Bool) (s : ℤ) (m : ℕ) → s +ℤ pos m ≡ pos 0
        → (s +ℤ (if b then negsuc 0 else pos 0)) +ℤ pos (m + (if b then 1 else 0)) ≡ pos 0
    by_case true s m e = omega (arith, ints, e)
    by_case false s m e = omega (arith, ints, e)

-- the taxes of the firms from number s on
taxes_from : List Ends → ℕ → ℕ → List Firm → ℕ
taxes_from trades on s [] = 0
taxes_from trades on s (firm ∷ firms) = size_below firm.count (part trades s firm.count on)
    + taxes_from trades on (s + 1) firms

-- the surplus of taxed firms is the surplus counted `scale` times, less their taxes
record IsTaxedSurplus (trades : List Ends) (scale : ℤ) (on s : ℕ) (firms : List Firm) (taxed_surplus : ℤ) : Type 0 where
  surplus : ℤ
  is : surplus_from trades on s firms ≡ Some surplus
  less : taxed_surplus +ℤ pos (taxes_from trades on s firms) ≡ scale *ℤ surplus

from_taxed : (trades : List Ends) (scale : ℤ) (on s : ℕ) (firms : List Firm) (v : ℤ)
    → surplus_from trades on s (map (taxed scale) firms) ≡ Some v → IsTaxedSurplus trades scale on s firms v
unfolding taxes_from
from_taxed trades scale on s [] v is =
    let none : v ≡ pos 0 = same_Some _ _ (sym is) in
    record { surplus = pos 0; is = refl; less = omega (arith, ints, none) }
from_taxed trades scale on s (firm ∷ firms) v is =
    option_and_then_some (λ worth. option_map (λ more. worth +ℤ more)
    (surplus_from trades on (s + 1) (map (taxed scale) firms)))
    ((taxed scale firm).worth (part trades s firm.count on)) v is (λ worth worth_is sum_is.
    let mine = option_map-some (λ a. scale *ℤ a +ℤ sum_over (λ k. negsuc 0) firm.count (part trades s firm.count on))
    (firm.worth (part trades s firm.count on)) worth worth_is in
    let more = option_map-some (λ z. worth +ℤ z) (surplus_from trades on (s + 1) (map (taxed scale) firms)) v sum_is in
    let rest = from_taxed trades scale on (s + 1) firms more.0 more.1 in
    record {
      surplus = mine.0 +ℤ rest.surplus;
      is =
          ap (option_and_then (λ worth. option_map (λ more. worth +ℤ more) (surplus_from trades on (s + 1) firms)))
          mine.1
          ∙ ap (option_map (λ more. mine.0 +ℤ more)) rest.is;
      less = add (scale *ℤ mine.0) (sum_over (λ k. negsuc 0) firm.count (part trades s firm.count on))
          (size_below firm.count (part trades s firm.count on)) worth more.0 v
          (taxes_from trades on (s + 1) firms) (scale *ℤ rest.surplus) _ mine.2
          (tax_is firm.count (part trades s firm.count on)) more.2 rest.less (times-plus scale mine.0 rest.surplus);
    })
  where
    add : (a t : ℤ) (m : ℕ) (w r v : ℤ) (n : ℕ) (b s : ℤ) → a +ℤ t ≡ w → t +ℤ pos m ≡ pos 0 → w +ℤ r ≡ v
        → r +ℤ pos n ≡ b → s ≡ a +ℤ b → v +ℤ pos (m + n) ≡ s
    add a t m w r v n b s mine tax sum rest product = omega (arith, ints, mine, tax, sum, rest, product)

-- and the other way
to_taxed : (trades : List Ends) (scale : ℤ) (on s : ℕ) (firms : List Firm) (a : ℤ)
    → surplus_from trades on s firms ≡ Some a
    → (v : ℤ) × (surplus_from trades on s (map (taxed scale) firms) ≡ Some v)
to_taxed trades scale on s [] a is = (pos 0, refl)
to_taxed trades scale on s (firm ∷ firms) a is =
    option_and_then_some (λ worth. option_map (λ more. worth +ℤ more) (surplus_from trades on (s + 1) firms))
    (firm.worth (part trades s firm.count on)) a is (λ worth worth_is sum_is.
    let more = option_map-some (λ z. worth +ℤ z) (surplus_from trades on (s + 1) firms) a sum_is in
    let rest = to_taxed trades scale on (s + 1) firms more.0 more.1 in (
      (scale *ℤ worth +ℤ sum_over (λ k. negsuc 0) firm.count (part trades s firm.count on)) +ℤ rest.0,
      ap (λ (o : Option ℤ). option_and_then (λ worth. option_map (λ more. worth +ℤ more)
          (surplus_from trades on (s + 1) (map (taxed scale) firms)))
          (option_map (λ w. scale *ℤ w +ℤ sum_over (λ k. negsuc 0) firm.count (part trades s firm.count on)) o))
          worth_is
          ∙ ap (option_map
          (λ more. (scale *ℤ worth +ℤ sum_over (λ k. negsuc 0) firm.count (part trades s firm.count on)) +ℤ more))
          rest.1,
    ))

-- a member is counted
pub some_counted : (n x k : ℕ) → k < n → has x k ≡ true → 1 ≤ size_below n x
unfolding size_below
some_counted zero x k below there = absurd (omega (arith, below))
some_counted (suc n) x k below there = elim (cases_eq k n) [
  | inl same ↦
      let last : ◌≡◌ {A = ℕ} (if has x n then 1 else 0) 1 =
      ap (λ (b : Bool). if b then 1 else 0) (ap (has x) (sym same) ∙ there) in
      omega (arith, last)
  | inr apart ↦ let rest = some_counted n x k (omega (arith, below, apart)) there in omega (arith, rest)
]

-- nothing is taxed where nothing is on
none_taxed : (trades : List Ends) (s : ℕ) (firms : List Firm) → taxes_from trades 0 s firms ≡ 0
unfolding taxes_from
none_taxed trades s [] = refl
none_taxed trades s (firm ∷ firms) =
    let rest = none_taxed trades (s + 1) firms in
    let here : size_below firm.count (part trades s firm.count 0) ≡ 0 =
    ap (size_below firm.count) (no_part trades s firm.count) ∙ none firm.count in
    omega (arith, rest, here)
  where
    none : (n : ℕ) → size_below n 0 ≡ 0
    none n =
        let sum = tax_is n 0 in
        let nothing = sum_over-empty (λ k. negsuc 0) n in
        omega (arith, ints, sum, nothing)

-- and something is where a trade is on
some_taxed : (trades : List Ends) (on s i f : ℕ) (firms : List Firm) (firm : Firm) → f ≡ s + i
    → slice_get firms i ≡ Some firm
    → 1 ≤ size_below firm.count (part trades f firm.count on) → 1 ≤ taxes_from trades on s firms
unfolding taxes_from
some_taxed trades on s i f [] firm at is some = absurd (cc is)
some_taxed trades on s zero f (first ∷ firms) firm at is some =
    let same = same_Some first firm is in
    let here : size_below first.count (part trades s first.count on)
    ≡ size_below firm.count (part trades f firm.count on) =
    ap₂ (λ (g : ℕ) (z : Firm). size_below z.count (part trades g z.count on)) (omega (arith, at)) same in
    omega (arith, here, some)
some_taxed trades on s (suc i) f (first ∷ firms) firm at is some =
    let rest = some_taxed trades on (s + 1) i f firms firm (omega (arith, at)) is some in
    omega (arith, rest)

-- ---- more reduced worth

-- the trade of a taxed equilibrium that is on is taxed
on_taxed : (scale : ℤ) (firms : List Firm) (trades : List Ends) → IsNetwork firms trades → (on t : ℕ)
    → t < length trades → has on t ≡ true → 1 ≤ taxes_from trades on 0 firms
on_taxed scale firms trades network on t below there = elim (slice_get_cases trades t).1 [
  | inr past ↦ absurd (let above = past.0 in omega (arith, above, below))
  | inl trade ↦
      let end = seller_end firms trades network t trade.0 trade.2 in
      some_taxed trades on 0 trade.0.seller trade.0.seller firms end.firm (omega arith) end.is
      (some_counted end.firm.count (part trades trade.0.seller end.firm.count on) trade.0.at_seller end.inside
      (has-part trades trade.0.seller end.firm.count on trade.0.at_seller end.inside ∙ ap (has on) end.owns ∙ there))
]

pub some_on_is_cycle : (firms : List Firm) (trades : List Ends) (over : ℤ) (contracts : List Contract) (scale : ℤ)
    (allowed on : ℕ) (prices : ℕ → ℤ)
    → IsRationalOutcome firms trades over contracts → pos 0 ≤ℤ scale
    → IsTaxedEquilibrium firms trades over contracts scale allowed on prices
    → (t : ℕ) → t < length trades → has on t ≡ true
    → (label : ℕ → ℤ)
    → KeepsArcs (arcs_among (is_admitted (length trades) on) (reduced_arc firms trades over contracts)) label → ⊥
some_on_is_cycle firms trades over contracts scale allowed on prices outcome from_zero taxed_equilibrium t below there
    label keeps =
    let no_more = numbers_leave_no_more firms trades over contracts on label outcome keeps in
    let network = reduced_network firms trades over contracts outcome.network in
    let taxes = taxed_network scale (reduced_firms trades over contracts firms) trades network in
    let efficient =
    equilibrium_is_efficient (admitted trades allowed (taxed_firms firms trades over contracts scale)) trades
    (pos 1) on prices
    (admitted_network (taxed_firms firms trades over contracts scale) trades allowed taxes) (omega (arith, ints))
    taxed_equilibrium.equilibrium in
    let mine = from_taxed trades scale on 0 (reduced_firms trades over contracts firms) efficient.0
    (sym (surplus_from-admitted trades allowed on taxed_equilibrium.inside 0
    (taxed_firms firms trades over contracts scale)) ∙ efficient.1.is) in
    let none = to_taxed trades scale 0 0 (reduced_firms trades over contracts firms) no_more.least no_more.is in
    let empty = from_taxed trades scale 0 0 (reduced_firms trades over contracts firms) none.0 none.1 in
    let same : empty.surplus ≡ no_more.least = same_Some _ _ (sym empty.is ∙ no_more.is) in
    let high = efficient.1.most 0 none.0 (surplus_from-admitted trades allowed 0 (empty_inside allowed) 0
    (taxed_firms firms trades over contracts scale) ∙ none.1) in
    let most = times-le scale mine.surplus no_more.least from_zero (no_more.most on mine.surplus (λ k h. h) mine.is) in
    let some = on_taxed scale (reduced_firms trades over contracts firms) trades network on t below there in
    against efficient.0 (taxes_from trades on 0 (reduced_firms trades over contracts firms)) (scale *ℤ mine.surplus)
    none.0 (taxes_from trades 0 0 (reduced_firms trades over contracts firms))
    (scale *ℤ empty.surplus) (scale *ℤ no_more.least) mine.less empty.less (ap (λ (z : ℤ). scale *ℤ z) same) high most
    some (none_taxed trades 0 (reduced_firms trades over contracts firms))
  where
    against : (v : ℤ) (m : ℕ) (a : ℤ) (w : ℤ) (n : ℕ) (b l : ℤ) → v +ℤ pos m ≡ a → w +ℤ pos n ≡ b → b ≡ l → w ≤ℤ v
        → a ≤ℤ l → 1 ≤ m → n ≡ 0 → ⊥
    against v m a w n b l mine empty same high most some none =
        absurd (omega (arith, ints, mine, empty, same, high, most, some, none))
