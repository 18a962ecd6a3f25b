-- Sums over the first parts of a plan, and over the first firms.
use Rattle.std.proofs.Common.{◌≡◌, ℕ, zero, suc, ◌+◌, ◌*◌, ◌<◌, Bool, true, false, ◌==◌, if◌then◌else◌, List, [], ◌∷◌, ◌++◌, length, map, take, Option, Some, None, option_map, slice_get, refl, sym, ap, ap₂, ◌∙◌, subst, arith, inl, inr, add-one, ℤ, pos, ◌+ℤ◌, ◌*ℤ◌, ◌≤ℤ◌}
use Rattle.std.specs.Prelude.{IsSome, unwrap_or, ◌<ℤ◌}
use Rattle.tn_market.specs.Equilibrium.{surplus_from, surplus_of}
use Rattle.tn_market.specs.Widths.{most_worth}
use Rattle.tn_model.specs.Network.{part}
use Rattle.tn_price.proofs.SurplusLemmas.{sum_more}
use Rattle.std.proofs.lemmas.Int.{ints}
use Rattle.std.proofs.lemmas.Bool.{cases_eq, eq-eqb}
use Rattle.std.proofs.lemmas.Option.{none-some, same_Some, slice_get_within, get_or_from_slice_get, slice_get-map}
use Rattle.std.proofs.lemmas.List.{length-take-le}
use Rattle.std.proofs.Math.Seq.{take-length, take-suc}
use Rattle.tn_base.specs.Arcs.{IsAtMost}
use Rattle.tn_base.specs.Firm.{Firm, MayAbstain}
use Rattle.tn_exchange.proofs.RowLemmas.{may_abstain}
use Rattle.tn_firm.specs.declared.raw.RawFirm.{RawFirm}
use Rattle.tn_firm.specs.declared.raw.RawFirm.TheVariants.{Table, Laminar, Middle, Dealer}
use Rattle.tn_firm.specs.declared.value.FirmValue.TheVariants.{Laminar as LaminarValue, Middle as MiddleValue, Dealer as DealerValue}
use Rattle.tn_firm.specs.FirmLemmas.{firm_laws}
use Rattle.tn_firm.specs.Raw.{raw_firm_of}
use Rattle.tn_said.specs.declared.part.Part.{Part}
use Rattle.tn_model.specs.declared.ends.Ends.{Ends}
use Rattle.tn_model.specs.Limits.{most_claimed_over}
use Rattle.tn_cert.specs.Plans.{over_parts, worth_or_zero, planned_worth, planned_from, HasPossibleParts, ArePossibleParts}
use Rattle.tn_cert.specs.Limits.{most_planned_worth, most_weighed_worth}

-- one part more
pub one_part : (term : Part → ℤ) (f : ℕ) (plan : List Part) (k : ℕ) (p : Part) → slice_get plan k ≡ Some p
    → over_parts term f (take (k + 1) plan) ≡ over_parts term f (take k plan) +ℤ (if p.firm == f then term p else pos 0)
one_part term f plan k p is = ap (λ (n : ℕ). over_parts term f (take n plan)) (add-one k) ∙ more plan k is
  where
    last : (x y : ℤ) → x ≡ y → x +ℤ pos 0 ≡ pos 0 +ℤ y
    last x y e = omega (arith, ints, e)

    regroup : (a b c d : ℤ) → b ≡ c +ℤ d → a +ℤ b ≡ (a +ℤ c) +ℤ d
    regroup a b c d e = omega (arith, ints, e)

    more : (plan : List Part) (k : ℕ) → slice_get plan k ≡ Some p
        → over_parts term f (take (suc k) plan) ≡ over_parts term f (take k plan) +ℤ (if p.firm == f then term p
        else pos 0)
    more [] k is = absurd (none-some p is)
    more (q ∷ plan) zero is = last _ _ (ap (λ (r : Part). if r.firm == f then term r else pos 0) (same_Some q p is))
    more (q ∷ plan) (suc k) is = regroup _ _ _ _ (more plan k is)

-- all parts
pub all_parts : (term : Part → ℤ) (f : ℕ) (plan : List Part) (k : ℕ) → k ≡ length plan
    → over_parts term f (take k plan) ≡ over_parts term f plan
all_parts term f plan k end = ap (over_parts term f) (ap (λ (n : ℕ). take n plan) end ∙ take-length plan)

-- the weights of the first k parts, of those that count
pub record IsWeight (term : Part → ℤ) (f : ℕ) (plan : List Part) (k : ℕ) (sum : ℤ) : Type 0 where
  pub is : sum ≡ over_parts term f (take k plan)
  pub low : pos 0 ≤ℤ sum
  pub high : sum ≤ℤ pos (k * most_claimed_over)

pub one_weighed : (term : Part → ℤ) (f : ℕ) (plan : List Part) (k : ℕ) (p : Part) (sum more : ℤ)
    → IsWeight term f plan k sum → slice_get plan k ≡ Some p
    → more ≡ (if p.firm == f then term p else pos 0) → pos 0 ≤ℤ more → more ≤ℤ pos most_claimed_over
    → IsWeight term f plan (k + 1) (sum +ℤ more)
one_weighed term f plan k p sum more weight is more_is least most =
    let low = weight.low in
    let high = weight.high in
    record {
      is = ap₂ (λ (x y : ℤ). x +ℤ y) weight.is more_is ∙ sym (one_part term f plan k p is);
      low = omega (arith, ints, low, least);
      high = omega (arith, ints, high, most);
    }

-- ---- worths

abbrev pub worth_term : Firm → Part → ℤ
worth_term firm p = p.weight *ℤ worth_or_zero firm p.bundle

-- the first k parts are possible, with this worth
pub record IsWorth (firm : Firm) (f : ℕ) (plan : List Part) (k : ℕ) (sum : ℤ) : Type 0 where
  pub is : sum ≡ over_parts (worth_term firm) f (take k plan)
  pub possible : (j : ℕ) (p : Part) → j < k → slice_get plan j ≡ Some p → p.firm ≡ f → IsSome (firm.worth p.bundle)
  pub small : IsAtMost sum (k * most_weighed_worth)

-- what a part adds
abbrev pub added_by : Firm → ℕ → Part → Option ℤ
added_by firm f p = if p.firm == f then option_map (λ worth. p.weight *ℤ worth) (firm.worth p.bundle) else Some (pos 0)

added_is : (firm : Firm) (f : ℕ) (p : Part) (more : ℤ) → Some more ≡ added_by firm f p
    → (more ≡ (if p.firm == f then worth_term firm p else pos 0)) × (p.firm ≡ f → IsSome (firm.worth p.bundle))
added_is firm f p more added = by_case (p.firm == f) refl (firm.worth p.bundle) refl added
  where
    by_case : (b : Bool) → (p.firm == f) ≡ b → (o : Option ℤ) → firm.worth p.bundle ≡ o
        → Some more ≡ (if b then option_map (λ worth. p.weight *ℤ worth) o else Some (pos 0))
        → (more ≡ (if b then p.weight *ℤ unwrap_or o (pos 0) else pos 0)) × (p.firm ≡ f → IsSome o)
    by_case true e (Some a) there is = (same_Some _ _ is, (λ own. cc))
    by_case true e None there is = absurd (none-some more (sym is))
    by_case false e o there is = (same_Some _ _ is, (λ own. absurd (cc (e, eq-eqb p.firm f own))))

pub one_valued : (firm : Firm) (f : ℕ) (plan : List Part) (k : ℕ) (p : Part) (sum more : ℤ) → IsWorth firm f plan k sum
    → slice_get plan k ≡ Some p
    → Some more ≡ added_by firm f p → IsAtMost more most_weighed_worth → IsWorth firm f plan (k + 1) (sum +ℤ more)
one_valued firm f plan k p sum more worth is added small =
    let term = added_is firm f p more added in
    let low = worth.small.low in
    let high = worth.small.high in
    let more_low = small.low in
    let more_high = small.high in
    record {
      is = ap₂ (λ (x y : ℤ). x +ℤ y) worth.is term.0 ∙ sym (one_part (worth_term firm) f plan k p is);
      possible = λ j q below there own. elim (cases_eq j k) [
        | inl e ↦
            let same : p ≡ q = same_Some p q (sym is ∙ ap (slice_get plan) (sym e) ∙ there) in
            subst (λ (r : Part). IsSome (firm.worth r.bundle)) same (term.1 (ap (λ (r : Part). r.firm) same ∙ own))
        | inr d ↦ worth.possible j q (omega (arith, below, d)) there own
      ];
      small = record { low = omega (arith, ints, low, more_low); high = omega (arith, ints, high, more_high) };
    }

pub all_valued : (firm : Firm) (f : ℕ) (plan : List Part) (k : ℕ) (sum : ℤ) → IsWorth firm f plan k sum
    → k ≡ length plan
    → HasPossibleParts plan f firm × (sum ≡ over_parts (worth_term firm) f plan)
all_valued firm f plan k sum worth end = (
  (λ j p is own. let inside = slice_get_within plan j p is in worth.possible j p (omega (arith, inside, end)) is own),
  worth.is ∙ all_parts (worth_term firm) f plan k end,
)

-- ---- firms

-- the first f firms have this part of the plan's worth, and possible bundles
pub record IsPlanned (firms : List Firm) (plan : List Part) (over : ℤ) (f : ℕ) (sum : ℤ) : Type 0 where
  pub is : sum ≡ planned_from plan over 0 (take f firms)
  pub possible : ArePossibleParts firms plan f
  pub small : IsAtMost sum (f * most_planned_worth)

planned_from-append : (plan : List Part) (over : ℤ) (s : ℕ) (firms : List Firm) (firm : Firm) (f : ℕ)
    → f ≡ s + length firms
    → planned_from plan over s (firms ++ firm ∷ []) ≡ planned_from plan over s firms +ℤ planned_worth plan over f firm
planned_from-append plan over s [] firm f at =
    let here : f ≡ s = omega (arith, at) in
    turned _ _ (ap (λ (g : ℕ). planned_worth plan over g firm) (sym here))
  where
    turned : (a b : ℤ) → a ≡ b → a +ℤ pos 0 ≡ pos 0 +ℤ b
    turned a b e = omega (arith, ints, e)
planned_from-append plan over s (first ∷ firms) firm f at =
    regroup _ _ _ _ (planned_from-append plan over (s + 1) firms firm f (omega (arith, at)))
  where
    regroup : (a b c d : ℤ) → b ≡ c +ℤ d → a +ℤ b ≡ (a +ℤ c) +ℤ d
    regroup a b c d e = omega (arith, ints, e)

-- one firm more has possible bundles
pub one_possible : (firms : List Firm) (plan : List Part) (f : ℕ) (firm : Firm) → ArePossibleParts firms plan f
    → slice_get firms f ≡ Some firm → HasPossibleParts plan f firm
    → ArePossibleParts firms plan (f + 1)
one_possible firms plan f firm before is possible g other below there = elim (cases_eq g f) [
  | inl e ↦
      let same : firm ≡ other = same_Some firm other (sym is ∙ ap (slice_get firms) (sym e) ∙ there) in
      subst (λ (h : ℕ). HasPossibleParts plan h other) (sym e) (subst (HasPossibleParts plan f) same possible)
  | inr d ↦ before g other (omega (arith, below, d)) there
]

pub one_planned : (firms : List Firm) (plan : List Part) (over : ℤ) (f : ℕ) (firm : Firm) (sum more : ℤ)
    → IsPlanned firms plan over f sum → slice_get firms f ≡ Some firm
    → HasPossibleParts plan f firm → more ≡ planned_worth plan over f firm → IsAtMost more most_planned_worth
    → IsPlanned firms plan over (f + 1) (sum +ℤ more)
one_planned firms plan over f firm sum more planned is possible more_is small =
    let inside = slice_get_within firms f firm is in
    let low = planned.small.low in
    let high = planned.small.high in
    let more_low = small.low in
    let more_high = small.high in
    let longer : take (f + 1) firms ≡ take f firms ++ firm ∷ [] =
    ap (λ (n : ℕ). take n firms) (add-one f) ∙ take-suc firms f firm inside
    ∙ ap (λ (x : Firm). take f firms ++ x ∷ []) (get_or_from_slice_get firms f firm firm is) in
    record {
      is = ap₂ (λ (x y : ℤ). x +ℤ y) planned.is more_is
          ∙ sym (ap (planned_from plan over 0) longer ∙ planned_from-append plan over 0 (take f firms) firm f
          (omega (arith, length-take-le f firms (omega (arith, inside)))));
      possible = one_possible firms plan f firm planned.possible is possible;
      small = record { low = omega (arith, ints, low, more_low); high = omega (arith, ints, high, more_high) };
    }

-- ---- sets of trades

-- the plan is worth more than each set of trades before a number
abbrev pub IsWorthMoreBefore : List Firm → List Ends → ℤ → ℤ → ℕ → Type 0
IsWorthMoreBefore firms trades over worth n = (on : ℕ) (surplus : ℤ) → on < n
    → surplus_of firms trades on ≡ Some surplus → (over *ℤ surplus) <ℤ worth

-- ---- one firm or one trade more

-- ---- firms that are read raw

-- every firm may do without trades
pub raw_abstains : (raw : RawFirm) → MayAbstain (raw_firm_of raw)
raw_abstains (Table table) = may_abstain table
raw_abstains (Laminar firm) = (firm_laws (LaminarValue firm)).empty_is_possible
raw_abstains (Middle firm) = (firm_laws (MiddleValue firm)).empty_is_possible
raw_abstains (Dealer firm) = (firm_laws (DealerValue firm)).empty_is_possible

pub all_abstain : (firms : List RawFirm) (f : ℕ) (firm : Firm) → slice_get (map raw_firm_of firms) f ≡ Some firm
    → MayAbstain firm
all_abstain firms f firm is = of_some (slice_get firms f) (sym (slice_get-map raw_firm_of firms f) ∙ is)
  where
    of_some : (o : Option RawFirm) → option_map raw_firm_of o ≡ Some firm → MayAbstain firm
    of_some None none = absurd (none-some firm none)
    of_some (Some raw) there = subst MayAbstain (same_Some (raw_firm_of raw) firm there) (raw_abstains raw)

-- ---- the surplus of a set

-- the first f firms have this sum of worths
pub record IsSurplus (firms : List Firm) (trades : List Ends) (on f : ℕ) (sum : ℤ) : Type 0 where
  pub is : surplus_from trades on 0 (take f firms) ≡ Some sum
  pub small : IsAtMost sum (f * most_worth)

pub one_surplus : (firms : List Firm) (trades : List Ends) (on f : ℕ) (sum worth : ℤ) (firm : Firm)
    → IsSurplus firms trades on f sum → slice_get firms f ≡ Some firm
    → firm.worth (part trades f firm.count on) ≡ Some worth → IsAtMost worth most_worth
    → IsSurplus firms trades on (f + 1) (sum +ℤ worth)
one_surplus firms trades on f sum worth firm surplus is worth_is small =
    let low = surplus.small.low in
    let high = surplus.small.high in
    let more_low = small.low in
    let more_high = small.high in
    record {
      is = sum_more firms trades on f sum worth firm surplus.is is worth_is;
      small = record {
        low = omega (arith, ints, low, high, more_low, more_high);
        high =
            omega (arith, ints, low, high, more_low, more_high);
      };
    }

-- the empty bundle isn't impossible
pub not_impossible : (firm : Firm) (x : ℕ) → MayAbstain firm → x ≡ 0 → None ≡ firm.worth x → ⊥
not_impossible firm x abstains empty none = absurd (none-some abstains.0 (none ∙ ap firm.worth empty ∙ abstains.1))
