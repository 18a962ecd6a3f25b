-- Where a plan in parts is worth more than every set of trades, no prices make one an equilibrium.
use Rattle.std.proofs.Common.{◌≡◌, ℕ, zero, suc, ◌+◌, ◌<◌, Bool, true, false, ◌==◌, ◌&&◌, ◌||◌, if◌then◌else◌, List, [], ◌∷◌, length, Option, Some, None, option_map, slice_get, refl, sym, ap, ap₂, ◌∙◌, subst, arith, inl, inr, ℤ, pos, ◌+ℤ◌, ◌-ℤ◌, neg_ℤ, ◌≤ℤ◌, ◌*ℤ◌}
use Rattle.std.specs.Prelude.{◌<ℤ◌, All, IsSome, option_and_then, unwrap_or}
use Rattle.std.proofs.Math.IntN.{*ℤ_comm}
use Rattle.std.proofs.lemmas.Int.{ints}
use Rattle.std.proofs.lemmas.Bool.{cases_Bool, eqb-true, and_parts, lt-ltb}
use Rattle.std.proofs.lemmas.Option.{slice_get_within, get_or_from_slice_get}
use Rattle.tn_base.specs.Sets.{has, set_of, sum_over, toggle}
use Rattle.tn_base.specs.Firm.{Firm, IsBest, payments}
use Rattle.tn_base.proofs.SetLemmas.{has-set_of, set_of_within}
use Rattle.tn_base.proofs.SumLemmas.{sum_over-empty, times-plus}
use Rattle.tn_firm_laws.proofs.KeepLemmas.{option_map-some, times-le}
use Rattle.tn_model.specs.declared.ends.Ends.{Ends}
use Rattle.tn_said.specs.declared.part.Part.{Part}
use Rattle.tn_model.specs.Network.{own, part, IsNetwork}
use Rattle.tn_model.proofs.NetworkLemmas.{own_stands}
use Rattle.tn_market.specs.Equilibrium.{prices_at, utility_at, HasBest, surplus_from}
use Rattle.tn_network_laws.proofs.SumLemmas.{sum_to, sum_to-same, AllFrom, all_from, sum_list, sum_list-same, sum_list-none}
use Rattle.tn_network_laws.proofs.StabilityLemmas.{times-neg, times-times}
use Rattle.tn_network_laws.proofs.WelfareLemmas.{at_side, ends_total, paid, paid_cancels, le_from_times}
use Rattle.tn_cert.specs.Plans.{over_parts, share_of, weight_at, worth_or_zero, planned_worth, planned_from, HasPossibleParts, IsBalanced, IsPlanAgainst, HaveNoPrices, PlansBarPrices}

-- ---- sums over parts

pub over_parts-same : (g h : Part → ℤ) (f : ℕ) (plan : List Part) → ((p : Part) → g p ≡ h p)
    → over_parts g f plan ≡ over_parts h f plan
over_parts-same g h f [] same = refl
over_parts-same g h f (p ∷ plan) same =
    ap₂ (λ (x y : ℤ). (if p.firm == f then x else pos 0) +ℤ y) (same p) (over_parts-same g h f plan same)

pub over_parts-plus : (g h : Part → ℤ) (f : ℕ) (plan : List Part)
    → over_parts (λ p. g p +ℤ h p) f plan ≡ over_parts g f plan +ℤ over_parts h f plan
over_parts-plus g h f [] = refl
over_parts-plus g h f (p ∷ plan) =
    let rest = over_parts-plus g h f plan in
    let first = by_case (p.firm == f) (g p) (h p) in
    omega (arith, ints, rest, first)
  where
    by_case : (b : Bool) (x y : ℤ) → (if b then x +ℤ y else pos 0) ≡ (if b then x else pos 0) +ℤ (if b then y
        else pos 0)
    by_case true x y = refl
    by_case false x y = refl

times_zero : (a : ℤ) → a *ℤ pos 0 ≡ pos 0
times_zero a = omega (arith, ints)

pub over_parts-times : (a : ℤ) (g : Part → ℤ) (f : ℕ) (plan : List Part)
    → over_parts (λ p. a *ℤ g p) f plan ≡ a *ℤ over_parts g f plan
over_parts-times a g f [] = sym (times_zero a)
over_parts-times a g f (p ∷ plan) =
    ap₂ (λ (x y : ℤ). x +ℤ y) (by_case (p.firm == f) (g p)) (over_parts-times a g f plan)
    ∙ sym (times-plus a (if p.firm == f then g p else pos 0) (over_parts g f plan))
  where
    by_case : (b : Bool) (x : ℤ) → (if b then a *ℤ x else pos 0) ≡ a *ℤ (if b then x else pos 0)
    by_case true x = refl
    by_case false x = sym (times_zero a)

-- where each term of firm f's parts is at most another one, so is the sum
pub over_parts-le : (g h : Part → ℤ) (f : ℕ) (plan : List Part)
    → ((k : ℕ) (p : Part) → slice_get plan k ≡ Some p → p.firm ≡ f → g p ≤ℤ h p)
    → over_parts g f plan ≤ℤ over_parts h f plan
over_parts-le g h f [] each = omega (arith, ints)
over_parts-le g h f (p ∷ plan) each =
    let rest = over_parts-le g h f plan (λ k q is own. each (suc k) q is own) in
    let first = by_case (p.firm == f) refl in
    omega (arith, ints, rest, first)
  where
    by_case : (b : Bool) → (p.firm == f) ≡ b → (if b then g p else pos 0) ≤ℤ (if b then h p else pos 0)
    by_case true e = each 0 p refl (eqb-true p.firm f e)
    by_case false e = omega (arith, ints)

-- ---- what a firm is paid for its parts

-- what a bundle of firm f is paid
abbrev paid_for : List Ends → (ℕ → ℤ) → ℕ → Firm → ℕ → ℤ
paid_for trades prices f firm x = sum_over (payments firm.buys (prices_at trades prices f)) firm.count x

-- what firm f is paid for its parts, each as often as it weighs
abbrev paid_in_parts : List Ends → (ℕ → ℤ) → List Part → ℕ → Firm → ℤ
paid_in_parts trades prices plan f firm = over_parts (λ p. p.weight *ℤ paid_for trades prices f firm p.bundle) f plan

-- the weighted sums over bundles are sums over positions, each with its weight
parts_by_position : (c : ℕ → ℤ) (f n : ℕ) (plan : List Part)
    → over_parts (λ p. p.weight *ℤ sum_over c n p.bundle) f plan ≡ sum_to (λ k. c k *ℤ weight_at plan f k) n
unfolding sum_over
parts_by_position c f zero plan =
    over_parts-same (λ p. p.weight *ℤ pos 0) (λ p. pos 0) f plan (λ p. times_zero p.weight) ∙ nothing f plan
  where
    nothing : (f : ℕ) (plan : List Part) → over_parts (λ p. pos 0) f plan ≡ pos 0
    nothing f [] = refl
    nothing f (p ∷ plan) = let rest = nothing f plan in let here = by_case (p.firm == f) in
        omega (arith, ints, rest, here)
      where
        by_case : (b : Bool) → (if b then pos 0 else pos 0) ≡ pos 0
        by_case true = refl
        by_case false = refl
parts_by_position c f (suc n) plan =
    over_parts-same (λ p. p.weight *ℤ (sum_over c n p.bundle +ℤ (if has p.bundle n then c n else pos 0)))
    (λ p. p.weight *ℤ sum_over c n p.bundle +ℤ c n *ℤ (if has p.bundle n then p.weight else pos 0)) f plan
    (λ p. times-plus p.weight (sum_over c n p.bundle) (if has p.bundle n then c n else pos 0)
    ∙ ap (λ (z : ℤ). p.weight *ℤ sum_over c n p.bundle +ℤ z) (turned (has p.bundle n) p.weight))
    ∙ over_parts-plus (λ p. p.weight *ℤ sum_over c n p.bundle) (λ p. c n *ℤ (if has p.bundle n then p.weight
    else pos 0)) f plan
    ∙ ap₂ (λ (x y : ℤ). x +ℤ y) (parts_by_position c f n plan) (over_parts-times (c n) (λ p. if has p.bundle n
    then p.weight else pos 0) f plan)
  where
    turned : (b : Bool) (w : ℤ) → w *ℤ (if b then c n else pos 0) ≡ c n *ℤ (if b then w else pos 0)
    turned true w = *ℤ_comm w (c n)
    turned false w = times_zero w ∙ sym (times_zero (c n))

-- the weight of a trade, at its seller
abbrev weight_of : List Ends → List Part → ℕ → ℤ
weight_of trades plan t =
    unwrap_or (option_map (λ trade. weight_at plan trade.seller trade.at_seller) (slice_get trades t)) (pos 0)

-- in a balanced plan a trade weighs as much at each of its positions
weight_there : (firms : List Firm) (trades : List Ends) (plan : List Part) → IsNetwork firms trades
    → ((t : ℕ) (trade : Ends) → slice_get trades t ≡ Some trade → IsBalanced plan trade)
    → (f k : ℕ) (firm : Firm) → slice_get firms f ≡ Some firm → k < firm.count
    → weight_at plan f k ≡ weight_of trades plan (own trades f k)
weight_there firms trades plan network balanced f k firm is below =
    let found = own_stands trades f k (network.whole f k firm is below) in
    let at_seller : weight_of trades plan (own trades f k) ≡ weight_at plan found.trade.seller found.trade.at_seller =
    ap (λ (o : Option Ends). unwrap_or (option_map (λ trade. weight_at plan trade.seller trade.at_seller) o) (pos 0))
    found.is in
    elim (cases_Bool (found.trade.seller == f && found.trade.at_seller == k)) [
      | inl e ↦ let parts = and_parts (found.trade.seller == f) (found.trade.at_seller == k) e in
          same_place found.trade.seller found.trade.at_seller (eqb-true _ _ parts.0) (eqb-true _ _ parts.1)
          ∙ sym at_seller
      | inr e ↦
          let bought : (found.trade.buyer == f && found.trade.at_buyer == k) ≡ true =
          ap (λ (b : Bool). b || (found.trade.buyer == f && found.trade.at_buyer == k)) (sym e) ∙ found.stands in
          let parts = and_parts (found.trade.buyer == f) (found.trade.at_buyer == k) bought in
          same_place found.trade.buyer found.trade.at_buyer (eqb-true _ _ parts.0) (eqb-true _ _ parts.1)
          ∙ sym (balanced (own trades f k) found.trade found.is) ∙ sym at_seller
    ]
  where
    same_place : (g i : ℕ) → g ≡ f → i ≡ k → weight_at plan f k ≡ weight_at plan g i
    same_place g i same at = ap₂ (λ (x y : ℕ). weight_at plan x y) (sym same) (sym at)

-- the price of a trade as often as it weighs
abbrev weighed_price : List Ends → (ℕ → ℤ) → List Part → ℕ → ℤ
weighed_price trades prices plan t = prices t *ℤ weight_of trades plan t

-- over all firms the payments for the parts of a balanced plan cancel
plan_cancels : (firms : List Firm) (trades : List Ends) (plan : List Part) → IsNetwork firms trades
    → ((t : ℕ) (trade : Ends) → slice_get trades t ≡ Some trade → IsBalanced plan trade)
    → (prices : ℕ → ℤ) → sum_list (paid_in_parts trades prices plan) 0 firms ≡ pos 0
plan_cancels firms trades plan network balanced prices =
    let sold = weighed_price trades prices plan in
    let bought : ℕ → ℤ = λ t. neg_ℤ (weighed_price trades prices plan t) in
    sum_list-same (paid_in_parts trades prices plan) (λ f firm. sum_to (at_side trades sold bought f firm) firm.count) 0
    firms
    (all_from _ 0 firms (λ i f firm at is.
    let same : i ≡ f = omega (arith, at) in
    let firm_is = ap (slice_get firms) (sym same) ∙ is in
    parts_by_position (payments firm.buys (prices_at trades prices f)) f firm.count plan
    ∙ sum_to-same (λ k. payments firm.buys (prices_at trades prices f) k *ℤ weight_at plan f k)
    (at_side trades sold bought f firm) firm.count (λ k below.
    ap (λ (w : ℤ). payments firm.buys (prices_at trades prices f) k *ℤ w)
    (weight_there firms trades plan network balanced f k firm firm_is below)
    ∙ by_side (has firm.buys k) (prices (own trades f k)) (weight_of trades plan (own trades f k)))))
    ∙ ends_total firms trades network sold bought
    ∙ sum_list-none (λ t trade. sold t +ℤ bought t) 0 trades (all_from _ 0 trades (λ i t trade at is. cancel (sold t)))
  where
    by_side : (b : Bool) (price w : ℤ) → (if b then neg_ℤ price else price) *ℤ w ≡ (if b then neg_ℤ (price *ℤ w)
        else price *ℤ w)
    by_side true price w = *ℤ_comm (neg_ℤ price) w ∙ times-neg w price ∙ ap (λ (z : ℤ). neg_ℤ z) (*ℤ_comm w price)
    by_side false price w = refl

    cancel : (z : ℤ) → z +ℤ neg_ℤ z ≡ pos 0
    cancel z = omega (arith, ints)

-- ---- one firm

-- what is known of a firm in an equilibrium beside a plan
record Holds (trades : List Ends) (scale : ℤ) (on : ℕ) (prices : ℕ
    → ℤ) (plan : List Part) (over : ℤ) (f : ℕ) (firm : Firm) : Type 0 where
  best : HasBest trades scale on prices f firm
  possible : HasPossibleParts plan f firm
  empty : ℤ
  empty_is : firm.worth 0 ≡ Some empty
  share : share_of plan f ≤ℤ over

swapped : (w s a : ℤ) → w *ℤ (s *ℤ a) ≡ s *ℤ (w *ℤ a)
swapped w s a = sym (times-times s w a) ∙ ap (λ (z : ℤ). z *ℤ a) (*ℤ_comm s w) ∙ times-times w s a

some_worth : (o : Option ℤ) → IsSome o → o ≡ Some (unwrap_or o (pos 0))
some_worth None some = absurd (cc some)
some_worth (Some a) some = refl

-- the weighted sum of a firm's utilities at prices is at most as often that of its own bundle
firm_below : (trades : List Ends) (scale : ℤ) (on : ℕ) (prices : ℕ
    → ℤ) (plan : List Part) (over : ℤ) (f : ℕ) (firm : Firm)
    → ((k : ℕ) (p : Part) → slice_get plan k ≡ Some p → pos 0 ≤ℤ p.weight)
    → (holds : Holds trades scale on prices plan over f firm)
    → (scale *ℤ planned_worth plan over f firm +ℤ paid_in_parts trades prices plan f firm) ≤ℤ (over *ℤ holds.best.0)
firm_below trades scale on prices plan over f firm weighed holds =
    let value : ℤ = holds.best.0 in
    let pay : ℕ → ℤ = paid_for trades prices f firm in
    let parts : ℤ = over_parts (λ p. p.weight *ℤ worth_or_zero firm p.bundle) f plan in
    let rest : ℤ = over -ℤ share_of plan f in
    let share = holds.share in
    let below = over_parts-le (λ p. p.weight *ℤ (scale *ℤ worth_or_zero firm p.bundle +ℤ pay p.bundle))
    (λ p. p.weight *ℤ value) f plan (λ k p is own.
    times-le p.weight (scale *ℤ worth_or_zero firm p.bundle +ℤ pay p.bundle) value (weighed k p is)
    (holds.best.1.most p.bundle (scale *ℤ worth_or_zero firm p.bundle +ℤ pay p.bundle)
    (ap (option_map (λ a. scale *ℤ a +ℤ pay p.bundle)) (some_worth (firm.worth p.bundle) (holds.possible k p is own)))))
    in
    let left : over_parts (λ p. p.weight *ℤ (scale *ℤ worth_or_zero firm p.bundle +ℤ pay p.bundle)) f plan ≡ scale *ℤ parts
    +ℤ paid_in_parts trades prices plan f firm =
    over_parts-same (λ p. p.weight *ℤ (scale *ℤ worth_or_zero firm p.bundle +ℤ pay p.bundle))
    (λ p. scale *ℤ (p.weight *ℤ worth_or_zero firm p.bundle) +ℤ p.weight *ℤ pay p.bundle) f plan
    (λ p. times-plus p.weight (scale *ℤ worth_or_zero firm p.bundle) (pay p.bundle)
    ∙ ap (λ (z : ℤ). z +ℤ p.weight *ℤ pay p.bundle) (swapped p.weight scale (worth_or_zero firm p.bundle)))
    ∙ over_parts-plus (λ p. scale *ℤ (p.weight *ℤ worth_or_zero firm p.bundle)) (λ p. p.weight *ℤ pay p.bundle) f plan
    ∙ ap (λ (z : ℤ). z +ℤ paid_in_parts trades prices plan f firm)
    (over_parts-times scale (λ p. p.weight *ℤ worth_or_zero firm p.bundle) f plan) in
    let right : over_parts (λ p. p.weight *ℤ value) f plan ≡ value *ℤ share_of plan f =
    over_parts-same (λ p. p.weight *ℤ value) (λ p. value *ℤ p.weight) f plan (λ p. *ℤ_comm p.weight value)
    ∙ over_parts-times value (λ p. p.weight) f plan in
    let none : pay 0 ≡ pos 0 = sum_over-empty (payments firm.buys (prices_at trades prices f)) firm.count in
    let empty = holds.best.1.most 0 (scale *ℤ holds.empty +ℤ pay 0)
    (ap (option_map (λ a. scale *ℤ a +ℤ pay 0)) holds.empty_is) in
    let empty_below =
    times-le rest (scale *ℤ holds.empty) value (omega (arith, ints, share))
    (without (scale *ℤ holds.empty) (pay 0) value none empty) in
    let rest_left : scale *ℤ (rest *ℤ worth_or_zero firm 0) ≡ rest *ℤ (scale *ℤ holds.empty) =
    sym (swapped rest scale (worth_or_zero firm 0)) ∙ ap (λ (z : ℤ). rest *ℤ (scale *ℤ z))
    (ap (λ (o : Option ℤ). unwrap_or o (pos 0)) holds.empty_is) in
    let whole = times-plus scale parts (rest *ℤ worth_or_zero firm 0) in
    let all : over *ℤ value ≡ value *ℤ share_of plan f +ℤ rest *ℤ value =
    *ℤ_comm over value ∙ ap (λ (z : ℤ). value *ℤ z) (split over (share_of plan f))
    ∙ times-plus value (share_of plan f) rest
    ∙ ap (λ (z : ℤ). value *ℤ share_of plan f +ℤ z) (*ℤ_comm value rest) in
    add _ _ _ _ _ _ _ _ _ _ below left right empty_below rest_left whole all
  where
    without : (a b c : ℤ) → b ≡ pos 0 → (a +ℤ b) ≤ℤ c → a ≤ℤ c
    without a b c none below = omega (arith, ints, none, below)

    split : (a b : ℤ) → a ≡ b +ℤ (a -ℤ b)
    split a b = omega (arith, ints)

    add : (terms limits scaled paid shared scaled_rest rest_below rest_most planned most : ℤ) → terms ≤ℤ limits
        → terms ≡ scaled +ℤ paid → limits ≡ shared
        → rest_below ≤ℤ rest_most → scaled_rest ≡ rest_below → planned ≡ scaled +ℤ scaled_rest
        → most ≡ shared +ℤ rest_most → (planned +ℤ paid) ≤ℤ most
    add terms limits scaled paid shared scaled_rest rest_below rest_most planned most below left right empty rest whole
        all =
        omega (arith, ints, below, left, right, empty, rest, whole, all)

-- ---- all firms

-- the firms from number s on have a surplus, and the plan is worth no more, with what is paid beside
record IsBelow (trades : List Ends) (scale : ℤ) (on : ℕ) (prices : ℕ
    → ℤ) (plan : List Part) (over : ℤ) (s : ℕ) (firms : List Firm) : Type 0 where
  surplus : ℤ
  is : surplus_from trades on s firms ≡ Some surplus
  below : (scale *ℤ planned_from plan over s firms +ℤ sum_list (paid_in_parts trades prices plan) s firms)
      ≤ℤ (over *ℤ (scale *ℤ surplus +ℤ sum_list (paid trades prices on) s firms))

all_below : (trades : List Ends) (scale : ℤ) (on : ℕ) (prices : ℕ
    → ℤ) (plan : List Part) (over : ℤ) (s : ℕ) (firms : List Firm)
    → ((k : ℕ) (p : Part) → slice_get plan k ≡ Some p → pos 0 ≤ℤ p.weight)
    → AllFrom (λ f firm. Holds trades scale on prices plan over f firm) s firms
    → IsBelow trades scale on prices plan over s firms
all_below trades scale on prices plan over s [] weighed holds = record {
  surplus = pos 0;
  is = refl;
  below =
      let left = times_zero scale in
      let right : over *ℤ (scale *ℤ pos 0 +ℤ pos 0) ≡ pos 0 =
      ap (λ (z : ℤ). over *ℤ (z +ℤ pos 0)) (times_zero scale) ∙ times_zero over in
      none _ _ left right;
}
  where
    none : (a b : ℤ) → a ≡ pos 0 → b ≡ pos 0 → (a +ℤ pos 0) ≤ℤ b
    none a b left right = omega (arith, ints, left, right)
all_below trades scale on prices plan over s (firm ∷ firms) weighed holds =
    let rest = all_below trades scale on prices plan over (s + 1) firms weighed holds.1 in
    let here = firm_below trades scale on prices plan over s firm weighed holds.0 in
    let mine = option_map-some (λ a. scale *ℤ a +ℤ paid trades prices on s firm)
    (firm.worth (part trades s firm.count on)) holds.0.best.0 holds.0.best.1.is in
    record {
      surplus = mine.0 +ℤ rest.surplus;
      is =
          ap (option_and_then (λ worth. option_map (λ more. worth +ℤ more) (surplus_from trades on (s + 1) firms)))
          mine.1
          ∙ ap (option_map (λ more. mine.0 +ℤ more)) rest.is;
      below =
          let left = times-plus scale (planned_worth plan over s firm) (planned_from plan over (s + 1) firms) in
          let grouped : scale *ℤ (mine.0 +ℤ rest.surplus) +ℤ (paid trades prices on s firm
          +ℤ sum_list (paid trades prices on) (s + 1) firms)
          ≡ holds.0.best.0 +ℤ (scale *ℤ rest.surplus +ℤ sum_list (paid trades prices on) (s + 1) firms) =
          regroup (scale *ℤ (mine.0 +ℤ rest.surplus)) (scale *ℤ mine.0) (scale *ℤ rest.surplus)
          (paid trades prices on s firm) (sum_list (paid trades prices on) (s + 1) firms)
          holds.0.best.0 (times-plus scale mine.0 rest.surplus) mine.2 in
          let right = ap (λ (z : ℤ). over *ℤ z) grouped ∙ times-plus over holds.0.best.0 (scale *ℤ rest.surplus
          +ℤ sum_list (paid trades prices on) (s + 1) firms) in
          add (scale *ℤ planned_worth plan over s firm) (paid_in_parts trades prices plan s firm)
          (over *ℤ holds.0.best.0)
          (scale *ℤ planned_from plan over (s + 1) firms) (sum_list (paid_in_parts trades prices plan) (s + 1) firms)
          (over *ℤ (scale *ℤ rest.surplus +ℤ sum_list (paid trades prices on) (s + 1) firms))
          (scale *ℤ planned_from plan over s (firm ∷ firms))
          (over *ℤ (scale *ℤ (mine.0 +ℤ rest.surplus) +ℤ (paid trades prices on s firm
          +ℤ sum_list (paid trades prices on) (s + 1) firms)))
          here rest.below left right;
    }
  where
    regroup : (whole a b p q value : ℤ) → whole ≡ a +ℤ b → a +ℤ p ≡ value → whole +ℤ (p +ℤ q) ≡ value +ℤ (b +ℤ q)
    regroup whole a b p q value parts is = omega (arith, ints, parts, is)

    add : (a p m b q n whole most : ℤ) → (a +ℤ p) ≤ℤ m → (b +ℤ q) ≤ℤ n → whole ≡ a +ℤ b → most ≡ m +ℤ n
        → (whole +ℤ (p +ℤ q)) ≤ℤ most
    add a p m b q n whole most here rest left right = omega (arith, ints, here, rest, left, right)

-- ---- sets of numbers below the count of trades

set_of-same : (p q : ℕ → Bool) (n : ℕ) → ((k : ℕ) → k < n → p k ≡ q k) → set_of p n ≡ set_of q n
unfolding set_of
set_of-same p q zero same = refl
set_of-same p q (suc n) same =
    let rest = set_of-same p q n (λ k below. same k (omega (arith, below))) in
    ap₂ (λ (b : Bool) (x : ℕ). if b then toggle x n else x) (same n (omega arith)) rest

-- only the trades of a set that are there count
part_of_trades : (firms : List Firm) (trades : List Ends) → IsNetwork firms trades → (f : ℕ) (firm : Firm)
    → slice_get firms f ≡ Some firm → (on : ℕ)
    → part trades f firm.count on ≡ part trades f firm.count (set_of (has on) (length trades))
part_of_trades firms trades network f firm is on =
    set_of-same (λ k. has on (own trades f k)) (λ k. has (set_of (has on) (length trades)) (own trades f k)) firm.count
    (λ k below.
    sym (has-set_of (has on) (length trades) (own trades f k)
    ∙ ap (λ (b : Bool). b && has on (own trades f k)) (lt-ltb (own trades f k) (length trades)
    (network.whole f k firm is below))))

-- ---- the law

-- firm f has this best bundle
abbrev HasBestAt : List Ends → ℤ → (ℕ → ℤ) → ℕ → Firm → ℕ → Type 0
HasBestAt trades scale prices f firm x = (value : ℤ) × IsBest (utility_at trades scale prices f firm) x value

no_prices : (firms : List Firm) (trades : List Ends) (plan : List Part) (over : ℤ) → IsNetwork firms trades
    → ((k : ℕ) (p : Part) → slice_get plan k ≡ Some p → pos 0 ≤ℤ p.weight)
    → IsPlanAgainst firms trades plan over → HaveNoPrices firms trades
no_prices firms trades plan over network weighed against scale any prices from_one equilibrium =
    let on : ℕ = set_of (has any) (length trades) in
    let below = all_below trades scale on prices plan over 0 firms weighed (all_from _ 0 firms (λ i f firm at is.
    let same : i ≡ f = omega (arith, at) in
    let firm_is = ap (slice_get firms) (sym same) ∙ is in
    let inside = slice_get_within firms f firm firm_is in
    let abstains = against.abstain f firm firm_is in
    record {
      best = subst (λ (x : ℕ). HasBestAt trades scale prices f firm x)
          (part_of_trades firms trades network f firm firm_is any) (equilibrium f firm firm_is);
      possible = against.possible f firm inside firm_is;
      empty = abstains.0;
      empty_is = abstains.1;
      share = against.shares f inside;
    })) in
    let greater = against.greater on below.surplus (set_of_within (has any) (length trades)) below.is in
    let planned =
    plan_cancels firms trades plan network (λ t trade is. against.balanced t trade
    (slice_get_within trades t trade is) is) prices in
    let held = paid_cancels firms trades network on prices in
    let most : (scale *ℤ planned_from plan over 0 firms) ≤ℤ (scale *ℤ (over *ℤ below.surplus)) =
    cancelled _ _ _ _ below.below planned
    (ap (λ (z : ℤ). over *ℤ (scale *ℤ below.surplus +ℤ z)) held
    ∙ ap (λ (z : ℤ). over *ℤ z) (plain (scale *ℤ below.surplus)) ∙ swapped over scale below.surplus) in
    let least = le_from_times scale (planned_from plan over 0 firms) (over *ℤ below.surplus) from_one most in
    against_itself _ _ least greater
  where
    plain : (z : ℤ) → z +ℤ pos 0 ≡ z
    plain z = omega (arith, ints)

    cancelled : (a p m n : ℤ) → (a +ℤ p) ≤ℤ m → p ≡ pos 0 → m ≡ n → a ≤ℤ n
    cancelled a p m n below none same = omega (arith, ints, below, none, same)

    against_itself : (a b : ℤ) → a ≤ℤ b → b <ℤ a → ⊥
    against_itself a b least greater = absurd (omega (arith, ints, least, greater))

pub plans_bar : PlansBarPrices
plans_bar = record {
  bars =
      λ firms trades plan over network weighed against. no_prices firms trades plan over network
      (λ k p is. all_there plan k p weighed is) against;
}
  where
    all_there : (plan : List Part) (k : ℕ) (p : Part) → All (λ part. pos 0 ≤ℤ part.weight) plan
        → slice_get plan k ≡ Some p → pos 0 ≤ℤ p.weight
    all_there plan k p all is =
        subst (λ (q : Part). pos 0 ≤ℤ q.weight) (get_or_from_slice_get plan k p p is)
        (all k p (slice_get_within plan k p is))
