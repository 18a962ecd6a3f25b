-- What the sets of a market add is what the sets of each firm add as they are written.
use Rattle.std.proofs.Common.{◌≡◌, ◌≢◌, ℕ, zero, suc, ◌+◌, ◌<◌, ◌≤◌, refl, sym, ap, ◌∙◌, arith, List, [], ◌∷◌, ◌++◌, length, get_or, ℤ, pos, ◌+ℤ◌, ◌-ℤ◌, Bool, true, false, ◌==◌, if◌then◌else◌, Option, Some, None}
use Rattle.std.specs.Prelude.{negsuc, map, slice_get, All, IfSome}
use Rattle.std.specs.List.{list_any, sum_by}
use Rattle.std.specs.List.Sorted.{IsPermutation}
use Rattle.std.proofs.lemmas.Bool.{eq-eqb, ne_eqb}
use Rattle.std.proofs.lemmas.Int.{ints}
use Rattle.std.proofs.lemmas.List.Elements.{All-append, All-cons, All-head, All-map, All-nil, All-tail, All-weaker}
use Rattle.std.proofs.lemmas.List.Sorted.{All-permutation}
use Rattle.std.proofs.lemmas.Option.{none-some, same_Some, slice_get-get_or}
use Rattle.std.proofs.lemmas.List.Sums.{sum_by-cons}
use Rattle.tn_base.specs.Arcs.{IsAtMost}
use Rattle.tn_base.specs.Options.{both}
use Rattle.tn_links.specs.Totals.{total}
use Rattle.tn_links.proofs.TotalLemmas.{total-first}
use Rattle.tn_counts.specs.Counts.{AreCounts, trade_at}
use Rattle.tn_counts.specs.Laminar.{added_at, bought_by, net_count, set_number, set_sum}
use Rattle.tn_counts.specs.Widths.{most_market_units}
use Rattle.tn_counts.specs.declared.set.CountSet.{CountSet}
use Rattle.tn_counts.specs.declared.trade.UnitTrade.{UnitTrade}
use Rattle.tn_read_units.specs.Documents.{AreAroundNone, IsWrittenSet}
use Rattle.tn_read_units.specs.Firms.{WrittenFirm}
use Rattle.tn_read_units.specs.Placed.{PlacedSet, all_placed, as_placed, first_units, number_at_none, placed, placed_back, placed_steps}
use Rattle.tn_read_units.specs.Sets.{SetNumbers, WrittenSet}
use Rattle.tn_read_units.specs.Worths.{number_of, written_net, written_number, written_sum}
use Rattle.tn_read_units.proofs.NumberLemmas.{by_numbers, by_steps, level_number, number_of-first}
use Rattle.tn_read_units.proofs.SumLemmas.{sum_all, sum_all-permutation}

both-none : (z : Option ℤ) → both z (Some (pos 0)) ≡ z
both-none None = refl
both-none (Some a) = let same : a +ℤ pos 0 ≡ a = omega (arith, ints) in ap Some same

none-both : (z : Option ℤ) → both (Some (pos 0)) z ≡ z
none-both None = refl
none-both (Some a) = let same : pos 0 +ℤ a ≡ a = omega (arith, ints) in ap Some same

both-assoc : (x y z : Option ℤ) → both (both x y) z ≡ both x (both y z)
both-assoc None y z = refl
both-assoc (Some a) None z = refl
both-assoc (Some a) (Some b) None = refl
both-assoc (Some a) (Some b) (Some c) =
    let same : (a +ℤ b) +ℤ c ≡ a +ℤ (b +ℤ c) = omega (arith, ints) in ap Some same

sum_all-append : {A : Type 0} (add : A → Option ℤ) (xs ys : List A)
    → sum_all add (xs ++ ys) ≡ both (sum_all add xs) (sum_all add ys)
sum_all-append add [] ys = sym (none-both (sum_all add ys))
sum_all-append add (x ∷ xs) ys =
    ap (both (add x)) (sum_all-append add xs ys) ∙ sym (both-assoc (add x) (sum_all add xs) (sum_all add ys))

sum_all-map : {A B : Type 0} (add : B → Option ℤ) (f : A → B) (xs : List A)
    → sum_all add (map f xs) ≡ sum_all (λ x. add (f x)) xs
sum_all-map add f [] = refl
sum_all-map add f (x ∷ xs) = ap (both (add (f x))) (sum_all-map add f xs)

sum_all-none : {A : Type 0} (add : A → Option ℤ) (xs : List A) → ((x : A) → add x ≡ Some (pos 0))
    → sum_all add xs ≡ Some (pos 0)
sum_all-none add [] none = refl
sum_all-none add (x ∷ xs) none =
    ap (λ (z : Option ℤ). both z (sum_all add xs)) (none x) ∙ none-both (sum_all add xs) ∙ sum_all-none add xs none

-- what is no greater at each trade than its units sums to no more than all units
total_small : (trades : List UnitTrade) (g : ℕ → ℤ)
    → ((t : ℕ) → t < length trades → IsAtMost (g t) (trade_at trades t).units)
    → IsAtMost (total g (length trades)) (sum_by (λ trade. trade.units) trades)
unfolding total
total_small [] g small = record { low = omega (arith, ints); high = omega (arith, ints) }
total_small (trade ∷ trades) g small =
    let rest = total_small trades (λ t. g (suc t)) (λ t inside. small (suc t) (omega (arith, inside))) in
    let first = small 0 (omega arith) in
    let split = total-first g (length trades) in
    let sum = sum_by-cons (λ (t : UnitTrade). t.units) trade trades in
    record {
      low = omega (arith, ints, rest.low, first.low, split, sum);
      high = omega (arith, ints, rest.high, first.high, split, sum);
    }

bought_small : (f units most : ℕ) (trade : UnitTrade) → units ≤ most → IsAtMost (bought_by f trade (pos units)) most
bought_small f units most trade few = by (f == trade.buyer) (f == trade.seller)
  where
    by : (buys sells : Bool) → IsAtMost ((if buys then pos units else pos 0) -ℤ
        (if sells then pos units else pos 0)) most
    by true true = record { low = omega (arith, ints); high = omega (arith, ints) }
    by true false = record { low = omega (arith, ints); high = omega (arith, ints, few) }
    by false true = record { low = omega (arith, ints, few); high = omega (arith, ints) }
    by false false = record { low = omega (arith, ints); high = omega (arith, ints) }

pub net_small : (trades : List UnitTrade) (f : ℕ) (set : WrittenSet) (counts : ℕ → ℕ) → AreCounts trades counts
    → sum_by (λ trade. trade.units) trades ≤ most_market_units
    → IsAtMost (written_net trades f set counts) most_market_units
net_small trades f set counts within few =
    let small = total_small trades (λ t. if list_any (λ k. k == t) set.members.trades
    then bought_by f (trade_at trades t) (pos (counts t)) else pos 0)
    (λ t inside. by t (list_any (λ k. k == t) set.members.trades) (within t inside)) in
    record { low = omega (arith, ints, small.low, few); high = omega (arith, ints, small.high, few) }
  where
    by : (t : ℕ) (b : Bool) → counts t ≤ (trade_at trades t).units
        → IsAtMost (if b then bought_by f (trade_at trades t) (pos (counts t)) else pos 0) (trade_at trades t).units
    by t true most = bought_small f (counts t) (trade_at trades t).units (trade_at trades t) most
    by t false most = record { low = omega (arith, ints); high = omega (arith, ints) }

module _ (trades : List UnitTrade) (f : ℕ) (counts : ℕ → ℕ) (within : AreCounts trades counts)
    (few : sum_by (λ trade. trade.units) trades ≤ most_market_units) where
  placed_net : PlacedSet → ℤ
  placed_net set = total (λ t. if list_any (λ k. k == t) set.members
      then bought_by set.firm (trade_at trades t) (pos (counts t)) else pos 0) (length trades)

  placed_number : PlacedSet → Option ℤ
  placed_number set = level_number set.steps set.back set.constant (placed_net set +ℤ pos set.back)

  -- what a set adds to firm f
  placed_add : PlacedSet → Option ℤ
  placed_add set = if f == set.firm then placed_number set else Some (pos 0)

  added_is : (set : CountSet) (level : ℤ)
      → added_at set level ≡ level_number set.steps.items set.back set.constant level
  added_is set (pos level) = refl
  added_is set (negsuc k) = refl

  -- the sum over a market's sets is that over all sets alike
  set_sum_is : (sets : List CountSet) → set_sum trades f counts sets ≡ sum_all (λ set. placed_add (as_placed set)) sets
  unfolding placed_add placed_number placed_net
  set_sum_is [] = refl
  set_sum_is (set ∷ sets) = by (f == set.firm) refl (set_sum_is sets)
    where
      add : CountSet → Option ℤ
      add other = if f == other.firm then level_number other.steps.items other.back other.constant
          (net_count trades other counts +ℤ pos other.back) else Some (pos 0)

      by : (b : Bool) → (f == set.firm) ≡ b → set_sum trades f counts sets ≡ sum_all add sets
          → (if b then both (set_number trades set counts) (set_sum trades f counts sets) else set_sum trades f counts
          sets)
          ≡ both (if b then level_number set.steps.items set.back set.constant
          (net_count trades set counts +ℤ pos set.back) else Some (pos 0)) (sum_all add sets)
      by true is rest =
          ap (λ (z : Option ℤ). both z (set_sum trades f counts sets))
          (added_is set (net_count trades set counts +ℤ pos set.back))
          ∙ ap (both (level_number set.steps.items set.back set.constant
          (net_count trades set counts +ℤ pos set.back))) rest
      by false is rest = rest ∙ sym (none-both (sum_all add sets))

  number_is : (set : WrittenSet) → IfSome set.numbers AreAroundNone → placed_number (placed f set)
      ≡ written_number set (written_net trades f set counts)
  unfolding placed_number placed_net
  number_is set around =
      by set.numbers around ∙ number_of-first set.numbers set.bought set.sold most_market_units
      (written_net trades f set counts) (net_small trades f set counts within few)
    where
      by : (numbers : Option SetNumbers) → IfSome numbers AreAroundNone
          → level_number (placed_steps numbers set.bought set.sold) (placed_back numbers set.sold)
          (number_at_none numbers) (written_net trades f set counts +ℤ pos (placed_back numbers set.sold))
          ≡ number_of numbers (first_units most_market_units set.bought) (first_units most_market_units set.sold)
          (written_net trades f set counts)
      by None around =
          by_steps (first_units most_market_units set.bought) (first_units most_market_units set.sold)
          (written_net trades f set counts)
      by (Some numbers) around =
          by_numbers numbers (number_at_none (Some numbers)) (written_net trades f set counts) around.from around.inside
          refl

  own_add : (set : WrittenSet) → IfSome set.numbers AreAroundNone → placed_add (placed f set)
      ≡ written_number set (written_net trades f set counts)
  unfolding placed_add
  own_add set from =
      ap (λ (b : Bool). if b then placed_number (placed f set) else Some (pos 0)) (eq-eqb f f refl) ∙ number_is set from

  other_add : (g : ℕ) → f ≢ g → (set : WrittenSet) → placed_add (placed g set) ≡ Some (pos 0)
  unfolding placed_add
  other_add g apart set =
      ap (λ (b : Bool). if b then placed_number (placed g set) else Some (pos 0)) (ne_eqb f g apart)

  own_sum : (sets : List WrittenSet) → All (IsWrittenSet trades f) sets
      → sum_all (λ set. placed_add (placed f set)) sets ≡ written_sum trades f counts sets
  own_sum [] all = refl
  own_sum (set ∷ sets) all =
      let first = own_add set (All-head (IsWrittenSet trades f) set sets all).numbers in
      let rest = own_sum sets (All-tail (IsWrittenSet trades f) set sets all) in
      ap (λ (z : Option ℤ). both z (sum_all (λ (s : WrittenSet). placed_add (placed f s)) sets)) first
      ∙ ap (both (written_number set (written_net trades f set counts))) rest

  -- the sets of firms from one on that comes after f add nothing
  later_sum : (k : ℕ) (firms : List WrittenFirm) → f < k → sum_all placed_add (all_placed k firms) ≡ Some (pos 0)
  later_sum k [] later = refl
  later_sum k (firm ∷ firms) later =
      sum_all-append placed_add (map (placed k) firm.sets) (all_placed (suc k) firms)
      ∙ ap (λ (z : Option ℤ). both z (sum_all placed_add (all_placed (suc k) firms)))
      (sum_all-map placed_add (placed k) firm.sets
      ∙ sum_all-none (λ (s : WrittenSet). placed_add (placed k s)) firm.sets (other_add k (λ e. omega
      (arith, e, later))))
      ∙ none-both (sum_all placed_add (all_placed (suc k) firms)) ∙ later_sum (suc k) firms (omega (arith, later))

  placed_sum : (k j : ℕ) (firms : List WrittenFirm) (firm : WrittenFirm) → slice_get firms j ≡ Some firm → f ≡ k + j
      → All (IsWrittenSet trades f) firm.sets
      → sum_all placed_add (all_placed k firms) ≡ written_sum trades f counts firm.sets
  placed_sum k j [] firm is at all = absurd (none-some firm is)
  placed_sum k zero (first ∷ firms) firm is at all =
      let here : k ≡ f = omega (arith, at) in
      sum_all-append placed_add (map (placed k) first.sets) (all_placed (suc k) firms)
      ∙ ap (both (sum_all placed_add (map (placed k) first.sets))) (later_sum (suc k) firms (omega (arith, at)))
      ∙ both-none (sum_all placed_add (map (placed k) first.sets))
      ∙ ap (λ (g : ℕ). sum_all placed_add (map (placed g) first.sets)) here
      ∙ ap (λ (w : WrittenFirm). sum_all placed_add (map (placed f) w.sets)) (same_Some first firm is)
      ∙ sum_all-map placed_add (placed f) firm.sets ∙ own_sum firm.sets all
  placed_sum k (suc j) (first ∷ firms) firm is at all =
      sum_all-append placed_add (map (placed k) first.sets) (all_placed (suc k) firms)
      ∙ ap (λ (z : Option ℤ). both z (sum_all placed_add (all_placed (suc k) firms)))
      (sum_all-map placed_add (placed k) first.sets
      ∙ sum_all-none (λ (s : WrittenSet). placed_add (placed k s)) first.sets (other_add k (λ e. omega (arith, e, at))))
      ∙ none-both (sum_all placed_add (all_placed (suc k) firms))
      ∙ placed_sum (suc k) j firms firm is (omega (arith, at)) all

  -- in whatever order the sets are
  pub sets_sum : (firms : List WrittenFirm) (firm : WrittenFirm) (sets : List CountSet) → slice_get firms f ≡ Some firm
      → All (IsWrittenSet trades f) firm.sets → IsPermutation (all_placed 0 firms) (map as_placed sets)
      → set_sum trades f counts sets ≡ written_sum trades f counts firm.sets
  sets_sum firms firm sets is all same =
      set_sum_is sets ∙ sym (sum_all-map placed_add as_placed sets)
      ∙ sum_all-permutation placed_add (all_placed 0 firms) (map as_placed sets) same
      ∙ placed_sum 0 f firms firm is (omega arith) all

-- a set of a firm of the document
pub record IsOfFirm (firms : List WrittenFirm) (first : ℕ) (set : PlacedSet) : Type 0 where
  pub place : ℕ
  pub firm : WrittenFirm
  pub firm_is : slice_get firms place ≡ Some firm
  pub at : ℕ
  pub written : WrittenSet
  pub written_is : slice_get firm.sets at ≡ Some written
  pub is : set ≡ placed (first + place) written

later_firm : (firm : WrittenFirm) (firms : List WrittenFirm) (first : ℕ) (set : PlacedSet)
    → IsOfFirm firms (suc first) set → IsOfFirm (firm ∷ firms) first set
later_firm firm firms first set of = record {
  place = suc of.place;
  firm = of.firm;
  firm_is = of.firm_is;
  at = of.at;
  written = of.written;
  written_is = of.written_is;
  is = of.is ∙ ap (λ (f : ℕ). placed f of.written) (omega arith);
}

all_of_firms : (firms : List WrittenFirm) (first : ℕ) → All (IsOfFirm firms first) (all_placed first firms)
all_of_firms [] first = All-nil (IsOfFirm [] first)
all_of_firms (firm ∷ firms) first =
    All-append (IsOfFirm (firm ∷ firms) first) (map (placed first) firm.sets) (all_placed (suc first) firms)
    (All-map (IsOfFirm (firm ∷ firms) first) (placed first) firm.sets (λ k d inside. record {
      place = 0;
      firm = firm;
      firm_is = refl;
      at = k;
      written = get_or firm.sets k d;
      written_is = slice_get-get_or firm.sets k d inside;
      is = ap (λ (f : ℕ). placed f (get_or firm.sets k d)) (omega arith);
    }))
    (All-weaker (IsOfFirm firms (suc first)) (IsOfFirm (firm ∷ firms) first) (later_firm firm firms first)
    (all_placed (suc first) firms) (all_of_firms firms (suc first)))

all_from_map : {A B : Type 0} (P : B → Type 0) (f : A → B) (xs : List A) → All P (map f xs) → All (λ x. P (f x)) xs
all_from_map P f [] all = All-nil (λ x. P (f x))
all_from_map P f (x ∷ xs) all =
    All-cons (λ y. P (f y)) x xs (All-head P (f x) (map f xs) all) (all_from_map P f xs (All-tail P (f x)
    (map f xs) all))

-- each set of a market is that of a firm
pub sets_of_firms : (firms : List WrittenFirm) (sets : List CountSet)
    → IsPermutation (all_placed 0 firms) (map as_placed sets) → All (λ set. IsOfFirm firms 0 (as_placed set)) sets
sets_of_firms firms sets same =
    all_from_map (IsOfFirm firms 0) as_placed sets
    (All-permutation (IsOfFirm firms 0) (all_placed 0 firms) (map as_placed sets) same (all_of_firms firms 0))
