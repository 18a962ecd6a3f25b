-- A dealer's worths are those of least matchings.
use Rattle.std.proofs.Common.{◌≡◌, ◌≢◌, ℕ, zero, suc, Bool, true, false, not, refl, sym, ap, ◌∙◌, subst, arith, inl, inr, if◌then◌else◌, List, [], ◌∷◌, length, Option, Some, None, ℤ, pos, neg_ℤ, ◌-ℤ◌}
use Rattle.std.proofs.lemmas.Int.{ints}
use Rattle.std.proofs.lemmas.Bool.{cases_eq, cases_Bool, false≢true}
use Rattle.std.proofs.lemmas.Option.{none-some, same_Some}
use Rattle.tn_base.specs.Sets.{has, toggle}
use Rattle.tn_base.specs.Table.{buys_of}
use Rattle.tn_base.proofs.SetLemmas.{same_set, has-zero, has-toggle_same, has-toggle_other}
use Rattle.tn_dealer.specs.declared.pair.Pair.{Pair}
use Rattle.tn_dealer.specs.Pairs.{matched_worth, IsOwnPair}
use Rattle.tn_dealer.specs.Matchings.{Joins, Matches, IsMatching, matching_cost, IsWorthOfLeast}
use Rattle.tn_dealer.specs.MatchingLaw.{DealersMatch}
use Rattle.tn_firm_laws.specs.Worths.{IsWorth}
use Rattle.tn_dealer.specs.WorthLemmas.{AreOwnPairs, own_pairs, own_rest, matched_left, matched_right, matched_from, matched_none, matched_empty}

-- the chosen places of a list with one pair more in front
abbrev pub with_first : Bool → (ℕ → Bool) → ℕ → Bool
with_first b chosen zero = b
with_first b chosen (suc k) = chosen k

-- the same pair, counted from the pair in front or from behind it
up : (pair : Pair) (pairs : List Pair) (chosen : ℕ → Bool) (k t : ℕ) → Matches pairs (λ j. chosen (suc j)) k t
    → Matches (pair ∷ pairs) chosen (suc k) t
up pair pairs chosen k t m = record { pair = m.pair; is_chosen = m.is_chosen; pair_is = m.pair_is; joins = m.joins }

down : (pair : Pair) (pairs : List Pair) (chosen : ℕ → Bool) (k t : ℕ) → Matches (pair ∷ pairs) chosen (suc k) t
    → Matches pairs (λ j. chosen (suc j)) k t
down pair pairs chosen k t m = record { pair = m.pair; is_chosen = m.is_chosen; pair_is = m.pair_is; joins = m.joins }

same_place : (j k : ℕ) → suc j ≡ suc k → j ≡ k
same_place j k e = omega (arith, e)

chosen_no : (b : Bool) → b ≡ false → b ≡ true → ⊥
chosen_no b p q = false≢true (sym p ∙ q)

no_match : (chosen : ℕ → Bool) (k t : ℕ) → Matches [] chosen k t → ⊥
no_match chosen k t m = none-some m.pair m.pair_is

-- ---- the two trades of a pair

abbrev pub left : Pair → ℕ → ℕ
left pair x = toggle (toggle x pair.buy) pair.sell

-- both trades of the pair are there, and they are two
pub record HasBoth (pair : Pair) (x : ℕ) : Type 0 where
  pub has_buy : has x pair.buy ≡ true
  pub has_sell : has x pair.sell ≡ true
  pub apart : pair.buy ≢ pair.sell

left_buy : (pair : Pair) (x : ℕ) → HasBoth pair x → has (left pair x) pair.buy ≡ false
left_buy pair x both = has-toggle_other (toggle x pair.buy) pair.sell pair.buy both.apart ∙ has-toggle_same x pair.buy
    ∙ ap not both.has_buy

left_sell : (pair : Pair) (x : ℕ) → HasBoth pair x → has (left pair x) pair.sell ≡ false
left_sell pair x both =
    has-toggle_same (toggle x pair.buy) pair.sell ∙ ap not
    (has-toggle_other x pair.buy pair.sell (λ e. both.apart (sym e)) ∙ both.has_sell)

left_other : (pair : Pair) (x t : ℕ) → t ≢ pair.buy → t ≢ pair.sell → has (left pair x) t ≡ has x t
left_other pair x t p q = has-toggle_other (toggle x pair.buy) pair.sell t q ∙ has-toggle_other x pair.buy t p

-- a trade of what is left is no trade of the pair
left_apart : (pair : Pair) (x t : ℕ) → HasBoth pair x → has (left pair x) t ≡ true → Joins pair t → ⊥
left_apart pair x t both there (inl e) =
    chosen_no (has (left pair x) t) (ap (has (left pair x)) (sym e) ∙ left_buy pair x both) there
left_apart pair x t both there (inr e) =
    chosen_no (has (left pair x) t) (ap (has (left pair x)) (sym e) ∙ left_sell pair x both) there

left_there : (pair : Pair) (x t : ℕ) → HasBoth pair x → has (left pair x) t ≡ true → has x t ≡ true
left_there pair x t both there =
    sym (left_other pair x t (λ e. left_apart pair x t both there (inl (sym e)))
    (λ e. left_apart pair x t both there (inr (sym e)))) ∙ there

joined_there : (pair : Pair) (x t : ℕ) → HasBoth pair x → Joins pair t → has x t ≡ true
joined_there pair x t both (inl e) = ap (has x) (sym e) ∙ both.has_buy
joined_there pair x t both (inr e) = ap (has x) (sym e) ∙ both.has_sell

-- the pair in front is the only one at its place
first_joins : (pair : Pair) (pairs : List Pair) (chosen : ℕ → Bool) (t : ℕ) → Matches (pair ∷ pairs) chosen 0 t
    → Joins pair t
first_joins pair pairs chosen t m = let same : pair ≡ m.pair = same_Some pair m.pair m.pair_is in
    subst (λ p. Joins p t) (sym same) m.joins

-- ---- from a matching to the worth

rest_without : (pair : Pair) (pairs : List Pair) (x : ℕ) (chosen : ℕ → Bool) → chosen 0 ≡ false
    → IsMatching (pair ∷ pairs) x chosen
    → IsMatching pairs x (λ k. chosen (suc k))
rest_without pair pairs x chosen unpicked matching = record {
  within = λ k t m. matching.within (suc k) t (up pair pairs chosen k t m);
  covered = λ t there. (let found = matching.covered t there in by t found.0 found.1);
  once = λ j k t m n. same_place j k (matching.once (suc j) (suc k) t (up pair pairs chosen j t m)
      (up pair pairs chosen k t n));
}
  where
    by : (t k : ℕ) → Matches (pair ∷ pairs) chosen k t → (j : ℕ) × Matches pairs (λ i. chosen (suc i)) j t
    by t zero m = absurd (chosen_no (chosen 0) unpicked m.is_chosen)
    by t (suc k) m = (k, down pair pairs chosen k t m)

rest_with : (pair : Pair) (pairs : List Pair) (x : ℕ) (chosen : ℕ → Bool) → chosen 0 ≡ true → HasBoth pair x
    → IsMatching (pair ∷ pairs) x chosen
    → IsMatching pairs (left pair x) (λ k. chosen (suc k))
rest_with pair pairs x chosen picked both matching = record {
  within = λ k t m. (
      let there = up pair pairs chosen k t m in
      left_other pair x t (λ e. apart k t there (inl (sym e))) (λ e. apart k t there (inr (sym e)))
      ∙ matching.within (suc k) t there);
  covered = λ t there. (let found = matching.covered t (left_there pair x t both there) in by t there found.0 found.1);
  once = λ j k t m n. same_place j k (matching.once (suc j) (suc k) t (up pair pairs chosen j t m)
      (up pair pairs chosen k t n));
}
  where
    apart : (k t : ℕ) → Matches (pair ∷ pairs) chosen (suc k) t → Joins pair t → ⊥
    apart k t m joins =
        let e : zero ≡ suc k =
        matching.once 0 (suc k) t (record { pair = pair; is_chosen = picked; pair_is = refl; joins = joins }) m in
        omega (arith, e)

    by : (t : ℕ) → has (left pair x) t ≡ true → (k : ℕ) → Matches (pair ∷ pairs) chosen k t → (j : ℕ)
        × Matches pairs (λ i. chosen (suc i)) j t
    by t there zero m = absurd (left_apart pair x t both there (first_joins pair pairs chosen t m))
    by t there (suc k) m = (k, down pair pairs chosen k t m)

both_of : (count buys : ℕ) (pair : Pair) (pairs : List Pair) (x : ℕ) (chosen : ℕ → Bool) → IsOwnPair count buys pair
    → chosen 0 ≡ true → IsMatching (pair ∷ pairs) x chosen → HasBoth pair x
both_of count buys pair pairs x chosen own picked matching = record {
  has_buy = matching.within 0 pair.buy (record { pair = pair; is_chosen = picked; pair_is = refl; joins = inl refl });
  has_sell = matching.within 0 pair.sell (record { pair = pair; is_chosen = picked; pair_is = refl; joins = inr refl });
  apart = λ e. false≢true (sym own.sold ∙ ap (has buys) (sym e) ∙ own.bought);
}

empty_of : (x : ℕ) (chosen : ℕ → Bool) → IsMatching [] x chosen → x ≡ 0
empty_of x chosen matching = same_set x 0 (λ k. elim (cases_Bool (has x k)) [
  | inl there ↦ (let found = matching.covered k there in absurd (no_match chosen found.0 k found.1))
  | inr none ↦ none ∙ sym (has-zero k)
])

-- a bundle with a matching is worth at least minus its cost
pub matching_worth : (count buys : ℕ) (pairs : List Pair) → AreOwnPairs count buys pairs → (x : ℕ) (chosen : ℕ → Bool)
    → IsMatching pairs x chosen
    → IsWorth (matched_worth pairs) x (neg_ℤ (matching_cost pairs chosen))
unfolding matching_cost
matching_worth count buys [] own x chosen matching = record {
  value = pos 0;
  is = ap (matched_worth []) (empty_of x chosen matching) ∙ matched_empty [];
  enough = omega (arith, ints);
}
matching_worth count buys (pair ∷ pairs) own x chosen matching = elim (cases_Bool (chosen 0)) [
  | inr unpicked ↦
      let rest = matching_worth count buys pairs (own_rest count buys pair pairs own) x (λ k. chosen (suc k))
      (rest_without pair pairs x chosen unpicked matching) in
      let found = matched_left pair pairs x rest.value rest.is in
      let cost : (if chosen 0 then pair.cost else pos 0) ≡ pos 0 =
      ap (λ (b : Bool). if b then pair.cost else pos 0) unpicked in
      let p = rest.enough in
      let q = found.enough in
      record { value = found.value; is = found.is; enough = omega (arith, ints, p, q, cost) }
  | inl picked ↦
      let both = both_of count buys pair pairs x chosen (own 0 pair refl) picked matching in
      let rest = matching_worth count buys pairs (own_rest count buys pair pairs own) (left pair x)
      (λ k. chosen (suc k)) (rest_with pair pairs x chosen picked both matching) in
      let found = matched_right pair pairs x rest.value both.has_buy both.has_sell rest.is in
      let cost : (if chosen 0 then pair.cost else pos 0) ≡ pair.cost =
      ap (λ (b : Bool). if b then pair.cost else pos 0) picked in
      let p = rest.enough in
      let q = found.enough in
      record { value = found.value; is = found.is; enough = omega (arith, ints, p, q, cost) }
]

-- ---- from the worth to a matching

more_without : (pair : Pair) (pairs : List Pair) (x : ℕ) (chosen : ℕ → Bool) → IsMatching pairs x chosen
    → IsMatching (pair ∷ pairs) x (with_first false chosen)
more_without pair pairs x chosen matching = record {
  within = within;
  covered = λ t there. (let found = matching.covered t there in
      (suc found.0, up pair pairs (with_first false chosen) found.0 t found.1));
  once = once;
}
  where
    within : (k t : ℕ) → Matches (pair ∷ pairs) (with_first false chosen) k t → has x t ≡ true
    within zero t m = absurd (false≢true m.is_chosen)
    within (suc k) t m = matching.within k t (down pair pairs (with_first false chosen) k t m)

    once : (j k t : ℕ) → Matches (pair ∷ pairs) (with_first false chosen) j t
        → Matches (pair ∷ pairs) (with_first false chosen) k t → j ≡ k
    once zero k t m n = absurd (false≢true m.is_chosen)
    once (suc j) zero t m n = absurd (false≢true n.is_chosen)
    once (suc j) (suc k) t m n =
        ap suc (matching.once j k t (down pair pairs (with_first false chosen) j t m)
        (down pair pairs (with_first false chosen) k t n))

more_with : (pair : Pair) (pairs : List Pair) (x : ℕ) (chosen : ℕ → Bool) → HasBoth pair x
    → IsMatching pairs (left pair x) chosen
    → IsMatching (pair ∷ pairs) x (with_first true chosen)
more_with pair pairs x chosen both matching = record { within = within; covered = covered; once = once }
  where
    first : (t : ℕ) → Joins pair t → Matches (pair ∷ pairs) (with_first true chosen) 0 t
    first t joins = record { pair = pair; is_chosen = refl; pair_is = refl; joins = joins }

    rest : (k t : ℕ) → Matches (pair ∷ pairs) (with_first true chosen) (suc k) t → has (left pair x) t ≡ true
    rest k t m = matching.within k t (down pair pairs (with_first true chosen) k t m)

    within : (k t : ℕ) → Matches (pair ∷ pairs) (with_first true chosen) k t → has x t ≡ true
    within zero t m = joined_there pair x t both (first_joins pair pairs (with_first true chosen) t m)
    within (suc k) t m = left_there pair x t both (rest k t m)

    covered : (t : ℕ) → has x t ≡ true → (k : ℕ) × Matches (pair ∷ pairs) (with_first true chosen) k t
    covered t there = elim (cases_eq t pair.buy) [
      | inl e ↦ (0, first t (inl (sym e)))
      | inr p ↦ elim (cases_eq t pair.sell) [
        | inl e ↦ (0, first t (inr (sym e)))
        | inr q ↦ (let found = matching.covered t (left_other pair x t p q ∙ there) in
            (suc found.0, up pair pairs (with_first true chosen) found.0 t found.1))
      ]
    ]

    once : (j k t : ℕ) → Matches (pair ∷ pairs) (with_first true chosen) j t
        → Matches (pair ∷ pairs) (with_first true chosen) k t → j ≡ k
    once zero zero t m n = refl
    once zero (suc k) t m n =
        absurd (left_apart pair x t both (rest k t n) (first_joins pair pairs (with_first true chosen) t m))
    once (suc j) zero t m n =
        absurd (left_apart pair x t both (rest j t m) (first_joins pair pairs (with_first true chosen) t n))
    once (suc j) (suc k) t m n =
        ap suc (matching.once j k t (down pair pairs (with_first true chosen) j t m)
        (down pair pairs (with_first true chosen) k t n))

no_pairs : IsMatching [] 0 (λ k. false)
no_pairs = record {
  within = λ k t m. absurd (no_match (λ j. false) k t m);
  covered = λ t there. absurd (chosen_no (has 0 t) (has-zero t) there);
  once = λ j k t m n. absurd (no_match (λ i. false) j t m);
}

-- a matching of x at minus this worth
pub record Attained (pairs : List Pair) (x : ℕ) (a : ℤ) : Type 0 where
  pub chosen : ℕ → Bool
  pub matching : IsMatching pairs x chosen
  pub cost : a ≡ neg_ℤ (matching_cost pairs chosen)

attained_without : (pair : Pair) (pairs : List Pair) (x : ℕ) (a : ℤ) → Attained pairs x a → Attained (pair ∷ pairs) x a
unfolding matching_cost
attained_without pair pairs x a rest = record {
  chosen = with_first false rest.chosen;
  matching = more_without pair pairs x rest.chosen rest.matching;
  cost = (let p = rest.cost in omega (arith, ints, p));
}

attained_with : (pair : Pair) (pairs : List Pair) (x : ℕ) (a v : ℤ) → HasBoth pair x → a -ℤ pair.cost ≡ v
    → Attained pairs (left pair x) a → Attained (pair ∷ pairs) x v
unfolding matching_cost
attained_with pair pairs x a v both less rest = record {
  chosen = with_first true rest.chosen;
  matching = more_with pair pairs x rest.chosen both rest.matching;
  cost = (let p = rest.cost in omega (arith, ints, p, less));
}

attained_none : (x : ℕ) (a : ℤ) → matched_worth [] x ≡ Some a → Attained [] x a
unfolding matching_cost
attained_none x a is =
    let empty = matched_none x a is in
    record {
      chosen = λ k. false;
      matching = subst (λ (z : ℕ). IsMatching [] z (λ k. false)) (sym empty.0) no_pairs;
      cost = (let p = empty.1 in omega (arith, ints, p));
    }

-- a possible bundle has a matching at minus its worth
pub worth_matching : (count buys : ℕ) (pairs : List Pair) → AreOwnPairs count buys pairs → (x : ℕ) (a : ℤ)
    → matched_worth pairs x ≡ Some a → Attained pairs x a
worth_matching count buys [] own x a is = attained_none x a is
worth_matching count buys (pair ∷ pairs) own x a is = elim (matched_from pair pairs x a is) [
  | inl p ↦ attained_without pair pairs x a (worth_matching count buys pairs (own_rest count buys pair pairs own) x a p)
  | inr q ↦
      let here = own 0 pair refl in
      attained_with pair pairs x q.value a
      (record {
        has_buy = q.has_buy;
        has_sell = q.has_sell;
        apart =
            λ e. false≢true (sym here.sold ∙ ap (has buys) (sym e) ∙ here.bought);
      }) q.less
      (worth_matching count buys pairs (own_rest count buys pair pairs own) (left pair x) q.value q.is)
]

-- ---- the law

worth_of_least : (count buys : ℕ) (pairs : List Pair) → AreOwnPairs count buys pairs → (x : ℕ)
    → IsWorthOfLeast pairs x (matched_worth pairs x)
worth_of_least count buys pairs own x = by (matched_worth pairs x) refl
  where
    by : (o : Option ℤ) → matched_worth pairs x ≡ o → IsWorthOfLeast pairs x o
    by None e = λ chosen matching. (let found = matching_worth count buys pairs own x chosen matching in
        none-some found.value (sym e ∙ found.is))
    by (Some a) e =
        let found = worth_matching count buys pairs own x a e in (
          found.chosen,
          record {
            matching = found.matching;
            least = λ other matching. (
                let worth = matching_worth count buys pairs own x other matching in
                let same : a ≡ worth.value = same_Some a worth.value (sym e ∙ worth.is) in
                let p = worth.enough in
                let q = found.cost in
                omega (arith, ints, same, p, q));
          },
          found.cost,
        )

pub dealers-match : DealersMatch
dealers-match sides pairs all = record {
  empty = matched_empty pairs;
  least = worth_of_least (length sides) (buys_of sides) pairs (own_pairs (length sides) (buys_of sides) pairs all);
}
