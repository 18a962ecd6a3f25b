-- The search for the first failing triple finds a table's first triple.
use Rattle.std.proofs.Common.{◌≡◌, ℕ, zero, suc, ◌^◌, ◌<◌, ◌≤◌, Bool, true, false, refl, sym, ap, ◌∙◌, subst, arith, inl, inr, length}
use Rattle.std.specs.Prelude.{Option, Some, None, nat_le, ◌==◌, if◌then◌else◌}
use Rattle.std.proofs.lemmas.Bool.{cases_eq, cases_lt, eq-eqb, eqb-true, le-leb, leb-true, or_cases, or_left, or_right}
use Rattle.std.proofs.lemmas.Option.{none-some, same_Some}
use Rattle.std.proofs.Math.Path.{subst₂}
use Rattle.tn_base.specs.Exchange.{NoneFails, Fails}
use Rattle.tn_base.specs.Table.{buys_of}
use Rattle.tn_base.proofs.ExchangeLemmas.{IsDecided}
use Rattle.tn_firm_laws.specs.Close.{AreClose, distance}
use Rattle.tn_firm_laws.proofs.ClosePairs.{close_pairs_decide}
use Rattle.tn_exchange.specs.Rows.{TableRows, firm_of_table}
use Rattle.tn_exchange.specs.TestOrder.{Triple, TripleFails, IsTestedBefore, IsEarlier}
use Rattle.tn_exchange.specs.Verdicts.{IsFirstIn}
use Rattle.tn_local.specs.First.{IsFirstTriple, IsFullIfLarge}
use Rattle.tn_exchange.proofs.RowLemmas.{own_bundles}
use Rattle.tn_exchange.proofs.DecisionLemmas.{fails_or_not}
use Rattle.tn_exchange.proofs.TestLemmas.{wrong_at_own}
use Rattle.tn_read_firms.specs.FirstFailure.{or_else, first_below, last_below, if_decided, failing, failing_at_pair, failing_at_looked, failing_from, first_failure, is_tested_pair}

module _ {A : Type 0} (find : ℕ → Option A) where
  pub first_below-none : (n : ℕ) → ((k : ℕ) → k < n → find k ≡ None) → first_below find n ≡ None
  first_below-none zero none = refl
  first_below-none (suc n) none = rw (first_below-none n (λ k h. none k (omega (arith, h))), none n (omega arith)) refl

  pub first_below-some : (n k : ℕ) (a : A) → k < n → find k ≡ Some a → ((j : ℕ) → j < k → find j ≡ None)
      → first_below find n ≡ Some a
  first_below-some zero k a h is none = absurd (omega (arith, h))
  first_below-some (suc n) k a h is none = elim (cases_eq k n) [
    | inl e ↦ rw (first_below-none n (λ j below. none j (omega (arith, below, e)))) (ap find (sym e) ∙ is)
    | inr d ↦ rw (first_below-some n k a (omega (arith, h, d)) is none) refl
  ]

  pub last_below-none : (n : ℕ) → ((k : ℕ) → k < n → find k ≡ None) → last_below find n ≡ None
  last_below-none zero none = refl
  last_below-none (suc n) none = rw (none n (omega arith), last_below-none n (λ k h. none k (omega (arith, h)))) refl

  pub last_below-some : (n k : ℕ) (a : A) → k < n → find k ≡ Some a → ((j : ℕ) → k < j → j < n → find j ≡ None)
      → last_below find n ≡ Some a
  last_below-some zero k a h is none = absurd (omega (arith, h))
  last_below-some (suc n) k a h is none = elim (cases_eq k n) [
    | inl e ↦ rw (ap find (sym e) ∙ is) refl
    | inr d ↦ rw (none n (omega (arith, h, d)) (omega arith))
        (last_below-some n k a (omega (arith, h, d)) is (λ j above below. none j above (omega (arith, below))))
  ]

-- where a search found something
pub record IsFoundAt {A : Type 0} (find : ℕ → Option A) (n k : ℕ) (a : A) : Type 0 where
  pub below : k < n
  pub is : find k ≡ Some a

module _ {A : Type 0} (find : ℕ → Option A) where
  pub first_below-all : (n : ℕ) → first_below find n ≡ None → (k : ℕ) → k < n → find k ≡ None
  first_below-all zero e k h = absurd (omega (arith, h))
  first_below-all (suc n) e k h = by_front (first_below find n) refl e (first_below-all n)
    where
      by_front : (front : Option A) → first_below find n ≡ front → or_else front (find n) ≡ None
          → (first_below find n ≡ None → (k : ℕ) → k < n → find k ≡ None) → find k ≡ None
      by_front (Some a) front_is e all = absurd cc
      by_front None front_is e all = elim (cases_eq k n) [
        | inl same ↦ ap find same ∙ e
        | inr d ↦
            all front_is k (omega (arith, h, d))
      ]

  -- what is found going up: nothing was before it
  abbrev pub FirstBelow : ℕ → A → Type 0
  FirstBelow n a = (k : ℕ) × IsFoundAt find n k a × ((j : ℕ) → j < k → find j ≡ None)

  pub first_below-found : (n : ℕ) (a : A) → first_below find n ≡ Some a → FirstBelow n a
  first_below-found zero a e = absurd cc
  first_below-found (suc n) a e = by_front (first_below find n) refl e (first_below-found n a)
    where
      by_front : (front : Option A) → first_below find n ≡ front → or_else front (find n) ≡ Some a
          → (first_below find n ≡ Some a → FirstBelow n a) → FirstBelow (suc n) a
      by_front (Some b) front_is e found = let r = found (front_is ∙ e) in
          (r.0, record { below = omega (arith, r.1.below); is = r.1.is }, r.2)
      by_front None front_is e found = (n, record { below = omega arith; is = e }, first_below-all n front_is)

  pub last_below-all : (n : ℕ) → last_below find n ≡ None → (k : ℕ) → k < n → find k ≡ None
  last_below-all zero e k h = absurd (omega (arith, h))
  last_below-all (suc n) e k h = by_last (find n) refl e (last_below-all n)
    where
      by_last : (last : Option A) → find n ≡ last → or_else last (last_below find n) ≡ None
          → (last_below find n ≡ None → (k : ℕ) → k < n → find k ≡ None) → find k ≡ None
      by_last (Some a) last_is e all = absurd cc
      by_last None last_is e all = elim (cases_eq k n) [
        | inl same ↦ ap find same ∙ last_is
        | inr d ↦
            all e k (omega (arith, h, d))
      ]

  -- what is found coming down: nothing was above it
  abbrev pub LastBelow : ℕ → A → Type 0
  LastBelow n a = (k : ℕ) × IsFoundAt find n k a × ((j : ℕ) → k < j → j < n → find j ≡ None)

  pub last_below-found : (n : ℕ) (a : A) → last_below find n ≡ Some a → LastBelow n a
  last_below-found zero a e = absurd cc
  last_below-found (suc n) a e = by_last (find n) refl e (last_below-found n a)
    where
      by_last : (last : Option A) → find n ≡ last → or_else last (last_below find n) ≡ Some a
          → (last_below find n ≡ Some a → LastBelow n a) → LastBelow (suc n) a
      by_last (Some b) last_is e found = (
        n,
        record { below = omega arith; is = last_is ∙ e },
        λ j above below. absurd (omega (arith, above, below)),
      )
      by_last None last_is e found =
          let r = found e in (
            r.0,
            record { below = omega (arith, r.1.below); is = r.1.is },
            λ j above below. elim (cases_eq j n) [
              | inl same ↦ ap find same ∙ last_is
              | inr d ↦
                  r.2 j above (omega (arith, below, d))
            ],
          )

if_decided-yes : {P : Type 0} (decided : IsDecided P) (t : Triple) → P → if_decided decided t ≡ Some t
if_decided-yes (inl fails) t p = refl
if_decided-yes (inr never) t p = absurd (never p)

if_decided-no : {P : Type 0} (decided : IsDecided P) (t : Triple) → (P → ⊥) → if_decided decided t ≡ None
if_decided-no (inl fails) t never = absurd (never fails)
if_decided-no (inr never') t never = refl

module _ (table : TableRows) where
  -- the bundles of the triple are looked at
  abbrev pub IsLookedAt : Triple → Type 0
  IsLookedAt t = is_tested_pair table t.x t.y ≡ true

  looked_few : (x y : ℕ) → length table.sides ≤ 10 → is_tested_pair table x y ≡ true
  looked_few x y few =
      or_left (nat_le (length table.sides) 10) (distance (buys_of table.sides) x y == 4)
      (le-leb (length table.sides) 10 few)

  looked_close : (x y : ℕ) → AreClose (buys_of table.sides) x y → is_tested_pair table x y ≡ true
  looked_close x y close =
      or_right (nat_le (length table.sides) 10) (distance (buys_of table.sides) x y == 4)
      (eq-eqb (distance (buys_of table.sides) x y) 4 close)

  close_looked : (x y : ℕ) → 10 < length table.sides → is_tested_pair table x y ≡ true
      → AreClose (buys_of table.sides) x y
  close_looked x y large looked =
      elim (or_cases (nat_le (length table.sides) 10) (distance (buys_of table.sides) x y == 4) looked) [
        | inl few ↦ absurd (omega (arith, leb-true (length table.sides) 10 few, large))
        | inr near ↦ eqb-true (distance (buys_of table.sides) x y) 4 near
      ]

  -- a table's first triple is the first failing one of those that are looked at
  looked_from_triple : (t : Triple) → IsFirstTriple (firm_of_table table) t
      → IsFirstIn (firm_of_table table) IsLookedAt t
  looked_from_triple t is = elim (cases_lt 10 (length table.sides)) [
    | inl large ↦
        let first = is.large large in
        record {
          is_in = looked_close t.x t.y first.is_in;
          fails = first.fails;
          first =
              λ s looked. first.first s (close_looked s.x s.y large looked);
        }
    | inr few ↦ let first = is.small few in record {
      is_in = looked_few t.x t.y few;
      fails = first.fails;
      first =
          λ s looked. first.first s;
    }
  ]

  triple_from_looked : (t : Triple) → IsFirstIn (firm_of_table table) IsLookedAt t
      → IsFirstTriple (firm_of_table table) t
  triple_from_looked t is = record {
    small = λ few. record { fails = is.fails; first = λ s. is.first s (looked_few s.x s.y few) };
    large = λ large. record {
      is_in = close_looked t.x t.y large is.is_in;
      fails = is.fails;
      first =
          λ s close. is.first s (looked_close s.x s.y close);
    };
  }

  failing-none : (x y : ℕ) (at : Option ℕ) → (TripleFails (firm_of_table table) (record { x = x; y = y; at = at }) → ⊥)
      → failing table x y at ≡ None
  failing-none x y at never = if_decided-no (fails_or_not table (record { x = x; y = y; at = at })) _ never

  failing-some : (x y : ℕ) (at : Option ℕ) → TripleFails (firm_of_table table) (record { x = x; y = y; at = at })
      → failing table x y at ≡ Some (record { x = x; y = y; at = at })
  failing-some x y at fails = if_decided-yes (fails_or_not table (record { x = x; y = y; at = at })) _ fails

  pair-none : (x y : ℕ) → ((at : Option ℕ) → TripleFails (firm_of_table table) (record { x = x; y = y; at = at }) → ⊥)
      → failing_at_pair table x y ≡ None
  pair-none x y never =
      rw (first_below-none (λ i. failing table x y (Some i)) (length table.sides)
      (λ i h. failing-none x y (Some i) (never (Some i)))) (failing-none x y None (never None))

  looked-none : (x y : ℕ) → (is_tested_pair table x y ≡ true → (at : Option ℕ)
      → TripleFails (firm_of_table table) (record { x = x; y = y; at = at }) → ⊥) → failing_at_looked table x y ≡ None
  looked-none x y never = by_test (is_tested_pair table x y) refl
    where
      by_test : (b : Bool) → is_tested_pair table x y ≡ b → (if b then failing_at_pair table x y else None) ≡ None
      by_test true looked = pair-none x y (never looked)
      by_test false other = refl

  looked-is : (x y : ℕ) → is_tested_pair table x y ≡ true → failing_at_looked table x y ≡ failing_at_pair table x y
  looked-is x y looked = ap (λ b. if b then failing_at_pair table x y else None) looked

  pub none : NoneFails (firm_of_table table) → first_failure table ≡ None
  unfolding first_failure
  none never =
      last_below-none (failing_from table) (2 ^ length table.sides)
      (λ x h. first_below-none (failing_at_looked table x) (2 ^ length table.sides)
      (λ y h. looked-none x y (λ looked at. never x y at)))

  pair-some : (x y : ℕ) (at : Option ℕ) → IsFirstIn (firm_of_table table) IsLookedAt (record { x = x; y = y; at = at })
      → failing_at_pair table x y ≡ Some (record { x = x; y = y; at = at })
  pair-some x y (Some i) is =
      let f = is.fails in
      let within : i < length table.sides =
      wrong_at_own (firm_of_table table) x y _ i (own_bundles table x f.first f.first_is)
      (own_bundles table y f.second f.second_is) f.wrong in
      let found = first_below-some (λ i. failing table x y (Some i)) (length table.sides) i _ within
      (failing-some x y (Some i) f)
      (λ j h. failing-none x y (Some j) (is.first (record { x = x; y = y; at = Some j }) is.is_in
      (inr (refl, inr (refl, h))))) in
      rw found refl
  pair-some x y None is =
      rw (first_below-none (λ i. failing table x y (Some i)) (length table.sides)
      (λ i h. failing-none x y (Some i) (is.first (record { x = x; y = y; at = Some i }) is.is_in
      (inr (refl, inr (refl, tt))))))
      (failing-some x y None is.fails)

  found_looked : (t : Triple) → IsFirstIn (firm_of_table table) IsLookedAt t → first_failure table ≡ Some t
  unfolding first_failure
  found_looked t is =
      let f = is.fails in
      last_below-some (failing_from table) (2 ^ length table.sides) t.x t (own_bundles table t.x f.first f.first_is)
      (first_below-some (failing_at_looked table t.x) (2 ^ length table.sides) t.y t
      (own_bundles table t.y f.second f.second_is) (looked-is t.x t.y is.is_in ∙ pair-some t.x t.y t.at is)
      (λ y h. looked-none t.x y (λ looked at. is.first (record { x = t.x; y = y; at = at }) looked
      (inr (refl, inl h)))))
      (λ x above below. first_below-none (failing_at_looked table x) (2 ^ length table.sides)
      (λ y h. looked-none x y (λ looked at. is.first (record { x = x; y = y; at = at }) looked (inl above))))

  pub found : (t : Triple) → IsFirstTriple (firm_of_table table) t → first_failure table ≡ Some t
  found t is = found_looked t (looked_from_triple t is)

if_decided-some : {P : Type 0} (decided : IsDecided P) (t s : Triple) → if_decided decided t ≡ Some s → P × (t ≡ s)
if_decided-some (inl fails) t s e = (fails, same_Some _ _ e)
if_decided-some (inr never) t s e = absurd cc

module _ (table : TableRows) where
  never_fails : (x y : ℕ) (at : Option ℕ) → failing table x y at ≡ None
      → TripleFails (firm_of_table table) (record { x = x; y = y; at = at }) → ⊥
  never_fails x y at none f =
      none-some _ (sym none ∙ if_decided-yes (fails_or_not table (record { x = x; y = y; at = at })) _ f)

  -- nothing fails before what is found at a pair
  pair-never : (x y : ℕ) → failing_at_pair table x y ≡ None → (at : Option ℕ)
      → TripleFails (firm_of_table table) (record { x = x; y = y; at = at }) → ⊥
  pair-never x y none at f =
      by_front (first_below (λ i. failing table x y (Some i)) (length table.sides)) refl none at f
    where
      by_front : (front : Option Triple) → first_below (λ i. failing table x y (Some i)) (length table.sides) ≡ front
          → or_else front (failing table x y None) ≡ None
          → (at : Option ℕ) → TripleFails (firm_of_table table) (record { x = x; y = y; at = at }) → ⊥
      by_front (Some t) front_is e at f = absurd cc
      by_front None front_is e None f = never_fails x y None e f
      by_front None front_is e (Some i) f =
          let within =
          wrong_at_own (firm_of_table table) x y _ i (own_bundles table x f.first f.first_is)
          (own_bundles table y f.second f.second_is) f.wrong in
          never_fails x y (Some i) (first_below-all (λ i. failing table x y (Some i)) (length table.sides) front_is i
          within) f

  looked-never : (x y : ℕ) → is_tested_pair table x y ≡ true → failing_at_looked table x y ≡ None → (at : Option ℕ)
      → TripleFails (firm_of_table table) (record { x = x; y = y; at = at }) → ⊥
  looked-never x y looked none = pair-never x y (sym (looked-is table x y looked) ∙ none)

  none_looked : first_failure table ≡ None → (t : Triple) → IsLookedAt table t → TripleFails (firm_of_table table) t → ⊥
  unfolding first_failure
  none_looked e t looked f =
      let row = last_below-all (failing_from table) (2 ^ length table.sides) e t.x
      (own_bundles table t.x f.first f.first_is) in
      let pair = first_below-all (failing_at_looked table t.x) (2 ^ length table.sides) row t.y
      (own_bundles table t.y f.second f.second_is) in
      looked-never t.x t.y looked pair t.at f

  pub holds : IsFullIfLarge (firm_of_table table) → first_failure table ≡ None → NoneFails (firm_of_table table)
  holds full e = elim (cases_lt 10 (length table.sides)) [
    | inl large ↦
        close_pairs_decide (firm_of_table table) (own_bundles table) (full large)
        (λ x y at close. none_looked e (record { x = x; y = y; at = at }) (looked_close table x y close))
    | inr few ↦ λ x y at. none_looked e (record { x = x; y = y; at = at }) (looked_few table x y few)
  ]

  -- what is found at a pair fails, and no earlier position of the pair does
  pub record IsFirstOf (x y : ℕ) (t : Triple) : Type 0 where
    pub at : Option ℕ
    pub is : record { x = x; y = y; at = at } ≡ t
    pub fails : Fails (firm_of_table table) x y at
    pub before : (earlier : Option ℕ) → IsTestedBefore earlier at → Fails (firm_of_table table) x y earlier → ⊥

  none_before_last : (x y : ℕ) → ((i : ℕ) → i < length table.sides → failing table x y (Some i) ≡ None)
      → (earlier : Option ℕ) → IsTestedBefore earlier None → Fails (firm_of_table table) x y earlier → ⊥
  none_before_last x y none (Some i) before f =
      let within =
      wrong_at_own (firm_of_table table) x y _ i (own_bundles table x f.first f.first_is)
      (own_bundles table y f.second f.second_is) f.wrong in
      never_fails x y (Some i) (none i within) f
  none_before_last x y none None before f = before

  none_before : (x y k : ℕ) → ((j : ℕ) → j < k → failing table x y (Some j) ≡ None) → (earlier : Option ℕ)
      → IsTestedBefore earlier (Some k) → Fails (firm_of_table table) x y earlier → ⊥
  none_before x y k none (Some j) before f = never_fails x y (Some j) (none j before) f
  none_before x y k none None before f = before

  pair-first : (x y : ℕ) (t : Triple) → failing_at_pair table x y ≡ Some t → IsFirstOf x y t
  pair-first x y t is = by_front (first_below (λ i. failing table x y (Some i)) (length table.sides)) refl is
    where
      by_front : (front : Option Triple) → first_below (λ i. failing table x y (Some i)) (length table.sides) ≡ front
          → or_else front (failing table x y None) ≡ Some t → IsFirstOf x y t
      by_front (Some s) front_is e =
          let r = first_below-found (λ i. failing table x y (Some i)) (length table.sides) t (front_is ∙ e) in
          let d = if_decided-some (fails_or_not table (record { x = x; y = y; at = Some r.0 })) _ t r.1.is in
          record { at = Some r.0; is = d.1; fails = d.0; before = none_before x y r.0 r.2 }
      by_front None front_is e =
          let d = if_decided-some (fails_or_not table (record { x = x; y = y; at = None })) _ t e in
          record {
            at = None;
            is = d.1;
            fails = d.0;
            before =
                none_before_last x y (first_below-all (λ i. failing table x y (Some i)) (length table.sides) front_is);
          }

  none_earlier : (x y : ℕ) (at : Option ℕ)
      → ((j : ℕ) → x < j → j < 2 ^ length table.sides → failing_from table j ≡ None)
      → ((j : ℕ) → j < y → failing_at_looked table x j ≡ None)
      → ((earlier : Option ℕ) → IsTestedBefore earlier at → Fails (firm_of_table table) x y earlier → ⊥)
      → (s : Triple) → IsLookedAt table s → IsEarlier s (record { x = x; y = y; at = at })
      → TripleFails (firm_of_table table) s → ⊥
  none_earlier x y at above below before s looked (inl greater) f =
      let row = above s.x greater (own_bundles table s.x f.first f.first_is) in
      looked-never s.x s.y looked (first_below-all (failing_at_looked table s.x) (2 ^ length table.sides) row s.y
      (own_bundles table s.y f.second f.second_is)) s.at f
  none_earlier x y at above below before s looked (inr (same_x, inl less)) f =
      looked-never s.x s.y looked (ap (λ (k : ℕ). failing_at_looked table k s.y) same_x ∙ below s.y less) s.at f
  none_earlier x y at above below before s looked (inr (same_x, inr (same_y, earlier))) f =
      before s.at earlier (subst₂ (λ (a b : ℕ). Fails (firm_of_table table) a b s.at) same_x same_y f)

  looked_and_failing : (x y : ℕ) (t : Triple) → failing_at_looked table x y ≡ Some t → (is_tested_pair table x y ≡ true)
      × (failing_at_pair table x y ≡ Some t)
  looked_and_failing x y t is = by_test (is_tested_pair table x y) refl is
    where
      by_test : (b : Bool) → is_tested_pair table x y ≡ b → (if b then failing_at_pair table x y else None) ≡ Some t
          → (is_tested_pair table x y ≡ true) × (failing_at_pair table x y ≡ Some t)
      by_test true looked is = (looked, is)
      by_test false other is = absurd (none-some t is)

  pub first_looked : (t : Triple) → first_failure table ≡ Some t → IsFirstIn (firm_of_table table) (IsLookedAt table) t
  unfolding first_failure
  first_looked t e =
      let row = last_below-found (failing_from table) (2 ^ length table.sides) t e in
      let pair = first_below-found (failing_at_looked table row.0) (2 ^ length table.sides) t row.1.is in
      let met = looked_and_failing row.0 pair.0 t pair.1.is in
      let at = pair-first row.0 pair.0 t met.1 in
      subst (IsFirstIn (firm_of_table table) (IsLookedAt table)) at.is (record {
        is_in = met.0;
        fails =
            at.fails;
        first = none_earlier row.0 pair.0 at.at row.2 pair.2 at.before;
      })

  pub first : (t : Triple) → first_failure table ≡ Some t → IsFirstTriple (firm_of_table table) t
  first t e = triple_from_looked table t (first_looked t e)
