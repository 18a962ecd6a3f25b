-- The verdicts on the parts of the walk, put together.
use Rattle.std.proofs.Common.{◌≡◌, ℕ, zero, suc, ◌+◌, ◌-◌, ◌*◌, ◌^◌, ◌<◌, ◌≤◌, Bool, true, false, not, refl, sym, ap, ◌∙◌, subst, arith, ◌⊎◌, inl, inr}
use Rattle.std.specs.Prelude.{ℤ, None}
use Rattle.std.proofs.Math.Path.{subst₂}
use Rattle.std.proofs.lemmas.Bool.{cases_eq, cases_Bool, false≢true}
use Rattle.std.proofs.lemmas.Option.{none-some}
use Rattle.tn_base.specs.Sets.{has, toggle}
use Rattle.tn_base.specs.Firm.{Firm, HasOwnBundles}
use Rattle.tn_base.specs.Every.{HasEveryBundle}
use Rattle.tn_base.specs.Exchange.{Fails, NoneFails}
use Rattle.tn_base.proofs.SetLemmas.{has-toggle_same, has-toggle_other, same_set, has_above, has-double, has-double_one, has-double_lowest, has-double_one_lowest}
use Rattle.tn_firm_laws.specs.Close.{AreClose}
use Rattle.tn_firm_laws.proofs.ClosePairs.{close_pairs_decide}
use Rattle.tn_exchange.specs.TestOrder.{Triple, TripleFails}
use Rattle.tn_exchange.specs.Verdicts.{IfFails, IsVerdictOn, HasTotal}
use Rattle.tn_exchange.specs.declared.verdict.Verdict.{Verdict}
use Rattle.tn_exchange.specs.declared.verdict.Verdict.TheVariants.{Holds, Fails as Failed}
use Rattle.tn_local.specs.First.{HasCloseBundles, IsFirstCloseFailure}
use Rattle.tn_local.specs.Walk.{AgreesFrom, OfClose, IsReached, PairsAreEnough}
use Rattle.tn_local.specs.declared.walk.Sides.{Sides}
use Rattle.tn_local.proofs.FourLemmas.{four_close, four_hold}
use Rattle.tn_local.proofs.WalkLemmas.{reached_four, unwalked}

-- a number is twice its half, or one more
halves : (a : ℕ) → (h : ℕ) × ((a ≡ 2 * h) ⊎ (a ≡ 1 + 2 * h))
halves zero = (0, inl refl)
halves (suc a) = elim (halves a).1 [
  | inl e ↦ ((halves a).0, inr (omega (arith, e)))
  | inr e ↦ (suc (halves a).0, inl (omega (arith, e)))
]

-- the digits of half a number
has-half : (a h k : ℕ) → (a ≡ 2 * h) ⊎ (a ≡ 1 + 2 * h) → has a (suc k) ≡ has h k
has-half a h k (inl e) = ap (λ (z : ℕ). has z (suc k)) e ∙ has-double h k
has-half a h k (inr e) = ap (λ (z : ℕ). has z (suc k)) e ∙ has-double_one h k

-- of two numbers with the same digits above k the one without the digit at k is smaller
pub smaller_by_digit : (k a b : ℕ) → AgreesFrom (suc k) a b → has a k ≡ false → has b k ≡ true → a < b
smaller_by_digit zero a b agrees without with =
    let same : (halves b).0 ≡ (halves a).0 = same_set (halves b).0 (halves a).0 (λ k.
    sym (has-half b (halves b).0 k (halves b).1) ∙ agrees (suc k) (omega arith)
    ∙ has-half a (halves a).0 k (halves a).1) in
    by (halves a).1 (halves b).1 same
  where
    by : {h g : ℕ} → (a ≡ 2 * h) ⊎ (a ≡ 1 + 2 * h) → (b ≡ 2 * g) ⊎ (b ≡ 1 + 2 * g) → g ≡ h → a < b
    by {h} {g} (inr e) q same = absurd (false≢true (sym without ∙ ap (λ (z : ℕ). has z 0) e ∙ has-double_one_lowest h))
    by {h} {g} (inl e) (inl f) same =
        absurd (false≢true (sym (has-double_lowest g) ∙ sym (ap (λ (z : ℕ). has z 0) f) ∙ with))
    by {h} {g} (inl e) (inr f) same = omega (arith, e, f, same)
smaller_by_digit (suc k) a b agrees without with =
    let less : (halves a).0 < (halves b).0 = smaller_by_digit k (halves a).0 (halves b).0
    (λ j h. sym (has-half b (halves b).0 j (halves b).1) ∙ agrees (suc j) (omega (arith, h))
    ∙ has-half a (halves a).0 j (halves a).1)
    (sym (has-half a (halves a).0 k (halves a).1) ∙ without) (sym (has-half b (halves b).0 k (halves b).1) ∙ with) in
    by (halves a).1 (halves b).1 less
  where
    by : {h g : ℕ} → (a ≡ 2 * h) ⊎ (a ≡ 1 + 2 * h) → (b ≡ 2 * g) ⊎ (b ≡ 1 + 2 * g) → h < g → a < b
    by (inl e) (inl f) less = omega (arith, e, f, less)
    by (inl e) (inr f) less = omega (arith, e, f, less)
    by (inr e) (inl f) less = omega (arith, e, f, less)
    by (inr e) (inr f) less = omega (arith, e, f, less)

-- y with or without the position k, and as it was above it
pub record IsHalf (k y part : ℕ) (there : Bool) : Type 0 where
  pub above : AgreesFrom (suc k) y part
  pub here : has part k ≡ there

pub half_same : (k y : ℕ) (there : Bool) → has y k ≡ there → IsHalf k y y there
half_same k y there is = record { above = λ j h. refl; here = is }

pub half_toggled : (k y : ℕ) (there : Bool) → has y k ≡ not there → IsHalf k y (toggle y k) there
half_toggled k y there is = record {
  above = λ j h. has-toggle_other y k j (λ e. omega (arith, e, h));
  here = has-toggle_same y k ∙ ap not is ∙ twice there;
}
  where
    twice : (b : Bool) → not (not b) ≡ b
    twice true = refl
    twice false = refl

-- a triple of the whole is one of the half that its second bundle belongs to
of_half : (firm : Firm) (x y part k : ℕ) (there : Bool) → IsHalf k y part there → (s : Triple)
    → OfClose firm x y (suc k) s → has s.y k ≡ there → OfClose firm x part k s
of_half firm x y part k there half s within is = (within.0, (agrees, within.1.1))
  where
    agrees : AgreesFrom k part s.y
    agrees j h = elim (cases_eq j k) [
      | inl e ↦ subst (λ (i : ℕ). has s.y i ≡ has part i) (sym e) (is ∙ sym half.here)
      | inr d ↦ within.1.0 j (omega (arith, h, d)) ∙ sym (half.above j (omega (arith, h, d)))
    ]

-- and the other way round
of_whole : (firm : Firm) (x y part k : ℕ) (there : Bool) → IsHalf k y part there → (s : Triple)
    → OfClose firm x part k s → OfClose firm x y (suc k) s
of_whole firm x y part k there half s within =
    (within.0, ((λ j h. within.1.0 j (omega (arith, h)) ∙ half.above j h), within.1.1))

-- where no triple of the lower half fails, the verdict is that on the upper half
pub lower_holds : (firm : Firm) (x y low high k : ℕ) (v : Verdict) → IsHalf k y low false → IsHalf k y high true
    → IsVerdictOn firm (OfClose firm x low k) Holds → IsVerdictOn firm (OfClose firm x high k) v
    → IsVerdictOn firm (OfClose firm x y (suc k)) v
lower_holds firm x y low high k Holds is_low is_high none on = λ s within f. elim (cases_Bool (has s.y k)) [
  | inl there ↦ on s (of_half firm x y high k true is_high s within there) f
  | inr absent ↦ none s (of_half firm x y low k false is_low s within absent) f
]
lower_holds firm x y low high k (Failed a b at) is_low is_high none on = record {
  is_in = of_whole firm x y high k true is_high (record { x = a; y = b; at = at }) on.is_in;
  fails = on.fails;
  first = λ s within earlier f. elim (cases_Bool (has s.y k)) [
    | inl there ↦ on.first s (of_half firm x y high k true is_high s within there) earlier f
    | inr absent ↦ none s (of_half firm x y low k false is_low s within absent) f
  ];
}

-- the first failure of the lower half is that of the whole
pub lower_fails : (firm : Firm) (x y low high k : ℕ) (v : Verdict) → (v ≡ Holds → ⊥) → IsHalf k y low false
    → IsHalf k y high true
    → IsVerdictOn firm (OfClose firm x low k) v → IsVerdictOn firm (OfClose firm x y (suc k)) v
lower_fails firm x y low high k Holds failed is_low is_high on = absurd (failed refl)
lower_fails firm x y low high k (Failed a b at) failed is_low is_high on = record {
  is_in = of_whole firm x y low k false is_low (record { x = a; y = b; at = at }) on.is_in;
  fails = on.fails;
  first = λ s within earlier f. elim (cases_Bool (has s.y k)) [
    | inr absent ↦ on.first s (of_half firm x y low k false is_low s within absent) earlier f
    | inl there ↦
        let less : b < s.y = smaller_by_digit k b s.y
        (λ j h. within.1.0 j h ∙ sym (on.is_in.1.0 j (omega (arith, h)) ∙ is_low.above j h))
        (on.is_in.1.0 k (omega arith) ∙ is_low.here) there in
        elim earlier [
          | inl above ↦ absurd (omega (arith, above, within.0, on.is_in.0))
          | inr same ↦ elim same.1 [
            | inl below ↦ absurd (omega (arith, below, less))
            | inr place ↦ absurd (omega (arith, place.0, less))
          ]
        ]
  ];
}

-- the verdict on a pair is that on the triples of x and of the close bundles that agree with y everywhere, where y is
-- close
pub pair_verdict : (firm : Firm) (x y : ℕ) (v : Verdict) → AreClose firm.buys x y
    → IsVerdictOn firm (λ t. (t.x ≡ x) × (t.y ≡ y)) v → IsVerdictOn firm (OfClose firm x y 0) v
pair_verdict firm x y Holds close on = λ s within f. on s (within.0, same_set s.y y (λ k. within.1.0 k (omega arith))) f
pair_verdict firm x y (Failed a b at) close on = record {
  is_in = (
    on.is_in.0,
    (
      (λ j h. ap (λ (z : ℕ). has z j) on.is_in.1),
      subst (AreClose firm.buys x) (sym on.is_in.1) close,
    ),
  );
  fails = on.fails;
  first = λ s within earlier f. on.first s (within.0, same_set s.y y (λ k. within.1.0 k (omega arith))) earlier f;
}

-- where y isn't close, or isn't possible, there is no such triple
pub no_close : (firm : Firm) (x y : ℕ) → (AreClose firm.buys x y → ⊥) → IsVerdictOn firm (OfClose firm x y 0) Holds
no_close firm x y far =
    λ s within f. far (subst (AreClose firm.buys x) (same_set s.y y (λ k. within.1.0 k (omega arith))) within.1.1)

pub impossible_close : (firm : Firm) (x y : ℕ) → firm.worth y ≡ None → IsVerdictOn firm (OfClose firm x y 0) Holds
impossible_close firm x y none = λ s within f.
    none-some f.second (sym none ∙ ap firm.worth (sym (same_set s.y y (λ k. within.1.0 k (omega arith)))) ∙ f.second_is)

-- where no bundle of the part is close, there is none either
pub none_close : (firm : Firm) → HasOwnBundles firm → (x y k : ℕ)
    → ((z : ℕ) → z < 2 ^ firm.count → AgreesFrom k y z → AreClose firm.buys x z → ⊥)
    → IsVerdictOn firm (OfClose firm x y k) Holds
none_close firm own x y k none = λ s within f. none s.y (own s.y f.second f.second_is) within.1.0 within.1.1

-- all possible bundles agree with x above all positions
pub all_close : (firm : Firm) → HasOwnBundles firm → (x : ℕ) (v : Verdict) → x < 2 ^ firm.count
    → IsVerdictOn firm (OfClose firm x x firm.count) v
    → IsVerdictOn firm (λ t. (t.x ≡ x) × AreClose firm.buys x t.y) v
all_close firm own x Holds x_own on = λ s within f. on s (within.0, (agrees s f, within.1)) f
  where
    agrees : (s : Triple) → TripleFails firm s → AgreesFrom firm.count x s.y
    agrees s f j h = has_above s.y firm.count j (own s.y f.second f.second_is) h
        ∙ sym (has_above x firm.count j x_own h)
all_close firm own x (Failed a b at) x_own on = record {
  is_in = (on.is_in.0, on.is_in.1.1);
  fails = on.fails;
  first = λ s within earlier f. on.first s (within.0, (agrees s f, within.1)) earlier f;
}
  where
    agrees : (s : Triple) → TripleFails firm s → AgreesFrom firm.count x s.y
    agrees s f j h = has_above s.y firm.count j (own s.y f.second f.second_is) h
        ∙ sym (has_above x firm.count j x_own h)

-- the first failure of a first bundle is the first of all, where no close triple with a greater first bundle fails
pub first_close : (firm : Firm) (x : ℕ) (v : Verdict) → (v ≡ Holds → ⊥)
    → IsVerdictOn firm (λ t. (t.x ≡ x) × AreClose firm.buys x t.y) v
    → ((s : Triple) → x < s.x → HasCloseBundles firm s → TripleFails firm s → ⊥) → IfFails v (IsFirstCloseFailure firm)
first_close firm x Holds failed on none = tt
first_close firm x (Failed a b at) failed on none = record {
  is_in = subst (λ (z : ℕ). AreClose firm.buys z b) (sym on.is_in.0) on.is_in.1;
  fails = on.fails;
  first = λ s within earlier f. elim earlier [
    | inl above ↦ none s (omega (arith, above, on.is_in.0)) within f
    | inr same ↦
        let is : s.x ≡ x = same.0 ∙ on.is_in.0 in
        on.first s (is, subst (λ (z : ℕ). AreClose firm.buys z s.y) is within) (inr same) f
  ];
}

-- one first bundle more: no close triple of it fails
pub no_more_close : (firm : Firm) (k : ℕ) → ((s : Triple) → k < s.x → HasCloseBundles firm s → TripleFails firm s → ⊥)
    → ((s : Triple) → (s.x ≡ k) × AreClose firm.buys k s.y → TripleFails firm s → ⊥)
    → (s : Triple) → k ≤ s.x → HasCloseBundles firm s → TripleFails firm s → ⊥
no_more_close firm k none here s above close f = elim (cases_eq s.x k) [
  | inl e ↦ here s (e, subst (λ (z : ℕ). AreClose firm.buys z s.y) e close) f
  | inr d ↦ none s (omega (arith, above, d)) close f
]

-- no triple has a first bundle with a position that isn't own
pub none_above_close : (firm : Firm) → HasOwnBundles firm → (k : ℕ) → 2 ^ firm.count ≤ k → (s : Triple) → k ≤ s.x
    → HasCloseBundles firm s → TripleFails firm s → ⊥
none_above_close firm own k all s above close f =
    let below : s.x < 2 ^ firm.count = own s.x f.first f.first_is in
    absurd (omega (arith, below, all, above))

-- where no close triple fails, none does
pub none_fails_close : (firm : Firm) → HasOwnBundles firm → HasEveryBundle firm
    → ((s : Triple) → 0 ≤ s.x → HasCloseBundles firm s → TripleFails firm s → ⊥) → NoneFails firm
none_fails_close firm own every none =
    close_pairs_decide firm own every (λ x y at close f. none (record { x = x; y = y; at = at }) (omega arith) close f)

-- a verdict that isn't Holds has a triple that fails
pub close_not_none : (firm : Firm) (v : Verdict) → IfFails v (IsFirstCloseFailure firm) → NoneFails firm → v ≡ Holds
close_not_none firm Holds first none = refl
close_not_none firm (Failed x y at) first none = absurd (none x y at first.fails)

-- one of two places that aren't both null is a trade
pub one_is_trade : (a b n : ℕ) → a ≤ n → b ≤ n → (a ≡ n → b ≡ n → ⊥) → (a < n) ⊎ (b < n)
one_is_trade a b n a_place b_place not_both = elim (cases_eq a n) [
  | inr d ↦ inl (omega (arith, a_place, d))
  | inl e ↦ elim (cases_eq b n) [
    | inr d ↦ inr (omega (arith, b_place, d))
    | inl f ↦ absurd (not_both e f)
  ]
]

-- where the pairs of places are enough, no triple of the two bundles fails
pub pairs_hold : (firm : Firm) (x y : ℕ) (total : ℤ) (sides : Sides) → x < 2 ^ firm.count → HasTotal firm x y total
    → IsReached firm.count firm.buys x y 0 sides → (sides.up.second < firm.count) ⊎ (sides.down.second < firm.count)
    → PairsAreEnough firm x total sides → IsVerdictOn firm (λ t. (t.x ≡ x) × (t.y ≡ y)) Holds
pairs_hold firm x y total sides x_own has reached one enough = λ s within f.
    four_hold firm x y sides.up.first sides.up.second sides.down.first sides.down.second has.first has.second x_own
    reached.own has.first_is has.second_is
    (reached_four firm x y sides x_own reached one) (subst (λ (z : ℤ). PairsAreEnough firm x z sides) has.total_is
    enough) s.at
    (subst₂ (λ (a b : ℕ). Fails firm a b s.at) within.0 within.1 f)

-- the verdict on a pair that was reached
pub close_verdict : (firm : Firm) (x y : ℕ) (sides : Sides) (v : Verdict) → x < 2 ^ firm.count
    → IsReached firm.count firm.buys x y 0 sides → (sides.up.second < firm.count) ⊎ (sides.down.second < firm.count)
    → IsVerdictOn firm (λ t. (t.x ≡ x) × (t.y ≡ y)) v → IsVerdictOn firm (OfClose firm x y 0) v
close_verdict firm x y sides v x_own reached one on =
    pair_verdict firm x y v (four_close firm x y sides.up.first sides.up.second sides.down.first sides.down.second x_own
    reached.own
    (reached_four firm x y sides x_own reached one)) on

-- the halves of a step of the walk
not_below : (n buys x y k : ℕ) (sides : Sides) → k ≤ n → (k ≡ 0 → ⊥) → IsReached n buys x y k sides
    → has y (k - 1) ≡ has x (k - 1)
not_below n buys x y k sides position not_done reached =
    let e : k ≡ suc (k - 1) = omega (arith, not_done) in
    unwalked n buys x y (k - 1) sides (omega (arith, position, not_done))
    (subst (λ (m : ℕ). IsReached n buys x y m sides) e reached)

whole_at : (firm : Firm) (x y k : ℕ) (v : Verdict) → (k ≡ 0 → ⊥) → IsVerdictOn firm (OfClose firm x y (suc (k - 1))) v
    → IsVerdictOn firm (OfClose firm x y k) v
whole_at firm x y k v not_done on =
    let e : suc (k - 1) ≡ k = omega (arith, not_done) in
    subst (λ (m : ℕ). IsVerdictOn firm (OfClose firm x y m) v) e on

-- where x has the position, the bundles without it are the toggled ones
pub with_holds : (firm : Firm) (buys x y toggled k : ℕ) (sides : Sides) (v w : Verdict) → k ≤ firm.count → (k ≡ 0 → ⊥)
    → IsReached firm.count buys x y k sides → toggled ≡ toggle y (k - 1) → has x (k - 1) ≡ true → w ≡ Holds
    → IsVerdictOn firm (OfClose firm x toggled (k - 1)) w → IsVerdictOn firm (OfClose firm x y (k - 1)) v
    → IsVerdictOn firm (OfClose firm x y k) v
with_holds firm buys x y toggled k sides v w position not_done reached is there holds low high =
    let same = not_below firm.count buys x y k sides position not_done reached in
    whole_at firm x y k v not_done (lower_holds firm x y (toggle y (k - 1)) y (k - 1) v
    (half_toggled (k - 1) y false (same ∙ there)) (half_same (k - 1) y true (same ∙ there))
    (subst (IsVerdictOn firm (OfClose firm x (toggle y (k - 1)) (k - 1))) holds
    (subst (λ (z : ℕ). IsVerdictOn firm (OfClose firm x z (k - 1)) w) is low)) high)

pub with_fails : (firm : Firm) (buys x y toggled k : ℕ) (sides : Sides) (w : Verdict) → k ≤ firm.count → (k ≡ 0 → ⊥)
    → IsReached firm.count buys x y k sides → toggled ≡ toggle y (k - 1) → has x (k - 1) ≡ true → (w ≡ Holds → ⊥)
    → IsVerdictOn firm (OfClose firm x toggled (k - 1)) w → IsVerdictOn firm (OfClose firm x y k) w
with_fails firm buys x y toggled k sides w position not_done reached is there failed low =
    let same = not_below firm.count buys x y k sides position not_done reached in
    whole_at firm x y k w not_done (lower_fails firm x y (toggle y (k - 1)) y (k - 1) w failed
    (half_toggled (k - 1) y false (same ∙ there)) (half_same (k - 1) y true (same ∙ there))
    (subst (λ (z : ℕ). IsVerdictOn firm (OfClose firm x z (k - 1)) w) is low))

-- and where x lacks it, the bundles with it are
pub without_holds : (firm : Firm) (buys x y toggled k : ℕ) (sides : Sides) (v w : Verdict) → k ≤ firm.count
    → (k ≡ 0 → ⊥)
    → IsReached firm.count buys x y k sides → toggled ≡ toggle y (k - 1) → has x (k - 1) ≡ false → w ≡ Holds
    → IsVerdictOn firm (OfClose firm x y (k - 1)) w → IsVerdictOn firm (OfClose firm x toggled (k - 1)) v
    → IsVerdictOn firm (OfClose firm x y k) v
without_holds firm buys x y toggled k sides v w position not_done reached is absent holds low high =
    let same = not_below firm.count buys x y k sides position not_done reached in
    whole_at firm x y k v not_done (lower_holds firm x y y (toggle y (k - 1)) (k - 1) v
    (half_same (k - 1) y false (same ∙ absent)) (half_toggled (k - 1) y true (same ∙ absent))
    (subst (IsVerdictOn firm (OfClose firm x y (k - 1))) holds low)
    (subst (λ (z : ℕ). IsVerdictOn firm (OfClose firm x z (k - 1)) v) is high))

pub without_fails : (firm : Firm) (buys x y toggled k : ℕ) (sides : Sides) (w : Verdict) → k ≤ firm.count → (k ≡ 0 → ⊥)
    → IsReached firm.count buys x y k sides → toggled ≡ toggle y (k - 1) → has x (k - 1) ≡ false → (w ≡ Holds → ⊥)
    → IsVerdictOn firm (OfClose firm x y (k - 1)) w → IsVerdictOn firm (OfClose firm x y k) w
without_fails firm buys x y toggled k sides w position not_done reached is absent failed low =
    let same = not_below firm.count buys x y k sides position not_done reached in
    whole_at firm x y k w not_done (lower_fails firm x y y (toggle y (k - 1)) (k - 1) w failed
    (half_same (k - 1) y false (same ∙ absent)) (half_toggled (k - 1) y true (same ∙ absent)) low)
