-- Where both sides have two trades, no lower position is toggled in a close bundle.
use Rattle.std.proofs.Common.{◌≡◌, ◌≢◌, ℕ, ◌^◌, ◌<◌, ◌≤◌, Bool, true, false, not, refl, sym, ap, ◌∙◌, arith, ◌⊎◌, inl, inr, if◌then◌else◌}
use Rattle.std.proofs.lemmas.Bool.{cases_lt}
use Rattle.tn_base.specs.Sets.{has}
use Rattle.tn_base.specs.Firm.{Firm, HasOwnBundles}
use Rattle.tn_base.proofs.SetLemmas.{same_below}
use Rattle.tn_firm_laws.specs.Places.{trade_level}
use Rattle.tn_firm_laws.specs.Close.{AreClose}
use Rattle.tn_exchange.specs.TestOrder.{Triple, TripleFails}
use Rattle.tn_exchange.specs.Verdicts.{IsVerdictOn}
use Rattle.tn_exchange.specs.declared.verdict.Verdict.{Verdict}
use Rattle.tn_exchange.specs.declared.verdict.Verdict.TheVariants.{Holds, Fails as Failed}
use Rattle.tn_local.specs.Walk.{AgreesFrom, IsReached, OfClose}
use Rattle.tn_local.specs.declared.walk.Sides.{Sides}
use Rattle.tn_local.proofs.WalkLemmas.{far_by_up, far_by_down}

-- a digit is that of x, or the other one
same_or_not : (a b : Bool) → (a ≡ b) ⊎ (a ≡ not b)
same_or_not true true = inl refl
same_or_not true false = inr refl
same_or_not false true = inr refl
same_or_not false false = inl refl

-- a level by what is bought and what is there
abbrev level_by : Bool → Bool → ℕ
level_by bought there = if bought then (if there then 1 else 0) else (if there then 0 else 1)

level_cases : (buys x j : ℕ) → (trade_level buys x j ≡ 1) ⊎ (trade_level buys x j ≡ 0)
unfolding trade_level
level_cases buys x j = by (has buys j) (has x j)
  where
    by : (b h : Bool) → (level_by b h ≡ 1) ⊎ (level_by b h ≡ 0)
    by true true = inl refl
    by true false = inr refl
    by false true = inr refl
    by false false = inl refl

module _ (n buys x y k : ℕ) (sides : Sides) (x_own : x < 2 ^ n) (reached : IsReached n buys x y k sides)
    (up : sides.up.second < n) (down : sides.down.second < n) where
  -- a close bundle that agrees with y from k on has no other digit below
  no_other : (z j : ℕ) → z < 2 ^ n → AgreesFrom k y z → AreClose buys x z → j < k → has z j ≡ not (has x j) → ⊥
  no_other z j z_own agrees close below other = elim (level_cases buys x j) [
    | inl high ↦
        let order = reached.up.order up in
        let from = reached.up.second.from up in
        far_by_up n buys x z sides.up.first sides.up.second j x_own z_own order.1 order.0 (omega (arith, below, from))
        (reached.up.first.level_is order.1) (reached.up.second.level_is up) high
        (differs sides.up.first order.1 (reached.up.first.from order.1) (reached.up.first.differs order.1))
        (differs sides.up.second up from (reached.up.second.differs up)) other close
    | inr low ↦
        let order = reached.down.order down in
        let from = reached.down.second.from down in
        far_by_down n buys x z sides.down.first sides.down.second j x_own z_own order.1 order.0
        (omega (arith, below, from))
        (reached.down.first.level_is order.1) (reached.down.second.level_is down) low
        (differs sides.down.first order.1 (reached.down.first.from order.1) (reached.down.first.differs order.1))
        (differs sides.down.second down from (reached.down.second.differs down)) other close
  ]
    where
      differs : (p : ℕ) → p < n → k ≤ p → has y p ≡ not (has x p) → has z p ≡ not (has x p)
      differs p place from is = agrees p from ∙ is

  -- y has x's digits there
  as_x : (j : ℕ) → j < k → j < n → has y j ≡ has x j
  as_x j below place =
      reached.same j place (apart sides.up.first (reached.up.order up).1 reached.up.first.from)
      (apart sides.up.second up reached.up.second.from)
      (apart sides.down.first (reached.down.order down).1 reached.down.first.from)
      (apart sides.down.second down reached.down.second.from)
    where
      apart : (p : ℕ) → p < n → (p < n → k ≤ p) → j ≢ p
      apart p trade from e = let h = from trade in omega (arith, h, e, below)

  -- so it is y
  pub only_itself : (z : ℕ) → z < 2 ^ n → AgreesFrom k y z → AreClose buys x z → z ≡ y
  only_itself z z_own agrees close = same_below z y n z_own reached.own (λ j h. elim (cases_lt j k) [
    | inr from ↦ agrees j from
    | inl below ↦ elim (same_or_not (has z j) (has x j)) [
      | inl same ↦ same ∙ sym (as_x j below h)
      | inr other ↦ absurd (no_other z j z_own agrees close below other)
    ]
  ])

-- the verdict on y is that on all close bundles that agree with it from k on
pub full_verdict : (firm : Firm) → HasOwnBundles firm → (x y k : ℕ) (sides : Sides) (v : Verdict) → x < 2 ^ firm.count
    → IsReached firm.count firm.buys x y k sides → sides.up.second < firm.count → sides.down.second < firm.count
    → IsVerdictOn firm (OfClose firm x y 0) v → IsVerdictOn firm (OfClose firm x y k) v
full_verdict firm own x y k sides v x_own reached up down on = by v on
  where
    all : (s : Triple) → TripleFails firm s → OfClose firm x y k s → OfClose firm x y 0 s
    all s f within =
        let same = only_itself firm.count firm.buys x y k sides x_own reached up down s.y (own s.y f.second f.second_is)
        within.1.0 within.1.1 in
        (within.0, ((λ j h. ap (λ (z : ℕ). has z j) same), within.1.1))

    by : (v : Verdict) → IsVerdictOn firm (OfClose firm x y 0) v → IsVerdictOn firm (OfClose firm x y k) v
    by Holds on = λ s within f. on s (all s f within) f
    by (Failed a b at) on = record {
      is_in = (on.is_in.0, ((λ j h. on.is_in.1.0 j (omega arith)), on.is_in.1.1));
      fails = on.fails;
      first = λ s within earlier f. on.first s (all s f within) earlier f;
    }
