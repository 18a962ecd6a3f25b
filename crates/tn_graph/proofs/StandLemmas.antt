-- A firm at a set of trades: which places can be raised and lowered, and what a move costs.
use Rattle.std.specs.Prelude.{IfSome}
use Rattle.std.proofs.Common.{◌≡◌, refl, ℕ, suc, ◌+◌, ◌*◌, ◌^◌, ◌<◌, ◌≤◌, Bool, true, false, ◌&&◌, Some, None, Option, option_map, sym, ap, ap₂, ◌∙◌, subst, arith, inl, inr, List, ℤ, neg_ℤ, ◌+ℤ◌, ◌-ℤ◌}
use Rattle.std.proofs.lemmas.Int.{ints}
use Rattle.std.proofs.lemmas.Bool.{cases_lt}
use mir.Syntax.{w128}
use mir.Val.{SFits}
use Rattle.tn_base.specs.Options.{both}
use Rattle.tn_base.specs.Sets.{has, toggle, set_of}
use Rattle.tn_base.specs.Arcs.{IsAtMost}
use Rattle.tn_base.specs.Firm.{Firm}
use Rattle.tn_base.specs.Widths.{most_cost}
use Rattle.tn_base.proofs.SetLemmas.{toggle_within, set_of_within}
use Rattle.tn_firm_laws.specs.Places.{toggle_at}
use Rattle.tn_firm_laws.proofs.PlaceLemmas.{toggle_at-trade, toggle_at-null}
use Rattle.tn_model.specs.declared.ends.Ends.{Ends}
use Rattle.tn_model.specs.Network.{own}
use Rattle.tn_market.specs.Graph.{loss}
use Rattle.tn_graph.specs.Reading.{IsStand, has_level, partners}

-- ---- partners of a place

-- no position is below 0
pub partners_none : (buys x asked : ℕ) (high : Bool) → 0 ≡ partners buys x asked high 0
unfolding set_of
partners_none buys x asked high = refl

-- a position of the level that is asked for is put in
pub partners_more : (buys x asked : ℕ) (high : Bool) (k found : ℕ) → found ≡ partners buys x asked high k
    → (has asked k && has_level buys x high k) ≡ true → toggle found k ≡ partners buys x asked high (k + 1)
unfolding set_of
partners_more buys x asked high k found is there =
    let next : k + 1 ≡ suc k = omega arith in
    rw (next, there) (ap (λ (z : ℕ). toggle z k) is)

-- another one isn't
pub partners_same : (buys x asked : ℕ) (high : Bool) (k found : ℕ) → found ≡ partners buys x asked high k
    → (has asked k && has_level buys x high k) ≡ false → found ≡ partners buys x asked high (k + 1)
unfolding set_of
partners_same buys x asked high k found is absent =
    let next : k + 1 ≡ suc k = omega arith in
    rw (next, absent) is

-- nor is any below 0 of all of them, and each next one is put in
pub all_none : 0 ≡ set_of (λ k. true) 0
unfolding set_of
all_none = refl

pub all_more : (k found : ℕ) → found ≡ set_of (λ k. true) k → toggle found k ≡ set_of (λ k. true) (k + 1)
unfolding set_of
all_more k found is =
    let next : k + 1 ≡ suc k = omega arith in
    rw next (ap (λ (z : ℕ). toggle z k) is)

-- ---- moves

toggle_at_within : (n x k : ℕ) → x < 2 ^ n → toggle_at n x k < 2 ^ n
toggle_at_within n x k below = elim (cases_lt k n) [
  | inl p ↦ subst (λ (y : ℕ). y < 2 ^ n) (sym (toggle_at-trade n x k p)) (toggle_within x k n below p)
  | inr p ↦ subst (λ (y : ℕ). y < 2 ^ n) (sym (toggle_at-null n x k p)) below
]

-- a bundle of a stand has own positions alone, also once it is toggled
pub toggled_own : (firms : List Firm) (trades : List Ends) (on f n : ℕ) (firm : Firm) (limit x : ℕ) (worth : ℤ)
    → IsStand firms trades on f n firm limit x worth
    → (k toggled : ℕ) → toggled ≡ toggle_at n x k → toggled < 2 ^ firm.count
toggled_own firms trades on f n firm limit x worth stand k toggled is =
    let below : x < 2 ^ n =
    subst (λ (y : ℕ). y < 2 ^ n) (sym stand.bundle_is) (set_of_within (λ k. has on (own trades f k)) n) in
    subst (λ (y : ℕ). y < 2 ^ firm.count) (sym is) (subst (λ (m : ℕ). toggle_at n x k < 2 ^ m) stand.counted
    (toggle_at_within n x k below))

-- ---- losses

pub loss_is : (firm : Firm) (x y : ℕ) (a b : ℤ) → firm.worth x ≡ Some a → firm.worth y ≡ Some b
    → Some (a -ℤ b) ≡ loss firm x y
loss_is firm x y a b x_is y_is =
    ap (λ (z : ℤ). Some z) (minus a b) ∙ sym (ap₂ (λ (p q : Option ℤ). both p (option_map neg_ℤ q)) x_is y_is)
  where
    minus : (a b : ℤ) → a -ℤ b ≡ a +ℤ neg_ℤ b
    minus a b = omega (arith, ints)

pub loss_small : (firms : List Firm) (trades : List Ends) (on f n : ℕ) (firm : Firm) (limit x : ℕ) (worth : ℤ)
    → IsStand firms trades on f n firm limit x worth
    → (b : ℤ) → IsAtMost b limit → IsAtMost (worth -ℤ b) most_cost
loss_small firms trades on f n firm limit x worth stand b within =
    apart (stand.within x worth stand.worth_is) within stand.small
  where
    apart : IsAtMost worth limit → IsAtMost b limit → 2 * limit ≤ most_cost → IsAtMost (worth -ℤ b) most_cost
    apart first second small = record {
      low = omega (arith, ints, first.low, second.high, small);
      high = omega (arith, ints, first.high, second.low, small);
    }

-- a worth of the firm is small, if it is there
pub worth_small : (firms : List Firm) (trades : List Ends) (on f n : ℕ) (firm : Firm) (limit x : ℕ) (worth : ℤ)
    → IsStand firms trades on f n firm limit x worth
    → (y : ℕ) (o : Option ℤ) → o ≡ firm.worth y → IfSome o (λ a. IsAtMost a limit)
worth_small firms trades on f n firm limit x worth stand y None is = tt
worth_small firms trades on f n firm limit x worth stand y (Some a) is = stand.within y a (sym is)

-- such a number is in the range of the code's
pub cost_fits : (z : ℤ) → IsAtMost z most_cost → SFits w128 z
cost_fits z small = let low = small.low in let high = small.high in omega (arith, ints, low, high)
