-- The costs of pairs, entered one after another.
use Rattle.std.proofs.Common.{◌≡◌, ◌≢◌, ℕ, suc, ◌+◌, ◌*◌, ◌<◌, ◌==◌, ◌||◌, Bool, true, refl, sym, ap, ◌∙◌, subst, arith, inl, inr, List, [], ◌∷◌, length, take, get_or, replicate, Some, ℤ, pos}
use Rattle.std.specs.Prelude.{◌<ℤ◌, slice_get, set, All}
use Rattle.std.specs.List.{list_any}
use Rattle.std.proofs.lemmas.Int.{ints}
use Rattle.std.proofs.lemmas.Bool.{cases_Bool, cases_eq, eq-eqb, eqb-true, and_from, and_parts, or_right, false≢true}
use Rattle.std.proofs.lemmas.Option.{same_Some, slice_get_within, get_or_from_slice_get}
use Rattle.std.proofs.lemmas.List.{length-replicate, length-set, get_or-replicate, get_or-set_same, get_or-set_other, take_all}
use Rattle.std.proofs.lemmas.List.Elements.{All-get_or}
use Rattle.std.proofs.lemmas.List.Folds.{list_any_kept, list_any_more}
use Rattle.tn_dealer.specs.declared.pair.Pair.{Pair}
use Rattle.tn_dealer.specs.Pairs.{AreUnrepeated, IsNear}
use Rattle.tn_dealer.specs.Costs.{AreCosts, AreCostsBelow, cost_at, far, is_of, place_of_pair}
use Rattle.tn_market.specs.Widths.{most_own}

pub place_inside : (buy sell : ℕ) → buy < most_own → sell < most_own → place_of_pair buy sell < most_own * most_own
place_inside buy sell p q = omega (arith, p, q)

-- no two purchases and sales have one place
one_buy : (b s b' s' : ℕ) → s < most_own → s' < most_own → place_of_pair b s ≡ place_of_pair b' s' → b ≡ b'
one_buy b s b' s' p q e = omega (arith, p, q, e)

one_sell : (b s b' s' : ℕ) → s < most_own → s' < most_own → place_of_pair b s ≡ place_of_pair b' s' → s ≡ s'
one_sell b s b' s' p q e = omega (arith, p, q, e)

pub costs_none : (pairs : List Pair) → AreCostsBelow pairs 0 (replicate (most_own * most_own) far)
costs_none pairs = record {
  counted = length-replicate (most_own * most_own) far;
  each = λ k pair below. absurd (omega (arith, below));
  only = λ buy sell p q near.
      let is : cost_at (replicate (most_own * most_own) far) buy sell ≡ far =
      get_or-replicate (most_own * most_own) (place_of_pair buy sell) far (pos 0) (place_inside buy sell p q) in
      absurd (omega (arith, ints, near, is));
}

-- pairs that are near are so at each place
pub near_at : (pairs : List Pair) → All IsNear pairs → (j : ℕ) (pair : Pair) → slice_get pairs j ≡ Some pair
    → IsNear pair
near_at pairs all j pair is = subst IsNear (get_or_from_slice_get pairs j pair pair is)
    (All-get_or IsNear pairs j pair (slice_get_within pairs j pair is) all)

-- the place of a pair with this purchase and this sale
pub record IsListed (pairs : List Pair) (buy sell : ℕ) : Type 0 where
  pub at : ℕ
  pub pair : Pair
  pub is : slice_get pairs at ≡ Some pair
  pub same_buy : pair.buy ≡ buy
  pub same_sell : pair.sell ≡ sell

listed_in : (buy sell : ℕ) (pairs : List Pair) → list_any (is_of buy sell) pairs ≡ true → IsListed pairs buy sell
listed_in buy sell [] any = absurd (false≢true any)
listed_in buy sell (pair ∷ pairs) any = elim (cases_Bool (is_of buy sell pair)) [
  | inl here ↦
      let both = and_parts (pair.buy == buy) (pair.sell == sell) here in
      record {
        at = 0;
        pair = pair;
        is = refl;
        same_buy = eqb-true pair.buy buy both.0;
        same_sell = eqb-true pair.sell sell both.1;
      }
  | inr not_here ↦
      let later = listed_in buy sell pairs (sym (ap (λ (b : Bool). b || list_any (is_of buy sell) pairs) not_here) ∙ any)
      in
      record {
        at = suc later.at;
        pair = later.pair;
        is = later.is;
        same_buy = later.same_buy;
        same_sell = later.same_sell;
      }
]

-- what isn't far is the cost of a pair
pub listed_at : (pairs : List Pair) (costs : List ℤ) → AreCosts pairs costs → (buy sell : ℕ) → buy < most_own
    → sell < most_own → cost_at costs buy sell <ℤ far → IsListed pairs buy sell
listed_at pairs costs are buy sell p q low = listed_in buy sell pairs
    (sym (ap (list_any (is_of buy sell)) (take_all (length pairs) pairs (omega arith))) ∙ are.only buy sell p q low)

pub listed_cost : (pairs : List Pair) (costs : List ℤ) → AreCosts pairs costs → (buy sell : ℕ)
    → (listed : IsListed pairs buy sell) → listed.pair.cost ≡ cost_at costs buy sell
listed_cost pairs costs are buy sell listed =
    sym (are.each listed.at listed.pair (slice_get_within pairs listed.at listed.pair listed.is) listed.is)
    ∙ ap (λ (b : ℕ). cost_at costs b listed.pair.sell) listed.same_buy
    ∙ ap (cost_at costs buy) listed.same_sell

-- with one more pair
pub costs_more : (pairs : List Pair) (k : ℕ) (pair : Pair) (costs : List ℤ) → AreUnrepeated pairs
    → slice_get pairs k ≡ Some pair
    → ((j : ℕ) (next : Pair) → slice_get pairs j ≡ Some next → IsNear next) → AreCostsBelow pairs k costs
    → AreCostsBelow pairs (k + 1) (set costs (place_of_pair pair.buy pair.sell) pair.cost)
costs_more pairs k pair costs different is near before = record {
  counted = length-set costs (place_of_pair pair.buy pair.sell) pair.cost ∙ before.counted;
  each = λ j next below next_is. elim (cases_eq j k) [
    | inl e ↦
        let same : pair ≡ next = same_Some pair next (sym is ∙ ap (slice_get pairs) (sym e) ∙ next_is) in
        subst (λ p. cost_at (set costs (place_of_pair pair.buy pair.sell) pair.cost) p.buy p.sell ≡ p.cost) same (there)
    | inr d ↦ elim (cases_eq (place_of_pair next.buy next.sell) (place_of_pair pair.buy pair.sell)) [
      | inl e ↦ absurd (different k (record {
        at = j;
        earlier = next;
        pair = pair;
        before = omega (arith, below, d);
        earlier_is = next_is;
        pair_is = is;
        same_buy = one_buy next.buy next.sell pair.buy pair.sell (near j next next_is).sell (near k pair is).sell e;
        same_sell = one_sell next.buy next.sell pair.buy pair.sell (near j next next_is).sell (near k pair is).sell e;
      }))
      | inr apart ↦ elsewhere next.buy next.sell apart ∙ before.each j next (omega (arith, below, d)) next_is
    ]
  ];
  only = λ buy sell p q low. elim (cases_eq (place_of_pair buy sell) (place_of_pair pair.buy pair.sell)) [
    | inl e ↦
        let same_buy = sym (one_buy buy sell pair.buy pair.sell q (near k pair is).sell e) in
        let same_sell = sym (one_sell buy sell pair.buy pair.sell q (near k pair is).sell e) in
        list_any_more (is_of buy sell) pairs k pair (slice_get_within pairs k pair is)
        ∙ or_right (list_any (is_of buy sell) (take k pairs)) (is_of buy sell (get_or pairs k pair))
        (ap (is_of buy sell) (get_or_from_slice_get pairs k pair pair is)
        ∙ and_from (pair.buy == buy) (pair.sell == sell) (eq-eqb pair.buy buy same_buy)
        (eq-eqb pair.sell sell same_sell))
    | inr apart ↦ list_any_kept (is_of buy sell) pairs k
        (before.only buy sell p q (subst (λ (z : ℤ). z <ℤ far) (elsewhere buy sell apart) low))
  ];
}
  where
    there : cost_at (set costs (place_of_pair pair.buy pair.sell) pair.cost) pair.buy pair.sell ≡ pair.cost
    there = get_or-set_same costs (place_of_pair pair.buy pair.sell) pair.cost (pos 0)
        (let inside = place_inside pair.buy pair.sell (near k pair is).buy (near k pair is).sell in let long =
        before.counted in omega (arith, inside, long))

    elsewhere : (buy sell : ℕ) → place_of_pair buy sell ≢ place_of_pair pair.buy pair.sell
        → cost_at (set costs (place_of_pair pair.buy pair.sell) pair.cost) buy sell ≡ cost_at costs buy sell
    elsewhere buy sell apart =
        get_or-set_other costs (place_of_pair pair.buy pair.sell) (place_of_pair buy sell) pair.cost (pos 0) apart
