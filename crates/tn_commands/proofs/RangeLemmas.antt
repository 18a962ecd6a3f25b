-- From the ranges of all trades to the answer about them.
use Rattle.std.proofs.Common.{◌≡◌, ℕ, zero, suc, ◌+◌, ◌*◌, ◌<◌, ◌≤◌, ℤ, pos, neg_ℤ, List, [], ◌∷◌, ◌++◌, length, map, slice_get, Option, None, Some, sym, ap, ◌∙◌, subst, arith}
use Rattle.std.specs.Prelude.{All, IfSome, get_or}
use Rattle.std.proofs.lemmas.Int.{ints}
use Rattle.std.proofs.lemmas.Option.{none-some, slice_get-get_or}
use Rattle.std.proofs.lemmas.List.Elements.{All-cons, All-head, All-nil, All-tail}
use Rattle.std.proofs.Math.Nat.{mul-le-mul_right}
use Rattle.tn_base.specs.Arcs.{IsAtMost}
use Rattle.tn_base.specs.Firm.{Firm}
use Rattle.tn_base.specs.Walks.{AreDifferent}
use Rattle.tn_firm.specs.declared.value.FirmValue.{FirmValue}
use Rattle.tn_firm.specs.Firms.{firm_of}
use Rattle.tn_firm.specs.FirmLemmas.{firm_laws}
use Rattle.tn_model.specs.declared.ends.Ends.{Ends}
use Rattle.tn_model.specs.declared.range.Range.{Range}
use Rattle.tn_market.specs.Equilibrium.{IsEquilibrium}
use Rattle.tn_market.specs.Graph.{exchange_arc}
use Rattle.tn_model.specs.Network.{IsNetwork, trades_on}
use Rattle.tn_market.specs.Ranges.{AreRanges, IsPath, ShowsHighest, ShowsLowest}
use Rattle.tn_market.specs.Valued.{IsWorthAtMost}
use Rattle.tn_cycle.proofs.WalkLemmas.{AreApart, apart_from_different, few_apart, walk_inside, walk_small}
use Rattle.tn_network_laws.proofs.SupportLemmas.{arcs_small}
use Rattle.tn_network_laws.proofs.WelfareLemmas.{equilibrium_is_efficient}
use Rattle.tn_price.proofs.CycleLemmas.{arcs_between, said_inside}
use Rattle.tn_answer.specs.Kept.{HasWithinBounds, IsWithinPrices}
use Rattle.tn_commands.specs.Range.{IsRanged}
use Rattle.tn_commands.specs.Limits.{AreWorthsAnswered, most_answered_trades}
use Rattle.tn_model.specs.Limits.{most_worth_among}
use Rattle.tn_commands.proofs.SolveLemmas.{cost_within}

-- the answer
pub ranged_from : (firms : List FirmValue) (trades : List Ends) (set : ℕ) (listed : List ℕ) (prices : ℕ
    → ℤ) (ranges : List Range) (count : ℕ) → IsNetwork (map firm_of firms) trades
    → count ≡ length trades → listed ≡ trades_on set count → IsEquilibrium (map firm_of firms) trades (pos 1) set prices
    → AreRanges (map firm_of firms) trades set ranges
    → IsRanged (map firm_of firms) trades listed ranges
ranged_from firms trades set listed prices ranges count network counted list_is equilibrium each = record {
  set = set;
  on_is = list_is ∙ ap (trades_on set) counted;
  efficient = equilibrium_is_efficient (map firm_of firms) trades (pos 1) set prices network (omega (arith, ints))
      equilibrium;
  each = each;
}

-- ---- paths

front_at : (xs ys : List ℕ) (k v : ℕ) → slice_get xs k ≡ Some v → slice_get (xs ++ ys) k ≡ Some v
front_at [] ys k v e = absurd (none-some v e)
front_at (x ∷ xs) ys zero v e = e
front_at (x ∷ xs) ys (suc k) v e = front_at xs ys k v e

front_different : (xs ys : List ℕ) → AreDifferent (xs ++ ys) → AreDifferent xs
front_different xs ys different j k v at_j at_k = different j k v (front_at xs ys j v at_j) (front_at xs ys k v at_k)

all_append : (n : ℕ) (xs ys : List ℕ) → All (λ v. v < n) xs → All (λ v. v < n) ys → All (λ v. v < n) (xs ++ ys)
all_append n [] ys h k = k
all_append n (x ∷ xs) ys h k =
    All-cons (λ v. v < n) x (xs ++ ys) (All-head (λ v. v < n) x xs h)
    (all_append n xs ys (All-tail (λ v. v < n) x xs h) k)

module _ (firms : List Firm) (trades : List Ends) (on : ℕ) (network : IsNetwork firms trades) where
  inner_inside : (u w : ℕ) (nodes : List (Option ℕ)) (cost : ℤ) (path : IsPath firms trades on u w nodes cost)
      → All (λ v. v < length trades + 1) path.inner
  inner_inside u w nodes cost path =
      walk_inside (length trades + 1) (exchange_arc firms trades on) (arcs_between firms trades on) u path.inner w cost
      path.walk

  -- the nodes of a path are trades and null
  pub path_inside : (u w : ℕ) (nodes : List (Option ℕ)) (cost : ℤ) → u < length trades + 1 → w < length trades + 1
      → IsPath firms trades on u w nodes cost
      → All (λ node. IfSome node (λ t. t < length trades)) nodes
  path_inside u w nodes cost at_u at_w path =
      subst (All (λ node. IfSome node (λ t. t < length trades))) (sym path.nodes_are)
      (said_inside (length trades) ((u ∷ path.inner) ++ w ∷ [])
      (all_append (length trades + 1) (u ∷ path.inner) (w ∷ [])
      (All-cons (λ v. v < length trades + 1) u path.inner at_u (inner_inside u w nodes cost path))
      (All-cons (λ v. v < length trades + 1) w [] at_w (All-nil (λ v. v < length trades + 1)))))

  -- the cost is at most that of as many arcs as there are nodes
  path_small : (bound : ℕ) → ((f : ℕ) (firm : Firm) → slice_get firms f ≡ Some firm → IsWorthAtMost bound firm)
      → (u w : ℕ) (nodes : List (Option ℕ)) (cost : ℤ) → u < length trades + 1
      → IsPath firms trades on u w nodes cost → IsAtMost cost ((length trades + 1) * (2 * bound))
  unfolding AreApart
  path_small bound within u w nodes cost at_u path =
      let walk = walk_small (exchange_arc firms trades on) (2 * bound) (arcs_small firms trades network bound on within)
      u path.inner w cost path.walk in
      let apart = apart_from_different (u ∷ path.inner) (front_different (u ∷ path.inner) (w ∷ []) path.different) in
      let few = few_apart (length trades + 1) u path.inner at_u (inner_inside u w nodes cost path) apart.0 apart.1 in
      let more : (length path.inner + 1) * (2 * bound) ≤ (length trades + 1) * (2 * bound) =
      mul-le-mul_right (2 * bound) (omega (arith, few)) in
      wider cost ((length path.inner + 1) * (2 * bound)) ((length trades + 1) * (2 * bound)) walk more
    where
      wider : (z : ℤ) (n m : ℕ) → IsAtMost z n → n ≤ m → IsAtMost z m
      wider z n m small le = let low = small.low in let high = small.high in
          record { low = omega (arith, ints, low, high, le); high = omega (arith, ints, low, high, le) }

  -- a bound of prices is as small, whichever way its path goes
  high_small : (bound : ℕ) → ((f : ℕ) (firm : Firm) → slice_get firms f ≡ Some firm → IsWorthAtMost bound firm)
      → (t : ℕ) (high : Option ℤ) (nodes : List (Option ℕ)) → t < length trades
      → ShowsHighest firms trades on t high nodes → IfSome high (λ z. IsAtMost z ((length trades + 1) * (2 * bound)))
  high_small bound within t None nodes at_t shown = tt
  high_small bound within t (Some high) nodes at_t shown =
      path_small bound within (length trades) t nodes high (omega arith) shown

  low_small : (bound : ℕ) → ((f : ℕ) (firm : Firm) → slice_get firms f ≡ Some firm → IsWorthAtMost bound firm)
      → (t : ℕ) (low : Option ℤ) (nodes : List (Option ℕ)) → t < length trades
      → ShowsLowest firms trades on t low nodes → IfSome low (λ z. IsAtMost z ((length trades + 1) * (2 * bound)))
  low_small bound within t None nodes at_t shown = tt
  low_small bound within t (Some low) nodes at_t shown =
      turned low ((length trades + 1) * (2 * bound)) (path_small bound within t (length trades) nodes (neg_ℤ low)
      (omega (arith, at_t)) shown)
    where
      turned : (z : ℤ) (n : ℕ) → IsAtMost (neg_ℤ z) n → IsAtMost z n
      turned z n small = let low = small.low in let high = small.high in
          record { low = omega (arith, ints, low, high); high = omega (arith, ints, low, high) }

  -- the nodes of a range's paths are trades and null
  pub high_inside : (t : ℕ) (high : Option ℤ) (nodes : List (Option ℕ)) → t < length trades
      → ShowsHighest firms trades on t high nodes → All (λ node. IfSome node (λ u. u < length trades)) nodes
  high_inside t None nodes at_t shown =
      subst (All (λ node. IfSome node (λ u. u < length trades))) (sym shown)
      (All-nil (λ node. IfSome node (λ u. u < length trades)))
  high_inside t (Some high) nodes at_t shown =
      path_inside (length trades) t nodes high (omega arith) (omega (arith, at_t)) shown

  pub low_inside : (t : ℕ) (low : Option ℤ) (nodes : List (Option ℕ)) → t < length trades
      → ShowsLowest firms trades on t low nodes → All (λ node. IfSome node (λ u. u < length trades)) nodes
  low_inside t None nodes at_t shown =
      subst (All (λ node. IfSome node (λ u. u < length trades))) (sym shown)
      (All-nil (λ node. IfSome node (λ u. u < length trades)))
  low_inside t (Some low) nodes at_t shown =
      path_inside t (length trades) nodes (neg_ℤ low) (omega (arith, at_t)) (omega arith) shown

-- prices of a network of few trades of small firms are within the limit of prices
pub ranges_small : (firms : List FirmValue) (trades : List Ends) (on : ℕ) (ranges : List Range)
    → IsNetwork (map firm_of firms) trades → length trades ≤ most_answered_trades
    → AreWorthsAnswered (map firm_of firms) trades
    → AreRanges (map firm_of firms) trades on ranges → All HasWithinBounds ranges
ranges_small firms trades on ranges network few worths each k d below =
    let range = each.each k (get_or ranges k d) (slice_get-get_or ranges k d below) in
    let counted = each.one_each in
    let inside : k < length trades = omega (arith, below, counted) in
    record {
      high = narrow (get_or ranges k d).high (high_small (map firm_of firms) trades on network most worths k
          (get_or ranges k d).high (get_or ranges k d).high_path inside range.high_shown);
      low = narrow (get_or ranges k d).low (low_small (map firm_of firms) trades on network most worths k
          (get_or ranges k d).low (get_or ranges k d).low_path inside range.low_shown);
    }
  where
    most : ℕ
    most = most_worth_among (length trades)

    narrow : (bound : Option ℤ) → IfSome bound (λ z. IsAtMost z ((length trades + 1) * (2 * most)))
        → IfSome bound IsWithinPrices
    narrow None h = tt
    narrow (Some z) h = cost_within (length trades) z few h
