-- How large worths are where no pair's cost is above one amount in size: that much for each own trade.
use Rattle.std.proofs.Common.{◌≡◌, ◌≢◌, ℕ, suc, ◌+◌, ◌*◌, refl, sym, ap, ◌∙◌, subst, arith, inl, inr, List, [], ◌∷◌, length, Some, ℤ, ◌-ℤ◌}
use Rattle.std.specs.Prelude.{slice_get, All, ◌≤◌}
use Rattle.std.proofs.lemmas.Int.{ints}
use Rattle.std.proofs.lemmas.Nat.{mul-le}
use Rattle.std.proofs.lemmas.Bool.{false≢true}
use Rattle.std.proofs.lemmas.Option.{slice_get_within, get_or_from_slice_get}
use Rattle.std.proofs.lemmas.List.Elements.{All-get_or}
use Rattle.tn_base.specs.Arcs.{IsAtMost}
use Rattle.tn_base.specs.Sets.{has, toggle, size}
use Rattle.tn_base.specs.Table.{buys_of}
use Rattle.tn_base.specs.declared.side.Side.{Side}
use Rattle.tn_base.proofs.SetLemmas.{has-toggle_other}
use Rattle.tn_base.proofs.SizeLemmas.{size-toggle_out, size_le}
use Rattle.tn_market.specs.Valued.{IsWorthAtMost}
use Rattle.tn_market.proofs.AscentLemmas.{smaller}
use Rattle.tn_dealer.specs.declared.pair.Pair.{Pair}
use Rattle.tn_dealer.specs.Pairs.{matched_worth, dealing, dealer_firm, IsOwnPair}
use Rattle.tn_dealer.specs.WorthLemmas.{AreOwnPairs, own_pairs, own_rest, matched_from, matched_none, matched_own}

-- the pair at each place costs at most the amount in size
abbrev pub CostUpTo : ℕ → List Pair → Type 0
CostUpTo amount pairs = (k : ℕ) (pair : Pair) → slice_get pairs k ≡ Some pair → IsAtMost pair.cost amount

pub costs_up_to : (amount : ℕ) (pairs : List Pair) → All (λ pair. IsAtMost pair.cost amount) pairs
    → CostUpTo amount pairs
costs_up_to amount pairs all k pair is =
    subst (λ p. IsAtMost p.cost amount) (get_or_from_slice_get pairs k pair pair is)
    (All-get_or (λ p. IsAtMost p.cost amount) pairs k pair (slice_get_within pairs k pair is) all)

-- two trades less, and a cost for them
pair_within : (n size amount : ℕ) (value cost worth : ℤ) → size ≡ n + 2 → value -ℤ cost ≡ worth
    → IsAtMost value (n * amount) → IsAtMost cost amount → IsAtMost worth (size * amount)
pair_within n size amount value cost worth size_is less rest here =
    let more : size * amount ≡ n * amount + (amount + amount) = ap (λ (k : ℕ). k * amount) size_is ∙ omega arith in
    record {
      low = omega (arith, ints, more, less, rest.low, here.high);
      high = omega (arith, ints, more, less, rest.high, here.low);
    }

-- a worth is at most the amount for each trade of the bundle
pub matched_within : (count buys : ℕ) (pairs : List Pair) (amount : ℕ) → AreOwnPairs count buys pairs
    → CostUpTo amount pairs → (x : ℕ) (a : ℤ) → matched_worth pairs x ≡ Some a → IsAtMost a (size x * amount)
matched_within count buys [] amount own cheap x a is =
    let e = (matched_none x a is).1 in
    record { low = omega (arith, ints, e); high = omega (arith, ints, e) }
matched_within count buys (pair ∷ pairs) amount own cheap x a is = elim (matched_from pair pairs x a is) [
  | inl p ↦ matched_within count buys pairs amount (own_rest count buys pair pairs own) (λ k. cheap (suc k)) x a p
  | inr q ↦
      let here = own 0 pair refl in
      let apart : pair.sell ≢ pair.buy = λ e. false≢true (sym here.sold ∙ ap (has buys) e ∙ here.bought) in
      let one = size-toggle_out x pair.buy q.has_buy in
      let two = size-toggle_out (toggle x pair.buy) pair.sell (has-toggle_other x pair.buy pair.sell apart ∙ q.has_sell)
      in
      let rest = matched_within count buys pairs amount (own_rest count buys pair pairs own) (λ k. cheap (suc k))
      (toggle (toggle x pair.buy) pair.sell) q.value q.is in
      pair_within (size (toggle (toggle x pair.buy) pair.sell)) (size x) amount q.value pair.cost a
      (omega (arith, one, two)) q.less rest (cheap 0 pair refl)
]

pub dealing_within : (count buys : ℕ) (pairs : List Pair) (amount : ℕ) → AreOwnPairs count buys pairs
    → CostUpTo amount pairs → IsWorthAtMost (count * amount) (dealing count buys pairs)
dealing_within count buys pairs amount own cheap x a is =
    let few = size_le count x (matched_own count buys pairs own x a is) in
    let most : size x * amount ≤ count * amount = mul-le (size x) amount count amount few (omega arith) in
    smaller a (size x * amount) (count * amount) most (matched_within count buys pairs amount own cheap x a is)

pub dealer_within : (sides : List Side) (pairs : List Pair) (amount : ℕ)
    → All (IsOwnPair (length sides) (buys_of sides)) pairs → All (λ pair. IsAtMost pair.cost amount) pairs
    → IsWorthAtMost (length sides * amount) (dealer_firm sides pairs)
dealer_within sides pairs amount own cheap = dealing_within (length sides) (buys_of sides) pairs amount
    (own_pairs (length sides) (buys_of sides) pairs own) (costs_up_to amount pairs cheap)
