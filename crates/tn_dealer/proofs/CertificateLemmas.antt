-- What a certificate shows, and what the definition says pair by pair.
use Rattle.std.proofs.Common.{◌≡◌, ◌≢◌, ℕ, zero, suc, ◌+◌, ◌*◌, ◌^◌, ◌<◌, ◌&&◌, Bool, true, false, not, refl, sym, ap, ◌∙◌, subst, arith, add-one, inl, inr, if◌then◌else◌, List, [], ◌∷◌, length, get_or, drop, drop-cons, Option, Some, None, ℤ, pos, neg_ℤ, ◌+ℤ◌, ◌-ℤ◌}
use Rattle.std.specs.Prelude.{◌≤ℤ◌, ◌<ℤ◌, slice_get, option_map, IfSome}
use Rattle.std.proofs.lemmas.Int.{ints}
use Rattle.std.proofs.lemmas.Bool.{cases_eq, false≢true}
use Rattle.std.proofs.lemmas.Option.{none-some, same_Some, slice_get_within, get_or_from_slice_get}
use mir.Syntax.{w32, w128}
use mir.Val.{SFits, of_z, to_z}
use Rattle.tn_base.specs.Arcs.{IsAtMost}
use Rattle.tn_base.specs.Sets.{has, toggle, meet, minus, sum_over}
use Rattle.tn_base.proofs.SetLemmas.{has-meet, has-minus, has-toggle_same, has-toggle_other, toggle-toggle, toggle_comm}
use Rattle.tn_base.specs.Firm.{net}
use Rattle.tn_base.proofs.FirmLemmas.{net-zero, net-toggle_buy_out, net-toggle_sell_out}
use Rattle.tn_base.proofs.SizeLemmas.{size_le}
use Rattle.tn_base.proofs.SumLemmas.{sum_over-empty, sum_over-toggle_out}
use Rattle.tn_market.specs.Reduced.{greater}
use Rattle.tn_dealer.specs.declared.pair.Pair.{Pair}
use Rattle.tn_dealer.specs.Pairs.{matched_worth, IsOwnPair}
use Rattle.tn_dealer.specs.Certificates.{bound_of, KeepsPairs, KeepsAt, KeepsBeside, TakesAt, MayTake}
use Rattle.tn_dealer.specs.Costs.{AreCosts, cost_at, far, place_of_pair}
use Rattle.tn_dealer.proofs.CostLemmas.{listed_at, listed_cost}
use Rattle.tn_firm_laws.specs.Worths.{IsWorth}
use Rattle.tn_dealer.specs.WorthLemmas.{AreOwnPairs, Paired, own_rest, matched_left, matched_right, matched_from, matched_none, matched_empty}
use Rattle.tn_dealer.specs.WithinLemmas.{matched_within}
use Rattle.tn_market.specs.Widths.{most_own, most_worth}
use Rattle.tn_base.specs.Widths.{most_amount}

-- ---- sums

pub sum_over-next : (c : ℕ → ℤ) (k x : ℕ) → sum_over c (k + 1) x ≡ sum_over c k x +ℤ (if has x k then c k else pos 0)
unfolding sum_over
sum_over-next c k x = rw add-one refl

pub sum_over-none : (c : ℕ → ℤ) (x : ℕ) → pos 0 ≡ sum_over c 0 x
unfolding sum_over
sum_over-none c x = refl

-- ---- weak duality

-- what the numbers of a bundle may sum to: minus its worth, or 0
abbrev pub most_of : Bool → ℤ → ℤ
most_of priced a = if priced then neg_ℤ a else pos 0

most_more : (priced : Bool) (pair : Pair) (s s' b t a v : ℤ) → s' ≡ (s -ℤ b) -ℤ t → s' ≤ℤ most_of priced a
    → (b +ℤ t) ≤ℤ bound_of priced pair → a -ℤ pair.cost ≡ v
    → s ≤ℤ most_of priced v
most_more true pair s s' b t a v sum rest here less = omega (arith, ints, sum, rest, here, less)
most_more false pair s s' b t a v sum rest here less = omega (arith, ints, sum, rest, here, less)

most_none : (priced : Bool) (s a : ℤ) → s ≡ pos 0 → a ≡ pos 0 → s ≤ℤ most_of priced a
most_none true s a p q = omega (arith, ints, p, q)
most_none false s a p q = omega (arith, ints, p, q)

keeps_rest : (priced : Bool) (number : ℕ → ℤ) (x : ℕ) (pair : Pair) (pairs : List Pair)
    → KeepsPairs priced number x (pair ∷ pairs) → KeepsPairs priced number x pairs
keeps_rest priced number x pair pairs keeps k next is = keeps (suc k) next is

-- a bundle without a pair has no other trades
left_there : (pair : Pair) (x t : ℕ) → has x pair.buy ≡ true → has x pair.sell ≡ true
    → has (toggle (toggle x pair.buy) pair.sell) t ≡ true → has x t ≡ true
left_there pair x t p q there = by (has x t) refl
  where
    open_at : has x t ≡ false → has (toggle (toggle x pair.buy) pair.sell) t ≡ false
    open_at none =
        let not_buy : t ≢ pair.buy = λ e. false≢true (sym none ∙ ap (has x) e ∙ p) in
        let not_sell : t ≢ pair.sell = λ e. false≢true (sym none ∙ ap (has x) e ∙ q) in
        has-toggle_other (toggle x pair.buy) pair.sell t not_sell ∙ has-toggle_other x pair.buy t not_buy ∙ none

    by : (b : Bool) → has x t ≡ b → has x t ≡ true
    by true e = e
    by false e = absurd (false≢true (sym (open_at e) ∙ there))

keeps_left : (priced : Bool) (number : ℕ → ℤ) (pair : Pair) (x : ℕ) (pairs : List Pair) → has x pair.buy ≡ true
    → has x pair.sell ≡ true
    → KeepsPairs priced number x pairs → KeepsPairs priced number (toggle (toggle x pair.buy) pair.sell) pairs
keeps_left priced number pair x pairs p q keeps k next is buy sell =
    keeps k next is (left_there pair x next.buy p q buy) (left_there pair x next.sell p q sell)

-- the numbers of a possible bundle sum to at most minus its worth where no pair's exceed its cost, and to at most 0
-- where no pair's exceed 0
pub weak_duality : (count buys : ℕ) (priced : Bool) (number : ℕ → ℤ) (pairs : List Pair) → AreOwnPairs count buys pairs
    → (x : ℕ) (a : ℤ)
    → matched_worth pairs x ≡ Some a → KeepsPairs priced number x pairs → sum_over number count x ≤ℤ most_of priced a
weak_duality count buys priced number [] own x a is keeps =
    let empty = matched_none x a is in
    most_none priced (sum_over number count x) a (ap (sum_over number count) empty.0 ∙ sum_over-empty number count)
    empty.1
weak_duality count buys priced number (pair ∷ pairs) own x a is keeps = elim (matched_from pair pairs x a is) [
  | inl p ↦ weak_duality count buys priced number pairs (own_rest count buys pair pairs own) x a p
      (keeps_rest priced number x pair pairs keeps)
  | inr q ↦
      let here = own 0 pair refl in
      let apart : pair.sell ≢ pair.buy = λ e. false≢true (sym here.sold ∙ ap (has buys) e ∙ here.bought) in
      let one = sum_over-toggle_out number count x pair.buy here.purchase q.has_buy in
      let two = sum_over-toggle_out number count (toggle x pair.buy) pair.sell here.sale
      (has-toggle_other x pair.buy pair.sell apart ∙ q.has_sell) in
      most_more priced pair (sum_over number count x) (sum_over number count
      (toggle (toggle x pair.buy) pair.sell)) (number pair.buy) (number pair.sell) q.value a
      (omega (arith, ints, one, two))
      (weak_duality count buys priced number pairs (own_rest count buys pair pairs own)
      (toggle (toggle x pair.buy) pair.sell) q.value q.is
      (keeps_left priced number pair x pairs q.has_buy q.has_sell (keeps_rest priced number x pair pairs keeps)))
      (keeps 0 pair refl q.has_buy q.has_sell)
      q.less
]

-- ---- what a certificate shows

-- a bundle that pairs at this cost match has this cost for its worth, where its numbers sum to it
pub shows_least : (count buys : ℕ) (number : ℕ → ℤ) (pairs : List Pair) → AreOwnPairs count buys pairs
    → (x : ℕ) (cost : ℤ)
    → IsWorth (matched_worth pairs) x (neg_ℤ cost) → sum_over number count x ≡ cost → KeepsPairs true number x pairs
    → Some (neg_ℤ cost) ≡ matched_worth pairs x
shows_least count buys number pairs own x cost worth sum keeps =
    let most = weak_duality count buys true number pairs own x worth.value worth.is keeps in
    let least = worth.enough in
    let same : worth.value ≡ neg_ℤ cost = omega (arith, ints, most, least, sum) in
    sym (worth.is ∙ ap Some same)

-- a bundle whose numbers sum to more than 0 is impossible
pub shows_none : (count buys : ℕ) (number : ℕ → ℤ) (pairs : List Pair) → AreOwnPairs count buys pairs
    → (x : ℕ) → pos 0 <ℤ sum_over number count x → KeepsPairs false number x pairs → None ≡ matched_worth pairs x
shows_none count buys number pairs own x more keeps = by (matched_worth pairs x) refl
  where
    by : (o : Option ℤ) → matched_worth pairs x ≡ o → None ≡ matched_worth pairs x
    by None e = sym e
    by (Some a) e = absurd (let most = weak_duality count buys false number pairs own x a e keeps in
        omega (arith, ints, most, more))

-- ---- even bundles

-- a possible bundle has as many purchases as sales
even : (count buys : ℕ) (pairs : List Pair) → AreOwnPairs count buys pairs → (x : ℕ) (a : ℤ)
    → matched_worth pairs x ≡ Some a → net buys x ≡ pos 0
even count buys [] own x a is = ap (net buys) (matched_none x a is).0 ∙ net-zero buys
even count buys (pair ∷ pairs) own x a is = elim (matched_from pair pairs x a is) [
  | inl p ↦ even count buys pairs (own_rest count buys pair pairs own) x a p
  | inr q ↦
      let here = own 0 pair refl in
      let apart : pair.sell ≢ pair.buy = λ e. false≢true (sym here.sold ∙ ap (has buys) e ∙ here.bought) in
      let one = net-toggle_buy_out buys x pair.buy here.bought q.has_buy in
      let two = net-toggle_sell_out buys (toggle x pair.buy) pair.sell here.sold
      (has-toggle_other x pair.buy pair.sell apart ∙ q.has_sell) in
      let rest = even count buys pairs (own_rest count buys pair pairs own) (toggle (toggle x pair.buy) pair.sell)
      q.value q.is in
      omega (arith, ints, one, two, rest)
]

-- so a bundle of another net count is impossible
pub shows_uneven : (count buys : ℕ) (pairs : List Pair) → AreOwnPairs count buys pairs → (x : ℕ)
    → (net buys x ≡ pos 0 → ⊥) → None ≡ matched_worth pairs x
shows_uneven count buys pairs own x uneven = by (matched_worth pairs x) refl
  where
    by : (o : Option ℤ) → matched_worth pairs x ≡ o → None ≡ matched_worth pairs x
    by None e = sym e
    by (Some a) e = absurd (uneven (even count buys pairs own x a e))

-- ---- pairs that are taken in

pub no_pairs_taken : (pairs : List Pair) → IsWorth (matched_worth pairs) 0 (neg_ℤ (pos 0))
no_pairs_taken pairs = record { value = pos 0; is = matched_empty pairs; enough = omega (arith, ints) }

taken_left : (pair : Pair) (pairs : List Pair) (x : ℕ) (a : ℤ) → IsWorth (matched_worth pairs) x a
    → IsWorth (matched_worth (pair ∷ pairs)) x a
taken_left pair pairs x a worth =
    let found = matched_left pair pairs x worth.value worth.is in
    let p = worth.enough in
    let q = found.enough in
    record { value = found.value; is = found.is; enough = omega (arith, ints, p, q) }

taken_in : (count buys : ℕ) (pair : Pair) (pairs : List Pair) (x : ℕ) (cost : ℤ) (next : ℕ) (next_cost : ℤ)
    → IsOwnPair count buys pair
    → TakesAt pair.cost pair.buy pair.sell x cost next next_cost → IsWorth (matched_worth pairs) x (neg_ℤ cost)
    → IsWorth (matched_worth (pair ∷ pairs)) next (neg_ℤ next_cost)
taken_in count buys pair pairs x cost next next_cost own takes worth =
    let apart : pair.sell ≢ pair.buy = λ e. false≢true (sym own.sold ∙ ap (has buys) e ∙ own.bought) in
    let buy : has (toggle (toggle x pair.buy) pair.sell) pair.buy ≡ true =
    has-toggle_other (toggle x pair.buy) pair.sell pair.buy (λ e. apart (sym e)) ∙ has-toggle_same x pair.buy
    ∙ ap not takes.no_buy in
    let sell : has (toggle (toggle x pair.buy) pair.sell) pair.sell ≡ true =
    has-toggle_same (toggle x pair.buy) pair.sell ∙ ap not (has-toggle_other x pair.buy pair.sell apart ∙ takes.no_sell)
    in
    let back : toggle (toggle (toggle (toggle x pair.buy) pair.sell) pair.buy) pair.sell ≡ x =
    ap (λ (z : ℕ). toggle z pair.sell) (toggle_comm (toggle x pair.buy) pair.sell pair.buy
    ∙ ap (λ (z : ℕ). toggle z pair.sell) (toggle-toggle x pair.buy)) ∙ toggle-toggle x pair.sell in
    let found = matched_right pair pairs (toggle (toggle x pair.buy) pair.sell) worth.value buy sell
    (ap (matched_worth pairs) back ∙ worth.is) in
    let p = worth.enough in
    let q = found.enough in
    let r = takes.cost_is in
    record {
      value = found.value;
      is = ap (matched_worth (pair ∷ pairs)) takes.bundle_is ∙ found.is;
      enough =
          omega (arith, ints, p, q, r);
    }

-- the pairs from place k on, by the pair there and those after it
pub drop_at : (pairs : List Pair) (k : ℕ) (pair : Pair) → k < length pairs → slice_get pairs k ≡ Some pair
    → drop k pairs ≡ pair ∷ drop (k + 1) pairs
drop_at pairs k pair inside is =
    let there : get_or pairs k pair ≡ pair = get_or_from_slice_get pairs k pair pair is in
    drop-cons pairs k pair inside ∙ ap (λ p. p ∷ drop (suc k) pairs) there
    ∙ ap (λ (j : ℕ). pair ∷ drop j pairs) (sym (add-one k))

-- and beside the first pair of a list, which the bundle has matched
taken_beside : (first pair : Pair) (pairs : List Pair) (x : ℕ) (cost : ℤ) (next : ℕ) (next_cost value : ℤ)
    → TakesAt pair.cost pair.buy pair.sell x cost next next_cost
    → neg_ℤ cost ≤ℤ value → (q : Paired first (matched_worth pairs) x value)
    → IsWorth (matched_worth pairs) (toggle (toggle (toggle (toggle x first.buy) first.sell) pair.buy) pair.sell)
    (neg_ℤ (neg_ℤ q.value +ℤ pair.cost))
    → IsWorth (matched_worth (first ∷ pairs)) next (neg_ℤ next_cost)
taken_beside first pair pairs x cost next next_cost value takes enough q rest =
    let buy : has next first.buy ≡ true =
    ap (λ (z : ℕ). has z first.buy) takes.bundle_is ∙ has-toggle_other (toggle x pair.buy) pair.sell first.buy
    (apart first.buy pair.sell q.has_buy takes.no_sell)
    ∙ has-toggle_other x pair.buy first.buy (apart first.buy pair.buy q.has_buy takes.no_buy) ∙ q.has_buy in
    let sell : has next first.sell ≡ true =
    ap (λ (z : ℕ). has z first.sell) takes.bundle_is ∙ has-toggle_other (toggle x pair.buy) pair.sell first.sell
    (apart first.sell pair.sell q.has_sell takes.no_sell)
    ∙ has-toggle_other x pair.buy first.sell (apart first.sell pair.buy q.has_sell takes.no_buy) ∙ q.has_sell in
    let back : toggle (toggle next first.buy) first.sell
    ≡ toggle (toggle (toggle (toggle x first.buy) first.sell) pair.buy) pair.sell =
    ap (λ (z : ℕ). toggle (toggle z first.buy) first.sell) takes.bundle_is
    ∙ ap (λ (z : ℕ). toggle z first.sell) (toggle_comm (toggle x pair.buy) pair.sell first.buy)
    ∙ ap (λ (z : ℕ). toggle (toggle z pair.sell) first.sell) (toggle_comm x pair.buy first.buy)
    ∙ toggle_comm (toggle (toggle x first.buy) pair.buy) pair.sell first.sell
    ∙ ap (λ (z : ℕ). toggle z pair.sell) (toggle_comm (toggle x first.buy) pair.buy first.sell) in
    let found = matched_right first pairs next rest.value buy sell (ap (matched_worth pairs) back ∙ rest.is) in
    let p = rest.enough in
    let less = q.less in
    let more = takes.cost_is in
    let last = found.enough in
    record { value = found.value; is = found.is; enough = omega (arith, ints, p, less, more, last, enough) }
  where
    apart : (t s : ℕ) → has x t ≡ true → has x s ≡ false → t ≢ s
    apart t s there absent e = false≢true (sym absent ∙ ap (has x) (sym e) ∙ there)

-- a listed pair taken in
pub taken_listed : (count buys : ℕ) (pairs : List Pair) → AreOwnPairs count buys pairs → (k : ℕ) (pair : Pair)
    → slice_get pairs k ≡ Some pair
    → (x : ℕ) (cost : ℤ) (next : ℕ) (next_cost : ℤ) → TakesAt pair.cost pair.buy pair.sell x cost next next_cost
    → IsWorth (matched_worth pairs) x (neg_ℤ cost) → IsWorth (matched_worth pairs) next (neg_ℤ next_cost)
taken_listed count buys [] own k pair is x cost next next_cost takes worth = absurd (none-some pair is)
taken_listed count buys (first ∷ pairs) own zero pair is x cost next next_cost takes worth =
    elim (matched_from first pairs x worth.value worth.is) [
      | inl p ↦ subst (λ q. IsWorth (matched_worth (q ∷ pairs)) next (neg_ℤ next_cost)) (sym (same_Some first pair is))
          (taken_in count buys pair pairs x cost next next_cost (own 0 pair is) takes (record {
            value = worth.value;
            is =
                p;
            enough = worth.enough;
          }))
      | inr q ↦ absurd (false≢true
          (sym takes.no_buy ∙ ap (λ p. has x p.buy) (sym (same_Some first pair is)) ∙ q.has_buy))
    ]
taken_listed count buys (first ∷ pairs) own (suc k) pair is x cost next next_cost takes worth =
    elim (matched_from first pairs x worth.value worth.is) [
      | inl p ↦ taken_left first pairs next (neg_ℤ next_cost)
          (taken_listed count buys pairs (own_rest count buys first pairs own) k pair is x cost next next_cost takes
          (record { value = worth.value; is = p; enough = worth.enough }))
      | inr q ↦
          let out_buy : has (toggle (toggle x first.buy) first.sell) pair.buy ≡ false =
          has-toggle_other (toggle x first.buy) first.sell pair.buy (apart pair.buy first.sell q.has_sell takes.no_buy)
          ∙ has-toggle_other x first.buy pair.buy (apart pair.buy first.buy q.has_buy takes.no_buy) ∙ takes.no_buy in
          let out_sell : has (toggle (toggle x first.buy) first.sell) pair.sell ≡ false =
          has-toggle_other (toggle x first.buy) first.sell pair.sell
          (apart pair.sell first.sell q.has_sell takes.no_sell)
          ∙ has-toggle_other x first.buy pair.sell (apart pair.sell first.buy q.has_buy takes.no_sell)
          ∙ takes.no_sell in
          taken_beside first pair pairs x cost next next_cost worth.value takes worth.enough q
          (taken_listed count buys pairs (own_rest count buys first pairs own) k pair is
          (toggle (toggle x first.buy) first.sell) (neg_ℤ q.value)
          (toggle (toggle (toggle (toggle x first.buy) first.sell) pair.buy) pair.sell) (neg_ℤ q.value +ℤ pair.cost)
          (record { near = takes.near; no_buy = out_buy; no_sell = out_sell; bundle_is = refl; cost_is = refl })
          (record { value = q.value; is = q.is; enough = omega (arith, ints) }))
    ]
  where
    apart : (t s : ℕ) → has x s ≡ true → has x t ≡ false → t ≢ s
    apart t s there absent e = false≢true (sym absent ∙ ap (has x) e ∙ there)

-- ---- the definition, pair by pair

pub next_without : (pairs : List Pair) (k : ℕ) (pair : Pair) (x : ℕ) → k < length pairs → slice_get pairs k ≡ Some pair
    → (has x pair.buy && has x pair.sell) ≡ false
    → matched_worth (drop (k + 1) pairs) x ≡ matched_worth (drop k pairs) x
unfolding matched_worth
next_without pairs k pair x inside is none =
    by (matched_worth (drop (k + 1) pairs) x)
    ∙ ap (λ (b : Bool). greater (matched_worth (drop (k + 1) pairs) x)
    (if b then option_map (λ a. a -ℤ pair.cost) (matched_worth (drop (k + 1) pairs)
    (toggle (toggle x pair.buy) pair.sell)) else None)) (sym none)
    ∙ ap (λ ps. matched_worth ps x) (sym (drop_at pairs k pair inside is))
  where
    by : (o : Option ℤ) → o ≡ greater o None
    by None = refl
    by (Some a) = refl

pub next_with : (pairs : List Pair) (k : ℕ) (pair : Pair) (x : ℕ) → k < length pairs → slice_get pairs k ≡ Some pair
    → (has x pair.buy && has x pair.sell) ≡ true
    → greater (matched_worth (drop (k + 1) pairs) x) (option_map (λ a. a -ℤ pair.cost)
    (matched_worth (drop (k + 1) pairs) (toggle (toggle x pair.buy) pair.sell)))
    ≡ matched_worth (drop k pairs) x
unfolding matched_worth
next_with pairs k pair x inside is both =
    ap (λ (b : Bool). greater (matched_worth (drop (k + 1) pairs) x)
    (if b then option_map (λ a. a -ℤ pair.cost) (matched_worth (drop (k + 1) pairs)
    (toggle (toggle x pair.buy) pair.sell)) else None)) (sym both)
    ∙ ap (λ ps. matched_worth ps x) (sym (drop_at pairs k pair inside is))

own_drop : (count buys k : ℕ) (pairs : List Pair) → AreOwnPairs count buys pairs → AreOwnPairs count buys (drop k pairs)
own_drop count buys zero pairs own = own
own_drop count buys (suc k) [] own = own
own_drop count buys (suc k) (pair ∷ pairs) own = own_drop count buys k pairs (own_rest count buys pair pairs own)

-- every worth on the way is small
small_on_the_way : (count buys k : ℕ) (pairs : List Pair) → AreOwnPairs count buys pairs → (x : ℕ) (a : ℤ) → x < 2 ^ 64
    → matched_worth (drop k pairs) x ≡ Some a → IsAtMost a most_worth
small_on_the_way count buys k pairs own x a within is =
    let own_left = own_drop count buys k pairs own in
    let small = matched_within count buys (drop k pairs) most_amount own_left
    (λ j pair there. (own_left j pair there).small) x a is in
    let most = size_le 64 x within in
    let low = small.low in
    let high = small.high in
    record { low = omega (arith, ints, most, low); high = omega (arith, ints, most, high) }

-- ---- steps of the code

-- what is taken in at a place is a listed pair
takes_pair : (pair : Pair) (here : ℤ) (buy sell x : ℕ) (cost : ℤ) (next : ℕ) (next_cost : ℤ) → pair.buy ≡ buy
    → pair.sell ≡ sell → pair.cost ≡ here
    → TakesAt here buy sell x cost next next_cost → TakesAt pair.cost pair.buy pair.sell x cost next next_cost
takes_pair pair here buy sell x cost next next_cost same_buy same_sell same_cost takes = record {
  near = subst (λ (z : ℤ). z <ℤ far) (sym same_cost) takes.near;
  no_buy = ap (has x) same_buy ∙ takes.no_buy;
  no_sell = ap (has x) same_sell ∙ takes.no_sell;
  bundle_is = takes.bundle_is ∙ ap (λ (z : ℕ). toggle (toggle x z) sell) (sym same_buy)
      ∙ ap (λ (z : ℕ). toggle (toggle x pair.buy) z) (sym same_sell);
  cost_is = takes.cost_is ∙ ap (λ (z : ℤ). cost +ℤ z) (sym same_cost);
}

-- what the code takes in
pub pair_taken : (costs : List ℤ) (buy sell place bundle next : ℕ) (cost here : ℤ) → buy < most_own → sell < most_own
    → place ≡ place_of_pair buy sell → here ≡ get_or costs place (pos 0) → SFits w32 (get_or costs place (pos 0))
    → IsAtMost cost (most_own * most_amount) → get_or costs place (pos 0) <ℤ far
    → has bundle buy ≡ false → has bundle sell ≡ false → next ≡ toggle (toggle bundle buy) sell
    → MayTake costs bundle cost next
    (to_z w128 (of_z w128 (to_z w128 (of_z w128 cost) +ℤ to_z w128 (of_z w128 here))))
pair_taken costs buy sell place bundle next cost here buy_near sell_near at is fits small near no_buy no_sell taken =
    let there = ap (λ (k : ℕ). get_or costs k (pos 0)) at in
    inr (record {
      buy = buy;
      sell = sell;
      buy_near = buy_near;
      sell_near = sell_near;
      takes = record {
        near = subst (λ (z : ℤ). z <ℤ far) there near;
        no_buy = no_buy;
        no_sell = no_sell;
        bundle_is = taken;
        cost_is = sum (get_or costs place (pos 0)) is fits ∙ ap (λ (z : ℤ). cost +ℤ z) there;
      };
    })
  where
    sum : (z : ℤ) → here ≡ z → SFits w32 z
        → to_z w128 (of_z w128 (to_z w128 (of_z w128 cost) +ℤ to_z w128 (of_z w128 here))) ≡ cost +ℤ z
    sum z is fits = omega (arith, ints, is, fits, small.low, small.high)

pub taken_more : (count buys : ℕ) (pairs : List Pair) (costs : List ℤ) → AreOwnPairs count buys pairs
    → AreCosts pairs costs
    → (x : ℕ) (cost : ℤ) (next : ℕ) (next_cost : ℤ) → MayTake costs x cost next next_cost
    → IsWorth (matched_worth pairs) x (neg_ℤ cost) → IsWorth (matched_worth pairs) next (neg_ℤ next_cost)
taken_more count buys pairs costs own are x cost next next_cost (inl same) worth =
    subst (λ (z : ℕ). IsWorth (matched_worth pairs) z (neg_ℤ next_cost)) (sym same.0)
    (subst (λ (z : ℤ). IsWorth (matched_worth pairs) x (neg_ℤ z)) (sym same.1) worth)
taken_more count buys pairs costs own are x cost next next_cost (inr some) worth =
    let listed = listed_at pairs costs are some.buy some.sell some.buy_near some.sell_near some.takes.near in
    taken_listed count buys pairs own listed.at listed.pair listed.is x cost next next_cost
    (takes_pair listed.pair (cost_at costs some.buy some.sell) some.buy some.sell x cost next next_cost listed.same_buy
    listed.same_sell (listed_cost pairs costs are some.buy some.sell listed) some.takes) worth

pub taken_small : (count buys : ℕ) (pairs : List Pair) (costs : List ℤ) → AreOwnPairs count buys pairs
    → AreCosts pairs costs
    → (x : ℕ) (cost : ℤ) (next : ℕ) (next_cost : ℤ) (done : ℕ) → IsAtMost cost (done * most_amount)
    → MayTake costs x cost next next_cost
    → IsAtMost next_cost ((done + 1) * most_amount)
taken_small count buys pairs costs own are x cost next next_cost done before (inl same) =
    let p = before.low in
    let q = before.high in
    let e = same.1 in
    record { low = omega (arith, ints, p, e); high = omega (arith, ints, q, e) }
taken_small count buys pairs costs own are x cost next next_cost done before (inr some) =
    let listed = listed_at pairs costs are some.buy some.sell some.buy_near some.sell_near some.takes.near in
    let small = (own listed.at listed.pair listed.is).small in
    let p = before.low in
    let q = before.high in
    let r = small.low in
    let s = small.high in
    let is = listed_cost pairs costs are some.buy some.sell listed in
    let e = some.takes.cost_is in
    record { low = omega (arith, ints, p, r, e, is); high = omega (arith, ints, q, s, e, is) }

pub beside_more : (priced : Bool) (costs : List ℤ) (number : ℕ → ℤ) (sales buy k : ℕ)
    → KeepsBeside priced costs number sales buy k → KeepsAt priced costs number sales buy k
    → KeepsBeside priced costs number sales buy (k + 1)
beside_more priced costs number sales buy k before here sell below = elim (cases_eq sell k) [
  | inl e ↦ subst (λ (s : ℕ). KeepsAt priced costs number sales buy s) (sym e) here
  | inr d ↦ before sell (omega (arith, below, d))
]

pub keeps_more : (priced : Bool) (costs : List ℤ) (number : ℕ → ℤ) (purchases sales count k : ℕ)
    → ((buy : ℕ) → buy < k → has purchases buy ≡ true → KeepsBeside priced costs number sales buy count)
    → (has purchases k ≡ true → KeepsBeside priced costs number sales k count)
    → (buy : ℕ) → buy < k + 1 → has purchases buy ≡ true → KeepsBeside priced costs number sales buy count
keeps_more priced costs number purchases sales count k before here buy below member = elim (cases_eq buy k) [
  | inl e ↦ subst (λ (b : ℕ). KeepsBeside priced costs number sales b count) (sym e)
      (here (ap (has purchases) (sym e) ∙ member))
  | inr d ↦ before buy (omega (arith, below, d)) member
]

pub both_there : (a b : Bool) → a ≡ true → b ≡ true → (a && b) ≡ true
both_there a b p q = ap (λ (t : Bool). t && b) p ∙ q

-- where each purchase of the bundle keeps beside its sales, so does each pair
pub keeps_listed : (count buys : ℕ) (pairs : List Pair) (costs : List ℤ) (priced : Bool) (number : ℕ → ℤ) (x : ℕ)
    → AreOwnPairs count buys pairs → AreCosts pairs costs
    → ((buy : ℕ) → buy < count → has (meet x buys) buy ≡ true
    → KeepsBeside priced costs number (minus x buys) buy count) → KeepsPairs priced number x pairs
keeps_listed count buys pairs costs priced number x own are keeps k pair is buy sell =
    let here = own k pair is in
    let small = here.small.high in
    let cost = are.each k pair (slice_get_within pairs k pair is) is in
    let bought : has (meet x buys) pair.buy ≡ true = has-meet x buys pair.buy ∙ both_there _ _ buy here.bought in
    let sold : has (minus x buys) pair.sell ≡ true = has-minus x buys pair.sell ∙ both_there _ _ sell (ap not here.sold)
    in
    subst (λ (z : ℤ). (number pair.buy +ℤ number pair.sell) ≤ℤ (if priced then z else pos 0)) cost
    (keeps pair.buy here.purchase bought pair.sell here.sale sold
    (omega (arith, ints, cost, small)))

drop_all : (pairs : List Pair) → drop (length pairs) pairs ≡ []
drop_all [] = refl
drop_all (pair ∷ pairs) = drop_all pairs

-- past the last pair only the empty bundle is possible
pub last_none : (pairs : List Pair) (k x : ℕ) → k ≡ length pairs → (x ≡ 0 → ⊥) → None ≡ matched_worth (drop k pairs) x
last_none pairs k x e some = by (matched_worth [] x) refl
    ∙ ap (λ ps. matched_worth ps x) (sym (ap (λ (j : ℕ). drop j pairs) e ∙ drop_all pairs))
  where
    by : (o : Option ℤ) → matched_worth [] x ≡ o → None ≡ matched_worth [] x
    by None p = sym p
    by (Some a) p = absurd (some (matched_none x a p).0)

pub last_empty : (pairs : List Pair) (k x : ℕ) → x ≡ 0 → Some (pos 0) ≡ matched_worth (drop k pairs) x
last_empty pairs k x none = sym (ap (matched_worth (drop k pairs)) none ∙ matched_empty (drop k pairs))

pub with_is : (cost : ℤ) (g w l r : Option ℤ) (w' r' goal : Option ℤ) → g ≡ greater w l
    → l ≡ option_map (λ a. a -ℤ cost) r → w ≡ w' → r ≡ r'
    → greater w' (option_map (λ a. a -ℤ cost) r') ≡ goal → g ≡ goal
with_is cost g w l r w' r' goal g_is l_is w_is r_is is =
    g_is ∙ ap (greater w) (l_is ∙ ap (option_map (λ a. a -ℤ cost)) r_is)
    ∙ ap (λ o. greater o (option_map (λ a. a -ℤ cost) r')) w_is ∙ is

pub first_out : (a b : Bool) → a ≡ false → (a && b) ≡ false
first_out a b p = ap (λ (t : Bool). t && b) p

pub second_out : (a b : Bool) → b ≡ false → (a && b) ≡ false
second_out true b q = q
second_out false b q = refl

-- the cost of a matching fits, and so does minus it
pub cost_fits : (cost : ℤ) (n : ℕ) → IsAtMost cost (n * most_amount) → n < 2 ^ 64 → SFits w128 cost
cost_fits cost n small few = let p = small.low in let q = small.high in omega (arith, ints, p, q, few)

pub minus_is : (cost : ℤ) (n : ℕ) → IsAtMost cost (n * most_amount) → n < 2 ^ 64
    → to_z w128 (of_z w128 (pos 0 -ℤ to_z w128 (of_z w128 cost))) ≡ neg_ℤ cost
minus_is cost n small few = let p = small.low in let q = small.high in omega (arith, ints, p, q, few)

pub small_after : (count buys k : ℕ) (pairs : List Pair) → AreOwnPairs count buys pairs → (x : ℕ) (o : Option ℤ)
    → x < 2 ^ 64 → o ≡ matched_worth (drop k pairs) x
    → IfSome o (λ a. IsAtMost a most_worth)
small_after count buys k pairs own x None within is = tt
small_after count buys k pairs own x (Some a) within is = small_on_the_way count buys k pairs own x a within (sym is)
