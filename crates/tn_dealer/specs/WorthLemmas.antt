-- What a dealer's worths keep: they are of own bundles, and meet exchange.
use Rattle.std.proofs.Common.{◌≡◌, ℕ, suc, ◌^◌, ◌<◌, ◌==◌, ◌&&◌, Bool, true, false, refl, sym, ap, ◌∙◌, subst, arith, inl, inr, ◌⊎◌, if◌then◌else◌, List, [], ◌∷◌, Option, Some, None, ℤ, pos, ◌-ℤ◌}
use Rattle.std.specs.Prelude.{◌≤ℤ◌, int_lt, option_map, slice_get, All}
use Rattle.std.proofs.lemmas.Int.{ints}
use Rattle.std.proofs.lemmas.Nat.{pow_pos}
use Rattle.std.proofs.lemmas.Bool.{cases_Bool, eqb-true}
use Rattle.std.proofs.lemmas.Option.{none-some, same_Some, slice_get_within, get_or_from_slice_get, cond_some}
use Rattle.std.proofs.lemmas.List.Elements.{All-get_or}
use Rattle.tn_base.specs.Sets.{has, toggle}
use Rattle.tn_base.specs.Firm.{HasOwnBundles}
use Rattle.tn_base.specs.Exchange.{MeetsExchange}
use Rattle.tn_base.proofs.SetLemmas.{has-zero}
use Rattle.tn_firm_laws.specs.Places.{level, move, ExchangesOverPlaces}
use Rattle.tn_firm_laws.proofs.PlaceLemmas.{move-both}
use Rattle.tn_firm_laws.proofs.AdditiveLemmas.{move-within}
use Rattle.tn_firm_laws.proofs.ExchangeLemmas.{exchange_from_places}
use Rattle.tn_market.specs.Reduced.{greater}
use Rattle.tn_dealer.specs.declared.pair.Pair.{Pair}
use Rattle.tn_dealer.specs.Pairs.{with_pair, matched_worth, dealing, IsOwnPair}
use Rattle.tn_firm_laws.proofs.MoveLemmas.{move-twice}
use Rattle.tn_firm_laws.specs.Worths.{IsWorth}
use Rattle.tn_firm_laws.proofs.PairLemmas.{Swaps, HasOneMore}
use Rattle.tn_firm_laws.proofs.PairSideLemmas.{Above, ArePaired, HasPair, one_more_swaps}

-- the pair at each place is one of own trades
abbrev pub AreOwnPairs : ℕ → ℕ → List Pair → Type 0
AreOwnPairs count buys pairs = (k : ℕ) (pair : Pair) → slice_get pairs k ≡ Some pair → IsOwnPair count buys pair

pub own_pairs : (count buys : ℕ) (pairs : List Pair) → All (IsOwnPair count buys) pairs → AreOwnPairs count buys pairs
own_pairs count buys pairs all k pair is =
    subst (IsOwnPair count buys) (get_or_from_slice_get pairs k pair pair is)
    (All-get_or (IsOwnPair count buys) pairs k pair (slice_get_within pairs k pair is) all)

pub own_rest : (count buys : ℕ) (pair : Pair) (pairs : List Pair) → AreOwnPairs count buys (pair ∷ pairs)
    → AreOwnPairs count buys pairs
own_rest count buys pair pairs own k next is = own (suc k) next is

-- ---- the greater of two numbers

pub greater_left : (o p : Option ℤ) (a : ℤ) → o ≡ Some a → (v : ℤ) × (greater o p ≡ Some v) × (a ≤ℤ v)
greater_left None p a e = absurd (none-some a e)
greater_left (Some b) None a e = (b, refl, let same = same_Some b a e in omega (arith, ints, same))
greater_left (Some b) (Some d) a e = elim (cases_Bool (int_lt b d)) [
  | inl less ↦ (
    d,
    ap (λ (t : Bool). if t then Some d else Some b) less,
    let same = same_Some b a e in
        grind (arith, ints, less, same),
  )
  | inr not_less ↦ (
    b,
    ap (λ (t : Bool). if t then Some d else Some b) not_less,
    let same = same_Some b a e in
        omega (arith, ints, same),
  )
]

pub greater_right : (o p : Option ℤ) (a : ℤ) → p ≡ Some a → (v : ℤ) × (greater o p ≡ Some v) × (a ≤ℤ v)
greater_right o None a e = absurd (none-some a e)
greater_right None (Some d) a e = (d, refl, let same = same_Some d a e in omega (arith, ints, same))
greater_right (Some b) (Some d) a e = elim (cases_Bool (int_lt b d)) [
  | inl less ↦ (
    d,
    ap (λ (t : Bool). if t then Some d else Some b) less,
    let same = same_Some d a e in
        omega (arith, ints, same),
  )
  | inr not_less ↦ (
    b,
    ap (λ (t : Bool). if t then Some d else Some b) not_less,
    let same = same_Some d a e in
        grind (arith, ints, not_less, same),
  )
]

pub greater_from : (o p : Option ℤ) (v : ℤ) → greater o p ≡ Some v → (o ≡ Some v) ⊎ (p ≡ Some v)
greater_from None p v e = inr e
greater_from (Some b) None v e = inl e
greater_from (Some b) (Some d) v e = by (int_lt b d) e
  where
    by : (t : Bool) → (if t then Some d else Some b) ≡ Some v → (◌≡◌ {A = Option ℤ} (Some b) (Some v))
        ⊎ (◌≡◌ {A = Option ℤ} (Some d) (Some v))
    by true f = inr f
    by false f = inl f

-- ---- one pair

pub with_pair_is : (pair : Pair) (worth : ℕ → Option ℤ) (x : ℕ) (a : ℤ) → has x pair.buy ≡ true → has x pair.sell ≡ true
    → worth (toggle (toggle x pair.buy) pair.sell) ≡ Some a → with_pair pair worth x ≡ Some (a -ℤ pair.cost)
with_pair_is pair worth x a p q is = rw (p, q, is) refl

-- the bundle has both trades, and without them this worth
pub record Paired (pair : Pair) (worth : ℕ → Option ℤ) (x : ℕ) (v : ℤ) : Type 0 where
  pub has_buy : has x pair.buy ≡ true
  pub has_sell : has x pair.sell ≡ true
  pub value : ℤ
  pub is : worth (toggle (toggle x pair.buy) pair.sell) ≡ Some value
  pub less : value -ℤ pair.cost ≡ v

pub with_pair_from : (pair : Pair) (worth : ℕ → Option ℤ) (x : ℕ) (v : ℤ) → with_pair pair worth x ≡ Some v
    → Paired pair worth x v
with_pair_from pair worth x v e =
    by (has x pair.buy) (has x pair.sell) (worth (toggle (toggle x pair.buy) pair.sell)) refl refl refl e
  where
    by : (b s : Bool) (o : Option ℤ) → has x pair.buy ≡ b → has x pair.sell ≡ s
        → worth (toggle (toggle x pair.buy) pair.sell) ≡ o
        → (if b && s then option_map (λ a. a -ℤ pair.cost) o else None) ≡ Some v → Paired pair worth x v
    by true true (Some a) p q r f = record {
      has_buy = p;
      has_sell = q;
      value = a;
      is = r;
      less =
          same_Some (a -ℤ pair.cost) v f;
    }
    by true true None p q r f = absurd (none-some v f)
    by true false o p q r f = absurd (none-some v f)
    by false s o p q r f = absurd (none-some v f)

-- ---- the worths of a list with one pair more

pub matched_left : (pair : Pair) (pairs : List Pair) (x : ℕ) (a : ℤ) → matched_worth pairs x ≡ Some a
    → IsWorth (matched_worth (pair ∷ pairs)) x a
unfolding matched_worth
matched_left pair pairs x a is =
    let found = greater_left (matched_worth pairs x) (with_pair pair (matched_worth pairs) x) a is in
    record { value = found.0; is = found.1; enough = found.2 }

pub matched_right : (pair : Pair) (pairs : List Pair) (x : ℕ) (a : ℤ) → has x pair.buy ≡ true → has x pair.sell ≡ true
    → matched_worth pairs (toggle (toggle x pair.buy) pair.sell) ≡ Some a
    → IsWorth (matched_worth (pair ∷ pairs)) x (a -ℤ pair.cost)
unfolding matched_worth
matched_right pair pairs x a p q is =
    let found = greater_right (matched_worth pairs x) (with_pair pair (matched_worth pairs) x) (a -ℤ pair.cost)
    (with_pair_is pair (matched_worth pairs) x a p q is) in
    record { value = found.0; is = found.1; enough = found.2 }

pub matched_from : (pair : Pair) (pairs : List Pair) (x : ℕ) (v : ℤ) → matched_worth (pair ∷ pairs) x ≡ Some v
    → (matched_worth pairs x ≡ Some v) ⊎ Paired pair (matched_worth pairs) x v
unfolding matched_worth
matched_from pair pairs x v e =
    elim (greater_from (matched_worth pairs x) (with_pair pair (matched_worth pairs) x) v e) [
      | inl p ↦ inl p
      | inr q ↦ inr (with_pair_from pair (matched_worth pairs) x v q)
    ]

-- with no pair only the empty bundle is possible
pub matched_none : (x : ℕ) (a : ℤ) → matched_worth [] x ≡ Some a → (x ≡ 0) × (a ≡ pos 0)
unfolding matched_worth
matched_none x a e = let parts = cond_some (x == 0) (pos 0) a e in (eqb-true x 0 parts.0, sym parts.1)

-- the empty bundle is worth 0
pub matched_empty : (pairs : List Pair) → matched_worth pairs 0 ≡ Some (pos 0)
unfolding matched_worth
matched_empty [] = refl
matched_empty (pair ∷ pairs) = rw (matched_empty pairs, has-zero pair.buy) refl

-- ---- what the worths keep

paired_of : (count buys : ℕ) (pair : Pair) → IsOwnPair count buys pair → ArePaired count buys pair.buy pair.sell
paired_of count buys pair own = record {
  purchase = own.purchase;
  bought = own.bought;
  sale = own.sale;
  sold =
      own.sold;
}

has_one_more : (count buys : ℕ) (pair : Pair) (pairs : List Pair) → IsOwnPair count buys pair
    → HasOneMore count (matched_worth pairs) (matched_worth (pair ∷ pairs)) pair.buy pair.sell pair.cost
has_one_more count buys pair pairs own = record {
  without = matched_left pair pairs;
  paired = λ x a p q is. matched_right pair pairs x a p q
      (ap (matched_worth pairs) (sym (move-both count x pair.buy pair.sell own.purchase own.sale)) ∙ is);
}

split_of : (count buys : ℕ) (pair : Pair) (pairs : List Pair) → IsOwnPair count buys pair → (x : ℕ) (a : ℤ)
    → matched_worth (pair ∷ pairs) x ≡ Some a
    → (matched_worth pairs x ≡ Some a) ⊎ HasPair count (matched_worth pairs) pair.buy pair.sell pair.cost x a
split_of count buys pair pairs own x a is = elim (matched_from pair pairs x a is) [
  | inl p ↦ inl p
  | inr q ↦ inr (record {
    has_first = q.has_buy;
    has_second = q.has_sell;
    value = q.value;
    is = ap (matched_worth pairs) (move-both count x pair.buy pair.sell own.purchase own.sale) ∙ q.is;
    less = q.less;
  })
]

no_swaps : (count buys : ℕ) → Swaps count (Above count buys) (matched_worth [])
no_swaps count buys x y a b x_is y_is i within up =
    let p = (matched_none x a x_is).0 in
    let q = (matched_none y b y_is).0 in
    let same : level count buys x i ≡ level count buys y i = ap (λ (z : ℕ). level count buys z i) (p ∙ sym q) in
    absurd (omega (arith, same, up))

pub matched_swaps : (count buys : ℕ) (pairs : List Pair) → AreOwnPairs count buys pairs
    → Swaps count (Above count buys) (matched_worth pairs)
matched_swaps count buys [] own = no_swaps count buys
matched_swaps count buys (pair ∷ pairs) own =
    let here = own 0 pair refl in
    one_more_swaps count buys (matched_worth pairs) (matched_worth (pair ∷ pairs)) pair.buy pair.sell pair.cost
    (paired_of count buys pair here)
    (has_one_more count buys pair pairs here) (split_of count buys pair pairs here)
    (matched_swaps count buys pairs (own_rest count buys pair pairs own))

-- only own bundles are possible
pub matched_own : (count buys : ℕ) (pairs : List Pair) → AreOwnPairs count buys pairs → (x : ℕ) (a : ℤ)
    → matched_worth pairs x ≡ Some a → x < 2 ^ count
matched_own count buys [] own x a is = subst (λ (z : ℕ). z < 2 ^ count) (sym (matched_none x a is).0) (pow_pos count)
matched_own count buys (pair ∷ pairs) own x a is = elim (split_of count buys pair pairs (own 0 pair refl) x a is) [
  | inl p ↦ matched_own count buys pairs (own_rest count buys pair pairs own) x a p
  | inr q ↦ subst (λ (z : ℕ). z < 2 ^ count) (move-twice count x pair.buy pair.sell)
      (move-within count (move count x pair.buy pair.sell) pair.buy pair.sell
      (matched_own count buys pairs (own_rest count buys pair pairs own) (move count x pair.buy pair.sell) q.value
      q.is))
]

pub matched_exchange : (count buys : ℕ) (pairs : List Pair) → AreOwnPairs count buys pairs
    → HasOwnBundles (dealing count buys pairs) × MeetsExchange (dealing count buys pairs)
matched_exchange count buys pairs own =
    let owns : HasOwnBundles (dealing count buys pairs) = matched_own count buys pairs own in
    (owns, exchange_from_places (dealing count buys pairs) owns over)
  where
    over : ExchangesOverPlaces (dealing count buys pairs)
    over x y a b x_is y_is i within up =
        let swap = matched_swaps count buys pairs own x y a b x_is y_is i within up in
        record {
          at = swap.at;
          is_place = swap.is_place;
          is_down = swap.is_down;
          enough = record {
            first = swap.first;
            second = swap.second;
            first_is = swap.first_is;
            second_is =
                swap.second_is;
            enough = swap.enough;
          };
        }
