-- The judgement of an arrangement, firm by firm.
use Rattle.std.proofs.Common.{Bool, IsTrue, ◌↔◌, ◌≡◌, ◌≢◌, ℕ, zero, suc, ◌+◌, ◌*◌, ◌^◌, ◌<◌, ◌≤◌, if◌then◌else◌, List, [], ◌∷◌, length, map, take, slice_get, Some, Option, option_map, refl, sym, ap, ◌∙◌, subst, arith, inl, inr, ℤ, pos, ◌+ℤ◌, ◌-ℤ◌, neg_ℤ, ◌*ℤ◌}
use Rattle.std.specs.List.{All}
use Rattle.std.proofs.lemmas.Int.{ints, by_lt_z}
use Rattle.std.proofs.lemmas.Bool.{cases_eq}
use Rattle.std.proofs.lemmas.Option.{same_Some, slice_get-map, slice_get_within, get_or_from_slice_get}
use Rattle.std.proofs.lemmas.List.{get_or-set_same, get_or-set_other}
use Rattle.std.proofs.lemmas.List.Elements.{All-set, All-get_or}
use Rattle.std.proofs.Math.ListN.{set, length-set}
use Rattle.std.proofs.Math.Seq.{take-length}
use mir.Syntax.{w128}
use mir.Val.{SFits, to_z, of_z}
use Rattle.tn_base.specs.Sets.{has}
use Rattle.tn_base.specs.Arcs.{IsAtMost}
use Rattle.tn_base.specs.Firm.{Firm, payments, utility, IsBest}
use Rattle.tn_base.proofs.SetLemmas.{set_of_within}
use Rattle.tn_base.proofs.SumLemmas.{sum_over-same_terms}
use Rattle.tn_model.specs.declared.ends.Ends.{Ends}
use Rattle.tn_model.specs.Prices.{price_at}
use Rattle.tn_model.specs.Limits.{most_number}
use Rattle.tn_model.specs.Network.{own, part}
use Rattle.tn_market.specs.Equilibrium.{prices_at, utility_at, HasBest, IsEquilibrium, surplus_from, surplus_of}
use Rattle.tn_market.specs.Graph.{graph_worths}
use Rattle.tn_market.specs.Judged.{AreBestBefore, IsFirstImpossible, IsFirstBettered}
use Rattle.tn_market.specs.Widths.{most_market_firms, most_own, most_utility, most_worth}
use Rattle.tn_price.specs.declared.firm_verdict.FirmVerdict.{FirmVerdict}
use Rattle.tn_price.specs.declared.firm_verdict.FirmVerdict.TheVariants.{Best, Impossible, Bettered}
use Rattle.tn_price.specs.Standings.{IsBestWorth, IsBettered, Stands, StandsAt, AreOwnPrices}
use Rattle.tn_price.proofs.SurplusLemmas.{sum_more}

-- ---- the prices of a firm

pub none_priced : (trades : List Ends) (prices : ℕ → ℤ) (f : ℕ) (list : List ℤ) → length list ≡ most_own
    → All (λ p. IsAtMost p most_number) list
    → AreOwnPrices trades prices f 0 list
none_priced trades prices f list counted small = record {
  counted = counted;
  small = small;
  each =
      λ k below. absurd (omega (arith, below));
}

pub one_priced : (trades : List Ends) (prices : List ℤ) (f k t : ℕ) (price : ℤ) (list : List ℤ)
    → AreOwnPrices trades (price_at prices) f k list → k < most_own
    → t ≡ own trades f k → slice_get prices t ≡ Some price → All (λ p. IsAtMost p most_number) prices
    → AreOwnPrices trades (price_at prices) f (k + 1) (set list k price)
one_priced trades prices f k t price list before inside at is small =
    let wide : k < length list = omega (arith, inside, before.counted) in
    let read : price_at prices t ≡ price = get_or_from_slice_get prices t price (pos 0) is in
    let price_small : IsAtMost price most_number =
    subst (λ (z : ℤ). IsAtMost z most_number) read (All-get_or (λ p. IsAtMost p most_number) prices t (pos 0)
    (slice_get_within prices t price is) small) in
    record {
      counted = length-set list k price ∙ before.counted;
      small = All-set (λ z. IsAtMost z most_number) list k price price_small before.small;
      each = λ i below. elim (cases_eq i k) [
        | inl e ↦ subst (λ (n : ℕ). price_at (set list k price) n ≡ prices_at trades (price_at prices) f n) (sym e)
            (get_or-set_same list k price (pos 0) wide ∙ sym read ∙ ap (price_at prices) at)
        | inr d ↦ get_or-set_other list k i price (pos 0) d ∙ before.each i (omega (arith, below, d))
      ];
    }

pub price_fits : (prices : List ℤ) (t : ℕ) (price : ℤ) → slice_get prices t ≡ Some price
    → All (λ p. IsAtMost p most_number) prices → IsAtMost price most_utility
price_fits prices t price is small =
    let read : price_at prices t ≡ price = get_or_from_slice_get prices t price (pos 0) is in
    let there = All-get_or (λ p. IsAtMost p most_number) prices t (pos 0) (slice_get_within prices t price is) small in
    let low = there.low in
    let high = there.high in
    record { low = omega (arith, ints, read, low); high = omega (arith, ints, read, high) }

-- the element of a list at its front part
price_at-take : (n k : ℕ) (list : List ℤ) → k < n → price_at (take n list) k ≡ price_at list k
price_at-take zero k list below = absurd (omega (arith, below))
price_at-take (suc n) k [] below = refl
price_at-take (suc n) zero (x ∷ list) below = refl
price_at-take (suc n) (suc k) (x ∷ list) below = price_at-take n k list (omega (arith, below))

-- ---- one firm

utility-same : (firm : Firm) (scale : ℤ) (p q : ℕ → ℤ) → ((k : ℕ) → k < firm.count → p k ≡ q k) → (x : ℕ)
    → utility scale p firm x ≡ utility scale q firm x
utility-same firm scale p q same x =
    ap (λ (sum : ℤ). option_map (λ a. scale *ℤ a +ℤ sum) (firm.worth x))
    (sum_over-same_terms (payments firm.buys p) (payments firm.buys q) x firm.count (λ k below there.
    ap (λ (z : ℤ). if has firm.buys k then neg_ℤ z else z) (same k below)))

-- the utility at the prices that are listed for a firm is that at the prices by trade
pub utility_there : (trades : List Ends) (scale : ℤ) (prices : ℕ → ℤ) (f n : ℕ) (list : List ℤ) (firm : Firm)
    → n ≡ firm.count → AreOwnPrices trades prices f n list
    → (x : ℕ) → utility scale (price_at (take n list)) firm x ≡ utility_at trades scale prices f firm x
utility_there trades scale prices f n list firm counted listed =
    utility-same firm scale (price_at (take n list)) (prices_at trades prices f)
    (λ k below. price_at-take n k list (omega (arith, below, counted)) ∙ listed.each k (omega (arith, below, counted)))

best-same : (value_of other_of : ℕ → Option ℤ) → ((x : ℕ) → value_of x ≡ other_of x) → (x : ℕ) (value : ℤ)
    → IsBest value_of x value → IsBest other_of x value
best-same value_of other_of same x value best = record {
  is = sym (same x) ∙ best.is;
  most =
      λ y other is. best.most y other (same y ∙ is);
}

stands-same : (worth value_of other_of : ℕ → Option ℤ) → ((x : ℕ) → value_of x ≡ other_of x)
    → (x : ℕ) (standing : FirmVerdict)
    → Stands worth value_of x standing → Stands worth other_of x standing
stands-same worth value_of other_of same x (Best amount) stands = record {
  worth_is = stands.worth_is;
  small = stands.small;
  value = stands.value;
  best = best-same value_of other_of same x stands.value stands.best;
}
stands-same worth value_of other_of same x Impossible stands = stands
stands-same worth value_of other_of same x (Bettered y gain) stands = record {
  own_value = stands.own_value;
  own_is = sym (same x) ∙ stands.own_is;
  best_value = stands.best_value;
  best = best-same value_of other_of same y stands.best_value stands.best;
  gain_is = stands.gain_is;
  gains = stands.gains;
}

-- the firm in a list of firms of any type
pub firm_is : {V : Type 0} (firm_of : V → Firm) (firms : List V) (f : ℕ) (v : V) → slice_get firms f ≡ Some v
    → slice_get (map firm_of firms) f ≡ Some (firm_of v)
firm_is firm_of firms f v is = slice_get-map firm_of firms f ∙ ap (option_map firm_of) is

-- how a firm stands at the prices that are listed for it is how it stands in the arrangement
pub stands_there : {V : Type 0} (firm_of : V → Firm) (firms : List V) (trades : List Ends) (scale : ℤ) (on : ℕ)
    (prices : ℕ → ℤ) (f n own : ℕ) (list : List ℤ)
    (standing : FirmVerdict) (v : V) → slice_get firms f ≡ Some v → n ≡ (firm_of v).count
    → own ≡ part trades f (firm_of v).count on
    → AreOwnPrices trades prices f n list
    → Stands (firm_of v).worth (utility scale (price_at (take n list)) (firm_of v)) own standing
    → StandsAt (map firm_of firms) trades scale on prices f standing
stands_there firm_of firms trades scale on prices f n own list standing v is counted own_is listed stands =
    λ firm there.
    let same : firm_of v ≡ firm = same_Some _ _ (sym (firm_is firm_of firms f v is) ∙ there) in
    subst (λ (x : Firm). Stands x.worth (utility_at trades scale prices f x) (part trades f x.count on) standing) same
    (stands-same (firm_of v).worth (utility scale (price_at (take n list)) (firm_of v))
    (utility_at trades scale prices f (firm_of v))
    (utility_there trades scale prices f n list (firm_of v) counted listed)
    (part trades f (firm_of v).count on) standing
    (subst (λ (x : ℕ). Stands (firm_of v).worth (utility scale (price_at (take n list)) (firm_of v)) x standing) own_is
    stands))

-- and whether it has a best bundle there is whether it has one in the arrangement
pub content_there : {V : Type 0} (firm_of : V → Firm) (firms : List V) (trades : List Ends) (scale : ℤ) (on : ℕ)
    (prices : ℕ → ℤ) (f n own : ℕ) (list : List ℤ) (content : Bool) (v : V) → slice_get firms f ≡ Some v
    → n ≡ (firm_of v).count → own ≡ part trades f (firm_of v).count on → AreOwnPrices trades prices f n list
    → (IsTrue content ↔ ((value : ℤ) × IsBest (utility scale (price_at (take n list)) (firm_of v)) own value))
    → (firm : Firm) → slice_get (map firm_of firms) f ≡ Some firm
    → IsTrue content ↔ HasBest trades scale on prices f firm
content_there firm_of firms trades scale on prices f n own list content v is counted own_is listed decided firm there =
    let same : firm_of v ≡ firm = same_Some _ _ (sym (firm_is firm_of firms f v is) ∙ there) in
    let as_listed = utility_there trades scale prices f n list (firm_of v) counted listed in
    let listed_of = utility scale (price_at (take n list)) (firm_of v) in
    let value_of = utility_at trades scale prices f (firm_of v) in
    subst (λ (x : Firm). IsTrue content ↔ HasBest trades scale on prices f x) same
    (subst (λ (x : ℕ). IsTrue content ↔ ((value : ℤ) × IsBest value_of x value)) own_is (
      (λ yes. ((decided.0 yes).0, best-same listed_of value_of as_listed own (decided.0 yes).0 (decided.0 yes).1)),
      (λ best. decided.1 (best.0, best-same value_of listed_of (λ x. sym (as_listed x)) own best.0 best.1)),
    ))

pub part_within : (trades : List Ends) (f n on own : ℕ) → own ≡ part trades f n on → own < 2 ^ n
part_within trades f n on x is = subst (λ (y : ℕ). y < 2 ^ n) (sym is) (set_of_within (λ k. has on (own trades f k)) n)

-- ---- all firms

pub some_item : {A : Type 0} (xs : List A) (f : ℕ) → f < length xs → (x : A) × (slice_get xs f ≡ Some x)
some_item [] f inside = absurd (omega (arith, inside))
some_item (x ∷ xs) zero inside = (x, refl)
some_item (x ∷ xs) (suc f) inside = some_item xs f (omega (arith, inside))

-- the firms before f have best bundles, and their worths have this sum
pub record AreJudged (firms : List Firm) (trades : List Ends) (scale : ℤ) (on : ℕ) (prices : ℕ
    → ℤ) (f : ℕ) (surplus : ℤ) : Type 0 where
  pub before : AreBestBefore firms trades scale on prices f
  pub sum : surplus_from trades on 0 (take f firms) ≡ Some surplus
  pub small : IsAtMost surplus (f * most_worth)

-- with one more firm
pub one_best : (firms : List Firm) (trades : List Ends) (scale : ℤ) (on : ℕ) (prices : ℕ → ℤ) (f : ℕ) (firm : Firm)
    → AreBestBefore firms trades scale on prices f → slice_get firms f ≡ Some firm
    → HasBest trades scale on prices f firm → AreBestBefore firms trades scale on prices (f + 1)
one_best firms trades scale on prices f firm before is best = λ g other below other_is. elim (cases_eq g f) [
  | inl e ↦
      let same : firm ≡ other = same_Some _ _ (sym is ∙ ap (slice_get firms) (sym e) ∙ other_is) in
      subst (λ (x : Firm). HasBest trades scale on prices g x) same
      (subst (λ (h : ℕ). HasBest trades scale on prices h firm) (sym e) best)
  | inr d ↦ before g other (omega (arith, below, d)) other_is
]

pub one_judged : (firms : List Firm) (trades : List Ends) (scale : ℤ) (on : ℕ) (prices : ℕ
    → ℤ) (f : ℕ) (surplus amount : ℤ) (firm : Firm)
    → AreJudged firms trades scale on prices f surplus → slice_get firms f ≡ Some firm
    → IsBestWorth firm.worth (utility_at trades scale prices f firm) (part trades f firm.count on) amount
    → AreJudged firms trades scale on prices (f + 1) (surplus +ℤ amount)
one_judged firms trades scale on prices f surplus amount firm judged is best = record {
  before = one_best firms trades scale on prices f firm judged.before is (best.value, best.best);
  sum = sum_more firms trades on f surplus amount firm judged.sum is best.worth_is;
  small = add _ _ judged.small best.small;
}
  where
    add : (a b : ℤ) → IsAtMost a (f * most_worth) → IsAtMost b most_worth → IsAtMost (a +ℤ b) ((f + 1) * most_worth)
    add a b small_a small_b = record {
      low = omega (arith, ints, small_a.low, small_b.low);
      high =
          omega (arith, ints, small_a.high, small_b.high);
    }

-- the end
pub all_judged : (firms : List Firm) (trades : List Ends) (scale : ℤ) (on : ℕ) (prices : ℕ → ℤ) (f : ℕ) (surplus : ℤ)
    → AreJudged firms trades scale on prices f surplus
    → length firms ≤ f → f ≤ length firms → IsEquilibrium firms trades scale on prices
    × (surplus_of firms trades on ≡ Some surplus)
all_judged firms trades scale on prices f surplus judged end most =
    let same : f ≡ length firms = omega (arith, end, most) in
    let whole : take f firms ≡ firms = ap (λ (n : ℕ). take n firms) same ∙ take-length firms in (
      (λ g firm is. judged.before g firm (omega (arith, end, slice_get_within firms g firm is)) is),
      ap (surplus_from trades on 0) (sym whole) ∙ judged.sum,
    )

-- the first firm that fails
pub first_impossible : (firms : List Firm) (trades : List Ends) (scale : ℤ) (on : ℕ) (prices : ℕ
    → ℤ) (f : ℕ) (firm : Firm) → AreBestBefore firms trades scale on prices f
    → slice_get firms f ≡ Some firm → StandsAt firms trades scale on prices f Impossible
    → IsFirstImpossible firms trades scale on prices f
first_impossible firms trades scale on prices f firm before is stands =
    record { before = before; firm = firm; is = is; impossible = stands firm is }

pub first_bettered : (firms : List Firm) (trades : List Ends) (scale : ℤ) (on : ℕ) (prices : ℕ
    → ℤ) (f x : ℕ) (gain : ℤ) (firm : Firm)
    → AreBestBefore firms trades scale on prices f → slice_get firms f ≡ Some firm
    → StandsAt firms trades scale on prices f (Bettered x gain)
    → IsFirstBettered firms trades scale on prices f x gain
first_bettered firms trades scale on prices f x gain firm before is stands =
    let better = stands firm is in
    record {
      before = before;
      firm = firm;
      is = is;
      own_value = better.own_value;
      own_is = better.own_is;
      best_value = better.best_value;
      best = better.best;
      gain_is = better.gain_is;
      gains = better.gains;
    }

-- the sum of the worths fits
pub sum_fits : (surplus amount : ℤ) (f n : ℕ) → IsAtMost surplus (f * most_worth) → IsAtMost amount most_worth → f < n
    → n ≤ most_market_firms → SFits w128 (surplus +ℤ amount)
sum_fits surplus amount f n small more below few =
    let low = small.low in
    let high = small.high in
    let more_low = more.low in
    let more_high = more.high in
    omega (arith, ints, low, high, more_low, more_high, below, few)

-- the bundle at hand is best, with its worth
pub best_worth : (worth value_of : ℕ → Option ℤ) (own x : ℕ) (amount most : ℤ) → worth own ≡ Some amount
    → IsAtMost amount most_worth → IsBest value_of x most → x ≡ own
    → IsBestWorth worth value_of own amount
best_worth worth value_of own x amount most worth_is small best same = record {
  worth_is = worth_is;
  small = small;
  value = most;
  best = subst (λ (y : ℕ). IsBest value_of y most) same best;
}

-- another one is best, which it is only where the one at hand isn't
pub bettered : (value_of : ℕ → Option ℤ) (own x : ℕ) (value most : ℤ) → value_of own ≡ Some value
    → IsBest value_of x most → ((other : ℤ) → IsBest value_of own other → x ≡ own) → x ≢ own
    → IsBettered value_of own x (most -ℤ value)
bettered value_of own x value most own_is best kept apart = record {
  own_value = value;
  own_is = own_is;
  best_value = most;
  best = best;
  gain_is = refl;
  gains = by_lt_z value most (λ below. omega (arith, ints, below)) (λ above. absurd (apart (kept value (record {
    is = own_is;
    most = λ y other y_is. let step = best.most y other y_is in omega (arith, ints, step, above);
  }))));
}

-- the difference of two utilities as the code computes it
pub gain_is : (most value : ℤ) → IsAtMost most most_utility → IsAtMost value most_utility
    → to_z w128 (of_z w128 (to_z w128 (of_z w128 most) -ℤ to_z w128 (of_z w128 value))) ≡ most -ℤ value
gain_is most value small_most small_value = omega (
  arith,
  ints,
  small_most.low,
  small_most.high,
  small_value.low,
  small_value.high,
)

-- ---- worths that are asked for

-- the firms before a place are asked for no more worths than all
pub worths_within : (k : ℕ) (firms : List Firm) → graph_worths (take k firms) ≤ graph_worths firms
worths_within zero firms = omega arith
worths_within (suc k) [] = omega arith
worths_within (suc k) (firm ∷ firms) = let rest = worths_within k firms in omega (arith, rest)
