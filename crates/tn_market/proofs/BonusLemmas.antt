-- The bonus of wanted positions: a bundle of greatest value has all of them, if any possible bundle has.
use Rattle.std.proofs.Common.{◌≡◌, ◌≢◌, ℕ, zero, suc, ◌+◌, ◌*◌, ◌^◌, ◌<◌, ◌≤◌, Bool, true, false, ◌==◌, ◌||◌, if◌then◌else◌, List, length, Option, Some, None, option_map, refl, sym, ap, ◌∙◌, subst, arith, inl, inr, ℤ, pos, ◌+ℤ◌, ◌-ℤ◌, ◌*ℤ◌, neg_ℤ, negsuc, ◌≤ℤ◌}
use Rattle.std.specs.List.{All}
use Rattle.std.specs.Option.{IfSome}
use Rattle.std.proofs.lemmas.Int.{ints}
use Rattle.std.proofs.lemmas.Bool.{cases_eq, cases_Bool, eqb-true}
use Rattle.std.proofs.lemmas.List.{get_or-set_same, get_or-set_other}
use Rattle.std.proofs.lemmas.List.Elements.{All-get_or, All-set}
use Rattle.std.proofs.Math.ListN.{set, length-set}
use mir.Syntax.{w128}
use mir.Val.{SFits, to_z, of_z}
use Rattle.tn_base.specs.Sets.{has, minus, union, size_below, sum_over}
use Rattle.tn_base.specs.Arcs.{IsAtMost}
use Rattle.tn_base.specs.Firm.{Firm, payments, utility, IsBest}
use Rattle.tn_base.proofs.SetLemmas.{has_from_minus-zero, minus-zero_from, has_below, has-union, has-zero, same_set, within_from}
use Rattle.tn_base.proofs.SumLemmas.{sum_over-same_terms, sum_over-plus}
use Rattle.tn_base.specs.declared.side.Side.TheVariants.{Buy, Sell}
use Rattle.tn_firm_laws.proofs.BoundLemmas.{sum_over_small}
use Rattle.tn_firm_laws.proofs.KeepLemmas.{option_map-some}
use Rattle.tn_market.specs.Valued.{side_at, IsWorthAtMost}
use Rattle.tn_market.specs.Best.{IsBetween, IsBestBetween, GivesBest}
use Rattle.tn_model.specs.Prices.{price_at}
use Rattle.tn_market.specs.Ascent.{aimed, bonus, gain_at, payment_of, AreGains}
use Rattle.tn_market.proofs.AscentLemmas.{aimed_some, aimed_none, scaled_small, smaller}
use Rattle.tn_market.proofs.AskLemmas.{impossible_worth}
use Rattle.tn_market.specs.Widths.{most_aimed, most_asked_price, most_utility, most_worth, most_scale, most_own}

-- ---- the list of gains

payment_at : (buys k : ℕ) (price : ℤ) → payment_of (side_at buys k) price ≡ (if has buys k then neg_ℤ price else price)
payment_at buys k price = by_side (has buys k)
  where
    by_side : (b : Bool) → payment_of (if b then Buy else Sell) price ≡ (if b then neg_ℤ price else price)
    by_side true = refl
    by_side false = refl

-- no position is listed yet
pub none_listed : (buys need : ℕ) (prices gains : List ℤ) → length gains ≡ most_own
    → All (λ gain. IsAtMost gain (2 * most_utility)) gains → AreGains buys need prices 0 gains
none_listed buys need prices gains counted small = record {
  counted = counted;
  small = small;
  each =
      λ k below. absurd (omega (arith, below));
}

-- one more
pub one_listed : (buys need : ℕ) (prices gains : List ℤ) (k : ℕ) (gain : ℤ) → AreGains buys need prices k gains
    → k < most_own
    → gain ≡ payment_of (side_at buys k) (price_at prices k) +ℤ (if has need k then pos most_utility else pos 0)
    → IsAtMost gain (2 * most_utility)
    → AreGains buys need prices (k + 1) (set gains k gain)
one_listed buys need prices gains k gain before inside is small =
    let wide : k < length gains = omega (arith, inside, before.counted) in
    record {
      counted = length-set gains k gain ∙ before.counted;
      small = All-set (λ z. IsAtMost z (2 * most_utility)) gains k gain small before.small;
      each = λ i below. elim (cases_eq i k) [
        | inl e ↦ subst (λ (n : ℕ). price_at (set gains k gain) n ≡ gain_at buys (price_at prices) need n) (sym e)
            (get_or-set_same gains k gain (pos 0) wide ∙ is ∙ ap (λ (z : ℤ). z +ℤ bonus need k)
            (payment_at buys k (price_at prices k)))
        | inr d ↦ get_or-set_other gains k i gain (pos 0) d ∙ before.each i (omega (arith, below, d))
      ];
    }

-- ---- sums of bonuses

-- one term of a sum
abbrev term : Bool → ℤ → ℤ
term b z = if b then z else pos 0

-- how much all wanted positions are worth
abbrev pub all_bonuses : ℕ → ℕ → ℤ
all_bonuses need n = pos (most_utility * size_below n need)

-- no bundle has more bonuses
pub bonus_most : (need n x : ℕ) → sum_over (bonus need) n x ≤ℤ all_bonuses need n
unfolding sum_over size_below
bonus_most need zero x = omega (arith, ints)
bonus_most need (suc n) x =
    let rest = bonus_most need n x in
    by_case (has x n) (has need n) rest
  where
    by_case : (b w : Bool) → sum_over (bonus need) n x ≤ℤ all_bonuses need n
        → (sum_over (bonus need) n x +ℤ term b (term w (pos most_utility)))
        ≤ℤ pos (most_utility * (size_below n need + (if w then 1 else 0)))
    by_case true true h = omega (arith, ints, h)
    by_case true false h = omega (arith, ints, h)
    by_case false true h = omega (arith, ints, h)
    by_case false false h = omega (arith, ints, h)

-- and none has less than nothing
pub bonus_least : (need n x : ℕ) → pos 0 ≤ℤ sum_over (bonus need) n x
unfolding sum_over
bonus_least need zero x = omega (arith, ints)
bonus_least need (suc n) x = by_case (has x n) (has need n) (bonus_least need n x)
  where
    by_case : (b w : Bool) → pos 0 ≤ℤ sum_over (bonus need) n x
        → pos 0 ≤ℤ (sum_over (bonus need) n x +ℤ term b (term w (pos most_utility)))
    by_case true true h = omega (arith, ints, h)
    by_case true false h = omega (arith, ints, h)
    by_case false true h = omega (arith, ints, h)
    by_case false false h = omega (arith, ints, h)

size_below_le : (n x : ℕ) → size_below n x ≤ n
unfolding size_below
size_below_le zero x = omega arith
size_below_le (suc n) x = by_case (has x n) (size_below_le n x)
  where
    by_case : (b : Bool) → size_below n x ≤ n → size_below n x + (if b then 1 else 0) ≤ suc n
    by_case true h = omega (arith, h)
    by_case false h = omega (arith, h)

-- a wanted position is one of the firm's
wanted_below : (firm : Firm) (need free : ℕ) → union need free < 2 ^ firm.count → (k : ℕ) → has need k ≡ true
    → k < firm.count
wanted_below firm need free own k wanted =
    has_below (union need free) firm.count k own (has-union need free k ∙ ap (λ b. b || has free k) wanted)

pub need_within : (firm : Firm) (need free : ℕ) → union need free < 2 ^ firm.count → need < 2 ^ firm.count
need_within firm need free own = within_from need firm.count (λ k above. by_case k above (has need k) refl)
  where
    by_case : (k : ℕ) → firm.count ≤ k → (b : Bool) → has need k ≡ b → has need k ≡ false
    by_case k above true e = absurd (let below = wanted_below firm need free own k e in omega (arith, below, above))
    by_case k above false e = e

-- a bundle with all wanted positions has all bonuses
pub bonus_all : (need n x : ℕ) → ((k : ℕ) → has need k ≡ true → has x k ≡ true)
    → sum_over (bonus need) n x ≡ all_bonuses need n
unfolding sum_over size_below
bonus_all need zero x all = refl
bonus_all need (suc n) x all =
    let rest = bonus_all need n x all in
    by_case (has x n) (has need n) (all n) rest
  where
    by_case : (b w : Bool) → (w ≡ true → b ≡ true) → sum_over (bonus need) n x ≡ all_bonuses need n
        → sum_over (bonus need) n x +ℤ term b (term w (pos most_utility))
        ≡ pos (most_utility * (size_below n need + (if w then 1 else 0)))
    by_case true true has_all h = omega (arith, ints, h)
    by_case true false has_all h = omega (arith, ints, h)
    by_case false true has_all h = absurd (let e = has_all refl in (cc e))
    by_case false false has_all h = omega (arith, ints, h)

-- and one that lacks a wanted position has one less
pub bonus_missing : (need n x k : ℕ) → k < n → has need k ≡ true → has x k ≡ false
    → (sum_over (bonus need) n x +ℤ pos most_utility) ≤ℤ all_bonuses need n
unfolding sum_over size_below
bonus_missing need zero x k below wanted absent = absurd (omega (arith, below))
bonus_missing need (suc n) x k below wanted absent =
    elim (cases_eq k n) [
      | inl e ↦
          last (has x n) (has need n) (subst (λ (i : ℕ). has x i ≡ false) e absent)
          (subst (λ (i : ℕ). has need i ≡ true) e wanted) (bonus_most need n x)
      | inr d ↦ earlier (has x n) (has need n) (bonus_missing need n x k (omega (arith, below, d)) wanted absent)
    ]
  where
    last : (b w : Bool) → b ≡ false → w ≡ true → sum_over (bonus need) n x ≤ℤ all_bonuses need n
        → ((sum_over (bonus need) n x +ℤ term b (term w (pos most_utility))) +ℤ pos most_utility)
        ≤ℤ pos (most_utility * (size_below n need + (if w then 1 else 0)))
    last true w away there h = absurd (cc away)
    last false false away there h = absurd (cc there)
    last false true away there h = omega (arith, ints, h)

    earlier : (b w : Bool) → (sum_over (bonus need) n x +ℤ pos most_utility) ≤ℤ all_bonuses need n
        → ((sum_over (bonus need) n x +ℤ term b (term w (pos most_utility))) +ℤ pos most_utility)
        ≤ℤ pos (most_utility * (size_below n need + (if w then 1 else 0)))
    earlier true true h = omega (arith, ints, h)
    earlier true false h = omega (arith, ints, h)
    earlier false true h = omega (arith, ints, h)
    earlier false false h = omega (arith, ints, h)

-- ---- sizes of utilities

payments_small : (buys : ℕ) (prices : List ℤ) (k : ℕ) → All (λ p. IsAtMost p most_asked_price) prices
    → k < length prices
    → IsAtMost (payments buys (price_at prices) k) most_asked_price
payments_small buys prices k small inside =
    by_side (has buys k) (All-get_or (λ p. IsAtMost p most_asked_price) prices k (pos 0) inside small)
  where
    by_side : (b : Bool) → IsAtMost (price_at prices k) most_asked_price
        → IsAtMost (if b then neg_ℤ (price_at prices k) else price_at prices k) most_asked_price
    by_side true h = record { low = omega (arith, ints, h.high); high = omega (arith, ints, h.low) }
    by_side false h = h

-- ---- what the search finds

-- a question to the search, within its limits, with the gains that it counts
pub record IsQuestion (firm : Firm) (limit need free : ℕ) (scale : ℤ) (prices gains : List ℤ) : Type 0 where
  pub own : union need free < 2 ^ firm.count
  pub priced : length prices ≡ firm.count
  pub small_prices : All (λ p. IsAtMost p most_asked_price) prices
  pub from_one : pos 1 ≤ℤ scale
  pub small_scale : scale ≤ℤ pos most_scale
  pub few : firm.count ≤ most_own
  pub small_worths : limit ≤ most_worth
  pub within : IsWorthAtMost limit firm
  pub gains_are : (k : ℕ) → k < firm.count → price_at gains k ≡ gain_at firm.buys (price_at prices) need k

-- a utility, from the worth
record IsMadeOf (firm : Firm) (scale : ℤ) (prices : List ℤ) (y : ℕ) (value : ℤ) : Type 0 where
  worth : ℤ
  is : firm.worth y ≡ Some worth
  sum : value ≡ scale *ℤ worth +ℤ sum_over (payments firm.buys (price_at prices)) firm.count y
  small : IsAtMost value (6013 * 10 ^ 18)

made_of : (firm : Firm) (limit need free : ℕ) (scale : ℤ) (prices gains : List ℤ)
    → IsQuestion firm limit need free scale prices gains
    → (y : ℕ) (value : ℤ) → utility scale (price_at prices) firm y ≡ Some value → IsMadeOf firm scale prices y value
made_of firm limit need free scale prices gains question y value is =
    let parts = option_map-some _ (firm.worth y) value is in
    let worth_small = smaller parts.0 limit most_worth question.small_worths (question.within y parts.0 parts.1) in
    let scaled = scaled_small scale parts.0 question.from_one question.small_scale worth_small in
    let few = question.few in
    let counted = question.priced in
    let paid = sum_over_small (payments firm.buys (price_at prices)) firm.count y most_asked_price
    (λ k below. payments_small firm.buys prices k question.small_prices (omega (arith, below, counted))) in
    let sum : value ≡ scale *ℤ parts.0 +ℤ sum_over (payments firm.buys (price_at prices)) firm.count y = sym parts.2 in
    record {
      worth = parts.0;
      is = parts.1;
      sum = sum;
      small = record {
        low = omega (arith, ints, sum, scaled.low, paid.low, few);
        high = omega (arith, ints, sum, scaled.high, paid.high, few);
      };
    }

-- the gains of a bundle are its payments and its bonuses
gains_sum : (firm : Firm) (limit need free : ℕ) (scale : ℤ) (prices gains : List ℤ)
    → IsQuestion firm limit need free scale prices gains
    → (y : ℕ) → sum_over (price_at gains) firm.count y ≡ sum_over (payments firm.buys (price_at prices)) firm.count y
    +ℤ sum_over (bonus need) firm.count y
gains_sum firm limit need free scale prices gains question y =
    sum_over-same_terms (price_at gains) (gain_at firm.buys (price_at prices) need) y firm.count
    (λ k below there. question.gains_are k below)
    ∙ sum_over-plus (payments firm.buys (price_at prices)) (bonus need) firm.count y

-- the value of a bundle within the limits is its utility and its bonuses
aimed_is : (firm : Firm) (limit need free : ℕ) (scale : ℤ) (prices gains : List ℤ)
    → IsQuestion firm limit need free scale prices gains
    → (y : ℕ) (value : ℤ) → minus y (union need free) ≡ 0 → utility scale (price_at prices) firm y ≡ Some value
    → (aimed (union need free) scale gains firm).worth y ≡ Some (value +ℤ sum_over (bonus need) firm.count y)
aimed_is firm limit need free scale prices gains question y value inside is =
    let made = made_of firm limit need free scale prices gains question y value is in
    let sum = gains_sum firm limit need free scale prices gains question y in
    let made_sum = made.sum in
    let total : scale *ℤ made.worth +ℤ sum_over (price_at gains) firm.count y ≡ value
    +ℤ sum_over (bonus need) firm.count y =
    omega (arith, ints, sum, made_sum) in
    aimed_some (union need free) scale gains firm y made.worth inside made.is ∙ ap (λ (z : ℤ). Some z) total

-- and the other way round
record IsAimed (firm : Firm) (need free : ℕ) (scale : ℤ) (prices : List ℤ) (x : ℕ) (value : ℤ) : Type 0 where
  inside : minus x (union need free) ≡ 0
  utility_of : ℤ
  is : utility scale (price_at prices) firm x ≡ Some utility_of
  sum : value ≡ utility_of +ℤ sum_over (bonus need) firm.count x

aimed_parts : (firm : Firm) (limit need free : ℕ) (scale : ℤ) (prices gains : List ℤ)
    → IsQuestion firm limit need free scale prices gains
    → (x : ℕ) (value : ℤ) → (aimed (union need free) scale gains firm).worth x ≡ Some value
    → IsAimed firm need free scale prices x value
aimed_parts firm limit need free scale prices gains question x value is =
    by_case (minus x (union need free) == 0) refl is
  where
    by_case : (b : Bool) → (minus x (union need free) == 0) ≡ b
        → (if b then option_map (λ a. scale *ℤ a +ℤ sum_over (price_at gains) firm.count x) (firm.worth x) else None)
        ≡ Some value
        → IsAimed firm need free scale prices x value
    by_case false e h = absurd (cc h)
    by_case true e h =
        let parts = option_map-some (λ a. scale *ℤ a +ℤ sum_over (price_at gains) firm.count x) (firm.worth x) value h
        in
        let sum = gains_sum firm limit need free scale prices gains question x in
        let whole : value ≡ scale *ℤ parts.0 +ℤ sum_over (price_at gains) firm.count x = sym parts.2 in
        record {
          inside = eqb-true _ _ e;
          utility_of = scale *ℤ parts.0 +ℤ sum_over (payments firm.buys (price_at prices)) firm.count x;
          is = ap (option_map (λ a. scale *ℤ a +ℤ sum_over (payments firm.buys (price_at prices)) firm.count x))
              parts.1;
          sum = omega (arith, ints, sum, whole);
        }

-- a value is small
pub value_small : (firm : Firm) (limit need free : ℕ) (scale : ℤ) (prices gains : List ℤ)
    → IsQuestion firm limit need free scale prices gains
    → (x : ℕ) (value : ℤ) → (aimed (union need free) scale gains firm).worth x ≡ Some value → IsAtMost value most_aimed
value_small firm limit need free scale prices gains question x value is =
    let parts = aimed_parts firm limit need free scale prices gains question x value is in
    let made = made_of firm limit need free scale prices gains question x parts.utility_of parts.is in
    let few = question.few in
    let most = bonus_most need firm.count x in
    let least = bonus_least need firm.count x in
    let size_few = size_below_le firm.count need in
    let sum = parts.sum in
    record {
      low = omega (arith, ints, sum, made.small.low, least);
      high = omega (arith, ints, sum, made.small.high, most, size_few, few);
    }

-- where the best bundle has all wanted positions, it is best among those that have
pub best_some : (firm : Firm) (limit need free : ℕ) (scale : ℤ) (prices gains : List ℤ)
    → IsQuestion firm limit need free scale prices gains
    → (x : ℕ) (value : ℤ) → IsBest (aimed (union need free) scale gains firm).worth x value → minus need x ≡ 0
    → IsBestBetween need free (utility scale (price_at prices) firm) x (value -ℤ all_bonuses need firm.count)
best_some firm limit need free scale prices gains question x value best has_all =
    let parts = aimed_parts firm limit need free scale prices gains question x value best.is in
    let mine = bonus_all need firm.count x (λ k there. has_from_minus-zero need x k has_all there) in
    let sum = parts.sum in
    let same : parts.utility_of ≡ value -ℤ all_bonuses need firm.count = omega (arith, ints, sum, mine) in
    record {
      is = parts.is ∙ ap (λ (z : ℤ). Some z) same;
      between = (
        λ k there. has_from_minus-zero need x k has_all there,
        λ k there. has_from_minus-zero x (union need free) k parts.inside there,
      );
      most = λ y other between there.
          let inside = minus-zero_from y (union need free) between.1 in
          let yours = bonus_all need firm.count y between.0 in
          let below = best.most y _ (aimed_is firm limit need free scale prices gains question y other inside there) in
          omega (arith, ints, below, yours);
    }

-- where the best bundle lacks a wanted position, no possible one has all
pub best_none : (firm : Firm) (limit need free : ℕ) (scale : ℤ) (prices gains : List ℤ)
    → IsQuestion firm limit need free scale prices gains
    → (x : ℕ) (value : ℤ) → IsBest (aimed (union need free) scale gains firm).worth x value → minus need x ≢ 0
    → GivesBest need free (utility scale (price_at prices) firm) None
best_none firm limit need free scale prices gains question x value best lacks = λ y between.
    by_case y between (utility scale (price_at prices) firm y) refl
  where
    parts : IsAimed firm need free scale prices x value
    parts = aimed_parts firm limit need free scale prices gains question x value best.is

    -- all wanted positions would be there
    none_missing : (y : ℕ) → IsBetween need free y → (other : ℤ) → utility scale (price_at prices) firm y ≡ Some other
        → (k : ℕ) → has need k ≡ true → has x k ≡ true
    none_missing y between other there k wanted =
        let sum = parts.sum in
        let mine = made_of firm limit need free scale prices gains question x parts.utility_of parts.is in
        let yours = made_of firm limit need free scale prices gains question y other there in
        let inside = minus-zero_from y (union need free) between.1 in
        let all = bonus_all need firm.count y between.0 in
        let below = best.most y _ (aimed_is firm limit need free scale prices gains question y other inside there) in
        elim (cases_Bool (has x k)) [
          | inl e ↦ e
          | inr e ↦
              let missing =
              bonus_missing need firm.count x k (wanted_below firm need free question.own k wanted) wanted e in
              absurd (omega (arith, ints, sum, all, below, missing, mine.small.high, yours.small.low))
        ]

    by_case : (y : ℕ) → IsBetween need free y → (found : Option ℤ) → utility scale (price_at prices) firm y ≡ found
        → utility scale (price_at prices) firm y ≡ None
    by_case y between None e = e
    by_case y between (Some other) e = absurd (lacks (minus-zero_from need x (none_missing y between other e)))

-- ---- where nothing is wanted

sum_over-none : (c : ℕ → ℤ) (n x : ℕ) → ((k : ℕ) → c k ≡ pos 0) → sum_over c n x ≡ pos 0
unfolding sum_over
sum_over-none c zero x none = refl
sum_over-none c (suc n) x none = let rest = sum_over-none c n x none in by_case (has x n) rest (none n)
  where
    by_case : (b : Bool) → sum_over c n x ≡ pos 0 → c n ≡ pos 0 → sum_over c n x +ℤ (if b then c n else pos 0) ≡ pos 0
    by_case true rest last = omega (arith, ints, rest, last)
    by_case false rest last = omega (arith, ints, rest)

no_bonus : (n x : ℕ) → sum_over (bonus 0) n x ≡ pos 0
no_bonus n x = sum_over-none (bonus 0) n x (λ k. ap (λ (b : Bool). if b then pos most_utility else pos 0) (has-zero k))

nothing_in : (x k : ℕ) → has 0 k ≡ true → has x k ≡ true
nothing_in x k there = let away = has-zero k in absurd (cc (there, away))

beside_nothing : (x : ℕ) → union 0 x ≡ x
beside_nothing x = same_set (union 0 x) x (λ k. has-union 0 x k ∙ ap (λ (b : Bool). b || has x k) (has-zero k))

pub beside_none : (none x : ℕ) → none ≡ 0 → union none x ≡ x
beside_none none x nothing = ap (λ (y : ℕ). union y x) nothing ∙ beside_nothing x

-- then a value is a utility
plain_aimed : (firm : Firm) (limit allowed : ℕ) (scale : ℤ) (prices gains : List ℤ)
    → IsQuestion firm limit 0 allowed scale prices gains
    → (y : ℕ) (value : ℤ) → minus y (union 0 allowed) ≡ 0 → utility scale (price_at prices) firm y ≡ Some value
    → (aimed (union 0 allowed) scale gains firm).worth y ≡ Some value
plain_aimed firm limit allowed scale prices gains question y value inside is =
    let none = no_bonus firm.count y in
    let same : value +ℤ sum_over (bonus 0) firm.count y ≡ value = omega (arith, ints, none) in
    aimed_is firm limit 0 allowed scale prices gains question y value inside is ∙ ap (λ (z : ℤ). Some z) same

pub plain_utility : (firm : Firm) (limit none x : ℕ) (scale : ℤ) (prices gains : List ℤ) → none ≡ 0
    → IsQuestion firm limit none x scale prices gains
    → (aimed x scale gains firm).worth x ≡ utility scale (price_at prices) firm x
plain_utility firm limit none x scale prices gains nothing question =
    by_case (utility scale (price_at prices) firm x) refl
  where
    asked : IsQuestion firm limit 0 x scale prices gains
    asked = subst (λ (need : ℕ). IsQuestion firm limit need x scale prices gains) nothing question

    by_case : (o : Option ℤ) → utility scale (price_at prices) firm x ≡ o
        → (aimed x scale gains firm).worth x ≡ utility scale (price_at prices) firm x
    by_case (Some value) e =
        subst (λ (allowed : ℕ). (aimed allowed scale gains firm).worth x ≡ Some value) (beside_nothing x)
        (plain_aimed firm limit x scale prices gains asked x value
        (minus-zero_from x (union 0 x) (λ k there. ap (λ (y : ℕ). has y k) (beside_nothing x) ∙ there)) e)
        ∙ sym e
    by_case None e =
        aimed_none x scale gains firm x (impossible_worth (λ a. scale *ℤ a
        +ℤ sum_over (payments firm.buys (price_at prices)) firm.count x) (firm.worth x) e) ∙ sym e

-- a bundle of greatest value is best within the allowed positions
pub plain_best : (firm : Firm) (limit none allowed : ℕ) (scale : ℤ) (prices gains : List ℤ) → none ≡ 0
    → IsQuestion firm limit none allowed scale prices gains
    → (x : ℕ) (value : ℤ) → IsBest (aimed allowed scale gains firm).worth x value
    → IsBestBetween 0 allowed (utility scale (price_at prices) firm) x value
plain_best firm limit none allowed scale prices gains nothing question x value best =
    let asked = subst (λ (need : ℕ). IsQuestion firm limit need allowed scale prices gains) nothing question in
    let at = subst (λ (within : ℕ). IsBest (aimed within scale gains firm).worth x value) (sym (beside_nothing allowed))
    best in
    let bonuses = sym (bonus_all 0 firm.count x (nothing_in x)) ∙ no_bonus firm.count x in
    let same : value -ℤ all_bonuses 0 firm.count ≡ value = omega (arith, ints, bonuses) in
    subst (IsBestBetween 0 allowed (utility scale (price_at prices) firm) x) same
    (best_some firm limit 0 allowed scale prices gains asked x value at (minus-zero_from 0 x (nothing_in x)))

-- and the other way round
pub best_plain : (firm : Firm) (limit none allowed : ℕ) (scale : ℤ) (prices gains : List ℤ) → none ≡ 0
    → IsQuestion firm limit none allowed scale prices gains
    → (x : ℕ) (value : ℤ) → IsBestBetween 0 allowed (utility scale (price_at prices) firm) x value
    → IsBest (aimed allowed scale gains firm).worth x value
best_plain firm limit none allowed scale prices gains nothing question x value best =
    subst (λ (within : ℕ). IsBest (aimed within scale gains firm).worth x value) (beside_nothing allowed) (record {
      is = plain_aimed firm limit allowed scale prices gains asked x value
          (minus-zero_from x (union 0 allowed) best.between.1) best.is;
      most = λ y other there.
          let parts = aimed_parts firm limit 0 allowed scale prices gains asked y other there in
          let sum = parts.sum in
          let bonuses = no_bonus firm.count y in
          let below = best.most y parts.utility_of (
            nothing_in y,
            λ k in_it. has_from_minus-zero y (union 0 allowed) k parts.inside in_it,
          ) parts.is in
          omega (arith, ints, sum, bonuses, below);
    })
  where
    asked : IsQuestion firm limit 0 allowed scale prices gains
    asked = subst (λ (need : ℕ). IsQuestion firm limit need allowed scale prices gains) nothing question

-- a utility is small
pub plain_small : (firm : Firm) (limit none allowed : ℕ) (scale : ℤ) (prices gains : List ℤ)
    → IsQuestion firm limit none allowed scale prices gains
    → (x : ℕ) (found : Option ℤ) → found ≡ utility scale (price_at prices) firm x
    → IfSome found (λ value. IsAtMost value most_utility)
plain_small firm limit none allowed scale prices gains question x None is = tt
plain_small firm limit none allowed scale prices gains question x (Some value) is =
    let made = made_of firm limit none allowed scale prices gains question x value (sym is) in
    record { low = omega (arith, ints, made.small.low); high = omega (arith, ints, made.small.high) }

-- what the code computes of a value
pub plain_value : (value : ℤ) (count members : ℕ) → IsAtMost value most_aimed → count ≡ members → count ≤ 64
    → to_z w128 (of_z w128 (to_z w128 (of_z w128 value) -ℤ to_z w128 (of_z w128 (pos most_utility *ℤ to_z w128 count))))
    ≡ value -ℤ pos (most_utility * members)
plain_value value count members small same few = omega (arith, ints, small.low, small.high, same, few)

pub plain_fits : (value : ℤ) (count : ℕ) → IsAtMost value most_aimed → count ≤ 64
    → SFits w128 (to_z w128 (of_z w128 value) -ℤ to_z w128 (of_z w128 (pos most_utility *ℤ to_z w128 count)))
plain_fits value count small few =
    let inner : to_z w128 (of_z w128 value) -ℤ to_z w128 (of_z w128 (pos most_utility *ℤ to_z w128 count)) ≡ value
    -ℤ pos (most_utility * count) =
    omega (arith, ints, small.low, small.high, few) in
    subst (SFits w128) (sym inner)
    (fits (value -ℤ pos (most_utility * count)) (record {
      low = omega (arith, ints, small.low, few);
      high =
          omega (arith, ints, small.high, few);
    }))
  where
    fits : (z : ℤ) → IsAtMost z (10 ^ 25) → SFits w128 z
    fits (pos n) small = record { sfits = omega (arith, ints, small.high) }
    fits (negsuc n) small = record { sfits = omega (arith, ints, small.low) }
