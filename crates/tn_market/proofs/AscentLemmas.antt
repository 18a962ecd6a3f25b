-- Steepest ascent: the values that it compares, how far a step has looked, and that what it stops at is best.
use Rattle.std.proofs.Common.{◌≡◌, ◌≢◌, ℕ, ◌+◌, ◌*◌, ◌^◌, ◌<◌, ◌≤◌, Bool, true, false, not, ◌==◌, ◌&&◌, if◌then◌else◌, List, Option, Some, None, option_map, refl, sym, ap, ◌∙◌, subst, arith, inl, inr, ◌⊎◌, ℤ, pos, ◌+ℤ◌, ◌-ℤ◌, ◌*ℤ◌, ◌≤ℤ◌, ◌<ℤ◌, add-one, IsSome}
use Rattle.std.proofs.lemmas.Int.{ints}
use Rattle.std.proofs.lemmas.Bool.{cases_eq, eq-eqb, eqb-true, cases_lt, and_parts, false≢true, lt-ltb}
use Rattle.std.proofs.lemmas.Option.{same_Some, none-some}
use lib.Signed.{le_z}
use mir.Syntax.{w128}
use mir.Val.{SFits, of_z, to_z}
use Rattle.tn_base.specs.Sets.{has, toggle, minus, sum_over, set_of}
use Rattle.tn_base.specs.Arcs.{IsAtMost}
use Rattle.tn_base.specs.Firm.{Firm, plus_sum, HasOwnBundles, MayAbstain, IsBest}
use Rattle.tn_base.specs.Exchange.{MeetsExchange}
use Rattle.tn_base.proofs.SetLemmas.{has_above, has_from_minus-zero, minus-zero_from, has-zero, has-set_of, has-toggle_same, has-toggle_other, within_from, toggle_comm}
use Rattle.tn_firm_laws.proofs.KeepLemmas.{meets-plus_sum, meets-among}
use Rattle.tn_firm_laws.proofs.LocalLemmas.{local_to_global}
use Rattle.tn_base.proofs.SumLemmas.{sum_over-toggle_in, sum_over-toggle_out}
use Rattle.tn_firm_laws.proofs.BoundLemmas.{sum_over_small, times_small}
use Rattle.tn_model.specs.Prices.{price_at}
use Rattle.tn_market.specs.declared.bundle_value.BundleValue.{BundleValue}
use Rattle.tn_market.specs.Ascent.{aimed, IsAim, IsBesideBest, IsNearbyBest, IsValued, StaysAt, IsNoWorse, TriesOne, TriesOthers, TriesBeside, TriesNearby}
use Rattle.tn_market.specs.Widths.{most_utility, most_worth, most_scale, most_own}

-- ---- sizes

-- a scaled worth is at most so much in size
pub scaled_small : (scale worth : ℤ) → pos 1 ≤ℤ scale → scale ≤ℤ pos most_scale → IsAtMost worth most_worth
    → IsAtMost (scale *ℤ worth) (most_scale * most_worth)
scaled_small scale worth from_one small_scale small =
    times_small scale worth most_scale most_worth (record { low = omega (arith, ints, from_one); high = small_scale })
    small

-- what the code computes
pub valued_is : (scale worth gain : ℤ) → IsAtMost (scale *ℤ worth) (most_scale * most_worth)
    → IsAtMost gain (most_own * (2 * most_utility))
    → to_z w128 (of_z w128 (to_z w128 (of_z w128 (scale *ℤ worth)) +ℤ gain)) ≡ scale *ℤ worth +ℤ gain
valued_is scale worth gain product small = omega (arith, ints, product.low, product.high, small.low, small.high)

-- one more term of a sum
pub sum_over-next : (c : ℕ → ℤ) (k x : ℕ) → sum_over c (k + 1) x ≡ sum_over c k x +ℤ (if has x k then c k else pos 0)
unfolding sum_over
sum_over-next c k x = rw add-one refl

-- ---- the gains

-- the gain of a bundle is at most so much in size
pub gain_small : (allowed : ℕ) (scale : ℤ) (gains : List ℤ) (limit : ℕ) (firm : Firm) (x : ℕ)
    → IsAim allowed scale gains limit firm
    → IsAtMost (sum_over (price_at gains) firm.count x) (most_own * (2 * most_utility))
gain_small allowed scale gains limit firm x is =
    let counted = is.counted in
    let few = is.few in
    let sum = sum_over_small (price_at gains) firm.count x (2 * most_utility) (λ k below.
    is.small_gains k (pos 0) (omega (arith, below, counted))) in
    let low = sum.low in
    let high = sum.high in
    record { low = omega (arith, ints, low, few); high = omega (arith, ints, high, few) }

-- a position's gain less where it is moved out, and one more where it is moved in, in the range of the code's
pub record IsToggledGain (gains : List ℤ) (n x k : ℕ) (z : ℤ) : Type 0 where
  pub sum : z ≡ sum_over (price_at gains) n (toggle x k)
  pub fits : SFits w128 z

module _ (allowed : ℕ) (scale : ℤ) (gains : List ℤ) (limit : ℕ) (firm : Firm)
    (is : IsAim allowed scale gains limit firm) (x k : ℕ) (gain : ℤ) (below : k < firm.count)
    (gain_is : gain ≡ sum_over (price_at gains) firm.count x) where
  in_range : (z : ℤ) → z ≡ sum_over (price_at gains) firm.count (toggle x k)
      → IsToggledGain gains firm.count x k z
  in_range z sum =
      let small = gain_small allowed scale gains limit firm (toggle x k) is in
      let low = small.low in
      let high = small.high in
      record { sum = sum; fits = omega (arith, ints, sum, low, high) }

  pub gain_out : has x k ≡ true → IsToggledGain gains firm.count x k (gain -ℤ price_at gains k)
  gain_out present =
      let toggled = sum_over-toggle_out (price_at gains) firm.count x k below present in
      in_range (gain -ℤ price_at gains k) (omega (arith, ints, toggled, gain_is))

  pub gain_in : has x k ≡ false → IsToggledGain gains firm.count x k (gain +ℤ price_at gains k)
  gain_in absent =
      let toggled = sum_over-toggle_in (price_at gains) firm.count x k below absent in
      in_range (gain +ℤ price_at gains k) (omega (arith, ints, toggled, gain_is))

-- ---- the values

-- a bundle within allowed positions is one of the firm's
pub allowed_within : (x allowed n : ℕ) → allowed < 2 ^ n → minus x allowed ≡ 0 → x < 2 ^ n
allowed_within x allowed n own inside = within_from x n (λ k above. absent k above (has x k) refl)
  where
    absent : (k : ℕ) → n ≤ k → (b : Bool) → has x k ≡ b → has x k ≡ false
    absent k above true e =
        let there = has_from_minus-zero x allowed k inside e in
        let away = has_above allowed n k own above in
        absurd (cc (there, away))
    absent k above false e = e

pub aimed_some : (allowed : ℕ) (scale : ℤ) (gains : List ℤ) (firm : Firm) (x : ℕ) (worth : ℤ) → minus x allowed ≡ 0
    → firm.worth x ≡ Some worth
    → (aimed allowed scale gains firm).worth x ≡ Some (scale *ℤ worth +ℤ sum_over (price_at gains) firm.count x)
aimed_some allowed scale gains firm x worth inside is =
    ap (λ (b : Bool). if b then option_map (λ a. scale *ℤ a +ℤ sum_over (price_at gains) firm.count x) (firm.worth x)
    else None) (eq-eqb _ _ inside)
    ∙ ap (option_map (λ a. scale *ℤ a +ℤ sum_over (price_at gains) firm.count x)) is

pub aimed_none : (allowed : ℕ) (scale : ℤ) (gains : List ℤ) (firm : Firm) (x : ℕ) → firm.worth x ≡ None
    → (aimed allowed scale gains firm).worth x ≡ None
aimed_none allowed scale gains firm x is =
    ap (λ (worth : Option ℤ). if minus x allowed == 0
    then option_map (λ a. scale *ℤ a +ℤ sum_over (price_at gains) firm.count x) worth else None) is
    ∙ never (minus x allowed == 0)
  where
    never : (b : Bool) → (if b then option_map (λ a. scale *ℤ a +ℤ sum_over (price_at gains) firm.count x) None
        else None) ≡ None
    never true = refl
    never false = refl

-- the values of a firm that meets exchange meet exchange
pub aimed_exchanges : (allowed : ℕ) (scale : ℤ) (gains : List ℤ) (firm : Firm) → pos 0 ≤ℤ scale → HasOwnBundles firm
    → MeetsExchange firm
    → HasOwnBundles (aimed allowed scale gains firm) × MeetsExchange (aimed allowed scale gains firm)
aimed_exchanges allowed scale gains firm from_zero own meets =
    let priced = meets-plus_sum firm scale (price_at gains) from_zero own meets in
    meets-among (plus_sum scale (price_at gains) firm) allowed priced.0 priced.1

-- ---- the steps

-- where nothing near is better, the bundle is best
pub best_from_nearby : (firm : Firm) (x : ℕ) (value : ℤ) → HasOwnBundles firm → MeetsExchange firm
    → firm.worth x ≡ Some value
    → IsNearbyBest firm.worth x firm.count value → IsBest firm.worth x value
best_from_nearby firm x value own meets is near = local_to_global firm own meets x value is (record {
  single = λ i other inside there. (near i inside).single other there;
  pair = λ i j other i_inside j_inside different there.
      elim (order i j different) [
        | inl below ↦ (near j j_inside).pair i other below (ap firm.worth (toggle_comm x j i) ∙ there)
        | inr above ↦ (near i i_inside).pair j other above there
      ];
})
  where
    order : (i j : ℕ) → i ≢ j → (i < j) ⊎ (j < i)
    order i j different = elim (cases_lt i j) [ inl h ↦ inl h | inr h ↦ inr (omega (arith, h, different)) ]

-- what the test on the rest of a bundle says
pub emptied : (rest none : ℕ) (differs : Bool) → differs ≡ not (rest == none) → differs ≡ false → none ≡ 0 → rest ≡ 0
emptied rest none differs is off zero_is = by_case (rest == none) refl
  where
    by_case : (b : Bool) → (rest == none) ≡ b → rest ≡ 0
    by_case true e = eqb-true rest none e ∙ zero_is
    by_case false e = absurd (cc (is, off, ap not e))

pub not_emptied : (rest none : ℕ) (differs : Bool) → differs ≡ not (rest == none) → differs ≡ true → none ≡ 0 → rest ≢ 0
not_emptied rest none differs is yes_is zero_is = λ e.
    let same : (rest == none) ≡ true = eq-eqb rest none (e ∙ sym zero_is) in
    absurd (cc (is, yes_is, ap not same))

pub smaller : (z : ℤ) (small large : ℕ) → small ≤ large → IsAtMost z small → IsAtMost z large
smaller z small large below within = record {
  low = omega (arith, ints, within.low, below);
  high =
      omega (arith, ints, within.high, below);
}

-- a step of a step
pub no_worse-trans : (value_of : ℕ → Option ℤ) (first second third : BundleValue) → IsNoWorse value_of first second
    → IsNoWorse value_of second third
    → IsNoWorse value_of first third
no_worse-trans value_of first second third one two = record {
  valued = λ h. two.valued (one.valued h);
  kept = omega (arith, ints, one.kept, two.kept);
}

-- with one more of them tried
pub others_more : (value_of : ℕ → Option ℤ) (x others k : ℕ) (first second third : BundleValue)
    → TriesOthers value_of x others k first second
    → TriesOne value_of (toggle x k) second third → TriesOthers value_of x others (k + 1) first third
others_more value_of x others k first second third before now = record {
  no_worse = no_worse-trans value_of first second third before.no_worse now.no_worse;
  tried = λ j other below wanted is. elim (cases_eq j k) [
    | inl e ↦ now.tried other (ap (λ (n : ℕ). value_of (toggle x n)) (sym e) ∙ is)
    | inr d ↦ let h = before.tried j other (omega (arith, below, d)) wanted is in
        omega (arith, ints, h, now.no_worse.kept)
  ];
}

pub others_same : (value_of : ℕ → Option ℤ) (x others k : ℕ) (first second : BundleValue)
    → TriesOthers value_of x others k first second
    → has others k ≡ false → TriesOthers value_of x others (k + 1) first second
others_same value_of x others k first second before absent = record {
  no_worse = before.no_worse;
  tried = λ j other below wanted is. elim (cases_eq j k) [
    | inl e ↦ absurd (false≢true (sym absent ∙ ap (has others) (sym e) ∙ wanted))
    | inr d ↦ before.tried j other (omega (arith, below, d)) wanted is
  ];
}

-- what has a value is within the allowed positions
pub valued_within : (allowed : ℕ) (scale : ℤ) (gains : List ℤ) (firm : Firm) (x : ℕ) (value : ℤ)
    → (aimed allowed scale gains firm).worth x ≡ Some value → minus x allowed ≡ 0
valued_within allowed scale gains firm x value is = by_case (minus x allowed == 0) refl is
  where
    by_case : (b : Bool) → (minus x allowed == 0) ≡ b → (if b then (plus_sum scale (price_at gains) firm).worth x
        else None) ≡ Some value → minus x allowed ≡ 0
    by_case true p q = eqb-true (minus x allowed) 0 p
    by_case false p q = absurd (none-some value q)

no_value_outside : (allowed : ℕ) (scale : ℤ) (gains : List ℤ) (firm : Firm) (x k : ℕ) (value : ℤ)
    → has allowed k ≡ false → has x k ≡ true
    → (aimed allowed scale gains firm).worth x ≡ Some value → ⊥
no_value_outside allowed scale gains firm x k value absent there is =
    false≢true (sym absent ∙ has_from_minus-zero x allowed k (valued_within allowed scale gains firm x value is) there)

-- a bundle within the allowed positions stays within them where one of these is toggled
pub toggled_within : (x allowed k : ℕ) → minus x allowed ≡ 0 → has allowed k ≡ true → minus (toggle x k) allowed ≡ 0
toggled_within x allowed k inside member = minus-zero_from (toggle x k) allowed (λ j there. elim (cases_eq j k) [
  | inl e ↦ ap (has allowed) e ∙ member
  | inr d ↦ has_from_minus-zero x allowed j inside (sym (has-toggle_other x k j d) ∙ there)
])

-- where another position is toggled, it doesn't
not_there : (x allowed k : ℕ) → minus x allowed ≡ 0 → has allowed k ≡ false → has x k ≡ false
not_there x allowed k inside absent = by_case (has x k) refl
  where
    by_case : (b : Bool) → has x k ≡ b → has x k ≡ false
    by_case true e = absurd (false≢true (sym absent ∙ has_from_minus-zero x allowed k inside e))
    by_case false e = e

moved_in : (x allowed k : ℕ) → minus x allowed ≡ 0 → has allowed k ≡ false → has (toggle x k) k ≡ true
moved_in x allowed k inside absent = has-toggle_same x k ∙ ap not (not_there x allowed k inside absent)

-- the allowed positions below a number are allowed
pub earlier_within : (allowed i earlier : ℕ) → earlier ≡ set_of (has allowed) i → minus earlier allowed ≡ 0
earlier_within allowed i earlier is = minus-zero_from earlier allowed (λ k there.
    (and_parts _ _ (sym (has-set_of (has allowed) i k) ∙ ap (λ (x : ℕ). has x k) (sym is) ∙ there)).1)

pub earlier_more : (allowed i earlier : ℕ) → earlier ≡ set_of (has allowed) i → has allowed i ≡ true
    → toggle earlier i ≡ set_of (has allowed) (i + 1)
unfolding set_of
earlier_more allowed i earlier is member = rw (add-one, member) (ap (λ (x : ℕ). toggle x i) is)

pub earlier_same : (allowed i earlier : ℕ) → earlier ≡ set_of (has allowed) i → has allowed i ≡ false
    → earlier ≡ set_of (has allowed) (i + 1)
unfolding set_of
earlier_same allowed i earlier is absent = rw (add-one, absent) is

pub earlier_none : (allowed : ℕ) → 0 ≡ set_of (has allowed) 0
unfolding set_of
earlier_none allowed = refl

-- with a position tried alone and with each earlier one that is allowed
pub beside_tried : (allowed : ℕ) (scale : ℤ) (gains : List ℤ) (firm : Firm) (from i earlier n : ℕ)
    (first second third : BundleValue) → minus from allowed ≡ 0 → i < n
    → earlier ≡ set_of (has allowed) i → TriesOne (aimed allowed scale gains firm).worth (toggle from i) first second
    → TriesOthers (aimed allowed scale gains firm).worth (toggle from i) earlier n second third
    → TriesBeside (aimed allowed scale gains firm).worth from i i first third
beside_tried allowed scale gains firm from i earlier n first second third inside below is single pairs = record {
  no_worse = no_worse-trans (aimed allowed scale gains firm).worth first second third single.no_worse pairs.no_worse;
  tried = record {
    single = λ other there. let h = single.tried other there in omega (arith, ints, h, pairs.no_worse.kept);
    pair = λ k other before there. by_case k other before there (has allowed k) refl;
  };
}
  where
    by_case : (k : ℕ) (other : ℤ) → k < i → (aimed allowed scale gains firm).worth (toggle (toggle from i) k)
        ≡ Some other → (b : Bool) → has allowed k ≡ b → other ≤ℤ third.value
    by_case k other before there true member =
        let listed : has earlier k ≡ true = ap (λ (x : ℕ). has x k) is ∙ has-set_of (has allowed) i k
        ∙ ap (λ (b : Bool). b && has allowed k) (lt-ltb k i before) ∙ member in
        pairs.tried k other (omega (arith, before, below)) listed there
    by_case k other before there false absent =
        let apart : k ≢ i = λ e. (let p = e in absurd (omega (arith, before, p))) in
        let out : has (toggle from i) k ≡ false = has-toggle_other from i k apart
        ∙ not_there from allowed k inside absent in
        absurd (no_value_outside allowed scale gains firm (toggle (toggle from i) k) k other absent
        (has-toggle_same (toggle from i) k ∙ ap not out) there)

-- a position that isn't allowed needs no trying
pub beside_outside : (allowed : ℕ) (scale : ℤ) (gains : List ℤ) (firm : Firm) (from i : ℕ) (found : BundleValue)
    → minus from allowed ≡ 0 → has allowed i ≡ false
    → TriesBeside (aimed allowed scale gains firm).worth from i i found found
beside_outside allowed scale gains firm from i found inside absent = record {
  no_worse = record { valued = λ h. h; kept = omega (arith, ints) };
  tried = record {
    single = λ other there. absurd (no_value_outside allowed scale gains firm (toggle from i) i other absent
        (moved_in from allowed i inside absent) there);
    pair = λ k other before there.
        let apart : i ≢ k = λ e. (let p = e in absurd (omega (arith, before, p))) in
        absurd (no_value_outside allowed scale gains firm (toggle (toggle from i) k) i other absent
        (has-toggle_other (toggle from i) k i apart ∙ moved_in from allowed i inside absent) there);
  };
}

-- with one more position tried
pub position_tried : (value_of : ℕ → Option ℤ) (from i : ℕ) (first second third : BundleValue)
    → TriesNearby value_of from i first second
    → TriesBeside value_of from i i second third → TriesNearby value_of from (i + 1) first third
position_tried value_of from i first second third before now = record {
  no_worse = no_worse-trans value_of first second third before.no_worse now.no_worse;
  tried = λ k below. elim (cases_eq k i) [
    | inl e ↦ subst (λ (n : ℕ). IsBesideBest value_of from n n third.value) (sym e) now.tried
    | inr d ↦
        let h = before.tried k (omega (arith, below, d)) in
        record {
          single = λ other is. let a = h.single other is in omega (arith, ints, a, now.no_worse.kept);
          pair = λ m other inside is. let a = h.pair m other inside is in omega (arith, ints, a, now.no_worse.kept);
        }
  ];
}

-- no position tried
pub none_tried : (value_of : ℕ → Option ℤ) (from : ℕ) (found : BundleValue) → TriesNearby value_of from 0 found found
none_tried value_of from found = record {
  no_worse = record { valued = λ h. h; kept = omega (arith, ints) };
  tried = λ k below. absurd (omega (arith, below));
}

-- some value is there where the firm may have the empty bundle
pub starts : (allowed : ℕ) (scale : ℤ) (gains : List ℤ) (firm : Firm) (bundle : ℕ) (value : Option ℤ) → MayAbstain firm
    → bundle ≡ 0
    → value ≡ (aimed allowed scale gains firm).worth bundle → IsSome value
starts allowed scale gains firm bundle value abstains empty is =
    let inside : minus bundle allowed ≡ 0 = minus-zero_from bundle allowed (λ k there. absurd (none k there)) in
    let worth_is : firm.worth bundle ≡ Some abstains.0 = ap firm.worth empty ∙ abstains.1 in
    subst IsSome (sym (aimed_some allowed scale gains firm bundle abstains.0 inside worth_is) ∙ sym is) refl
  where
    none : (k : ℕ) → has bundle k ≡ true → ⊥
    none k there = let away = ap (λ (x : ℕ). has x k) empty ∙ has-zero k in absurd (cc (there, away))

pub le_from_test : (a b : ℤ) → le_z a b ≡ true → a ≤ℤ b
le_from_test a b test = grind (arith, ints)

-- no step from a best bundle gains
pub is_left : (value_of : ℕ → Option ℤ) (from : ℕ) (found next : BundleValue) → IsValued value_of found
    → IsNoWorse value_of found next → found.value <ℤ next.value
    → StaysAt value_of from found.bundle → (value : ℤ) → IsBest value_of from value → ⊥
is_left value_of from found next valued step gains kept value best =
    let same = same_Some found.value value (sym valued ∙ ap value_of (kept value best) ∙ best.is) in
    let most = best.most next.bundle next.value (step.valued valued) in
    omega (arith, ints, same, most, gains)

pub lt_from_test : (a b : ℤ) → le_z a b ≡ false → b <ℤ a
lt_from_test a b test = grind (arith, ints)

-- where a step gains nothing, the bundle is best
pub settled : (firm : Firm) (found next : BundleValue) → HasOwnBundles firm × MeetsExchange firm
    → IsValued firm.worth found
    → TriesNearby firm.worth found.bundle firm.count found next → next.value ≤ℤ found.value
    → IsBest firm.worth found.bundle found.value
settled firm found next laws valued tries no_gain =
    best_from_nearby firm found.bundle found.value laws.0 laws.1 valued (λ i below.
    let near = tries.tried i below in
    record {
      single = λ other is. let h = near.single other is in omega (arith, ints, h, no_gain);
      pair = λ k other inside is. let h = near.pair k other inside is in omega (arith, ints, h, no_gain);
    })

-- ---- worths that are asked for

-- one row more of as many worths
pub one_row_more : (rows n : ℕ) → (rows + 1) * n ≡ rows * n + n
one_row_more rows n = grind arith

-- one worth, and those of a step, are at most one for each two of the positions and none
pub at_each_two : (n before after last : ℕ) → after ≤ before + 1 → last ≤ after + n + n * n
    → last ≤ before + (n + 1) * (n + 1)
at_each_two n before after last first step =
    let squares : (n + 1) * (n + 1) ≡ n * n + n + n + 1 = grind arith in
    omega (arith, first, step, squares)
