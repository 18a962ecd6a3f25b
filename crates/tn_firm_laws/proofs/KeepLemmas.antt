-- What keeps exchange: a multiple with a sum over the bundle, and a limit on the positions.
use Rattle.std.proofs.Common.{◌≡◌, ◌≢◌, ℕ, ◌<◌, Bool, true, false, not, refl, sym, ap, ◌∙◌, subst, arith, inl, inr, if◌then◌else◌, cond, ℤ, pos, ◌+ℤ◌, ◌-ℤ◌, ◌==◌}
use Rattle.std.specs.Prelude.{◌≤ℤ◌, ◌*ℤ◌, negsuc, Option, Some, None, option_map}
use Rattle.std.proofs.Math.IntN.{pos-*ℤ-pos}
use Rattle.std.proofs.lemmas.Bool.{cases_eq, cases_lt, cases_Bool, eq-eqb, eqb-true}
use Rattle.std.proofs.lemmas.Option.{same_Some, none-some}
use Rattle.std.proofs.lemmas.Int.{ints}
use Rattle.tn_base.specs.Sets.{has, toggle, minus, sum_over}
use Rattle.tn_base.specs.Firm.{Firm, HasOwnBundles, plus_sum, among}
use Rattle.tn_base.specs.Exchange.{MeetsExchange}
use Rattle.tn_base.proofs.SetLemmas.{has-toggle_other, minus-zero_from, has_from_minus-zero}
use Rattle.tn_base.proofs.SumLemmas.{sum_over-toggle_in, sum_over-toggle_out, times-plus}
use Rattle.tn_firm_laws.specs.Places.{trade_level, level, toggle_at, move, ExchangesOverPlaces}
use Rattle.tn_firm_laws.proofs.PlaceLemmas.{level-trade, toggle_at-trade, toggle_at-null}
use Rattle.tn_firm_laws.proofs.DistanceLemmas.{up_apart_down}
use Rattle.tn_firm_laws.proofs.ExchangeLemmas.{exchange_to_places, exchange_from_places}

-- a trade of different levels in two bundles is a member of just one of them
pub has_differs : (n buys x y k : ℕ) → k < n → level n buys x k ≢ level n buys y k → has x k ≡ not (has y k)
unfolding trade_level
has_differs n buys x y k below differs =
    by (has buys k) (has x k) (has y k) (λ e. differs (level-trade n buys x k below ∙ e
    ∙ sym (level-trade n buys y k below)))
  where
    by : (b h g : Bool) → ◌≢◌ {A = ℕ} (if b then (if h then 1 else 0) else (if h then 0 else 1)) (if b
        then (if g then 1 else 0) else (if g then 0 else 1)) → h ≡ not g
    by true true true d = absurd (d refl)
    by true true false d = refl
    by true false true d = refl
    by true false false d = absurd (d refl)
    by false true true d = absurd (d refl)
    by false true false d = refl
    by false false true d = refl
    by false false false d = absurd (d refl)

-- a toggle at another place changes nothing at a trade
pub has-toggle_at : (n x i k : ℕ) → k ≢ i → has (toggle_at n x i) k ≡ has x k
has-toggle_at n x i k different = elim (cases_lt i n) [
  | inl p ↦ ap (λ (y : ℕ). has y k) (toggle_at-trade n x i p) ∙ has-toggle_other x i k different
  | inr p ↦ ap (λ (y : ℕ). has y k) (toggle_at-null n x i p)
]

-- what one bundle loses at a place in which they differ, the other wins
sum_over-toggle_at : (c : ℕ → ℤ) (n x y i : ℕ) → (i < n → has x i ≡ not (has y i))
    → sum_over c n (toggle_at n x i) +ℤ sum_over c n (toggle_at n y i) ≡ sum_over c n x +ℤ sum_over c n y
sum_over-toggle_at c n x y i differs = elim (cases_lt i n) [
  | inl p ↦
      subst (λ (z : ℕ). sum_over c n z +ℤ sum_over c n (toggle_at n y i) ≡ sum_over c n x +ℤ sum_over c n y)
      (sym (toggle_at-trade n x i p))
      (subst (λ (z : ℕ). sum_over c n (toggle x i) +ℤ sum_over c n z ≡ sum_over c n x +ℤ sum_over c n y)
      (sym (toggle_at-trade n y i p))
      (elim (cases_Bool (has y i)) [
        | inl present ↦
            let out = sum_over-toggle_out c n y i p present in
            let in_there = sum_over-toggle_in c n x i p (differs p ∙ ap not present) in
            omega (arith, ints, out, in_there)
        | inr absent ↦
            let in_there = sum_over-toggle_in c n y i p absent in
            let out = sum_over-toggle_out c n x i p (differs p ∙ ap not absent) in
            omega (arith, ints, out, in_there)
      ]))
  | inr p ↦
      let first : sum_over c n (toggle_at n x i) ≡ sum_over c n x = ap (sum_over c n) (toggle_at-null n x i p) in
      let second : sum_over c n (toggle_at n y i) ≡ sum_over c n y = ap (sum_over c n) (toggle_at-null n y i p) in
      omega (arith, ints, first, second)
]

-- sums over two bundles that swap two places stay together the same
pub sum_over-move : (c : ℕ → ℤ) (n buys x y i j : ℕ) → level n buys y i < level n buys x i
    → level n buys x j < level n buys y j
    → sum_over c n (move n x i j) +ℤ sum_over c n (move n y i j) ≡ sum_over c n x +ℤ sum_over c n y
unfolding move
sum_over-move c n buys x y i j i_up j_down =
    let apart : j ≢ i = λ e. up_apart_down (level n buys x) (level n buys y) i j i_up j_down (sym e) in
    let first = sum_over-toggle_at c n x y i (λ p. has_differs n buys x y i p (λ e. omega (arith, i_up, e))) in
    let second = sum_over-toggle_at c n (toggle_at n x i) (toggle_at n y i) j (λ p.
    has-toggle_at n x i j apart ∙ has_differs n buys x y j p (λ e. omega (arith, j_down, e))
    ∙ ap not (sym (has-toggle_at n y i j apart))) in
    second ∙ first

-- numbers of at least 0 have a product of at least 0
times-from_zero : (a b : ℤ) → pos 0 ≤ℤ a → pos 0 ≤ℤ b → pos 0 ≤ℤ (a *ℤ b)
times-from_zero (pos m) (pos k) p q = subst (λ (z : ℤ). pos 0 ≤ℤ z) (sym (pos-*ℤ-pos m k)) (omega (arith, ints))
times-from_zero (pos m) (negsuc k) p q = absurd (omega (arith, ints, q))
times-from_zero (negsuc m) b p q = absurd (omega (arith, ints, p))

-- a multiple of at least 0 keeps the order
pub times-le : (d s t : ℤ) → pos 0 ≤ℤ d → s ≤ℤ t → (d *ℤ s) ≤ℤ (d *ℤ t)
times-le d s t from_zero below =
    let more : pos 0 ≤ℤ (d *ℤ (t -ℤ s)) = times-from_zero d (t -ℤ s) from_zero (omega (arith, ints, below)) in
    let parts = times-plus d s (t -ℤ s) in
    let whole : d *ℤ (s +ℤ (t -ℤ s)) ≡ d *ℤ t = ap (λ (z : ℤ). d *ℤ z) (omega (arith, ints)) in
    omega (arith, ints, more, parts, whole)

-- what an option holds, of which a function of it is known
pub option_map-some : (f : ℤ → ℤ) (o : Option ℤ) (z : ℤ) → option_map f o ≡ Some z → (a : ℤ) × (o ≡ Some a) × (f a ≡ z)
option_map-some f None z e = absurd (none-some z e)
option_map-some f (Some a) z e = (a, refl, same_Some (f a) z e)

-- a multiple of at least 0, with a sum over the bundle, keeps exchange
pub exchange-plus_sum : (scale : ℤ) (c : ℕ → ℤ) (firm : Firm) → pos 0 ≤ℤ scale → ExchangesOverPlaces firm
    → ExchangesOverPlaces (plus_sum scale c firm)
exchange-plus_sum scale c firm from_zero over x y a b x_is y_is i i_within i_up =
    let first = option_map-some _ (firm.worth x) a x_is in
    let second = option_map-some _ (firm.worth y) b y_is in
    let swap = over x y first.0 second.0 first.1 second.1 i i_within i_up in
    record {
      at = swap.at;
      is_place = swap.is_place;
      is_down = swap.is_down;
      enough = record {
        first = scale *ℤ swap.enough.first +ℤ sum_over c firm.count (move firm.count x i swap.at);
        second = scale *ℤ swap.enough.second +ℤ sum_over c firm.count (move firm.count y i swap.at);
        first_is = ap (option_map (λ z. scale *ℤ z +ℤ sum_over c firm.count (move firm.count x i swap.at)))
            swap.enough.first_is;
        second_is = ap (option_map (λ z. scale *ℤ z +ℤ sum_over c firm.count (move firm.count y i swap.at)))
            swap.enough.second_is;
        enough =
            let sums = sum_over-move c firm.count firm.buys x y i swap.at i_up swap.is_down in
            let scaled =
            times-le scale (first.0 +ℤ second.0) (swap.enough.first +ℤ swap.enough.second) from_zero
            swap.enough.enough in
            let before = times-plus scale first.0 second.0 in
            let after = times-plus scale swap.enough.first swap.enough.second in
            omega (arith, ints, sums, scaled, before, after, first.2, second.2);
      };
    }

-- and has only own bundles
own-plus_sum : (scale : ℤ) (c : ℕ → ℤ) (firm : Firm) → HasOwnBundles firm → HasOwnBundles (plus_sum scale c firm)
own-plus_sum scale c firm own x a x_is = let first = option_map-some _ (firm.worth x) a x_is in own x first.0 first.1

-- what a bundle within a set has a worth among it
among_some : (allowed : ℕ) (firm : Firm) (x : ℕ) (a : ℤ) → minus x allowed ≡ 0 → firm.worth x ≡ Some a
    → (among allowed firm).worth x ≡ Some a
among_some allowed firm x a within x_is = ap (λ b. cond b (firm.worth x) None) (eq-eqb (minus x allowed) 0 within)
    ∙ x_is

-- and only such a bundle
among_within : (allowed : ℕ) (firm : Firm) (x : ℕ) (a : ℤ) → (among allowed firm).worth x ≡ Some a
    → (minus x allowed ≡ 0) × (firm.worth x ≡ Some a)
among_within allowed firm x a x_is = elim (cases_Bool (minus x allowed == 0)) [
  | inl e ↦ (eqb-true (minus x allowed) 0 e, sym (ap (λ b. cond b (firm.worth x) None) e) ∙ x_is)
  | inr e ↦ absurd (none-some a (sym (ap (λ b. cond b (firm.worth x) None) e) ∙ x_is))
]

-- a toggle at a place in which two bundles within a set differ stays within the set
within-toggle_at : (A : ℕ → Type 0) (n x y i : ℕ) → (i < n → has x i ≡ not (has y i))
    → ((k : ℕ) → has x k ≡ true → A k) → ((k : ℕ) → has y k ≡ true → A k) → (k : ℕ) → has (toggle_at n x i) k ≡ true
    → A k
within-toggle_at A n x y i differs x_within y_within k member = elim (cases_lt i n) [
  | inl p ↦ elim (cases_eq k i) [
    | inl e ↦ elim (cases_Bool (has y i)) [
      | inl present ↦ y_within k (ap (has y) e ∙ present)
      | inr absent ↦ x_within k (ap (has x) e ∙ differs p ∙ ap not absent)
    ]
    | inr d ↦ x_within k (sym (has-toggle_at n x i k d) ∙ member)
  ]
  | inr p ↦ x_within k (sym (ap (λ (z : ℕ). has z k) (toggle_at-null n x i p)) ∙ member)
]

-- two bundles within a set that swap two places stay within the set
within-move : (allowed n buys x y i j : ℕ) → level n buys x i ≢ level n buys y i → level n buys x j ≢ level n buys y j
    → j ≢ i
    → minus x allowed ≡ 0 → minus y allowed ≡ 0 → minus (move n x i j) allowed ≡ 0
unfolding move
within-move allowed n buys x y i j i_differs j_differs apart x_within y_within =
    minus-zero_from (toggle_at n (toggle_at n x i) j) allowed
    (within-toggle_at A n (toggle_at n x i) (toggle_at n y i) j
    (λ p. has-toggle_at n x i j apart ∙ has_differs n buys x y j p j_differs
    ∙ ap not (sym (has-toggle_at n y i j apart)))
    (within-toggle_at A n x y i (λ p. has_differs n buys x y i p i_differs) x_in y_in)
    (within-toggle_at A n y x i (λ p. has_differs n buys y x i p (λ e. i_differs (sym e))) y_in x_in))
  where
    A : ℕ → Type 0
    A k = has allowed k ≡ true

    x_in : (k : ℕ) → has x k ≡ true → has allowed k ≡ true
    x_in k = has_from_minus-zero x allowed k x_within

    y_in : (k : ℕ) → has y k ≡ true → has allowed k ≡ true
    y_in k = has_from_minus-zero y allowed k y_within

-- a limit on the positions keeps exchange
pub exchange-among : (allowed : ℕ) (firm : Firm) → ExchangesOverPlaces firm → ExchangesOverPlaces (among allowed firm)
exchange-among allowed firm over x y a b x_is y_is i i_within i_up =
    let first = among_within allowed firm x a x_is in
    let second = among_within allowed firm y b y_is in
    let swap = over x y a b first.1 second.1 i i_within i_up in
    let apart : swap.at ≢ i = λ e.
    up_apart_down (level firm.count firm.buys x) (level firm.count firm.buys y) i swap.at i_up swap.is_down (sym e) in
    let x_differs : level firm.count firm.buys x swap.at ≢ level firm.count firm.buys y swap.at =
    differ _ _ swap.is_down in
    let y_differs : level firm.count firm.buys y i ≢ level firm.count firm.buys x i = differ _ _ i_up in
    record {
      at = swap.at;
      is_place = swap.is_place;
      is_down = swap.is_down;
      enough = record {
        first = swap.enough.first;
        second = swap.enough.second;
        first_is = among_some allowed firm _ _ (within-move allowed firm.count firm.buys x y i swap.at
            (λ e. y_differs (sym e)) x_differs apart first.0 second.0)
            swap.enough.first_is;
        second_is = among_some allowed firm _ _ (within-move allowed firm.count firm.buys y x i swap.at y_differs
            (λ e. x_differs (sym e)) apart second.0 first.0)
            swap.enough.second_is;
        enough = swap.enough.enough;
      };
    }
  where
    differ : (l m : ℕ) → l < m → l ≢ m
    differ l m h = λ e. omega (arith, h, e)

-- and has only own bundles
own-among : (allowed : ℕ) (firm : Firm) → HasOwnBundles firm → HasOwnBundles (among allowed firm)
own-among allowed firm own x a x_is = own x a (among_within allowed firm x a x_is).1

-- a firm with a multiple of its worths, and a sum over the bundle, meets exchange
pub meets-plus_sum : (firm : Firm) (scale : ℤ) (c : ℕ → ℤ) → pos 0 ≤ℤ scale → HasOwnBundles firm → MeetsExchange firm
    → HasOwnBundles (plus_sum scale c firm) × MeetsExchange (plus_sum scale c firm)
meets-plus_sum firm scale c from_zero own meets =
    let owns = own-plus_sum scale c firm own in (
      owns,
      exchange_from_places (plus_sum scale c firm) owns
          (exchange-plus_sum scale c firm from_zero (exchange_to_places firm own meets)),
    )

-- a firm with a limit on its positions meets exchange
pub meets-among : (firm : Firm) (allowed : ℕ) → HasOwnBundles firm → MeetsExchange firm
    → HasOwnBundles (among allowed firm) × MeetsExchange (among allowed firm)
meets-among firm allowed own meets =
    let owns = own-among allowed firm own in (
      owns,
      exchange_from_places (among allowed firm) owns
          (exchange-among allowed firm (exchange_to_places firm own meets)),
    )
