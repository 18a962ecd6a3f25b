-- A drill network is a network, whose firms have few trades.
use Rattle.std.proofs.Common.{◌≡◌, ℕ, zero, suc, ◌+◌, ◌/◌, ◌%◌, ◌<◌, ◌≤◌, ◌==◌, ◌||◌, ◌&&◌, Bool, true, false, if◌then◌else◌, nat_lt, List, [], ◌∷◌, ◌++◌, length, map, slice_get, Some, None, refl, sym, ap, ap₂, ◌∙◌, subst, arith, lit<, lit≤, inl, inr, ℤ, pos, neg_ℤ, add-one, length-append}
use Rattle.std.specs.Prelude.{All, nat_le}
use Rattle.std.specs.List.{filter_map, cons_option, range_with_len}
use Rattle.std.proofs.lemmas.Int.{ints}
use Rattle.std.proofs.lemmas.Bool.{cases_Bool, cases_eq, and_parts, leb-true}
use Rattle.std.proofs.lemmas.Nat.{mod_below}
use Rattle.std.proofs.lemmas.Option.{slice_get_within, get_or_from_slice_get}
use Rattle.std.proofs.lemmas.List.Elements.{All-nil, All-cons, All-append, filter_map-append}
use Rattle.std.proofs.lemmas.List.FromFn.{length-map-range_with_len, get_or-map-range_with_len}
use Rattle.tn_base.specs.Arcs.{IsAtMost}
use Rattle.tn_base.specs.Firm.{Firm}
use Rattle.tn_base.specs.Table.{buys_of}
use Rattle.tn_base.specs.declared.side.Side.{Side}
use Rattle.tn_base.specs.declared.side.Side.TheVariants.{Buy, Sell}
use Rattle.tn_model.specs.declared.ends.Ends.{Ends}
use Rattle.tn_model.specs.Network.{IsNetwork}
use Rattle.tn_middle.specs.Pairs.{middle_firm}
use Rattle.tn_model.specs.InOrder.{side_in, sides_of, ComesNext, AreInOrder}
use Rattle.tn_model.proofs.InOrderLemmas.{AreInOrder-push, sides_of-none}
use Rattle.tn_model.proofs.InOrderNetworks.{network}
use Rattle.tn_drill.specs.declared.draws.Drawn.{Drawn}
use Rattle.tn_drill.specs.Draws.{most_drilled, IsWithin, drawn}
use Rattle.tn_drill.specs.Drill.{HasSmallNumbers, buyer_of, consumer, drawn_ends, drawn_firm, draws_of, ends_after, firm_in, firms_of, middleman_of, number_to, producer, seller_of}
use Rattle.tn_drill.proofs.DrawLemmas.{drawn_within, draws_more}
use Rattle.tn_base.specs.Widths.{most_amount}
use Rattle.tn_market.specs.Widths.{most_own}

-- ---- the ends of a trade

even_ends : (draw : Drawn) → (draw.trade % 2 == 0) ≡ true → (seller_of draw < 4) × (4 ≤ buyer_of draw)
    × (buyer_of draw < 12)
even_ends draw even =
    let seller : seller_of draw ≡ draw.trade / 2 % 4 = ap (λ (b : Bool). if b then draw.trade / 2 % 4
    else middleman_of draw) even in
    let buyer : buyer_of draw ≡ 4 + (draw.trade / 2 + draw.step) % 8 =
    ap (λ (b : Bool). if b then middleman_of draw else 12 + draw.trade / 2 % 4) even in
    let first = mod_below (draw.trade / 2) 4 (lit< tt) in
    let second = mod_below (draw.trade / 2 + draw.step) 8 (lit< tt) in
    (below (seller_of draw) _ 4 seller first, least (buyer_of draw) _ buyer, most (buyer_of draw) _ buyer second)
  where
    below : (a b n : ℕ) → a ≡ b → b < n → a < n
    below a b n e less = omega (arith, e, less)

    least : (a b : ℕ) → a ≡ 4 + b → 4 ≤ a
    least a b e = omega (arith, e)

    most : (a b : ℕ) → a ≡ 4 + b → b < 8 → a < 12
    most a b e less = omega (arith, e, less)

odd_ends : (draw : Drawn) → (draw.trade % 2 == 0) ≡ false → (seller_of draw < 12) × (12 ≤ buyer_of draw)
    × (buyer_of draw < 16)
odd_ends draw odd =
    let seller : seller_of draw ≡ 4 + (draw.trade / 2 + draw.step) % 8 =
    ap (λ (b : Bool). if b then draw.trade / 2 % 4 else middleman_of draw) odd in
    let buyer : buyer_of draw ≡ 12 + draw.trade / 2 % 4 =
    ap (λ (b : Bool). if b then middleman_of draw else 12 + draw.trade / 2 % 4) odd in
    let first = mod_below (draw.trade / 2 + draw.step) 8 (lit< tt) in
    let second = mod_below (draw.trade / 2) 4 (lit< tt) in
    (below (seller_of draw) _ seller first, least (buyer_of draw) _ buyer, most (buyer_of draw) _ buyer second)
  where
    below : (a b : ℕ) → a ≡ 4 + b → b < 8 → a < 12
    below a b e less = omega (arith, e, less)

    least : (a b : ℕ) → a ≡ 12 + b → 12 ≤ a
    least a b e = omega (arith, e)

    most : (a b : ℕ) → a ≡ 12 + b → b < 4 → a < 16
    most a b e less = omega (arith, e, less)

-- two firms, the seller before the buyer
ends_apart : (draw : Drawn) → (seller_of draw < buyer_of draw) × (buyer_of draw < 16)
ends_apart draw = elim (cases_Bool (draw.trade % 2 == 0)) [
  | inl even ↦ let at = even_ends draw even in apart (seller_of draw) (buyer_of draw) 4 12 at.0 at.1 at.2 (lit≤ tt)
  | inr odd ↦ let at = odd_ends draw odd in apart (seller_of draw) (buyer_of draw) 12 16 at.0 at.1 at.2 (lit≤ tt)
]
  where
    apart : (a b n m : ℕ) → a < n → n ≤ b → b < m → m ≤ 16 → (a < b) × (b < 16)
    apart a b n m first second third fourth = (omega (arith, first, second), omega (arith, third, fourth))

comes_next : (before : List Ends) (draw : Drawn) → ComesNext 16 before (ends_after before draw)
comes_next before draw =
    let at = ends_apart draw in
    let less = at.0 in
    let most = at.1 in
    record {
      seller = omega (arith, less, most);
      buyer = most;
      apart = (λ e. omega (arith, less, e));
      at_seller =
          refl;
      at_buyer = refl;
    }

pub in_order : (start size : ℕ) → AreInOrder 16 (drawn_ends start size)
in_order start zero = λ t trade is. absurd (let within = slice_get_within [] t trade is in omega (arith, within))
in_order start (suc size) =
    AreInOrder-push 16 (drawn_ends start size) (ends_after (drawn_ends start size) (drawn start size))
    (in_order start size) (comes_next (drawn_ends start size) (drawn start size))

-- ---- the trades of a firm

-- whether firm f is one of the two
abbrev joins : ℕ → Drawn → Bool
joins f draw = seller_of draw == f || buyer_of draw == f

-- whether trade i is one of firm f at one of the two steps
abbrev placed : ℕ → ℕ → Drawn
placed i step = record { trade = i; step = step; amount = 0; number = 0 }

abbrev may_join : ℕ → ℕ → Bool
may_join f i = joins f (placed i 0) || joins f (placed i 1)

-- how many numbers below n pass a test
abbrev tally : (ℕ → Bool) → ℕ → ℕ
tally test zero = 0
tally test (suc n) = tally test n + (if test n then 1 else 0)

tally-grows : (test : ℕ → Bool) (n m : ℕ) → n ≤ m → tally test n ≤ tally test m
tally-grows test n zero less = let none : n ≡ 0 = omega (arith, less) in
    subst (λ (k : ℕ). tally test k ≤ 0) (sym none) (omega arith)
tally-grows test n (suc m) less = elim (cases_eq n (suc m)) [
  | inl same ↦ subst (λ (k : ℕ). tally test k ≤ tally test (suc m)) (sym same) (omega arith)
  | inr other ↦ let before = tally-grows test n m (omega (arith, less, other)) in omega (arith, before)
]

joins-may : (f start i : ℕ) → joins f (drawn start i) ≡ true → may_join f i ≡ true
joins-may f start i is = by (drawn start i).step (mod_below _ 2 (lit< tt)) is
  where
    first : (a b : Bool) → a ≡ true → (a || b) ≡ true
    first true b e = refl
    first false b e = absurd (cc e)

    second : (a b : Bool) → b ≡ true → (a || b) ≡ true
    second true b e = refl
    second false b e = e

    by : (step : ℕ) → step < 2 → joins f (placed i step) ≡ true → may_join f i ≡ true
    by zero less there = first _ _ there
    by (suc zero) less there = second _ _ there
    by (suc (suc step)) less there = absurd (omega (arith, less))

-- each firm may join few of 64 trades
abbrev few_below : ℕ → Bool
few_below zero = true
few_below (suc f) = few_below f && nat_le (tally (may_join f) most_drilled) most_own

all_few : few_below 16 ≡ true
all_few = refl

few_at : (n f : ℕ) → f < n → few_below n ≡ true → tally (may_join f) most_drilled ≤ most_own
few_at zero f below is = absurd (omega (arith, below))
few_at (suc n) f below is =
    let parts = and_parts (few_below n) (nat_le (tally (may_join n) most_drilled) most_own) is in
    elim (cases_eq f n) [
      | inl same ↦
          subst (λ (g : ℕ). tally (may_join g) most_drilled ≤ most_own) (sym same)
          (leb-true (tally (may_join n) most_drilled) most_own parts.1)
      | inr other ↦ few_at n f (omega (arith, below, other)) parts.0
    ]

-- one trade more
sides_more : (start size f : ℕ) → sides_of (drawn_ends start (suc size)) f ≡ sides_of (drawn_ends start size) f
    ++ cons_option (side_in f (ends_after (drawn_ends start size) (drawn start size))) []
unfolding sides_of
sides_more start size f =
    filter_map-append (side_in f) (drawn_ends start size) (ends_after (drawn_ends start size) (drawn start size) ∷ [])

numbers_more : (start size f : ℕ) → filter_map (number_to f) (draws_of start (suc size))
    ≡ filter_map (number_to f) (draws_of start size) ++ cons_option (number_to f (drawn start size)) []
numbers_more start size f =
    ap (filter_map (number_to f)) (ap (draws_of start) (sym (add-one size)) ∙ draws_more start size)
    ∙ filter_map-append (number_to f) (draws_of start size) (drawn start size ∷ [])

side_counted : (f : ℕ) (before : List Ends) (draw : Drawn)
    → length (cons_option (side_in f (ends_after before draw)) []) ≡ (if joins f draw then 1 else 0)
side_counted f before draw = by (seller_of draw == f) (buyer_of draw == f)
  where
    by : (a b : Bool) → length (cons_option (if a then Some Sell else (if b then Some Buy else None)) []) ≡ (if a || b
        then 1 else 0)
    by true b = refl
    by false true = refl
    by false false = refl

number_counted : (f : ℕ) (draw : Drawn) → length (cons_option (number_to f draw) []) ≡ (if joins f draw then 1 else 0)
number_counted f draw = by (seller_of draw == f) (buyer_of draw == f) _ _
  where
    by : (a b : Bool) (x y : ℤ) → length (cons_option (if a then Some x else (if b then Some y else None)) [])
        ≡ (if a || b then 1 else 0)
    by true b x y = refl
    by false true x y = refl
    by false false x y = refl

few_sides : (start size f : ℕ) → length (sides_of (drawn_ends start size) f) ≤ tally (may_join f) size
few_sides start zero f = let none = ap length (sides_of-none f) in omega (arith, none)
few_sides start (suc size) f =
    let before = few_sides start size f in
    let more = ap length (sides_more start size f) in
    let sum = length-append (sides_of (drawn_ends start size) f)
    (cons_option (side_in f (ends_after (drawn_ends start size) (drawn start size))) []) in
    let one = side_counted f (drawn_ends start size) (drawn start size) in
    let less = by (joins f (drawn start size)) (may_join f size) (joins-may f start size) in
    omega (arith, before, more, sum, one, less)
  where
    by : (a b : Bool) → (a ≡ true → b ≡ true) → (if a then 1 else 0) ≤ (if b then 1 else 0)
    by true b h = subst (λ (c : Bool). 1 ≤ (if c then 1 else 0)) (sym (h refl)) (lit≤ tt)
    by false b h = omega arith

same_count : (start size f : ℕ) → length (filter_map (number_to f) (draws_of start size))
    ≡ length (sides_of (drawn_ends start size) f)
same_count start zero f = sym (ap length (sides_of-none f))
same_count start (suc size) f =
    let before = same_count start size f in
    let sides = ap length (sides_more start size f) ∙ length-append (sides_of (drawn_ends start size) f) _ in
    let numbers = ap length (numbers_more start size f)
    ∙ length-append (filter_map (number_to f) (draws_of start size)) _ in
    let one = side_counted f (drawn_ends start size) (drawn start size) in
    let other = number_counted f (drawn start size) in
    omega (arith, before, sides, numbers, one, other)

number_small : (f : ℕ) (draw : Drawn) → IsWithin draw
    → All (λ a. IsAtMost a most_amount) (cons_option (number_to f draw) [])
number_small f draw within =
    by (seller_of draw == f) (buyer_of draw == f) _ _ (seller (draw.trade % 2 == 0)) (buyer (draw.trade % 2 == 0))
  where
    amount : draw.amount < 100
    amount = within.amount

    number : draw.number < 10
    number = within.number

    seller : (even : Bool) → IsAtMost (if even then neg_ℤ (pos (1 + draw.amount)) else pos draw.number) most_amount
    seller true = record { low = omega (arith, ints, amount); high = omega (arith, ints, amount) }
    seller false = record { low = omega (arith, ints, number); high = omega (arith, ints, number) }

    buyer : (even : Bool) → IsAtMost (if even then pos draw.number else pos (50 + draw.amount)) most_amount
    buyer true = record { low = omega (arith, ints, number); high = omega (arith, ints, number) }
    buyer false = record { low = omega (arith, ints, amount); high = omega (arith, ints, amount) }

    by : (a b : Bool) (x y : ℤ) → IsAtMost x most_amount → IsAtMost y most_amount
        → All (λ z. IsAtMost z most_amount) (cons_option (if a then Some x else (if b then Some y else None)) [])
    by true b x y first second =
        All-cons (λ z. IsAtMost z most_amount) x [] first (All-nil (λ z. IsAtMost z most_amount))
    by false true x y first second =
        All-cons (λ z. IsAtMost z most_amount) y [] second (All-nil (λ z. IsAtMost z most_amount))
    by false false x y first second = All-nil (λ z. IsAtMost z most_amount)

all_small : (start size f : ℕ) → size ≤ most_drilled
    → All (λ a. IsAtMost a most_amount) (filter_map (number_to f) (draws_of start size))
all_small start zero f few = All-nil (λ a. IsAtMost a most_amount)
all_small start (suc size) f few =
    subst (All (λ a. IsAtMost a most_amount)) (sym (numbers_more start size f))
    (All-append (λ a. IsAtMost a most_amount) (filter_map (number_to f) (draws_of start size))
    (cons_option (number_to f (drawn start size)) []) (all_small start size f (omega (arith, few)))
    (number_small f (drawn start size) (drawn_within start size (omega (arith, few)))))

pub own_of : (start size f : ℕ) → size ≤ most_drilled → f < 16 → HasSmallNumbers (drawn_ends start size) (draws_of start size) f
own_of start size f few below =
    let sides = few_sides start size f in
    let grows = tally-grows (may_join f) size most_drilled few in
    let most = few_at 16 f below all_few in
    record {
      few = omega (arith, sides, grows, most);
      as_many = same_count start size f;
      small =
          all_small start size f few;
    }

-- ---- the network

firm_at : (start size f : ℕ) (firm : Firm) → slice_get (firms_of start size) f ≡ Some firm
    → firm ≡ firm_in (drawn_ends start size) (draws_of start size) f
firm_at start size f firm is =
    let at = firm_in (drawn_ends start size) (draws_of start size) in
    let counted = length-map-range_with_len at 0 16 in
    let within = slice_get_within (firms_of start size) f firm is in
    sym (get_or_from_slice_get (firms_of start size) f firm firm is)
    ∙ get_or-map-range_with_len at 0 16 f f firm (omega (arith, counted, within)) (omega arith)

sided : (f : ℕ) (sides : List Side) (numbers : List ℤ) → ((drawn_firm f sides numbers).count ≡ length sides)
    × ((drawn_firm f sides numbers).buys ≡ buys_of sides)
sided f sides numbers =
    by (nat_lt f 4) (nat_lt f 12) (producer sides numbers) (middle_firm sides numbers None) (consumer sides numbers)
    (refl, refl) (refl, refl) (refl, refl)
  where
    by : (a b : Bool) (x y z : Firm) → (x.count ≡ length sides) × (x.buys ≡ buys_of sides) → (y.count ≡ length sides)
        × (y.buys ≡ buys_of sides) → (z.count ≡ length sides) × (z.buys ≡ buys_of sides)
        → ((if a then x else (if b then y else z)).count ≡ length sides)
        × ((if a then x else (if b then y else z)).buys ≡ buys_of sides)
    by true b x y z first second third = first
    by false true x y z first second third = second
    by false false x y z first second third = third

pub drill_network : (start size : ℕ) → IsNetwork (firms_of start size) (drawn_ends start size)
drill_network start size =
    network (drawn_ends start size) (firms_of start size)
    (subst (λ (n : ℕ). AreInOrder n (drawn_ends start size))
    (sym (length-map-range_with_len (firm_in (drawn_ends start size) (draws_of start size)) 0 16))
    (in_order start size))
    (λ f firm is. subst (λ (z : Firm). (z.count ≡ length (sides_of (drawn_ends start size) f))
    × (z.buys ≡ buys_of (sides_of (drawn_ends start size) f))) (sym (firm_at start size f firm is))
    (sided f (sides_of (drawn_ends start size) f) (filter_map (number_to f) (draws_of start size))))

-- the firms of these trades and draws
pub firms_are : (start size : ℕ) (trades : List Ends) (draws : List Drawn) → trades ≡ drawn_ends start size
    → draws ≡ draws_of start size → map (firm_in trades draws) (range_with_len 0 16) ≡ firms_of start size
firms_are start size trades draws trades_are draws_are =
    ap₂ (λ (ts : List Ends) (ds : List Drawn). map (firm_in ts ds) (range_with_len 0 16)) trades_are draws_are
