-- There is room for the blocks of every market: a firm has no trade twice, and a trade is owned twice.
use Rattle.std.proofs.Common.{◌≡◌, ℕ, zero, suc, ◌+◌, ◌*◌, ◌^◌, ◌<◌, ◌≤◌, Bool, true, false, not, if◌then◌else◌, List, [], ◌∷◌, length, map, slice_get, Some, None, Option, option_map, refl, sym, ap, ap₂, ◌∙◌, subst, arith, inl, inr, le-ltb, lt-ltb, add-mul, mul-add, mul_assoc, mul-le-mul_left, mul-le-mul_right, pow_pos}
use Rattle.std.proofs.lemmas.Bool.{cases_Bool, cases_lt}
use Rattle.std.proofs.lemmas.Nat.{mul-le}
use Rattle.std.proofs.lemmas.Option.{same_Some, some_pair_parts, slice_get_cases, slice_get-map}
use Rattle.tn_base.specs.Sets.{has, toggle, size}
use Rattle.tn_base.specs.Firm.{Firm}
use Rattle.tn_base.proofs.SetLemmas.{has-zero, has-toggle_other, toggle_within}
use Rattle.tn_base.proofs.SizeLemmas.{size_le, size-toggle_in, size-zero}
use Rattle.tn_model.specs.declared.ends.Ends.{Ends}
use Rattle.tn_model.specs.Network.{own, IsNetwork}
use Rattle.tn_graph.specs.Blocks.{block_size, room_of}
use Rattle.tn_graph.specs.Layout.{end_of, sum_before, own_before, room_before, IsLaidBefore}
use Rattle.tn_graph.proofs.EndLemmas.{end_here, one_end}

-- the room of a graph is small
pub room_small : (nodes : ℕ) → nodes ≤ 2049 → room_of nodes ≤ 2 * (2049 * 66)
unfolding room_of
room_small nodes few = elim (cases_lt nodes 66) [
  | inl below ↦ subst (λ (b : Bool). 2 * (nodes * (if b then nodes else 66)) ≤ 2 * (2049 * 66))
      (sym (lt-ltb nodes 66 below))
      (let square = mul-le nodes nodes 66 66 (omega (arith, below)) (omega (arith, below)) in omega (arith, square))
  | inr past ↦ subst (λ (b : Bool). 2 * (nodes * (if b then nodes else 66)) ≤ 2 * (2049 * 66))
      (sym (le-ltb nodes 66 past)) (omega (arith, few))
]

-- no firm has more than 64 own trades
pub counts_few : {V : Type 0} (firm_of : V → Firm) (firms : List V) → ((v : V) → (firm_of v).count ≤ 64)
    → (f : ℕ) (firm : Firm) → slice_get (map firm_of firms) f ≡ Some firm → firm.count ≤ 64
counts_few {V} firm_of firms few f firm is = by (slice_get firms f) (sym (slice_get-map firm_of firms f) ∙ is)
  where
    by : (found : Option V) → option_map firm_of found ≡ Some firm → firm.count ≤ 64
    by (Some v) e = subst (λ (z : Firm). z.count ≤ 64) (same_Some (firm_of v) firm e) (few v)
    by None e = absurd (cc e)

-- ---- sums

pub sum_none : (size : Firm → ℕ) (firms : List Firm) → sum_before size firms 0 ≡ 0
sum_none size [] = refl
sum_none size (firm ∷ firms) = refl

sum_suc : (size : Firm → ℕ) (firms : List Firm) (f : ℕ) (firm : Firm) → slice_get firms f ≡ Some firm
    → sum_before size firms (suc f) ≡ sum_before size firms f + size firm
sum_suc size [] f firm is = absurd (cc is)
sum_suc size (first ∷ firms) zero firm is =
    let same : first ≡ firm = same_Some first firm is in
    let here : size first ≡ size firm = ap size same in
    let none = sum_none size firms in
    omega (arith, here, none)
sum_suc size (first ∷ firms) (suc f) firm is = let rest = sum_suc size firms f firm is in omega (arith, rest)

-- with the next firm
pub sum_next : (size : Firm → ℕ) (firms : List Firm) (f : ℕ) (firm : Firm) → slice_get firms f ≡ Some firm
    → sum_before size firms (f + 1) ≡ sum_before size firms f + size firm
sum_next size firms f firm is =
    let next : f + 1 ≡ suc f = omega arith in ap (sum_before size firms) next ∙ sum_suc size firms f firm is

pub sum_grows : (size : Firm → ℕ) (firms : List Firm) (f g : ℕ) → f ≤ g
    → sum_before size firms f ≤ sum_before size firms g
sum_grows size [] f g least = omega arith
sum_grows size (firm ∷ firms) zero g least = omega arith
sum_grows size (firm ∷ firms) (suc f) zero least = absurd (omega (arith, least))
sum_grows size (firm ∷ firms) (suc f) (suc g) least =
    let rest = sum_grows size firms f g (omega (arith, least)) in omega (arith, rest)

-- a firm's size lies between the sums before it and before a later firm
pub sum_past : (size : Firm → ℕ) (firms : List Firm) (f g : ℕ) (firm : Firm) → slice_get firms f ≡ Some firm → f < g
    → sum_before size firms f + size firm ≤ sum_before size firms g
sum_past size firms f g firm is before =
    let next = sum_next size firms f firm is in
    let grows = sum_grows size firms (f + 1) g (omega (arith, before)) in
    omega (arith, next, grows)

-- where each size is at most so many times another one
sum_times : (size other : Firm → ℕ) (k : ℕ) (firms : List Firm) (f : ℕ)
    → ((g : ℕ) (firm : Firm) → slice_get firms g ≡ Some firm → size firm ≤ other firm * k)
    → sum_before size firms f ≤ sum_before other firms f * k
sum_times size other k [] f each = omega arith
sum_times size other k (firm ∷ firms) zero each = omega arith
sum_times size other k (firm ∷ firms) (suc f) each =
    let here = each 0 firm refl in
    let rest = sum_times size other k firms f (λ g. each (suc g)) in
    let spread : (other firm + sum_before other firms f) * k ≡ other firm * k + sum_before other firms f * k =
    add-mul (other firm) (sum_before other firms f) k in
    omega (arith, here, rest, spread)

-- ---- own trades

-- a number for each end of a trade
abbrev code : List Ends → Firm → ℕ → ℕ → ℕ
code trades firm g j = own trades g j + (if has firm.buys j then length trades else 0)

-- a set with the numbers of so many positions
record Marked (firms : List Firm) (trades : List Ends) (f k : ℕ) : Type 0 where
  pub marks : ℕ
  pub within : marks < 2 ^ (length trades + length trades)
  pub counted : size marks ≡ own_before firms f + k
  pub later : (g j : ℕ) (firm : Firm) → slice_get firms g ≡ Some firm → j < firm.count → (IsLaidBefore f k g j → ⊥)
      → has marks (code trades firm g j) ≡ false

-- a set with the own trades of a firm at so many positions
record HasOwn (trades : List Ends) (f k : ℕ) (firm : Firm) : Type 0 where
  pub marks : ℕ
  pub within : marks < 2 ^ length trades
  pub counted : size marks ≡ k
  pub later : (j : ℕ) → j < firm.count → k ≤ j → has marks (own trades f j) ≡ false

module _ (firms : List Firm) (trades : List Ends) (network : IsNetwork firms trades) where
  -- where two positions have one trade on one side, they are one
  same_end : (f g i j : ℕ) (one other : Firm) → slice_get firms f ≡ Some one → slice_get firms g ≡ Some other
      → i < one.count → j < other.count → own trades f i ≡ own trades g j → has one.buys i ≡ has other.buys j
      → (f ≡ g) × (i ≡ j)
  same_end f g i j one other one_is other_is i_in j_in same sides =
      let first = end_here firms trades network 0 f i one one_is i_in
      (if has one.buys i then not (has 0 (own trades f i)) else has 0 (own trades f i)) refl in
      let second = end_here firms trades network 0 g j other other_is j_in
      (if has one.buys i then not (has 0 (own trades f i)) else has 0 (own trades f i))
      (ap₂ (λ (b : Bool) (t : ℕ). if b then not (has 0 t) else has 0 t) sides same) in
      some_pair_parts f g i j (sym first ∙ ap (end_of trades (has 0)
      (if has one.buys i then not (has 0 (own trades f i)) else has 0 (own trades f i))) same ∙ second)

  code_below : (g j : ℕ) (firm : Firm) → slice_get firms g ≡ Some firm → j < firm.count
      → code trades firm g j < length trades + length trades
  code_below g j firm is inside = by_case (has firm.buys j)
    where
      by_case : (b : Bool) → own trades g j + (if b then length trades else 0) < length trades + length trades
      by_case true = let below = network.whole g j firm is inside in omega (arith, below)
      by_case false = let below = network.whole g j firm is inside in omega (arith, below)

  code_once : (f g i j : ℕ) (one other : Firm) → slice_get firms f ≡ Some one → slice_get firms g ≡ Some other
      → i < one.count → j < other.count → code trades one f i ≡ code trades other g j → (f ≡ g) × (i ≡ j)
  code_once f g i j one other one_is other_is i_in j_in same =
      by_case (has one.buys i) (has other.buys j) refl refl same
    where
      i_below : own trades f i < length trades
      i_below = network.whole f i one one_is i_in

      j_below : own trades g j < length trades
      j_below = network.whole g j other other_is j_in

      by_case : (p q : Bool) → has one.buys i ≡ p → has other.buys j ≡ q
          → own trades f i + (if has one.buys i then length trades else 0)
          ≡ own trades g j + (if has other.buys j then length trades else 0) → (f ≡ g) × (i ≡ j)
      by_case p q p_is q_is e =
          at p q p_is q_is (ap (λ (b : Bool). own trades f i + (if b then length trades else 0)) (sym p_is) ∙ e
          ∙ ap (λ (b : Bool). own trades g j + (if b then length trades else 0)) q_is)
        where
          at : (p q : Bool) → has one.buys i ≡ p → has other.buys j ≡ q
              → own trades f i + (if p then length trades else 0) ≡ own trades g j + (if q then length trades else 0)
              → (f ≡ g) × (i ≡ j)
          at true true p_is q_is e =
              same_end f g i j one other one_is other_is i_in j_in (omega (arith, e)) (p_is ∙ sym q_is)
          at false false p_is q_is e =
              same_end f g i j one other one_is other_is i_in j_in (omega (arith, e)) (p_is ∙ sym q_is)
          at true false p_is q_is e = absurd (omega (arith, e, i_below, j_below))
          at false true p_is q_is e = absurd (omega (arith, e, i_below, j_below))

  marked_none : Marked firms trades 0 0
  marked_none = record {
    marks = 0;
    within = pow_pos (length trades + length trades);
    counted = let none = sum_none (λ firm. firm.count) firms in let zeroed = size-zero in omega (arith, none, zeroed);
    later = λ g j firm is inside past. has-zero (code trades firm g j);
  }

  mark_one : (f k : ℕ) (firm : Firm) → slice_get firms f ≡ Some firm → k < firm.count → Marked firms trades f k
      → Marked firms trades f (k + 1)
  mark_one f k firm is inside marked =
      let new = marked.later f k firm is inside (λ before. elim before [
        | inl p ↦ absurd (omega (arith, p))
        | inr p ↦ (let q = p.1 in absurd (omega (arith, q)))
      ]) in
      let more = size-toggle_in marked.marks (code trades firm f k) new in
      let counted = marked.counted in
      record {
        marks = toggle marked.marks (code trades firm f k);
        within = toggle_within marked.marks (code trades firm f k) (length trades + length trades) marked.within
            (code_below f k firm is inside);
        counted = omega (arith, more, counted);
        later = λ g j other other_is other_inside past.
            has-toggle_other marked.marks (code trades firm f k) (code trades other g j) (λ e.
            let one = code_once g f j k other firm other_is is other_inside inside e in
            past (inr (one.0, (let at = one.1 in omega (arith, at)))))
            ∙ marked.later g j other other_is other_inside (λ before. past (elim before [
              | inl p ↦ inl p
              | inr p ↦ inr (p.0, (let q = p.1 in omega (arith, q)))
            ]));
      }

  mark_own : (f : ℕ) (firm : Firm) → slice_get firms f ≡ Some firm → (k : ℕ) → k ≤ firm.count → Marked firms trades f 0
      → Marked firms trades f k
  mark_own f firm is zero inside marked = marked
  mark_own f firm is (suc k) inside marked =
      let next : k + 1 ≡ suc k = omega arith in
      subst (Marked firms trades f) next
      (mark_one f k firm is (omega (arith, inside)) (mark_own f firm is k (omega (arith, inside))
      marked))

  mark_next : (f : ℕ) (firm : Firm) → slice_get firms f ≡ Some firm → Marked firms trades f firm.count
      → Marked firms trades (f + 1) 0
  mark_next f firm is marked =
      let counted = marked.counted in
      let next = sum_next (λ firm. firm.count) firms f firm is in
      record {
        marks = marked.marks;
        within = marked.within;
        counted = omega (arith, counted, next);
        later = λ g j other other_is inside past. marked.later g j other other_is inside (λ before. past (elim before [
          | inl p ↦ inl (omega (arith, p))
          | inr p ↦ inl (let same = p.0 in omega (arith, same))
        ]));
      }

  mark_firms : (f : ℕ) → f ≤ length firms → Marked firms trades f 0
  mark_firms zero inside = marked_none
  mark_firms (suc f) inside = elim (slice_get_cases firms f).1 [
    | inl found ↦
        let next : f + 1 ≡ suc f = omega arith in
        subst (λ (g : ℕ). Marked firms trades g 0) next (mark_next f found.0 found.2
        (mark_own f found.0 found.2 found.0.count (omega arith) (mark_firms f (omega (arith, inside)))))
    | inr past ↦ (let above = past.0 in absurd (omega (arith, above, inside)))
  ]

  -- the firms have twice as many own trades as there are trades
  pub own_few : (f : ℕ) → f ≤ length firms → own_before firms f ≤ 2 * length trades
  own_few f inside =
      let marked = mark_firms f inside in
      let most = size_le (length trades + length trades) marked.marks marked.within in
      let counted = marked.counted in
      omega (arith, most, counted)

  -- a firm has a trade at one position alone
  pub own_once : (f i j : ℕ) (firm : Firm) → slice_get firms f ≡ Some firm → i < firm.count → j < firm.count
      → own trades f i ≡ own trades f j → i ≡ j
  own_once f i j firm is i_in j_in same = elim (cases_Bool (has firm.buys i)) [
    | inl i_buys ↦ elim (cases_Bool (has firm.buys j)) [
      | inl j_buys ↦ (same_end f f i j firm firm is is i_in j_in same (i_buys ∙ sym j_buys)).1
      | inr j_sells ↦ absurd (apart i j i_in j_in same i_buys j_sells)
    ]
    | inr i_sells ↦ elim (cases_Bool (has firm.buys j)) [
      | inl j_buys ↦ absurd (apart j i j_in i_in (sym same) j_buys i_sells)
      | inr j_sells ↦ (same_end f f i j firm firm is is i_in j_in same (i_sells ∙ sym j_sells)).1
    ]
  ]
    where
      apart : (i j : ℕ) → i < firm.count → j < firm.count → own trades f i ≡ own trades f j → has firm.buys i ≡ true
          → has firm.buys j ≡ false → ⊥
      apart i j i_in j_in same buys sells =
          let first = end_here firms trades network 0 f i firm is i_in
          (if has firm.buys i then not (has 0 (own trades f i)) else has 0 (own trades f i)) refl in
          let second = end_here firms trades network 0 f j firm is j_in
          (if has firm.buys j then not (has 0 (own trades f j)) else has 0 (own trades f j)) refl in
          let one = one_end firms trades network (has 0) _ _ (own trades f j) f i j
          (ap (end_of trades (has 0) (if has firm.buys i then not (has 0 (own trades f i))
          else has 0 (own trades f i))) (sym same) ∙ first) second in
          let i_is = ap₂ (λ (b c : Bool). if b then not c else c) buys (has-zero (own trades f i)) in
          let j_is = ap₂ (λ (b c : Bool). if b then not c else c) sells (has-zero (own trades f j)) in
          absurd (let bad : true ≡ false = sym i_is ∙ one ∙ j_is in cc bad)

  own_marks : (f : ℕ) (firm : Firm) → slice_get firms f ≡ Some firm → (k : ℕ) → k ≤ firm.count → HasOwn trades f k firm
  own_marks f firm is zero inside = record {
    marks = 0;
    within = pow_pos (length trades);
    counted = size-zero;
    later = λ j j_in past. has-zero (own trades f j);
  }
  own_marks f firm is (suc k) inside =
      let marked = own_marks f firm is k (omega (arith, inside)) in
      let new = marked.later k (omega (arith, inside)) (omega arith) in
      let more = size-toggle_in marked.marks (own trades f k) new in
      let counted = marked.counted in
      record {
        marks = toggle marked.marks (own trades f k);
        within = toggle_within marked.marks (own trades f k) (length trades) marked.within
            (network.whole f k firm is (omega (arith, inside)));
        counted = omega (arith, more, counted);
        later = λ j j_in past.
            has-toggle_other marked.marks (own trades f k) (own trades f j) (λ e.
            let same = own_once f j k firm is j_in (omega (arith, inside)) e in absurd (omega (arith, same, past)))
            ∙ marked.later j j_in (omega (arith, past));
      }

  -- a firm has no more own trades than there are trades
  pub count_few : (f : ℕ) (firm : Firm) → slice_get firms f ≡ Some firm → firm.count ≤ length trades
  count_few f firm is =
      let marked = own_marks f firm is firm.count (omega arith) in
      let most = size_le (length trades) marked.marks marked.within in
      let counted = marked.counted in
      omega (arith, most, counted)

  -- so there is room for all blocks, where no firm has more than 64
  pub room_few : ((f : ℕ) (firm : Firm) → slice_get firms f ≡ Some firm → firm.count ≤ 64) → (f : ℕ) → f ≤ length firms
      → room_before firms f ≤ room_of (length trades + 1)
  unfolding room_of
  room_few each f inside = elim (cases_lt (length trades + 1) 66) [
    | inl few ↦ subst (λ (b : Bool). room_before firms f
        ≤ 2 * ((length trades + 1) * (if b then length trades + 1 else 66)))
        (sym (lt-ltb (length trades + 1) 66 few)) by_trades
    | inr many ↦ subst (λ (b : Bool). room_before firms f
        ≤ 2 * ((length trades + 1) * (if b then length trades + 1 else 66)))
        (sym (le-ltb (length trades + 1) 66 many)) by_own
  ]
    where
      m : ℕ
      m = length trades

      blocks : (k : ℕ) → ((g : ℕ) (firm : Firm) → slice_get firms g ≡ Some firm → firm.count + 2 ≤ k)
          → room_before firms f ≤ (2 * m) * k
      blocks k most =
          let sizes : room_before firms f ≤ own_before firms f * k =
          sum_times (λ firm. block_size firm.count) (λ firm. firm.count) k firms f (λ g firm is.
          mul-le-mul_left firm.count (most g firm is)) in
          let owned : own_before firms f * k ≤ (2 * m) * k = mul-le-mul_right k (own_few f inside) in
          omega (arith, sizes, owned)

      by_trades : room_before firms f ≤ 2 * ((m + 1) * (m + 1))
      by_trades =
          let most = blocks (m + 2) (λ g firm is. let few = count_few g firm is in omega (arith, few)) in
          let left : (2 * m) * (m + 2) ≡ (2 * m) * m + (2 * m) * 2 = mul-add (2 * m) m 2 in
          let doubled : (2 * m) * m ≡ 2 * (m * m) = mul_assoc 2 m m in
          let right : (m + 1) * (m + 1) ≡ m * (m + 1) + 1 * (m + 1) = add-mul m 1 (m + 1) in
          let square : m * (m + 1) ≡ m * m + m * 1 = mul-add m m 1 in
          omega (arith, most, left, doubled, right, square)

      by_own : room_before firms f ≤ 2 * ((m + 1) * 66)
      by_own =
          let most = blocks 66 (λ g firm is. let few = each g firm is in omega (arith, few)) in omega (arith, most)
