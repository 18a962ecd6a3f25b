-- Four free places exchange where two and three trades at level 0 do with null, which decides four trades too.
use Rattle.std.proofs.Common.{◌≡◌, ℕ, ◌+◌, ◌<◌, ◌≤◌, ap, ◌∙◌, subst, arith, inl, inr}
use Rattle.std.specs.Prelude.{ℤ, ◌+ℤ◌}
use Rattle.std.proofs.lemmas.Bool.{cases_lt}
use Rattle.std.proofs.lemmas.Int.{ints}
use Rattle.tn_base.specs.Sets.{toggle}
use Rattle.tn_base.specs.Firm.{Firm}
use Rattle.tn_firm_laws.specs.Places.{move}
use Rattle.tn_firm_laws.specs.Quads.{value, IsFree, QuadsExchangeAt}
use Rattle.tn_firm_laws.proofs.PlaceLemmas.{toggle_at-trade, toggle_at-null, move-both}
use Rattle.tn_local.specs.Quads.{IsNotAboveBoth, StandsTwice, IsLow, PairExchanges, ThreeExchange, OneExchanges}
use Rattle.tn_local.proofs.QuadLemmas.{FourExchange, OrderedExchange, quads_from_ordered, ordered_from_quads}

-- Six numbers of pairs and four of single ones: where of each three the greatest sum stands twice, so it is of all
-- four.

turned : (a b c : ℤ) → IsNotAboveBoth a b c → IsNotAboveBoth a c b
turned a b c (inl most) = inr most
turned a b c (inr most) = inl most

first_of_threes : (ab ac ad bc bd cd a b c d : ℤ)
    → IsNotAboveBoth (ab +ℤ c) (ac +ℤ b) (bc +ℤ a)
    → IsNotAboveBoth (ab +ℤ d) (ad +ℤ b) (bd +ℤ a)
    → IsNotAboveBoth (cd +ℤ a) (ac +ℤ d) (ad +ℤ c)
    → IsNotAboveBoth (cd +ℤ b) (bc +ℤ d) (bd +ℤ c)
    → IsNotAboveBoth (ac +ℤ d) (ad +ℤ c) (cd +ℤ a)
    → IsNotAboveBoth (bc +ℤ d) (bd +ℤ c) (cd +ℤ b)
    → IsNotAboveBoth (ab +ℤ cd) (ac +ℤ bd) (ad +ℤ bc)
first_of_threes ab ac ad bc bd cd a b c d ab_c ab_d cd_a cd_b ac_d bc_d = elim ab_c [
  | inl ab_ac ↦ elim cd_b [
    | inr cd_bd ↦ inl (omega (arith, ints, ab_ac, cd_bd))
    | inl cd_bc ↦ elim ab_d [
      | inl ab_ad ↦ inr (omega (arith, ints, ab_ad, cd_bc))
      | inr ab_bd ↦ elim cd_a [
        | inl cd_ac ↦ inl (omega (arith, ints, ab_bd, cd_ac))
        | inr cd_ad ↦ elim ac_d [
          | inl ac_ad ↦ inr (omega (arith, ints, ab_ac, ac_ad, cd_bc))
          | inr ac_cd ↦ inr (omega (arith, ints, ab_ac, ac_cd, cd_ad, cd_bc))
        ]
      ]
    ]
  ]
  | inr ab_bc ↦ elim cd_a [
    | inr cd_ad ↦ inr (omega (arith, ints, ab_bc, cd_ad))
    | inl cd_ac ↦ elim ab_d [
      | inr ab_bd ↦ inl (omega (arith, ints, ab_bd, cd_ac))
      | inl ab_ad ↦ elim cd_b [
        | inl cd_bc ↦ inr (omega (arith, ints, ab_ad, cd_bc))
        | inr cd_bd ↦ elim bc_d [
          | inl bc_bd ↦ inl (omega (arith, ints, ab_bc, bc_bd, cd_ac))
          | inr bc_cd ↦ inl (omega (arith, ints, ab_bc, bc_cd, cd_bd, cd_ac))
        ]
      ]
    ]
  ]
]

four_from_threes : (ab ac ad bc bd cd a b c d : ℤ)
    → StandsTwice (ab +ℤ c) (ac +ℤ b) (bc +ℤ a)
    → StandsTwice (ab +ℤ d) (ad +ℤ b) (bd +ℤ a)
    → StandsTwice (ac +ℤ d) (ad +ℤ c) (cd +ℤ a)
    → StandsTwice (bc +ℤ d) (bd +ℤ c) (cd +ℤ b)
    → StandsTwice (ab +ℤ cd) (ac +ℤ bd) (ad +ℤ bc)
four_from_threes ab ac ad bc bd cd a b c d abc abd acd bcd = (
  first_of_threes ab ac ad bc bd cd a b c d abc.0 abd.0 acd.2 bcd.2 acd.0 bcd.0,
  first_of_threes ac ab ad bc cd bd a c b d abc.1 acd.0 abd.2 bcd.1 abd.0 (turned (bc +ℤ d) (bd +ℤ c) (cd +ℤ b) bcd.0),
  first_of_threes ad ab ac bd cd bc a d b c abd.1 acd.1 abc.2 bcd.0 abc.0 (turned (bd +ℤ c) (bc +ℤ d) (cd +ℤ b) bcd.1),
)

stands_as : (a b c a' b' c' : ℤ) → a ≡ a' → b ≡ b' → c ≡ c' → StandsTwice a b c → StandsTwice a' b' c'
stands_as a b c a' b' c' p q r stands =
    subst (λ (u : ℤ). StandsTwice u b' c') p (subst (λ (v : ℤ). StandsTwice a v c') q
    (subst (λ (w : ℤ). StandsTwice a b w) r stands))

-- what a bundle is worth, moved at two trades, at a trade and null, and at null twice
by_two : (firm : Firm) (z i j : ℕ) → i < firm.count → j < firm.count
    → value firm (move firm.count z i j) ≡ value firm (toggle (toggle z i) j)
by_two firm z i j first second = ap (value firm) (move-both firm.count z i j first second)

by_one : (firm : Firm) (z i j : ℕ) → i < firm.count → firm.count ≤ j
    → value firm (move firm.count z i j) ≡ value firm (toggle z i)
unfolding move
by_one firm z i j trade null =
    ap (value firm) (toggle_at-null firm.count _ j null ∙ toggle_at-trade firm.count z i trade)

by_none : (firm : Firm) (z i j : ℕ) → firm.count ≤ i → firm.count ≤ j
    → value firm (move firm.count z i j) ≡ value firm z
unfolding move
by_none firm z i j first second =
    ap (value firm) (toggle_at-null firm.count _ j second ∙ toggle_at-null firm.count z i first)

-- a free place below null is a trade at level 0
low_place : (firm : Firm) (z k : ℕ) → IsFree firm.count firm.buys z k → k < firm.count → IsLow firm.count firm.buys z k
low_place firm z k free trade = (trade, free.1 trade)

module _ (firm : Firm) (z : ℕ) (all : (a : ℕ) → IsLow firm.count firm.buys z a → OneExchanges firm z a) where
  two_of_four : (a b c d : ℕ) → a < b → IsLow firm.count firm.buys z a → IsLow firm.count firm.buys z b → firm.count ≤ c
      → firm.count ≤ d
      → FourExchange firm z a b c d
  two_of_four a b c d a_b a_low b_low c_null d_null =
      let pair = (all a a_low b a_b b_low).0 in
      let ab = by_two firm z a b a_low.0 b_low.0 in
      let cd = by_none firm z c d c_null d_null in
      let ac = by_one firm z a c a_low.0 c_null in
      let bd = by_one firm z b d b_low.0 d_null in
      let ad = by_one firm z a d a_low.0 d_null in
      let bc = by_one firm z b c b_low.0 c_null in (
        inl (omega (arith, ints, pair, ab, cd, ac, bd)),
        inr (omega (arith, ints, ac, bd, ad, bc)),
        inr (omega (arith, ints, ac, bd, ad, bc)),
      )

  three_of_four : (a b c d : ℕ) → a < b → b < c → IsLow firm.count firm.buys z a → IsLow firm.count firm.buys z b
      → IsLow firm.count firm.buys z c
      → firm.count ≤ d → FourExchange firm z a b c d
  three_of_four a b c d a_b b_c a_low b_low c_low d_null =
      let ab = by_two firm z a b a_low.0 b_low.0 in
      let cd = by_one firm z c d c_low.0 d_null in
      let ac = by_two firm z a c a_low.0 c_low.0 in
      let bd = by_one firm z b d b_low.0 d_null in
      let ad = by_one firm z a d a_low.0 d_null in
      let bc = by_two firm z b c b_low.0 c_low.0 in
      stands_as _ _ _ _ _ _ (omega (arith, ints, ab, cd)) (omega (arith, ints, ac, bd)) (omega (arith, ints, ad, bc))
      ((all a a_low b a_b b_low).1 c b_c c_low)

  all_of_four : (a b c d : ℕ) → a < b → b < c → c < d → IsLow firm.count firm.buys z a → IsLow firm.count firm.buys z b
      → IsLow firm.count firm.buys z c → IsLow firm.count firm.buys z d → FourExchange firm z a b c d
  all_of_four a b c d a_b b_c c_d a_low b_low c_low d_low =
      let a_c : a < c = omega (arith, a_b, b_c) in
      let b_d : b < d = omega (arith, b_c, c_d) in
      let abc : ThreeExchange firm z a b c = (all a a_low b a_b b_low).1 c b_c c_low in
      let abd : ThreeExchange firm z a b d = (all a a_low b a_b b_low).1 d b_d d_low in
      let acd : ThreeExchange firm z a c d = (all a a_low c a_c c_low).1 d c_d d_low in
      let bcd : ThreeExchange firm z b c d = (all b b_low c b_c c_low).1 d c_d d_low in
      let ab = by_two firm z a b a_low.0 b_low.0 in
      let cd = by_two firm z c d c_low.0 d_low.0 in
      let ac = by_two firm z a c a_low.0 c_low.0 in
      let bd = by_two firm z b d b_low.0 d_low.0 in
      let ad = by_two firm z a d a_low.0 d_low.0 in
      let bc = by_two firm z b c b_low.0 c_low.0 in
      stands_as _ _ _ _ _ _ (omega (arith, ints, ab, cd)) (omega (arith, ints, ac, bd)) (omega (arith, ints, ad, bc))
      (four_from_threes
      (value firm (toggle (toggle z a) b)) (value firm (toggle (toggle z a) c)) (value firm (toggle (toggle z a) d))
      (value firm (toggle (toggle z b) c)) (value firm (toggle (toggle z b) d)) (value firm (toggle (toggle z c) d))
      (value firm (toggle z a)) (value firm (toggle z b)) (value firm (toggle z c)) (value firm (toggle z d))
      abc abd acd bcd)

  ordered_from_trades : OrderedExchange firm z
  ordered_from_trades a a_free b a_b b_free c b_c c_free d c_d d_free =
      let most = d_free.0 in
      let a_low = low_place firm z a a_free (omega (arith, a_b, b_c, c_d, most)) in
      let b_low = low_place firm z b b_free (omega (arith, b_c, c_d, most)) in
      elim (cases_lt c firm.count) [
        | inr c_null ↦ two_of_four a b c d a_b a_low b_low c_null (omega (arith, c_null, c_d))
        | inl c_trade ↦ elim (cases_lt d firm.count) [
          | inr d_null ↦ three_of_four a b c d a_b b_c a_low b_low (low_place firm z c c_free c_trade) d_null
          | inl d_trade ↦
              all_of_four a b c d a_b b_c c_d a_low b_low (low_place firm z c c_free c_trade)
              (low_place firm z d d_free d_trade)
        ]
      ]

  pub quads_from_trades : QuadsExchangeAt firm z
  quads_from_trades = quads_from_ordered firm z ordered_from_trades

-- and the other way round
free_trade : (firm : Firm) (z k : ℕ) → IsLow firm.count firm.buys z k → IsFree firm.count firm.buys z k
free_trade firm z k is_low = let place = is_low.0 in (omega (arith, place), λ t. is_low.1)

free_null : (firm : Firm) (z k : ℕ) → firm.count ≤ k → k ≤ firm.count + 1 → IsFree firm.count firm.buys z k
free_null firm z k null most = (most, λ t. absurd (omega (arith, t, null)))

pub trades_from_quads : (firm : Firm) (z : ℕ) → QuadsExchangeAt firm z → (a : ℕ) → IsLow firm.count firm.buys z a
    → OneExchanges firm z a
trades_from_quads firm z quads a a_low b a_b b_low = (pair, thirds)
  where
    first : IsFree firm.count firm.buys z firm.count
    first = free_null firm z firm.count (omega arith) (omega arith)

    ordered : OrderedExchange firm z
    ordered = ordered_from_quads firm z quads

    pair : PairExchanges firm z a b
    pair =
        let b_trade = b_low.0 in
        let four : FourExchange firm z a b firm.count (firm.count + 1) =
        ordered a (free_trade firm z a a_low) b a_b (free_trade firm z b b_low) firm.count b_trade first (firm.count
        + 1) (omega arith)
        (free_null firm z (firm.count + 1) (omega arith) (omega arith)) in
        let ab = by_two firm z a b a_low.0 b_low.0 in
        let cd = by_none firm z firm.count (firm.count + 1) (omega arith) (omega arith) in
        let ac = by_one firm z a firm.count a_low.0 (omega arith) in
        let bd = by_one firm z b (firm.count + 1) b_low.0 (omega arith) in
        let ad = by_one firm z a (firm.count + 1) a_low.0 (omega arith) in
        let bc = by_one firm z b firm.count b_low.0 (omega arith) in
        elim four.0 [
          | inl most ↦ omega (arith, ints, most, ab, cd, ac, bd)
          | inr most ↦ omega (arith, ints, most, ab, cd, ad, bc)
        ]

    thirds : (c : ℕ) → b < c → IsLow firm.count firm.buys z c → ThreeExchange firm z a b c
    thirds c b_c c_low =
        let c_trade = c_low.0 in
        let four : FourExchange firm z a b c firm.count =
        ordered a (free_trade firm z a a_low) b a_b (free_trade firm z b b_low) c b_c (free_trade firm z c c_low)
        firm.count c_trade first in
        let ab = by_two firm z a b a_low.0 b_low.0 in
        let cd = by_one firm z c firm.count c_low.0 (omega arith) in
        let ac = by_two firm z a c a_low.0 c_low.0 in
        let bd = by_one firm z b firm.count b_low.0 (omega arith) in
        let ad = by_one firm z a firm.count a_low.0 (omega arith) in
        let bc = by_two firm z b c b_low.0 c_low.0 in
        stands_as _ _ _ _ _ _ (omega (arith, ints, ab, cd)) (omega (arith, ints, ac, bd)) (omega (arith, ints, ad, bc))
        four
