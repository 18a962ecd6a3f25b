-- Four free places in any order, from those in rising order, and the loops over trades at level 0.
use Rattle.std.proofs.Common.{◌≡◌, ◌≢◌, ℕ, ◌+◌, ◌<◌, ◌≤◌, Bool, true, false, not, ◌&&◌, ◌||◌, refl, sym, ap, ◌∙◌, subst, arith, ◌⊎◌, inl, inr, if◌then◌else◌, pos}
use Rattle.std.specs.Prelude.{◌↔◌, ◌≤ℤ◌, ℤ, Some, None}
use Rattle.std.proofs.lemmas.Bool.{cases_eq, cases_lt, false≢true}
use Rattle.std.proofs.lemmas.Int.{ints}
use Rattle.tn_base.specs.Sets.{has, union, minus}
use Rattle.tn_base.specs.Firm.{Firm}
use Rattle.tn_base.proofs.SetLemmas.{has-union, has-minus}
use Rattle.tn_firm_laws.specs.Places.{trade_level, move}
use Rattle.tn_firm_laws.specs.Quads.{number, value, IsFree, AreFourFree, parted, QuadsExchangeAt}
use Rattle.tn_firm_laws.proofs.PlaceLemmas.{places}
use Rattle.tn_local.specs.Quads.{StandsTwice, IsLow, AreLowTrades}

-- what a bundle is worth, by what a table says
pub value_some : (firm : Firm) (x : ℕ) (a : ℤ) → firm.worth x ≡ Some a → a ≡ value firm x
unfolding value
value_some firm x a is = sym (ap number is)

pub value_none : (firm : Firm) (x : ℕ) → firm.worth x ≡ None → pos 0 ≡ value firm x
unfolding value
value_none firm x is = sym (ap number is)

-- the trades at level 0 from a number on and below another pass
abbrev pub AllLowFrom : Firm → ℕ → ℕ → ℕ → (ℕ → Type 0) → Type 0
AllLowFrom firm z low high P = (low ≤ high) × ((k : ℕ) → low ≤ k → k < high → IsLow firm.count firm.buys z k → P k)

pub none_between : (firm : Firm) (z low : ℕ) (P : ℕ → Type 0) → AllLowFrom firm z low low P
none_between firm z low P = (omega arith, λ k from below is_low. absurd (omega (arith, from, below)))

-- one more, which passes or isn't at level 0
pub one_passes : (firm : Firm) (z low high : ℕ) (P : ℕ → Type 0) → AllLowFrom firm z low high P → P high
    → AllLowFrom firm z low (high + 1) P
one_passes firm z low high P all here = (
  (let p = all.0 in omega (arith, p)),
  λ k from below is_low. elim (cases_eq k high) [
    | inl e ↦ subst P (sym e) here
    | inr d ↦ all.1 k from (omega (arith, below, d)) is_low
  ],
)

pub one_is_high : (firm : Firm) (z set low high : ℕ) (P : ℕ → Type 0) → AreLowTrades firm.count firm.buys z set
    → high < firm.count
    → has set high ≡ false → AllLowFrom firm z low high P → AllLowFrom firm z low (high + 1) P
one_is_high firm z set low high P are place is_high all = (
  (let p = all.0 in omega (arith, p)),
  λ k from below is_low. elim (cases_eq k high) [
    | inl e ↦
        let here : IsLow firm.count firm.buys z high = subst (λ (i : ℕ). IsLow firm.count firm.buys z i) e is_low in
        absurd (false≢true (sym is_high ∙ (are high place).1 here))
    | inr d ↦ all.1 k from (omega (arith, below, d)) is_low
  ],
)

-- all of them
pub all_pass : (firm : Firm) (z low high : ℕ) (P : ℕ → Type 0) → firm.count ≤ high → AllLowFrom firm z (low + 1) high P
    → (k : ℕ) → low < k → IsLow firm.count firm.buys z k → P k
all_pass firm z low high P most all k above is_low = let place = is_low.0 in
    all.1 k (omega (arith, above)) (omega (arith, place, most)) is_low

pub each_passes : (firm : Firm) (z high : ℕ) (P : ℕ → Type 0) → firm.count ≤ high → AllLowFrom firm z 0 high P
    → (k : ℕ) → IsLow firm.count firm.buys z k → P k
each_passes firm z high P most all k is_low = let place = is_low.0 in
    all.1 k (omega arith) (omega (arith, place, most)) is_low

-- the sums by other names
pub same_sums : (T : Type 0) (a b c a' b' c' : ℤ) → a ≡ a' → b ≡ b' → c ≡ c' → (T ↔ StandsTwice a b c) → T
    ↔ StandsTwice a' b' c'
same_sums T a b c a' b' c' p q r is =
    subst (λ (u : ℤ). T ↔ StandsTwice u b' c') p (subst (λ (v : ℤ). T
    ↔ StandsTwice a v c') q (subst (λ (w : ℤ). T ↔ StandsTwice a b w) r is))

-- the level of a trade, by what is bought and what is there
abbrev level_by : Bool → Bool → ℕ
level_by bought there = if bought then (if there then 1 else 0) else (if there then 0 else 1)

-- the set of the trades at level 0
pub low_set : (n buys z : ℕ) → AreLowTrades n buys z (union (minus buys z) (minus z buys))
unfolding trade_level
low_set n buys z k place =
    let digits : has (union (minus buys z) (minus z buys)) k
    ≡ ((has buys k && not (has z k)) || (has z k && not (has buys k))) =
    has-union (minus buys z) (minus z buys) k
    ∙ ap (λ b. b || has (minus z buys) k) (has-minus buys z k)
    ∙ ap (λ b. (has buys k && not (has z k)) || b) (has-minus z buys k) in
    let is = by (has buys k) (has z k) in
    ((λ member. (place, is.0 (sym digits ∙ member))), λ is_low. digits ∙ is.1 is_low.1)
  where
    by : (b h : Bool) → (((b && not h) || (h && not b)) ≡ true) ↔ (level_by b h ≡ 0)
    by true true = ((λ e. absurd (false≢true e)), λ e. absurd (omega (arith, e)))
    by true false = ((λ e. refl), λ e. refl)
    by false true = ((λ e. refl), λ e. refl)
    by false false = ((λ e. absurd (false≢true e)), λ e. absurd (omega (arith, e)))

-- four free places in rising order exchange
abbrev pub FourExchange : Firm → ℕ → ℕ → ℕ → ℕ → ℕ → Type 0
FourExchange firm z a b c d = StandsTwice (parted firm z a b c d) (parted firm z a c b d) (parted firm z a d b c)

abbrev pub OrderedExchange : Firm → ℕ → Type 0
OrderedExchange firm z = (a : ℕ) → IsFree firm.count firm.buys z a → (b : ℕ) → a < b → IsFree firm.count firm.buys z b
    → (c : ℕ) → b < c → IsFree firm.count firm.buys z c → (d : ℕ) → c < d → IsFree firm.count firm.buys z d
    → FourExchange firm z a b c d

-- the two places of a pair may be taken in either order
pair_turned : (firm : Firm) (z p q : ℕ) → value firm (move firm.count z p q) ≡ value firm (move firm.count z q p)
pair_turned firm z p q = ap (value firm) ((places firm.count 0).order z p q)

-- of the three sums, that of p and q is not above both others
abbrev IsNotAbove : Firm → ℕ → ℕ → ℕ → ℕ → ℕ → Type 0
IsNotAbove firm z p q r s = (parted firm z p q r s ≤ℤ parted firm z p r q s)
    ⊎ (parted firm z p q r s ≤ℤ parted firm z p s q r)

-- the first two places change places, or the last two, or the pairs
first_turned : (firm : Firm) (z p q r s : ℕ) → IsNotAbove firm z q p r s → IsNotAbove firm z p q r s
first_turned firm z p q r s (inl most) = inr (let a = pair_turned firm z p q in omega (arith, ints, most, a))
first_turned firm z p q r s (inr most) = inl (let a = pair_turned firm z p q in omega (arith, ints, most, a))

last_turned : (firm : Firm) (z p q r s : ℕ) → IsNotAbove firm z p q s r → IsNotAbove firm z p q r s
last_turned firm z p q r s (inl most) = inr (let a = pair_turned firm z r s in omega (arith, ints, most, a))
last_turned firm z p q r s (inr most) = inl (let a = pair_turned firm z r s in omega (arith, ints, most, a))

pairs_turned : (firm : Firm) (z p q r s : ℕ) → IsNotAbove firm z r s p q → IsNotAbove firm z p q r s
pairs_turned firm z p q r s (inl most) = inl (let a = pair_turned firm z r p in let b = pair_turned firm z s q in
    omega (arith, ints, most, a, b))
pairs_turned firm z p q r s (inr most) = inr (let a = pair_turned firm z r q in let b = pair_turned firm z s p in
    omega (arith, ints, most, a, b))

module _ (firm : Firm) (z : ℕ) (all : OrderedExchange firm z) where
  -- in rising order but for the pairs
  by_pairs : (p q r s : ℕ) → AreFourFree firm.count firm.buys z p q r s → p < q → r < s → p < r
      → IsNotAbove firm z p q r s
  by_pairs p q r s four first last pairs = elim (cases_lt q r) [
    | inl low ↦ (all p four.free.0 q first four.free.1 r low four.free.2 s last four.free.3).0
    | inr not_low ↦ elim (cases_lt q s) [
      | inl middle ↦
          let apart = four.apart.3 in
          let four' : FourExchange firm z p r q s =
          all p four.free.0 r pairs four.free.2 q (omega (arith, not_low, apart)) four.free.1 s middle four.free.3
          in
          let a = pair_turned firm z r q in
          elim four'.1 [
            | inl most ↦ inl most
            | inr most ↦ inr (omega (arith, ints, most, a))
          ]
      | inr not_middle ↦
          let apart = four.apart.4 in
          let four' : FourExchange firm z p r s q =
          all p four.free.0 r pairs four.free.2 s last four.free.3 q (omega (arith, not_middle, apart)) four.free.1
          in
          let a = pair_turned firm z s q in
          let b = pair_turned firm z r q in
          elim four'.2 [
            | inl most ↦ inl (omega (arith, ints, most, a, b))
            | inr most ↦ inr (omega (arith, ints, most, a, b))
          ]
    ]
  ]

  by_last : (p q r s : ℕ) → AreFourFree firm.count firm.buys z p q r s → p < q → r < s → IsNotAbove firm z p q r s
  by_last p q r s four first last = elim (cases_lt p r) [
    | inl low ↦ by_pairs p q r s four first last low
    | inr high ↦
        let apart = four.apart.1 in
        pairs_turned firm z p q r s (by_pairs r s p q (record {
          free = (four.free.2, four.free.3, four.free.0, four.free.1);
          apart = (
            four.apart.5,
            (λ e. four.apart.1 (sym e)),
            (λ e. four.apart.3 (sym e)),
            (λ e. four.apart.2 (sym e)),
            (λ e. four.apart.4 (sym e)),
            four.apart.0,
          );
        }) last first (omega (arith, high, apart)))
  ]

  by_first : (p q r s : ℕ) → AreFourFree firm.count firm.buys z p q r s → p < q → IsNotAbove firm z p q r s
  by_first p q r s four first = elim (cases_lt r s) [
    | inl low ↦ by_last p q r s four first low
    | inr high ↦
        let apart = four.apart.5 in
        last_turned firm z p q r s (by_last p q s r (record {
          free = (four.free.0, four.free.1, four.free.3, four.free.2);
          apart = (four.apart.0, four.apart.2, four.apart.1, four.apart.4, four.apart.3, (λ e. four.apart.5 (sym e)));
        }) first (omega (arith, high, apart)))
  ]

  pub quads_from_ordered : QuadsExchangeAt firm z
  quads_from_ordered p q r s four = elim (cases_lt p q) [
    | inl low ↦ by_first p q r s four low
    | inr high ↦
        let apart = four.apart.0 in
        first_turned firm z p q r s (by_first q p r s (record {
          free = (four.free.1, four.free.0, four.free.2, four.free.3);
          apart = ((λ e. four.apart.0 (sym e)), four.apart.3, four.apart.4, four.apart.1, four.apart.2, four.apart.5);
        }) (omega (arith, high, apart)))
  ]

-- and the other way round
pub ordered_from_quads : (firm : Firm) (z : ℕ) → QuadsExchangeAt firm z → OrderedExchange firm z
ordered_from_quads firm z quads a a_free b a_b b_free c b_c c_free d c_d d_free =
    let second = quads a c b d (record {
      free = (a_free, c_free, b_free, d_free);
      apart = (
        below a c (omega (arith, a_b, b_c)),
        below a b a_b,
        below a d (omega (arith, a_b, b_c, c_d)),
        (λ e. below b c b_c (sym e)),
        below c d c_d,
        below b d (omega (arith, b_c, c_d)),
      );
    }) in
    let third = quads a d b c (record {
      free = (a_free, d_free, b_free, c_free);
      apart = (
        below a d (omega (arith, a_b, b_c, c_d)),
        below a b a_b,
        below a c (omega (arith, a_b, b_c)),
        (λ e. below b d (omega (arith, b_c, c_d)) (sym e)),
        (λ e. below c d c_d (sym e)),
        below b c b_c,
      );
    }) in
    let b_and_c = pair_turned firm z b c in
    let c_and_d = pair_turned firm z c d in
    let b_and_d = pair_turned firm z b d in (
      quads a b c d (record {
        free = (a_free, b_free, c_free, d_free);
        apart = (
          below a b a_b,
          below a c (omega (arith, a_b, b_c)),
          below a d (omega (arith, a_b, b_c, c_d)),
          below b c b_c,
          below b d (omega (arith, b_c, c_d)),
          below c d c_d,
        );
      }),
      elim second [ inl most ↦ inl most | inr most ↦ inr (omega (arith, ints, most, b_and_c)) ],
      elim third [
        | inl most ↦ inl (omega (arith, ints, most, c_and_d))
        | inr most ↦
            inr (omega (arith, ints, most, b_and_d))
      ],
    )
  where
    below : (i j : ℕ) → i < j → i ≢ j
    below i j h e = omega (arith, h, e)
