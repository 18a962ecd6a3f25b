-- The exchange property at two bundles is decided, and it holds exactly where no triple fails.
use Rattle.std.proofs.Common.{◌≡◌, ℕ, zero, suc, ◌^◌, ◌<◌, true, refl, sym, ◌∙◌, subst, arith, ◌⊎◌, inl, inr, ◌+ℤ◌}
use Rattle.std.specs.Prelude.{ℤ, ◌≤ℤ◌, ◌<ℤ◌, Option, Some, None}
use Rattle.std.proofs.lemmas.Int.{ints, by_lt_z}
use Rattle.std.proofs.lemmas.Bool.{cases_eq, cases_Bool, false≢true}
use Rattle.std.proofs.lemmas.Option.{same_Some}
use Rattle.tn_base.specs.Sets.{has, toggle}
use Rattle.tn_base.specs.Firm.{Firm, HasOwnBundles, net, up, down}
use Rattle.tn_base.specs.Exchange.{AreEnough, SwapsDown, MovesAlone, Exchanges, MeetsExchange, NoneFails}
use Rattle.tn_base.proofs.SetLemmas.{has_below, union_within, meet_within, minus_within}

-- a fact holds, or it doesn't
abbrev pub IsDecided : Type 0 → Type 0
IsDecided P = P ⊎ (P → ⊥)

-- an option has a value, or it is none
pub cases_worth : (o : Option ℤ) → ((a : ℤ) × (o ≡ Some a)) ⊎ (o ≡ None)
cases_worth (Some a) = inl (a, refl)
cases_worth None = inr refl

-- the up side has own positions alone
pub up_within : (buys x y n : ℕ) → x < 2 ^ n → y < 2 ^ n → up buys x y < 2 ^ n
unfolding up
up_within buys x y n x_below y_below =
    union_within _ _ n (meet_within _ buys n (minus_within x y n x_below))
    (minus_within _ buys n (minus_within y x n y_below))

-- whether two bundles are enough
pub enough_or_not : (firm : Firm) (x y : ℕ) (total : ℤ) → IsDecided (AreEnough firm x y total)
enough_or_not firm x y total = elim (cases_worth (firm.worth x)) [
  | inr none ↦ inr (λ e. impossible x none e.first e.first_is)
  | inl p ↦ elim (cases_worth (firm.worth y)) [
    | inr none ↦ inr (λ e. impossible y none e.second e.second_is)
    | inl q ↦ by_lt_z {P = IsDecided (AreEnough firm x y total)} (p.0 +ℤ q.0) total
        (λ less. inr (λ e. too_small p.0 q.0 less p.1 q.1 e))
        (λ most. inl (record { first = p.0; second = q.0; first_is = p.1; second_is = q.1; enough = most }))
  ]
]
  where
    impossible : (z : ℕ) → firm.worth z ≡ None → (a : ℤ) → firm.worth z ≡ Some a → ⊥
    impossible z none a some = cc

    too_small : (a b : ℤ) → (a +ℤ b) <ℤ total → firm.worth x ≡ Some a → firm.worth y ≡ Some b → AreEnough firm x y total
        → ⊥
    too_small a b less p q e =
        let first : a ≡ e.first = same_Some _ _ (sym p ∙ e.first_is) in
        let second : b ≡ e.second = same_Some _ _ (sym q ∙ e.second_is) in
        let most : total ≤ℤ (e.first +ℤ e.second) = e.enough in
        absurd (omega (arith, ints, first, second, less, most))

-- whether a number below n has a fact, where each number's is decided
search_below : (P : ℕ → Type 0) → ((k : ℕ) → IsDecided (P k)) → (n : ℕ) → ((k : ℕ) × (k < n) × P k)
    ⊎ ((k : ℕ) → k < n → P k → ⊥)
search_below P each zero = inr (λ k h p. absurd (omega (arith, h)))
search_below P each (suc n) = elim (search_below P each n) [
  | inl found ↦ let below : found.0 < n = found.1 in inl (found.0, omega (arith, below), found.2)
  | inr none ↦ elim (each n) [
    | inl here ↦ inl (n, omega arith, here)
    | inr not_here ↦ inr (λ k h p. elim (cases_eq k n) [
      | inl e ↦ not_here (subst P e p)
      | inr d ↦ none k (omega (arith, h, d)) p
    ])
  ]
]

-- a position of the down side that can be toggled in both bundles
record SwapsAt (firm : Firm) (x y x' y' : ℕ) (total : ℤ) (at : ℕ) : Type 0 where
  is_down : has (down firm.buys x y) at ≡ true
  enough : AreEnough firm (toggle x' at) (toggle y' at) total

swaps_at_or_not : (firm : Firm) (x y x' y' : ℕ) (total : ℤ) (at : ℕ) → IsDecided (SwapsAt firm x y x' y' total at)
swaps_at_or_not firm x y x' y' total at = elim (cases_Bool (has (down firm.buys x y) at)) [
  | inr f ↦ inr (λ s. false≢true (sym f ∙ s.is_down))
  | inl t ↦ elim (enough_or_not firm (toggle x' at) (toggle y' at) total) [
    | inl e ↦ inl (record { is_down = t; enough = e })
    | inr none ↦ inr (λ s. none s.enough)
  ]
]

-- whether some position of the down side can be toggled in both bundles
pub swaps_or_not : (firm : Firm) (x y x' y' : ℕ) (total : ℤ) → x < 2 ^ firm.count → y < 2 ^ firm.count
    → IsDecided (SwapsDown firm x y x' y' total)
swaps_or_not firm x y x' y' total x_below y_below =
    elim (search_below (SwapsAt firm x y x' y' total) (swaps_at_or_not firm x y x' y' total) firm.count) [
      | inl found ↦ inl (record { at = found.0; is_down = found.2.is_down; enough = found.2.enough })
      | inr none ↦ inr (λ s. none s.at
          (has_below (down firm.buys x y) firm.count s.at (up_within firm.buys y x firm.count y_below x_below)
          s.is_down)
          (record { is_down = s.is_down; enough = s.enough }))
    ]

-- whether x has the greater net count and the bundles are enough by themselves
pub moves_alone_or_not : (firm : Firm) (x y x' y' : ℕ) (total : ℤ) → IsDecided (MovesAlone firm x y x' y' total)
moves_alone_or_not firm x y x' y' total =
    by_lt_z {P = IsDecided (MovesAlone firm x y x' y' total)} (net firm.buys y) (net firm.buys x)
    (λ greater. elim (enough_or_not firm x' y' total) [
      | inl e ↦ inl (record { greater = greater; enough = e })
      | inr none ↦ inr (λ m. none m.enough)
    ])
    (λ most. inr (λ m. at_most most m.greater))
  where
    at_most : net firm.buys x ≤ℤ net firm.buys y → net firm.buys y <ℤ net firm.buys x → ⊥
    at_most most less = absurd (omega (arith, ints, most, less))

-- whether position i exchanges
pub exchanges_or_not : (firm : Firm) (x y : ℕ) (total : ℤ) (i : ℕ) → x < 2 ^ firm.count → y < 2 ^ firm.count
    → IsDecided (Exchanges firm x y total i)
exchanges_or_not firm x y total i x_below y_below =
    elim (swaps_or_not firm x y (toggle x i) (toggle y i) total x_below y_below) [
      | inl s ↦ inl (inl s)
      | inr no_swap ↦ elim (moves_alone_or_not firm x y (toggle x i) (toggle y i) total) [
        | inl m ↦ inl (inr m)
        | inr no_move ↦ inr (λ e. elim e [ inl s ↦ no_swap s | inr m ↦ no_move m ])
      ]
    ]

-- where no triple fails, exchange holds, with its witness
pub exchange_from_none_fails : (firm : Firm) → HasOwnBundles firm → NoneFails firm → MeetsExchange firm
exchange_from_none_fails firm own none = record {
  one = λ x y a b x_is y_is i is_up.
      elim (exchanges_or_not firm x y (a +ℤ b) i (own x a x_is) (own y b y_is)) [
        | inl e ↦ e
        | inr wrong ↦
            absurd (none x y (Some i) (record {
              first = a;
              second = b;
              first_is = x_is;
              second_is = y_is;
              wrong =
                  (is_up, wrong);
            }))
      ];
  net_count = λ x y a b x_is y_is less.
      elim (swaps_or_not firm x y x y (a +ℤ b) (own x a x_is) (own y b y_is)) [
        | inl s ↦ s
        | inr wrong ↦
            absurd (none x y None (record {
              first = a;
              second = b;
              first_is = x_is;
              second_is = y_is;
              wrong =
                  (less, wrong);
            }))
      ];
}

-- where exchange holds, no triple fails
pub none_fails_from_exchange : (firm : Firm) → MeetsExchange firm → NoneFails firm
none_fails_from_exchange firm meets x y (Some i) f =
    f.wrong.1 (meets.one x y f.first f.second f.first_is f.second_is i f.wrong.0)
none_fails_from_exchange firm meets x y None f =
    f.wrong.1 (meets.net_count x y f.first f.second f.first_is f.second_is f.wrong.0)
