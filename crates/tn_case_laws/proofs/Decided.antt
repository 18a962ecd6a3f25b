-- Whether a firm with few trades meets exchange, as a computation.
use Rattle.std.proofs.Common.{◌≡◌, ℕ, zero, suc, ◌^◌, ◌<◌, Bool, true, false, not, ◌&&◌, ◌||◌, refl, sym, ap, ◌∙◌, arith, inl, inr, ◌+ℤ◌}
use Rattle.std.specs.Prelude.{ℤ, ◌≤ℤ◌, ◌<ℤ◌, int_le, int_lt, Option, Some, None}
use Rattle.std.proofs.lemmas.Int.{ints}
use Rattle.std.proofs.lemmas.Bool.{cases_eq, cases_Bool, false≢true, and_parts, or_cases}
use Rattle.std.proofs.lemmas.Option.{same_Some}
use Rattle.tn_base.specs.Sets.{has, toggle}
use Rattle.tn_base.specs.Firm.{Firm, HasOwnBundles, net, up, down}
use Rattle.tn_base.specs.Exchange.{AreEnough, SwapsDown, Exchanges, MeetsExchange, Fails, NoneFails}
use Rattle.tn_base.proofs.ExchangeLemmas.{up_within, exchange_from_none_fails}
use Rattle.tn_base.proofs.SetLemmas.{has_below}

-- a test of each number below n
unfoldable pub all_below : (ℕ → Bool) → ℕ → Bool
all_below test zero = true
all_below test (suc n) = test n && all_below test n

unfoldable pub some_below : (ℕ → Bool) → ℕ → Bool
some_below test zero = false
some_below test (suc n) = test n || some_below test n

pub each_below : (test : ℕ → Bool) (n : ℕ) → all_below test n ≡ true → (k : ℕ) → k < n → test k ≡ true
unfolding all_below
each_below test zero e k h = absurd (omega (arith, h))
each_below test (suc n) e k h =
    let parts = and_parts (test n) (all_below test n) e in
    elim (cases_eq k n) [
      | inl same ↦ ap test same ∙ parts.0
      | inr other ↦ each_below test n parts.1 k (omega (arith, h, other))
    ]

pub found_below : (test : ℕ → Bool) (n : ℕ) → some_below test n ≡ true → (k : ℕ) × (test k ≡ true)
unfolding some_below
found_below test zero e = absurd (cc e)
found_below test (suc n) e = elim (or_cases (test n) (some_below test n) e) [
  | inl here ↦ (n, here)
  | inr rest ↦ found_below test n rest
]

pub ordered : (a b : ℤ) → int_le a b ≡ true → a ≤ℤ b
ordered a b e = omega (arith, ints, e)

pub ordered_strictly : (a b : ℤ) → int_lt a b ≡ true → a <ℤ b
ordered_strictly a b e = omega (arith, ints, e)

-- both numbers are there, and together they are at least the total
abbrev pub are_enough : Option ℤ → Option ℤ → ℤ → Bool
are_enough (Some a) (Some b) total = int_le total (a +ℤ b)
are_enough (Some a) None total = false
are_enough None second total = false

enough_by : (firm : Firm) (x y : ℕ) (total : ℤ) (first second : Option ℤ) → firm.worth x ≡ first → firm.worth y ≡ second
    → are_enough first second total ≡ true → AreEnough firm x y total
enough_by firm x y total (Some a) (Some b) p q e = record {
  first = a;
  second = b;
  first_is = p;
  second_is = q;
  enough =
      ordered total (a +ℤ b) e;
}
enough_by firm x y total (Some a) None p q e = absurd (cc e)
enough_by firm x y total None second p q e = absurd (cc e)

abbrev pub swaps : Firm → ℕ → ℕ → ℕ → ℕ → ℤ → ℕ → Bool
swaps firm x y x' y' total at = has (down firm.buys x y) at
    && are_enough (firm.worth (toggle x' at)) (firm.worth (toggle y' at)) total

swaps_by : (firm : Firm) (x y x' y' : ℕ) (total : ℤ) → some_below (swaps firm x y x' y' total) firm.count ≡ true
    → SwapsDown firm x y x' y' total
swaps_by firm x y x' y' total e =
    let found = found_below (swaps firm x y x' y' total) firm.count e in
    let parts = and_parts (has (down firm.buys x y) found.0)
    (are_enough (firm.worth (toggle x' found.0)) (firm.worth (toggle y' found.0)) total) found.1 in
    record { at = found.0; is_down = parts.0; enough = enough_by firm _ _ total _ _ refl refl parts.1 }

-- position i of the up side exchanges, if it is there
abbrev pub swaps_with : Firm → ℕ → ℕ → ℤ → ℕ → Bool
swaps_with firm x y total i = some_below (swaps firm x y (toggle x i) (toggle y i) total) firm.count

abbrev pub moves : Firm → ℕ → ℕ → ℤ → ℕ → Bool
moves firm x y total i = int_lt (net firm.buys y) (net firm.buys x)
    && are_enough (firm.worth (toggle x i)) (firm.worth (toggle y i)) total

abbrev pub exchanges_at : Firm → ℕ → ℕ → ℤ → ℕ → Bool
exchanges_at firm x y total i = not (has (up firm.buys x y) i)
    || (swaps_with firm x y total i || moves firm x y total i)

exchanges_by : (firm : Firm) (x y : ℕ) (total : ℤ) (i : ℕ) → exchanges_at firm x y total i ≡ true
    → has (up firm.buys x y) i ≡ true → Exchanges firm x y total i
exchanges_by firm x y total i e is_up =
    elim (or_cases (not (has (up firm.buys x y) i)) (swaps_with firm x y total i || moves firm x y total i) e) [
      | inl not_up ↦ absurd (false≢true (sym (ap not is_up) ∙ not_up))
      | inr rest ↦ elim (or_cases (swaps_with firm x y total i) (moves firm x y total i) rest) [
        | inl swap ↦ inl (swaps_by firm x y (toggle x i) (toggle y i) total swap)
        | inr alone ↦
            let parts = and_parts (int_lt (net firm.buys y) (net firm.buys x))
            (are_enough (firm.worth (toggle x i)) (firm.worth (toggle y i)) total) alone in
            inr (record {
              greater = ordered_strictly _ _ parts.0;
              enough =
                  enough_by firm _ _ total _ _ refl refl parts.1;
            })
      ]
    ]

-- no position of a pair of possible bundles fails
abbrev pub levels : Firm → ℕ → ℕ → ℤ → Bool
levels firm x y total = not (int_lt (net firm.buys x) (net firm.buys y))
    || some_below (swaps firm x y x y total) firm.count

abbrev pub pair_holds : Firm → ℕ → ℕ → Option ℤ → Option ℤ → Bool
pair_holds firm x y (Some a) (Some b) = all_below (exchanges_at firm x y (a +ℤ b)) firm.count
    && levels firm x y (a +ℤ b)
pair_holds firm x y (Some a) None = true
pair_holds firm x y None second = true

abbrev pub holds_at : Firm → ℕ → ℕ → Bool
holds_at firm x y = pair_holds firm x y (firm.worth x) (firm.worth y)

less_is : (a b : ℤ) → a <ℤ b → int_lt a b ≡ true
less_is a b h = elim (cases_Bool (int_lt a b)) [ inl t ↦ t | inr f ↦ absurd (omega (arith, ints, h, f)) ]

-- a position that exchanges isn't one that fails
pub never_at : (firm : Firm) → HasOwnBundles firm → (x y i : ℕ) (a b : ℤ) → firm.worth x ≡ Some a
    → firm.worth y ≡ Some b → exchanges_at firm x y (a +ℤ b) i ≡ true → Fails firm x y (Some i) → ⊥
never_at firm own x y i a b p q e f =
    f.wrong.1 (exchanges_by firm x y (f.first +ℤ f.second) i
    (rw (same_Some _ _ (sym f.first_is ∙ p), same_Some _ _ (sym f.second_is ∙ q)) e) f.wrong.0)

pair_never : (firm : Firm) → HasOwnBundles firm → (x y : ℕ) (a b : ℤ) → firm.worth x ≡ Some a → firm.worth y ≡ Some b
    → pair_holds firm x y (Some a) (Some b) ≡ true → (at : Option ℕ) → Fails firm x y at → ⊥
pair_never firm own x y a b p q e (Some i) f =
    let parts = and_parts (all_below (exchanges_at firm x y (a +ℤ b)) firm.count) (levels firm x y (a +ℤ b)) e in
    let within =
    has_below (up firm.buys x y) firm.count i (up_within firm.buys x y firm.count (own x a p) (own y b q)) f.wrong.0
    in
    never_at firm own x y i a b p q (each_below (exchanges_at firm x y (a +ℤ b)) firm.count parts.0 i within) f
pair_never firm own x y a b p q e None f =
    let parts = and_parts (all_below (exchanges_at firm x y (a +ℤ b)) firm.count) (levels firm x y (a +ℤ b)) e in
    elim (or_cases (not (int_lt (net firm.buys x) (net firm.buys y)))
    (some_below (swaps firm x y x y (a +ℤ b)) firm.count) parts.1) [
      | inl at_most ↦ absurd (false≢true (sym (ap not (less_is _ _ f.wrong.0)) ∙ at_most))
      | inr swap ↦
          f.wrong.1 (swaps_by firm x y x y (f.first +ℤ f.second)
          (rw (same_Some _ _ (sym f.first_is ∙ p), same_Some _ _ (sym f.second_is ∙ q)) swap))
    ]

pub never_fails_at : (firm : Firm) → HasOwnBundles firm → (x y : ℕ) → holds_at firm x y ≡ true → (at : Option ℕ)
    → Fails firm x y at → ⊥
never_fails_at firm own x y e at f =
    pair_never firm own x y f.first f.second f.first_is f.second_is (rw (f.first_is, f.second_is) at e) at f

pub never_fails : (firm : Firm) → HasOwnBundles firm
    → all_below (λ x. all_below (holds_at firm x) (2 ^ firm.count)) (2 ^ firm.count) ≡ true → NoneFails firm
never_fails firm own e x y at f =
    let row = each_below (λ x. all_below (holds_at firm x) (2 ^ firm.count)) (2 ^ firm.count) e x
    (own x f.first f.first_is) in
    never_fails_at firm own x y (each_below (holds_at firm x) (2 ^ firm.count) row y (own y f.second f.second_is)) at f

pub meets : (firm : Firm) → HasOwnBundles firm
    → all_below (λ x. all_below (holds_at firm x) (2 ^ firm.count)) (2 ^ firm.count) ≡ true → MeetsExchange firm
meets firm own e = exchange_from_none_fails firm own (never_fails firm own e)
