-- What the parts of the test answer.
use Rattle.std.proofs.Common.{◌≡◌, ℕ, ◌+◌, ◌^◌, ◌<◌, ◌≤◌, Bool, true, false, refl, sym, ap, ◌∙◌, subst, arith, inl, inr, ◌+ℤ◌}
use Rattle.std.specs.Prelude.{ℤ, ◌≤ℤ◌, ◌<ℤ◌, ◌↔◌, IsTrue, Option, Some, None}
use Rattle.std.specs.Int.{w128}
use Rattle.std.specs.Int.Signed.{le_z}
use Rattle.std.proofs.Common.{SFits}
use Rattle.tn_base.specs.Arcs.{IsAtMost}
use Rattle.std.proofs.lemmas.Int.{ints}
use Rattle.std.proofs.lemmas.Option.{same_Some, none-some}
use Rattle.std.proofs.lemmas.Bool.{cases_eq, false≢true}
use Rattle.std.proofs.Math.Path.{subst₂}
use Rattle.tn_base.specs.Sets.{has, toggle}
use Rattle.tn_base.specs.Firm.{Firm, HasOwnBundles, net, up}
use Rattle.tn_base.specs.Exchange.{AreEnough, SwapsDown, Exchanges, IsWrongAt, Fails, NoneFails}
use Rattle.tn_base.proofs.SetLemmas.{has_below}
use Rattle.tn_base.proofs.ExchangeLemmas.{up_within}
use Rattle.tn_exchange.specs.TestOrder.{Triple, IsTestedBefore, TripleFails, IsFirstFailure}
use Rattle.tn_exchange.specs.Verdicts.{Swaps, HasTotal, IfFails, IsVerdictOn, IsFirstIn}
use Rattle.tn_exchange.specs.declared.verdict.Verdict.{Verdict}
use Rattle.tn_exchange.specs.declared.verdict.Verdict.TheVariants.{Holds, Fails as Failed}
use Rattle.tn_base.specs.Widths.{most_amount}

le_from_test : (a b : ℤ) → le_z a b ≡ true → a ≤ℤ b
le_from_test a b e = grind (arith, ints)

test_from_le : (a b : ℤ) → a ≤ℤ b → le_z a b ≡ true
test_from_le a b h = grind (arith, ints)

-- two possible bundles are enough exactly where the sum of their worths is
pub enough_iff : (firm : Firm) (x y : ℕ) (total a b : ℤ) → firm.worth x ≡ Some a → firm.worth y ≡ Some b
    → IsTrue (le_z total (a +ℤ b)) ↔ AreEnough firm x y total
enough_iff firm x y total a b x_is y_is = (
  (λ h. record { first = a; second = b; first_is = x_is; second_is = y_is; enough = le_from_test total (a +ℤ b) h }),
  (λ e.
      let first : a ≡ e.first = same_Some _ _ (sym x_is ∙ e.first_is) in
      let second : b ≡ e.second = same_Some _ _ (sym y_is ∙ e.second_is) in
      let most : total ≤ℤ (e.first +ℤ e.second) = e.enough in
      test_from_le total (a +ℤ b) (omega (arith, ints, first, second, most))),
)

-- the sum of two small numbers
pub sum_fits : (a b : ℤ) → IsAtMost a most_amount → IsAtMost b most_amount → SFits w128 (a +ℤ b)
sum_fits a b p q = search (arith, ints, p.low, p.high, q.low, q.high)

pub swaps_from_down : (firm : Firm) (positions x y x' y' : ℕ) (total : ℤ) → positions ≡ up firm.buys y x
    → SwapsDown firm x y x' y' total → Swaps firm positions x' y' total
swaps_from_down firm positions x y x' y' total is s =
    record { at = s.at; is_member = ap (λ (p : ℕ). has p s.at) is ∙ s.is_down; enough = s.enough }

-- where no position of the down side swaps and x has the greater net count, the position exchanges exactly alone
pub exchanges_alone : (firm : Firm) (positions x y x' y' : ℕ) (total : ℤ) (i : ℕ) (swapped alone : Bool)
    → positions ≡ up firm.buys y x → x' ≡ toggle x i → y' ≡ toggle y i
    → (IsTrue swapped ↔ Swaps firm positions x' y' total) → swapped ≡ false
    → net firm.buys y <ℤ net firm.buys x
    → (IsTrue alone ↔ AreEnough firm x' y' total) → IsTrue alone ↔ Exchanges firm x y total i
exchanges_alone firm positions x y x' y' total i swapped alone is x_is y_is swaps none greater moves = (
  (λ h. inr (record {
    greater = greater;
    enough =
        subst₂ (λ (a b : ℕ). AreEnough firm a b total) x_is y_is (moves.0 h);
  })),
  (λ e. elim e [
    | inl s ↦ absurd
        (false≢true (sym none ∙ swaps.1 (subst₂ (λ (a b : ℕ). Swaps firm positions a b total) (sym x_is) (sym y_is)
        (swaps_from_down firm positions x y (toggle x i) (toggle y i) total is s))))
    | inr m ↦ moves.1 (subst₂ (λ (a b : ℕ). AreEnough firm a b total) (sym x_is) (sym y_is) m.enough)
  ]),
)

-- a triple of possible bundles fails exactly where something is wrong with their total
pub fails_from_wrong : (firm : Firm) (x y : ℕ) (total : ℤ) (at : Option ℕ) → HasTotal firm x y total
    → IsWrongAt firm x y total at → Fails firm x y at
fails_from_wrong firm x y total at h wrong = record {
  first = h.first;
  second = h.second;
  first_is = h.first_is;
  second_is = h.second_is;
  wrong = subst (λ (z : ℤ). IsWrongAt firm x y z at) h.total_is wrong;
}

pub wrong_from_fails : (firm : Firm) (x y : ℕ) (total : ℤ) (at : Option ℕ) → HasTotal firm x y total → Fails firm x y at
    → IsWrongAt firm x y total at
wrong_from_fails firm x y total at h f =
    let first : f.first ≡ h.first = same_Some _ _ (sym f.first_is ∙ h.first_is) in
    let second : f.second ≡ h.second = same_Some _ _ (sym f.second_is ∙ h.second_is) in
    let same : f.first +ℤ f.second ≡ total = omega (arith, ints, first, second, h.total_is) in
    subst (λ (z : ℤ). IsWrongAt firm x y z at) same f.wrong

pub fails_iff : (firm : Firm) (x y : ℕ) (a b : ℤ) (at : Option ℕ) (wrong : Bool) → firm.worth x ≡ Some a
    → firm.worth y ≡ Some b
    → (IsTrue wrong ↔ IsWrongAt firm x y (a +ℤ b) at) → IsTrue wrong ↔ Fails firm x y at
fails_iff firm x y a b at wrong x_is y_is iff =
    let total : HasTotal firm x y (a +ℤ b) = record {
      first = a;
      second = b;
      first_is = x_is;
      second_is =
          y_is;
      total_is = refl;
    } in (
      (λ h. fails_from_wrong firm x y (a +ℤ b) at total (iff.0 h)),
      (λ f. iff.1 (wrong_from_fails firm x y (a +ℤ b) at total f)),
    )

-- what is wrong at a position is wrong at an own one
pub wrong_at_own : (firm : Firm) (x y : ℕ) (total : ℤ) (i : ℕ) → x < 2 ^ firm.count → y < 2 ^ firm.count
    → IsWrongAt firm x y total (Some i) → i < firm.count
wrong_at_own firm x y total i x_own y_own wrong =
    has_below (up firm.buys x y) firm.count i (up_within firm.buys x y firm.count x_own y_own) wrong.0

-- the triples of two bundles
abbrev pub OfPair : ℕ → ℕ → Triple → Type 0
OfPair x y t = (t.x ≡ x) × (t.y ≡ y)

-- the triples of a first bundle
abbrev pub OfFirst : ℕ → Triple → Type 0
OfFirst x t = t.x ≡ x

-- what is wrong with a triple of two bundles
wrong_of : (firm : Firm) (x y : ℕ) (total : ℤ) → HasTotal firm x y total → (s : Triple) → OfPair x y s
    → TripleFails firm s → IsWrongAt firm x y total s.at
wrong_of firm x y total h s within f =
    wrong_from_fails firm x y total s.at h (subst₂ (λ (a b : ℕ). Fails firm a b s.at) within.0 within.1 f)

-- no earlier position of the same two bundles is wrong
pub pair_fails : (firm : Firm) (x y : ℕ) (total : ℤ) (at : Option ℕ) → HasTotal firm x y total
    → IsWrongAt firm x y total at
    → ((earlier : Option ℕ) → IsTestedBefore earlier at → IsWrongAt firm x y total earlier → ⊥)
    → IsFirstIn firm (OfPair x y) (record { x = x; y = y; at = at })
pair_fails firm x y total at h wrong first = record {
  is_in = (refl, refl);
  fails = fails_from_wrong firm x y total at h wrong;
  first = λ s within earlier f. elim earlier [
    | inl above ↦ absurd (omega (arith, above, within.0))
    | inr same ↦ elim same.1 [
      | inl below ↦ absurd (omega (arith, below, within.1))
      | inr place ↦ first s.at place.1 (wrong_of firm x y total h s within f)
    ]
  ];
}

-- no position before i is wrong, where none below i is
pub none_before : (firm : Firm) (x y : ℕ) (total : ℤ) (i : ℕ)
    → ((j : ℕ) → j < i → IsWrongAt firm x y total (Some j) → ⊥)
    → (earlier : Option ℕ) → IsTestedBefore earlier (Some i) → IsWrongAt firm x y total earlier → ⊥
none_before firm x y total i none (Some j) before = none j before
none_before firm x y total i none None before = absurd before

-- no own position is wrong, where none below their count is
pub none_own : (firm : Firm) (x y : ℕ) (total : ℤ) (i : ℕ) → x < 2 ^ firm.count → y < 2 ^ firm.count → firm.count ≤ i
    → ((j : ℕ) → j < i → IsWrongAt firm x y total (Some j) → ⊥)
    → (earlier : Option ℕ) → IsTestedBefore earlier None → IsWrongAt firm x y total earlier → ⊥
none_own firm x y total i x_own y_own all none (Some j) before wrong =
    let own : j < firm.count = wrong_at_own firm x y total j x_own y_own wrong in
    none j (omega (arith, own, all)) wrong
none_own firm x y total i x_own y_own all none None before wrong = absurd before

-- one position more isn't wrong
pub none_more : (firm : Firm) (x y : ℕ) (total : ℤ) (i : ℕ) → ((j : ℕ) → j < i → IsWrongAt firm x y total (Some j) → ⊥)
    → (IsWrongAt firm x y total (Some i) → ⊥) → (j : ℕ) → j < i + 1 → IsWrongAt firm x y total (Some j) → ⊥
none_more firm x y total i none here j below = elim (cases_eq j i) [
  | inl e ↦ subst (λ (k : ℕ). IsWrongAt firm x y total (Some k) → ⊥) (sym e) here
  | inr d ↦ none j (omega (arith, below, d))
]

-- no triple of two bundles fails, where nothing is wrong at a position or at none
pub pair_holds : (firm : Firm) (x y : ℕ) (total : ℤ) → HasTotal firm x y total
    → ((at : Option ℕ) → IsTestedBefore at None → IsWrongAt firm x y total at → ⊥) → (IsWrongAt firm x y total None → ⊥)
    → (s : Triple) → OfPair x y s → TripleFails firm s → ⊥
pair_holds firm x y total h positions none s within f = at_each s.at (wrong_of firm x y total h s within f)
  where
    at_each : (at : Option ℕ) → IsWrongAt firm x y total at → ⊥
    at_each (Some i) = positions (Some i) tt
    at_each None = none

-- the first failure of two bundles is that of the first bundle, where no triple with a lower second bundle fails
pub first_from_pair : (firm : Firm) (x y : ℕ) (v : Verdict) → (v ≡ Holds → ⊥) → IsVerdictOn firm (OfPair x y) v
    → ((s : Triple) → OfFirst x s → s.y < y → TripleFails firm s → ⊥) → IsVerdictOn firm (OfFirst x) v
first_from_pair firm x y Holds failed on none = absurd (failed refl)
first_from_pair firm x y (Failed a b at) failed on none = record {
  is_in = on.is_in.0;
  fails = on.fails;
  first = λ s within earlier f. elim earlier [
    | inl above ↦ absurd (omega (arith, above, within, on.is_in.0))
    | inr same ↦ elim same.1 [
      | inl below ↦ none s within (omega (arith, below, on.is_in.1)) f
      | inr place ↦ on.first s (within, place.0 ∙ on.is_in.1) (inr same) f
    ]
  ];
}

-- one second bundle more: no triple of it fails
pub none_more_y : (firm : Firm) (x k : ℕ) → ((s : Triple) → OfFirst x s → s.y < k → TripleFails firm s → ⊥)
    → ((s : Triple) → OfPair x k s → TripleFails firm s → ⊥) → (s : Triple) → OfFirst x s → s.y < k + 1
    → TripleFails firm s → ⊥
none_more_y firm x k none here s within below f = elim (cases_eq s.y k) [
  | inl e ↦ here s (within, e) f
  | inr d ↦ none s within (omega (arith, below, d)) f
]

-- no triple of an impossible bundle fails
pub impossible_y : (firm : Firm) (x k : ℕ) → firm.worth k ≡ None → (s : Triple) → OfPair x k s → TripleFails firm s → ⊥
impossible_y firm x k none s within f = none-some f.second (sym none ∙ ap firm.worth (sym within.1) ∙ f.second_is)

-- then no triple of the first bundle fails
pub none_of_first : (firm : Firm) (x k : ℕ) → HasOwnBundles firm → 2 ^ firm.count ≤ k
    → ((s : Triple) → OfFirst x s → s.y < k → TripleFails firm s → ⊥) → (s : Triple) → OfFirst x s → TripleFails firm s
    → ⊥
none_of_first firm x k own all none s within f =
    let below : s.y < 2 ^ firm.count = own s.y f.second f.second_is in
    none s within (omega (arith, below, all)) f

-- the first failure of a first bundle is the first of all, where no triple with a greater first bundle fails
pub first_of_all : (firm : Firm) (x : ℕ) (v : Verdict) → (v ≡ Holds → ⊥) → IsVerdictOn firm (OfFirst x) v
    → ((s : Triple) → x < s.x → TripleFails firm s → ⊥) → IfFails v (IsFirstFailure firm)
first_of_all firm x Holds failed on none = tt
first_of_all firm x (Failed a b at) failed on none = record {
  fails = on.fails;
  first = λ s earlier f. elim earlier [
    | inl above ↦ none s (omega (arith, above, on.is_in)) f
    | inr same ↦ on.first s (same.0 ∙ on.is_in) (inr same) f
  ];
}

-- a verdict that isn't Holds has a triple that fails
pub fails_not_none : (firm : Firm) (v : Verdict) → IfFails v (IsFirstFailure firm) → NoneFails firm → v ≡ Holds
fails_not_none firm Holds first none = refl
fails_not_none firm (Failed x y at) first none = absurd (none x y at first.fails)

-- one first bundle more: no triple of it fails
pub none_more_x : (firm : Firm) (k : ℕ) → ((s : Triple) → k < s.x → TripleFails firm s → ⊥)
    → ((s : Triple) → OfFirst k s → TripleFails firm s → ⊥) → (s : Triple) → k ≤ s.x → TripleFails firm s → ⊥
none_more_x firm k none here s above f = elim (cases_eq s.x k) [
  | inl e ↦ here s e f
  | inr d ↦ none s (omega (arith, above, d)) f
]

-- no triple has a first bundle with a position that isn't own
pub none_above : (firm : Firm) → HasOwnBundles firm → (k : ℕ) → 2 ^ firm.count ≤ k → (s : Triple) → k ≤ s.x
    → TripleFails firm s → ⊥
none_above firm own k all s above f =
    let below : s.x < 2 ^ firm.count = own s.x f.first f.first_is in
    absurd (omega (arith, below, all, above))

-- then no triple fails
pub none_fails : (firm : Firm) → ((s : Triple) → 0 ≤ s.x → TripleFails firm s → ⊥) → NoneFails firm
none_fails firm none x y at f = none (record { x = x; y = y; at = at }) (omega arith) f
