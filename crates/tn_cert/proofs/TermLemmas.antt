-- The best price for a trade, contract by contract, and a firm's terms, position by position.
use Rattle.std.proofs.Common.{◌≡◌, ◌≢◌, ℕ, ◌+◌, ◌^◌, ◌<◌, Bool, true, false, not, eqb, ◌==◌, ◌⊎◌, if◌then◌else◌, List, length, slice_get, Option, Some, None, option_map, refl, sym, ap, ◌∙◌, subst, arith, inl, inr, ℤ, pos}
use Rattle.std.specs.Prelude.{unwrap_or, int_lt}
use Rattle.std.specs.List.{All}
use Rattle.std.specs.Option.{option_eq}
use Rattle.std.proofs.lemmas.Int.{ints}
use Rattle.std.proofs.lemmas.Bool.{cases_Bool, cases_eq, eqb-true, eq-eqb, ne_eqb, true≢false}
use Rattle.std.proofs.lemmas.Option.{same_Some, slice_get_within, get_or_from_slice_get}
use Rattle.std.proofs.lemmas.List.{get_or-set_same, get_or-set_other}
use Rattle.std.proofs.lemmas.List.Elements.{All-set}
use Rattle.std.proofs.Math.ListN.{set, length-set}
use Rattle.tn_base.specs.Arcs.{IsAtMost}
use Rattle.tn_market.specs.Widths.{most_asked_price, most_own}
use Rattle.tn_base.specs.Sets.{has, toggle}
use Rattle.tn_base.proofs.SetLemmas.{has_above, has-toggle_same, has-toggle_other, within_from}
use Rattle.tn_model.specs.declared.contract.Contract.{Contract}
use Rattle.tn_model.specs.declared.ends.Ends.{Ends}
use Rattle.tn_model.specs.Prices.{price_at}
use Rattle.tn_model.specs.Network.{own}
use Rattle.tn_cert.specs.Terms.{is_bought, better, IsAsGood, IsOnTrade, IsTerm, FindsTerm, HasTerms}

-- ---- the better of two prices

good_self : (buys : Bool) (price : ℤ) → IsAsGood buys price price
good_self true price = omega (arith, ints)
good_self false price = omega (arith, ints)

good_trans : (buys : Bool) (a b c : ℤ) → IsAsGood buys a b → IsAsGood buys b c → IsAsGood buys a c
good_trans true a b c first second = omega (arith, ints, first, second)
good_trans false a b c first second = omega (arith, ints, first, second)

-- the better price is one of the two, and as good as the other one
better_cases : (buys : Bool) (best price : ℤ) → ((better buys (Some best) price ≡ best) × IsAsGood buys best price)
    ⊎ ((better buys (Some best) price ≡ price) × IsAsGood buys price best)
better_cases true best price = elim (cases_Bool (int_lt price best)) [
  | inl less ↦ inr (ap (λ (b : Bool). if b then price else best) less, grind (arith, ints, less))
  | inr not_less ↦ inl (ap (λ (b : Bool). if b then price else best) not_less, grind (arith, ints, not_less))
]
better_cases false best price = elim (cases_Bool (int_lt price best)) [
  | inl less ↦ inl (ap (λ (b : Bool). if b then best else price) less, grind (arith, ints, less))
  | inr not_less ↦ inr (ap (λ (b : Bool). if b then best else price) not_less, grind (arith, ints, not_less))
]

-- ---- the best price for a trade

-- whether a contract is left out, as the code compares it
pub is_left_out : (left_out : Option ℕ) (k : ℕ) → not (option_eq eqb left_out (Some k)) ≡ false → left_out ≡ Some k
is_left_out None k e = absurd (cc e)
is_left_out (Some s) k e = by_test (s == k) refl e
  where
    by_test : (b : Bool) → (s == k) ≡ b → not b ≡ false → ◌≡◌ {A = Option ℕ} (Some s) (Some k)
    by_test true same e = ap Some (eqb-true s k same)
    by_test false same e = absurd (cc e)

pub is_kept : (left_out : Option ℕ) (k : ℕ) → not (option_eq eqb left_out (Some k)) ≡ true → left_out ≢ Some k
is_kept None k e = λ same. absurd (cc same)
is_kept (Some s) k e = λ same. absurd (let test = ap not (eq-eqb s k (same_Some s k same)) in cc (test, e))

same_offer : (contracts : List Contract) (left_out : Option ℕ) (t n k : ℕ) (contract other : Contract)
    → IsOnTrade contracts left_out t n contract → k ≡ n → IsOnTrade contracts left_out t k other
    → contract ≡ other
same_offer contracts left_out t n k contract other one e two =
    same_Some contract other (sym one.is ∙ ap (slice_get contracts) (sym e) ∙ two.is)

-- one more contract that is offered
pub term_more : (contracts : List Contract) (left_out : Option ℕ) (t : ℕ) (buys : Bool) (n : ℕ) (found : Option ℤ)
    (contract : Contract) → FindsTerm contracts left_out t buys n found
    → IsOnTrade contracts left_out t n contract
    → FindsTerm contracts left_out t buys (n + 1) (Some (better buys found contract.price))
term_more contracts left_out t buys n None contract before offered = (
  n,
  record {
    below = omega arith;
    contract = contract;
    offered = offered;
    price_is = refl;
    best = λ k other below other_offered. elim (cases_eq k n) [
      | inl e ↦ subst (λ (c : Contract). IsAsGood buys contract.price c.price)
          (same_offer contracts left_out t n k contract other offered e other_offered) (good_self buys contract.price)
      | inr d ↦ absurd (before k other (omega (arith, below, d)) other_offered)
    ];
  },
)
term_more contracts left_out t buys n (Some price) contract before offered =
    elim (better_cases buys price contract.price) [
      | inl stays ↦
          let inside = before.1.below in
          subst (λ (z : ℤ). FindsTerm contracts left_out t buys (n + 1) (Some z)) (sym stays.0) (
            before.0,
            record {
              below = omega (arith, inside);
              contract = before.1.contract;
              offered = before.1.offered;
              price_is = before.1.price_is;
              best = λ k other below other_offered. elim (cases_eq k n) [
                | inl e ↦ subst (λ (c : Contract). IsAsGood buys price c.price)
                    (same_offer contracts left_out t n k contract other offered e other_offered) stays.1
                | inr d ↦ before.1.best k other (omega (arith, below, d)) other_offered
              ];
            },
          )
      | inr taken ↦
          subst (λ (z : ℤ). FindsTerm contracts left_out t buys (n + 1) (Some z)) (sym taken.0) (
            n,
            record {
              below = omega arith;
              contract = contract;
              offered = offered;
              price_is = refl;
              best = λ k other below other_offered. elim (cases_eq k n) [
                | inl e ↦ subst (λ (c : Contract). IsAsGood buys contract.price c.price)
                    (same_offer contracts left_out t n k contract other offered e other_offered)
                    (good_self buys contract.price)
                | inr d ↦ good_trans buys contract.price price other.price taken.1
                    (before.1.best k other (omega (arith, below, d)) other_offered)
              ];
            },
          )
    ]

-- and one that isn't
pub term_same : (contracts : List Contract) (left_out : Option ℕ) (t : ℕ) (buys : Bool) (n : ℕ) (found : Option ℤ)
    → FindsTerm contracts left_out t buys n found
    → ((other : Contract) → IsOnTrade contracts left_out t n other → ⊥)
    → FindsTerm contracts left_out t buys (n + 1) found
term_same contracts left_out t buys n None before away = λ k other below offered. elim (cases_eq k n) [
  | inl e ↦ away other (subst (λ (i : ℕ). IsOnTrade contracts left_out t i other) e offered)
  | inr d ↦ before k other (omega (arith, below, d)) offered
]
term_same contracts left_out t buys n (Some price) before away =
    let inside = before.1.below in (
      before.0,
      record {
        below = omega (arith, inside);
        contract = before.1.contract;
        offered = before.1.offered;
        price_is = before.1.price_is;
        best = λ k other below offered. elim (cases_eq k n) [
          | inl e ↦ absurd (away other (subst (λ (i : ℕ). IsOnTrade contracts left_out t i other) e offered))
          | inr d ↦ before.1.best k other (omega (arith, below, d)) offered
        ];
      },
    )

-- a price that is found is one of the contracts'
pub term_small : (contracts : List Contract) (left_out : Option ℕ) (t : ℕ) (buys : Bool) (n limit : ℕ) (price : ℤ)
    → FindsTerm contracts left_out t buys n (Some price)
    → All (λ contract. IsAtMost contract.price limit) contracts → IsAtMost price limit
term_small contracts left_out t buys n limit price found small =
    let at = found.1.offered.is in
    subst (λ (z : ℤ). IsAtMost z limit) (ap (λ (c : Contract). c.price)
    (get_or_from_slice_get contracts found.0 found.1.contract found.1.contract at) ∙ found.1.price_is)
    (small found.0 found.1.contract (slice_get_within contracts found.0 found.1.contract at))

-- ---- the terms of a firm

pub no_terms : (trades : List Ends) (contracts : List Contract) (left_out : Option ℕ) (f free : ℕ) (list : List ℤ)
    → free ≡ 0 → length list ≡ most_own → All (λ p. p ≡ pos 0) list
    → HasTerms trades contracts left_out f 0 free list
no_terms trades contracts left_out f free list empty counted zeros = record {
  within = omega (arith, empty);
  counted = counted;
  small = λ k d below. subst (λ (z : ℤ). IsAtMost z most_asked_price) (sym (zeros k d below)) (record {
    low =
        omega (arith, ints);
    high = omega (arith, ints);
  });
  at = λ k. 0;
  terms = λ k below member. absurd (omega (arith, below));
  none = λ k below away. absurd (omega (arith, below));
}

-- the free positions before one more
free_above : (free k i : ℕ) → free < 2 ^ k → k < i → has (toggle free k) i ≡ false
free_above free k i within above = has-toggle_other free k i (λ e. absurd (omega (arith, above, e)))
    ∙ has_above free k i within (omega (arith, above))

pub one_term : (trades : List Ends) (contracts : List Contract) (left_out : Option ℕ) (f k t free : ℕ) (buys : Bool)
    (price : ℤ) (list : List ℤ) → HasTerms trades contracts left_out f k free list → k < most_own
    → t ≡ own trades f k → buys ≡ is_bought trades f t
    → FindsTerm contracts left_out t buys (length contracts) (Some price)
    → All (λ contract. IsAtMost contract.price most_asked_price) contracts
    → HasTerms trades contracts left_out f (k + 1) (toggle free k) (set list k price)
one_term trades contracts left_out f k t free buys price list before inside t_is buys_is found small =
    let wide : k < length list = omega (arith, inside, before.counted) in
    record {
      within = within_from (toggle free k) (k + 1) (λ i above. free_above free k i before.within
          (omega (arith, above)));
      counted = length-set list k price ∙ before.counted;
      small = All-set (λ z. IsAtMost z most_asked_price) list k price
          (term_small contracts left_out t buys (length contracts) most_asked_price price found small) before.small;
      at = λ i. if i == k then found.0 else before.at i;
      terms = λ i below member. elim (cases_eq i k) [
        | inl e ↦ subst (Term (if i == k then found.0 else before.at i)) (sym e)
            (subst (λ (a : ℕ). Term a k) (sym (ap (λ (b : Bool). if b then found.0 else before.at i) (eq-eqb i k e)))
            (subst (λ (p : ℤ). IsTerm contracts left_out (own trades f k) (is_bought trades f (own trades f k))
            (length contracts) p found.0) (sym (get_or-set_same list k price (pos 0) wide)) here))
        | inr d ↦
            subst (λ (a : ℕ). Term a i) (sym (ap (λ (b : Bool). if b then found.0 else before.at i) (ne_eqb i k d)))
            (subst (λ (p : ℤ). IsTerm contracts left_out (own trades f i) (is_bought trades f (own trades f i))
            (length contracts) p (before.at i)) (sym (get_or-set_other list k i price (pos 0) d))
            (before.terms i (omega (arith, below, d)) (sym (has-toggle_other free k i d) ∙ member)))
      ];
      none = λ i below away. elim (cases_eq i k) [
        | inl e ↦ absurd
            (true≢false (sym (ap (has (toggle free k)) e ∙ has-toggle_same free k
            ∙ ap not (has_above free k k before.within (omega arith))) ∙ away))
        | inr d ↦ before.none i (omega (arith, below, d)) (sym (has-toggle_other free k i d) ∙ away)
      ];
    }
  where
    Term : ℕ → ℕ → Type 0
    Term a i = IsTerm contracts left_out (own trades f i) (is_bought trades f (own trades f i)) (length contracts)
        (price_at (set list k price) i) a

    here : IsTerm contracts left_out (own trades f k) (is_bought trades f (own trades f k)) (length contracts) price
        found.0
    here = subst (λ (s : ℕ). IsTerm contracts left_out s (is_bought trades f s) (length contracts) price found.0) t_is
        (subst (λ (b : Bool). IsTerm contracts left_out t b (length contracts) price found.0) buys_is found.1)

pub none_more : (trades : List Ends) (contracts : List Contract) (left_out : Option ℕ) (f k t free : ℕ) (buys : Bool)
    (list : List ℤ) → HasTerms trades contracts left_out f k free list
    → t ≡ own trades f k → FindsTerm contracts left_out t buys (length contracts) None
    → HasTerms trades contracts left_out f (k + 1) free list
none_more trades contracts left_out f k t free buys list before t_is found = record {
  within = within_from free (k + 1) (λ i above. has_above free k i before.within (omega (arith, above)));
  counted = before.counted;
  small = before.small;
  at = before.at;
  terms = λ i below member. elim (cases_eq i k) [
    | inl e ↦ absurd (true≢false (sym member ∙ has_above free k i before.within (omega (arith, e))))
    | inr d ↦ before.terms i (omega (arith, below, d)) member
  ];
  none = λ i below away j other offered. elim (cases_eq i k) [
    | inl e ↦ found j other (slice_get_within contracts j other offered.is)
        (subst (λ (s : ℕ). IsOnTrade contracts left_out s j other) (ap (own trades f) e ∙ sym t_is) offered)
    | inr d ↦ before.none i (omega (arith, below, d)) away j other offered
  ];
}

pub buyer_is : (trades : List Ends) (f t : ℕ) (trade : Ends) → slice_get trades t ≡ Some trade
    → (trade.buyer == f) ≡ is_bought trades f t
buyer_is trades f t trade is = sym (ap (λ (o : Option Ends). unwrap_or (option_map (λ e. e.buyer == f) o) false) is)
