-- Offers and an outcome: which offers are its contracts, and which firm is the first that may leave one.
use Rattle.std.proofs.Common.{◌≡◌, ℕ, zero, suc, nat_eq, ◌+◌, ◌<◌, Bool, true, false, List, length, slice_get, Option, Some, None, refl, sym, ap, ◌∙◌, subst, arith, inl, inr, ℤ, pos, ◌*ℤ◌, ◌≤ℤ◌}
use Rattle.std.specs.List.{All}
use Rattle.std.proofs.lemmas.Int.{ints, to_z-of_z}
use mir.Syntax.{w128}
use mir.Val.{SFits, to_z, of_z}
use Rattle.std.proofs.lemmas.Bool.{cases_eq, cases_lt, eqb-true, eq-eqb, true≢false}
use Rattle.std.proofs.lemmas.Option.{same_Some, slice_get_within}
use Rattle.tn_base.specs.Arcs.{IsAtMost}
use Rattle.tn_market.specs.Widths.{most_scale}
use Rattle.tn_model.specs.Limits.{most_claimed_over, most_number, most_over}
use Rattle.tn_base.specs.Firm.{Firm}
use Rattle.tn_firm_laws.proofs.BoundLemmas.{times_small}
use Rattle.tn_firm_laws.proofs.KeepLemmas.{times-le}
use Rattle.tn_model.specs.declared.contract.Contract.{Contract}
use Rattle.tn_model.specs.declared.contract.Outcome.{Outcome}
use Rattle.tn_model.specs.declared.ends.Ends.{Ends}
use Rattle.tn_model.specs.Choices.{is_of, together, IsFeasible, Blocks}
use Rattle.tn_market.specs.Signed.{signed_price}
use Rattle.tn_network_laws.proofs.PoolLemmas.{offer_in_pool}
use Rattle.tn_outcome_laws.proofs.SignedLemmas.{signed_by, price_of_contract}
use Rattle.tn_residual.specs.Held.{contract_price}
use Rattle.tn_residual.proofs.HeldLemmas.{price_is, price_some, price_not}
use Rattle.tn_cert.specs.Least.{earlier}
use Rattle.tn_cert.specs.Reasons.{IsContractOf, NoneIsSigned, IsInEveryChoice, IsFirstToLeave}
use Rattle.tn_cert.specs.Greatest.{DecidesContract, DecidesEqual, FindsLeaver, FindsLeft, FindsSigned, HaveTradesOnce}
use Rattle.tn_cert.proofs.CountedLemmas.{all_at}
use Rattle.tn_cert.proofs.KeptLemmas.{firm_at}
use Rattle.tn_cert.proofs.LeastLemmas.{FindsLeast, least_passes, least_fails}
use Rattle.tn_cert.proofs.LeaveLemmas.{trade_at, trade_is}

-- ---- one offer

-- the price of the contract on the offer's trade decides
pub decides_contract : (outcome : Outcome) (e : ℤ) (offer : Contract) (price : ℤ) (same : Bool)
    → HaveTradesOnce outcome.contracts → contract_price outcome.contracts offer.trade ≡ Some price
    → DecidesEqual (offer.price *ℤ outcome.over) (price *ℤ e) same → DecidesContract outcome e offer same
decides_contract outcome e offer price true once found equal =
    let there = price_is outcome.contracts offer.trade price found in
    record {
      at = there.0;
      contract = there.1;
      is = there.2;
      trade = sym there.3;
      price =
          equal ∙ ap (λ (z : ℤ). z *ℤ e) (sym there.4);
    }
decides_contract outcome e offer price false once found apart = λ signed.
    let told = price_some outcome.contracts offer.trade price found in
    let priced = sym told.1 ∙ ap (signed_price outcome.contracts) signed.trade
    ∙ price_of_contract outcome.contracts once signed.at signed.contract signed.is in
    apart (signed.price ∙ ap (λ (z : ℤ). z *ℤ e) (sym priced))

pub no_contract : (outcome : Outcome) (e : ℤ) (offer : Contract) → contract_price outcome.contracts offer.trade ≡ None
    → DecidesContract outcome e offer false
no_contract outcome e offer none = λ signed.
    let yes_signed = signed_by outcome.contracts signed.at offer.trade signed.contract signed.is (sym signed.trade) in
    let not_signed = price_not outcome.contracts offer.trade none in
    cc (yes_signed, not_signed)

-- ---- offer by offer

-- an offer that is a contract of the outcome, or isn't
abbrev pub DecidesOffer : Outcome → ℤ → List Contract → ℕ → Bool → Type 0
DecidesOffer outcome e offers k true = (offer : Contract) × (slice_get offers k ≡ Some offer)
    × IsContractOf outcome e offer
DecidesOffer outcome e offers k false = (offer : Contract) → slice_get offers k ≡ Some offer
    → IsContractOf outcome e offer → ⊥

abbrev pub FindsContract : Outcome → ℤ → List Contract → ℕ → Option ℕ → Type 0
FindsContract outcome e offers n found =
    FindsLeast n (trade_at offers) (λ k. DecidesOffer outcome e offers k true)
    (λ k. DecidesOffer outcome e offers k false) found

pub decides_offer : (outcome : Outcome) (e : ℤ) (offers : List Contract) (k : ℕ) (offer : Contract) (signed : Bool)
    → slice_get offers k ≡ Some offer → DecidesContract outcome e offer signed
    → DecidesOffer outcome e offers k signed
decides_offer outcome e offers k offer true is decides = (offer, is, decides)
decides_offer outcome e offers k offer false is decides =
    λ other other_is signed. decides (subst (IsContractOf outcome e) (same_Some other offer (sym other_is ∙ is)) signed)

pub contract_more : (outcome : Outcome) (e : ℤ) (offers : List Contract) (n : ℕ) (found : Option ℕ) (offer : Contract)
    → FindsContract outcome e offers n found → slice_get offers n ≡ Some offer
    → DecidesOffer outcome e offers n true → FindsContract outcome e offers (n + 1) (Some (earlier found offer.trade))
contract_more outcome e offers n found offer before is signed =
    subst (λ (t : ℕ). FindsContract outcome e offers (n + 1) (Some (earlier found t))) (trade_is offers n offer is)
    (least_fails n (trade_at offers) (λ k. DecidesOffer outcome e offers k true)
    (λ k. DecidesOffer outcome e offers k false) found before signed)

pub contract_same : (outcome : Outcome) (e : ℤ) (offers : List Contract) (n : ℕ) (found : Option ℕ)
    → FindsContract outcome e offers n found → DecidesOffer outcome e offers n false
    → FindsContract outcome e offers (n + 1) found
contract_same outcome e offers n found before passes =
    least_passes n (trade_at offers) (λ k. DecidesOffer outcome e offers k true)
    (λ k. DecidesOffer outcome e offers k false) found before passes

pub finds_signed : (outcome : Outcome) (e : ℤ) (offers : List Contract) (n : ℕ) (found : Option ℕ) → n ≡ length offers
    → FindsContract outcome e offers n found → FindsSigned outcome e offers found
finds_signed outcome e offers n None all finds = λ k offer is signed.
    let below = slice_get_within offers k offer is in
    finds k (omega (arith, below, all)) offer is signed
finds_signed outcome e offers n (Some t) all finds = record {
  at = finds.at;
  offer = finds.fails.0;
  is = finds.fails.1;
  trade = sym (trade_is offers finds.at finds.fails.0 finds.fails.1) ∙ finds.is;
  same = finds.fails.2;
  first = λ k other is signed. elim (cases_lt (trade_at offers k) t) [
    | inl less ↦ let below = slice_get_within offers k other is in
        absurd (finds.first k (omega (arith, below, all)) less other is signed)
    | inr more ↦ let same = trade_is offers k other is in omega (arith, more, same)
  ];
}

-- ---- the product of the denominators

pub product_least : (d e : ℤ) → pos 1 ≤ℤ d → pos 1 ≤ℤ e → pos 1 ≤ℤ (d *ℤ e)
product_least d e d_least e_least =
    let more = times-le d (pos 1) e (omega (arith, ints, d_least)) e_least in
    let one : d *ℤ pos 1 ≡ d = omega (arith, ints) in
    omega (arith, ints, more, one, d_least)

pub product_most : (d e : ℤ) → pos 1 ≤ℤ d → d ≤ℤ pos most_over → pos 1 ≤ℤ e → e ≤ℤ pos most_claimed_over
    → (d *ℤ e) ≤ℤ pos most_scale
product_most d e d_least d_most e_least e_most =
    let small = times_small d e most_over most_claimed_over (record {
      low = omega (arith, ints, d_least);
      high =
          d_most;
    }) (record { low = omega (arith, ints, e_least); high = e_most }) in
    let high = small.high in
    omega (arith, ints, high)

-- ---- firm by firm

-- each choice of each firm before f has each offer of it
abbrev pub AreTakenBefore : List Firm → List Ends → Outcome → ℤ → List Contract → ℕ → Type 0
AreTakenBefore firms trades outcome e offers f = (g : ℕ) (firm : Firm) (k : ℕ) (offer : Contract) → g < f
    → slice_get firms g ≡ Some firm → slice_get offers k ≡ Some offer → is_of trades g offer ≡ true
    → IsInEveryChoice trades outcome e offers g firm k

-- what is found of a firm
abbrev pub FindsLeftAt : List Ends → Outcome → ℤ → List Contract → ℕ → Firm → Option ℕ → Type 0
FindsLeftAt trades outcome e offers f firm found =
    FindsLeft trades (outcome.over *ℤ e) f firm (together e offers outcome.over outcome.contracts) (length offers) found

pub one_taken : (firms : List Firm) (trades : List Ends) (outcome : Outcome) (e : ℤ) (offers : List Contract) (f : ℕ)
    → AreTakenBefore firms trades outcome e offers f
    → ((firm : Firm) → slice_get firms f ≡ Some firm → FindsLeftAt trades outcome e offers f firm None)
    → AreTakenBefore firms trades outcome e offers (f + 1)
one_taken firms trades outcome e offers f before here g firm k offer below is offered own = elim (cases_eq g f) [
  | inr d ↦ before g firm k offer (omega (arith, below, d)) is offered own
  | inl same ↦
      subst (λ (h : ℕ). IsInEveryChoice trades outcome e offers h firm k) (sym same)
      (here firm (ap (slice_get firms) (sym same) ∙ is) k (record {
        trade = offer.trade;
        price =
            outcome.over *ℤ offer.price;
      }) (slice_get_within offers k offer offered)
      (offer_in_pool e outcome.over offers outcome.contracts k offer offered)
      (ap (λ (h : ℕ). is_of trades h offer) (sym same) ∙ own))
]

pub first_leaver : (firms : List Firm) (trades : List Ends) (outcome : Outcome) (e : ℤ) (offers : List Contract)
    (f t : ℕ) (firm : Firm) → AreTakenBefore firms trades outcome e offers f
    → slice_get firms f ≡ Some firm → FindsLeftAt trades outcome e offers f firm (Some t)
    → IsFirstToLeave firms trades outcome e offers f t
first_leaver firms trades outcome e offers f t firm before is left =
    let offer = firm_at offers left.at left.below in
    let same = same_Some _ _ (sym left.is ∙ offer_in_pool e outcome.over offers outcome.contracts left.at offer.0
    offer.1) in
    record {
      before = λ g other k given below there offered own. before g other k given below there offered own;
      firm = firm;
      is = is;
      at = left.at;
      offer = offer.0;
      offered = offer.1;
      trade = sym (ap (λ (c : Contract). c.trade) same) ∙ left.trade;
      own = sym (ap (is_of trades f) same) ∙ left.own;
      choice = left.left.choice;
      chosen = left.left.chosen;
      without = left.left.without;
      earlier = λ k other offered own less.
          left.earlier k (record { trade = other.trade; price = outcome.over *ℤ other.price })
          (slice_get_within offers k other offered)
          (offer_in_pool e outcome.over offers outcome.contracts k other offered) own less;
    }

-- where no firm may leave an offer, the offers block the outcome
pub blocks_from : (firms : List Firm) (trades : List Ends) (outcome : Outcome) (e : ℤ) (offers : List Contract)
    → 0 < length offers → IsFeasible trades offers → NoneIsSigned outcome e offers
    → FindsLeaver firms trades outcome e offers None → Blocks firms trades outcome.over outcome.contracts e offers
blocks_from firms trades outcome e offers some feasible new taken = record {
  some = some;
  feasible = feasible;
  unsigned = λ j k offer signed offer_is signed_is trade price. new j offer offer_is (record {
    at = k;
    contract =
        signed;
    is = signed_is;
    trade = trade;
    price = price;
  });
  chosen = λ f firm x is choice k offer offered own. taken f firm k offer is offered own x choice;
}

-- what is found of a firm at the code's own pool, scale and count
pub left_at : (trades : List Ends) (outcome : Outcome) (e : ℤ) (offers : List Contract) (f : ℕ) (firm : Firm)
    (pool : List Contract) (scale : ℤ) (n : ℕ) (found : Option ℕ)
    → pool ≡ together e offers outcome.over outcome.contracts → scale ≡ outcome.over *ℤ e → n ≡ length offers
    → FindsLeft trades scale f firm pool n found
    → FindsLeftAt trades outcome e offers f firm found
left_at trades outcome e offers f firm pool scale n found pool_is scale_is n_is left =
    subst (λ (m : ℕ). FindsLeft trades (outcome.over *ℤ e) f firm (together e offers outcome.over outcome.contracts) m
    found) n_is
    (subst (λ (p : List Contract). FindsLeft trades (outcome.over *ℤ e) f firm p n found) pool_is
    (subst (λ (s : ℤ). FindsLeft trades s f firm pool n found) scale_is left))

-- ---- numbers of the code

pub decided_equal : (x y : ℤ) → SFits w128 x → SFits w128 y → DecidesEqual x y (nat_eq (of_z w128 x) (of_z w128 y))
decided_equal x y x_fits y_fits = by_test (nat_eq (of_z w128 x) (of_z w128 y)) refl
  where
    by_test : (b : Bool) → nat_eq (of_z w128 x) (of_z w128 y) ≡ b → DecidesEqual x y b
    by_test true e = sym (to_z-of_z w128 x x_fits) ∙ ap (to_z w128) (eqb-true (of_z w128 x) (of_z w128 y) e)
        ∙ to_z-of_z w128 y y_fits
    by_test false e = λ same. true≢false (sym (eq-eqb (of_z w128 x) (of_z w128 y) (ap (of_z w128) same)) ∙ e)

pub product_fits : (a b : ℤ) → IsAtMost a most_number → IsAtMost b most_claimed_over → SFits w128 (a *ℤ b)
product_fits a b small_a small_b =
    let small = times_small a b most_number most_claimed_over small_a small_b in
    let low = small.low in
    let high = small.high in
    omega (arith, ints, low, high)

pub price_small : (contracts : List Contract) (t limit : ℕ) (price : ℤ) → contract_price contracts t ≡ Some price
    → All (λ contract. IsAtMost contract.price limit) contracts → IsAtMost price limit
price_small contracts t limit price found small =
    let there = price_is contracts t price found in
    subst (λ (z : ℤ). IsAtMost z limit) there.4 (all_at (λ contract. IsAtMost contract.price limit) contracts small
    there.0 there.1 there.2)

pub positive : (n : ℕ) → (n ≡ 0 → ⊥) → 0 < n
positive zero none = absurd (none refl)
positive (suc n) none = omega arith
