-- Parts of a list of contracts: the bundle that a firm has by a part, and what it gets for it.
use Rattle.std.proofs.Common.{◌≡◌, ℕ, zero, suc, ◌<◌, ◌≤◌, Bool, true, false, not, ◌==◌, ◌&&◌, ◌||◌, if◌then◌else◌, List, length, slice_get, Some, None, Option, option_map, refl, sym, ap, ap₂, ◌∙◌, subst, arith, inl, inr, ℤ, pos, ◌+ℤ◌, ◌-ℤ◌, neg_ℤ}
use Rattle.std.specs.Prelude.{unwrap_or}
use Rattle.std.proofs.lemmas.Int.{ints}
use Rattle.std.proofs.lemmas.Bool.{cases_Bool, cases_eq, eqb-true, eq-eqb, ne_eqb, and_parts, or_cases, or_parts, lt-ltb}
use Rattle.std.proofs.lemmas.Option.{same_Some, slice_get_cases}
use Rattle.tn_base.specs.Sets.{has, toggle, set_of, sum_over}
use Rattle.tn_base.specs.Firm.{Firm, payments}
use Rattle.tn_base.proofs.SetLemmas.{has-set_of, has-toggle_same, has-toggle_other, has-zero}
use Rattle.tn_base.proofs.SumLemmas.{sum_over-same, sum_over-empty, sum_over-toggle_in, sum_over-plus, sum_over-same_terms}
use Rattle.tn_model.specs.declared.ends.Ends.{Ends}
use Rattle.tn_model.specs.declared.contract.Contract.{Contract}
use Rattle.tn_model.specs.Network.{own, stands_at, IsNetwork}
use Rattle.tn_market.specs.Equilibrium.{prices_at}
use Rattle.tn_model.specs.Choices.{is_end, is_of, paid_to, paid_by, payment, is_traded, bundle_by, IsPart}
use Rattle.tn_model.proofs.NetworkLemmas.{own_stands}
use Rattle.tn_market.proofs.GraphLemmas.{IsEnd, seller_end, buyer_end, same_firm}

-- ---- what a contract pays

-- the contract at a place, if there is one
abbrev pub at_place : (Contract → ℤ) → List Contract → ℕ → ℤ
at_place amount contracts k = unwrap_or (option_map amount (slice_get contracts k)) (pos 0)

pub at_place-is : (amount : Contract → ℤ) (contracts : List Contract) (k : ℕ) (contract : Contract)
    → slice_get contracts k ≡ Some contract
    → at_place amount contracts k ≡ amount contract
at_place-is amount contracts k contract is = ap (λ (o : Option Contract). unwrap_or (option_map amount o) (pos 0)) is

pub at_place-none : (amount : Contract → ℤ) (contracts : List Contract) (k : ℕ) → slice_get contracts k ≡ None
    → at_place amount contracts k ≡ pos 0
at_place-none amount contracts k none = ap (λ (o : Option Contract). unwrap_or (option_map amount o) (pos 0)) none

-- what firm f gets for a contract at the price of its trade
abbrev pub paid_at : List Ends → ℕ → (ℕ → ℤ) → Contract → ℤ
paid_at trades f prices contract = paid_by trades f (record { trade = contract.trade; price = prices contract.trade })

-- what it gets more by the price of the contract
abbrev pub gain_by : List Ends → ℕ → (ℕ → ℤ) → Contract → ℤ
gain_by trades f prices contract =
    paid_by trades f (record { trade = contract.trade; price = contract.price -ℤ prices contract.trade })

paid_to-plus : (f : ℕ) (a b c : ℤ) (trade : Ends) → a ≡ b +ℤ c
    → paid_to f a trade ≡ paid_to f b trade +ℤ paid_to f c trade
paid_to-plus f a b c trade sum = by_case (trade.seller == f) (trade.buyer == f)
  where
    by_case : (s t : Bool) → (if s then a else (if t then neg_ℤ a else pos 0)) ≡ (if s then b
        else (if t then neg_ℤ b else pos 0)) +ℤ (if s then c else (if t then neg_ℤ c else pos 0))
    by_case true t = sum
    by_case false true = omega (arith, ints, sum)
    by_case false false = omega (arith, ints)

-- a contract pays what it pays at the prices, and the gain
pub paid_by-gain : (trades : List Ends) (f : ℕ) (prices : ℕ → ℤ) (contract : Contract)
    → paid_by trades f contract ≡ gain_by trades f prices contract +ℤ paid_at trades f prices contract
paid_by-gain trades f prices contract = by_case (slice_get trades contract.trade)
  where
    by_case : (o : Option Ends) → unwrap_or (option_map (paid_to f contract.price) o) (pos 0)
        ≡ unwrap_or (option_map (paid_to f (contract.price -ℤ prices contract.trade)) o) (pos 0)
        +ℤ unwrap_or (option_map (paid_to f (prices contract.trade)) o) (pos 0)
    by_case None = omega (arith, ints)
    by_case (Some trade) =
        paid_to-plus f contract.price (contract.price -ℤ prices contract.trade) (prices contract.trade) trade
        (omega (arith, ints))

pub payment-gain : (trades : List Ends) (f : ℕ) (prices : ℕ → ℤ) (contracts : List Contract) (k : ℕ)
    → payment trades f contracts k ≡ at_place (gain_by trades f prices) contracts k
    +ℤ at_place (paid_at trades f prices) contracts k
payment-gain trades f prices contracts k = by_case (slice_get contracts k)
  where
    by_case : (o : Option Contract) → unwrap_or (option_map (paid_by trades f) o) (pos 0)
        ≡ unwrap_or (option_map (gain_by trades f prices) o) (pos 0)
        +ℤ unwrap_or (option_map (paid_at trades f prices) o) (pos 0)
    by_case None = omega (arith, ints)
    by_case (Some contract) = paid_by-gain trades f prices contract

-- ---- the firm of a contract

-- a contract of a firm stands at a position of it, and pays it the price, or minus the price if it buys
pub record IsOwn (firm : Firm) (trades : List Ends) (f : ℕ) (contract : Contract) : Type 0 where
  pub place : ℕ
  pub inside : place < firm.count
  pub owns : own trades f place ≡ contract.trade
  pub pays : (price : ℤ) → paid_by trades f (record { trade = contract.trade; price = price }) ≡ (if has firm.buys place
      then neg_ℤ price else price)

pub own_contract : (firms : List Firm) (trades : List Ends) → IsNetwork firms trades → (f : ℕ) (firm : Firm)
    → slice_get firms f ≡ Some firm → (contract : Contract)
    → is_of trades f contract ≡ true → IsOwn firm trades f contract
own_contract firms trades network f firm is contract of = by_case (slice_get trades contract.trade) refl of
  where
    by_case : (o : Option Ends) → slice_get trades contract.trade ≡ o → unwrap_or (option_map (is_end f) o) false ≡ true
        → IsOwn firm trades f contract
    by_case None there e = absurd (cc e)
    by_case (Some trade) there e = elim (cases_Bool (trade.seller == f)) [
      | inl sells ↦
          let here : trade.seller ≡ f = eqb-true _ _ sells in
          at trade.at_seller false (subst (λ (g : ℕ). IsEnd firms trades contract.trade g trade.at_seller false) here
          (seller_end firms trades network contract.trade trade there))
          (λ price. pays price ∙ ap (λ (b : Bool). if b then price
          else (if trade.buyer == f then neg_ℤ price else pos 0)) sells)
      | inr other ↦ elim (or_cases (trade.seller == f) (trade.buyer == f) e) [
        | inl sells ↦ absurd (cc (sells, other))
        | inr buys ↦
            let here : trade.buyer ≡ f = eqb-true _ _ buys in
            at trade.at_buyer true (subst (λ (g : ℕ). IsEnd firms trades contract.trade g trade.at_buyer true) here
            (buyer_end firms trades network contract.trade trade there))
            (λ price. pays price ∙ ap₂ (λ (a b : Bool). if a then price
            else (if b then neg_ℤ price else pos 0)) other buys)
      ]
    ]
      where
        pays : (price : ℤ) → paid_by trades f (record { trade = contract.trade; price = price }) ≡ paid_to f price trade
        pays price = ap (λ (o : Option Ends). unwrap_or (option_map (paid_to f price) o) (pos 0)) there

        at : (place : ℕ) (bought : Bool) → IsEnd firms trades contract.trade f place bought
            → ((price : ℤ) → paid_by trades f (record { trade = contract.trade; price = price }) ≡ (if bought
            then neg_ℤ price else price)) → IsOwn firm trades f contract
        at place bought end paid =
            let one = same_firm firms f end.firm firm end.is is in
            record {
              place = place;
              inside = subst (λ (z : Firm). place < z.count) one end.inside;
              owns = end.owns;
              pays = λ price. paid price ∙ ap (λ (b : Bool). if b then neg_ℤ price
                  else price) (sym end.side ∙ ap (λ (z : Firm). has z.buys place) one);
            }

-- the contract of another firm pays nothing
pub other_contract : (trades : List Ends) (f : ℕ) (contract : Contract) (price : ℤ) → is_of trades f contract ≡ false
    → paid_by trades f (record { trade = contract.trade; price = price }) ≡ pos 0
other_contract trades f contract price other = by_case (slice_get trades contract.trade) other
  where
    by_case : (o : Option Ends) → unwrap_or (option_map (is_end f) o) false ≡ false
        → unwrap_or (option_map (paid_to f price) o) (pos 0) ≡ pos 0
    by_case None e = refl
    by_case (Some trade) e =
        let parts = or_parts (trade.seller == f) (trade.buyer == f) e in
        ap₂ (λ (a b : Bool). if a then price else (if b then neg_ℤ price else pos 0)) parts.0 parts.1

-- a firm has a trade at one position alone
pub own_once : (firms : List Firm) (trades : List Ends) → IsNetwork firms trades → (f : ℕ) (firm : Firm)
    → slice_get firms f ≡ Some firm → (j k : ℕ)
    → j < firm.count → k < firm.count → own trades f j ≡ own trades f k → j ≡ k
own_once firms trades network f firm is j k j_inside k_inside same =
    let first = own_stands trades f j (network.whole f j firm is j_inside) in
    let second = own_stands trades f k (network.whole f k firm is k_inside) in
    let one : second.trade ≡ first.trade = same_Some _ _ (sym second.is ∙ ap (slice_get trades) (sym same) ∙ first.is)
    in
    at first.trade first.is first.stands (subst (λ (z : Ends). stands_at z f k ≡ true) one second.stands)
  where
    at : (trade : Ends) → slice_get trades (own trades f j) ≡ Some trade → stands_at trade f j ≡ true
        → stands_at trade f k ≡ true → j ≡ k
    at trade there p q =
        elim (or_cases (trade.seller == f && trade.at_seller == j) (trade.buyer == f && trade.at_buyer == j) p) [
          | inl a ↦ elim (or_cases (trade.seller == f && trade.at_seller == k)
              (trade.buyer == f && trade.at_buyer == k) q) [
                | inl b ↦ sym (eqb-true _ _ (and_parts (trade.seller == f) (trade.at_seller == j) a).1)
                    ∙ eqb-true _ _ (and_parts (trade.seller == f) (trade.at_seller == k) b).1
                | inr b ↦ absurd (apart (eqb-true _ _ (and_parts (trade.seller == f) (trade.at_seller == j) a).0)
                    (eqb-true _ _ (and_parts (trade.buyer == f) (trade.at_buyer == k) b).0))
              ]
          | inr a ↦ elim (or_cases (trade.seller == f && trade.at_seller == k)
              (trade.buyer == f && trade.at_buyer == k) q) [
                | inl b ↦ absurd (apart (eqb-true _ _ (and_parts (trade.seller == f) (trade.at_seller == k) b).0)
                    (eqb-true _ _ (and_parts (trade.buyer == f) (trade.at_buyer == j) a).0))
                | inr b ↦ sym (eqb-true _ _ (and_parts (trade.buyer == f) (trade.at_buyer == j) a).1)
                    ∙ eqb-true _ _ (and_parts (trade.buyer == f) (trade.at_buyer == k) b).1
              ]
        ]
      where
        apart : trade.seller ≡ f → trade.buyer ≡ f → ⊥
        apart s b = network.apart (own trades f j) trade there (s ∙ sym b)

-- ---- the bundle of a part

-- a trade is traded by a contract of the part
pub record IsTradedAt (contracts : List Contract) (x t n : ℕ) : Type 0 where
  pub place : ℕ
  pub inside : place < n
  pub member : has x place ≡ true
  pub contract : Contract
  pub is : slice_get contracts place ≡ Some contract
  pub trade : contract.trade ≡ t

-- whether the contract at a place is on a trade
abbrev is_on : List Contract → ℕ → ℕ → Bool
is_on contracts t k =
    unwrap_or (option_map (λ (contract : Contract). contract.trade == t) (slice_get contracts k)) false

on_it : (contracts : List Contract) (t k : ℕ) → is_on contracts t k ≡ true → (contract : Contract)
    × (slice_get contracts k ≡ Some contract) × (contract.trade ≡ t)
on_it contracts t k is = by_case (slice_get contracts k) refl is
  where
    by_case : (o : Option Contract) → slice_get contracts k ≡ o
        → unwrap_or (option_map (λ (contract : Contract). contract.trade == t) o) false ≡ true
        → (contract : Contract) × (slice_get contracts k ≡ Some contract) × (contract.trade ≡ t)
    by_case None there e = absurd (cc e)
    by_case (Some contract) there e = (contract, there, eqb-true _ _ e)

pub traded_at : (contracts : List Contract) (x t n : ℕ) → is_traded contracts x t n ≡ true → IsTradedAt contracts x t n
traded_at contracts x t zero is = absurd (cc is)
traded_at contracts x t (suc n) is = elim (or_cases (has x n && is_on contracts t n) (is_traded contracts x t n) is) [
  | inl here ↦
      let parts = and_parts (has x n) (is_on contracts t n) here in
      let found = on_it contracts t n parts.1 in
      record { place = n; inside = omega arith; member = parts.0; contract = found.0; is = found.1; trade = found.2 }
  | inr before ↦
      let found = traded_at contracts x t n before in
      let inside = found.inside in
      record {
        place = found.place;
        inside = omega (arith, inside);
        member = found.member;
        contract =
            found.contract;
        is = found.is;
        trade = found.trade;
      }
]

pub traded_by : (contracts : List Contract) (x t n k : ℕ) (contract : Contract) → k < n → has x k ≡ true
    → slice_get contracts k ≡ Some contract → contract.trade ≡ t
    → is_traded contracts x t n ≡ true
traded_by contracts x t zero k contract inside member is trade = absurd (omega (arith, inside))
traded_by contracts x t (suc n) k contract inside member is trade = elim (cases_eq k n) [
  | inl e ↦
      ap₂ (λ (a b : Bool). (a && b) || is_traded contracts x t n) (ap (has x) (sym e) ∙ member)
      (ap (is_on contracts t) (sym e)
      ∙ ap (λ (o : Option Contract). unwrap_or (option_map (λ (c : Contract). c.trade == t) o) false) is
      ∙ eq-eqb contract.trade t trade)
  | inr d ↦
      ap (λ (b : Bool). (has x n && is_on contracts t n) || b)
      (traded_by contracts x t n k contract (omega (arith, inside, d)) member is trade)
      ∙ either (has x n && is_on contracts t n)
]
  where
    either : (b : Bool) → (b || true) ≡ true
    either true = refl
    either false = refl

-- the bundle by the first contracts of a part
bundle_to : List Ends → ℕ → ℕ → List Contract → ℕ → ℕ → ℕ
bundle_to trades f n contracts x m = set_of (λ k. is_traded contracts x (own trades f k) m) n

has-bundle_to : (trades : List Ends) (f n : ℕ) (contracts : List Contract) (x m k : ℕ) → k < n
    → has (bundle_to trades f n contracts x m) k ≡ is_traded contracts x (own trades f k) m
unfolding bundle_to
has-bundle_to trades f n contracts x m k below =
    has-set_of (λ j. is_traded contracts x (own trades f j) m) n k
    ∙ ap (λ (b : Bool). b && is_traded contracts x (own trades f k) m) (lt-ltb k n below)

-- what a firm gets for a bundle at prices
abbrev pub paid_for : Firm → List Ends → ℕ → (ℕ → ℤ) → ℕ → ℤ
paid_for firm trades f prices x = sum_over (payments firm.buys (prices_at trades prices f)) firm.count x

-- the first contracts of a part pay, at the prices of their trades, what the firm gets for its bundle by them
paid_to_part : (firms : List Firm) (trades : List Ends) → IsNetwork firms trades → (f : ℕ) (firm : Firm)
    → slice_get firms f ≡ Some firm
    → (contracts : List Contract) (x : ℕ) → IsPart trades f contracts x → (prices : ℕ → ℤ) (m : ℕ)
    → m ≤ length contracts
    → sum_over (at_place (paid_at trades f prices) contracts) m x
    ≡ paid_for firm trades f prices (bundle_to trades f firm.count contracts x m)
unfolding sum_over
paid_to_part firms trades network f firm is contracts x is_part prices zero within =
    sym (sum_over-empty (payments firm.buys (prices_at trades prices f)) firm.count)
    ∙ sum_over-same (payments firm.buys (prices_at trades prices f)) 0 (bundle_to trades f firm.count contracts x 0)
    firm.count
    (λ k below. has-zero k ∙ sym (has-bundle_to trades f firm.count contracts x 0 k below))
paid_to_part firms trades network f firm is contracts x is_part prices (suc m) within =
    by_member (paid_to_part firms trades network f firm is contracts x is_part prices m (omega (arith, within)))
    (has x m) refl
  where
    c : ℕ → ℤ
    c = payments firm.buys (prices_at trades prices f)

    before : ℕ
    before = bundle_to trades f firm.count contracts x m

    after : ℕ
    after = bundle_to trades f firm.count contracts x (suc m)

    with_contract : (contract : Contract) → slice_get contracts m ≡ Some contract → has x m ≡ true
        → paid_for firm trades f prices after ≡ paid_for firm trades f prices before
        +ℤ at_place (paid_at trades f prices) contracts m
    with_contract contract there member =
        let owned = own_contract firms trades network f firm is contract (is_part.own m contract there member) in
        let absent : has before owned.place ≡ false =
        has-bundle_to trades f firm.count contracts x m owned.place owned.inside ∙ not_before owned in
        let moved : sum_over c firm.count after ≡ sum_over c firm.count (toggle before owned.place) =
        sum_over-same c after (toggle before owned.place) firm.count (λ k below. members owned k below absent) in
        let step = sum_over-toggle_in c firm.count before owned.place owned.inside absent in
        let term : c owned.place ≡ at_place (paid_at trades f prices) contracts m =
        ap (λ (t : ℕ). if has firm.buys owned.place then neg_ℤ (prices t) else prices t) owned.owns
        ∙ sym (at_place-is (paid_at trades f prices) contracts m contract there ∙ owned.pays (prices contract.trade)) in
        moved ∙ step ∙ ap (λ (z : ℤ). paid_for firm trades f prices before +ℤ z) term
      where
        not_before : (owned : IsOwn firm trades f contract) → is_traded contracts x (own trades f owned.place) m ≡ false
        not_before owned = elim (cases_Bool (is_traded contracts x (own trades f owned.place) m)) [
          | inr away ↦ away
          | inl traded ↦
              let found = traded_at contracts x (own trades f owned.place) m traded in
              let same = is_part.once found.place m found.contract contract found.is there found.member member
              (found.trade ∙ owned.owns) in
              let inside = found.inside in
              absurd (omega (arith, same, inside))
        ]

        on_here : (t : ℕ) → is_on contracts t m ≡ (contract.trade == t)
        on_here t = ap (λ (o : Option Contract). unwrap_or (option_map (λ (z : Contract). z.trade == t) o) false) there

        members : (owned : IsOwn firm trades f contract) (k : ℕ) → k < firm.count → has before owned.place ≡ false
            → has after k ≡ has (toggle before owned.place) k
        members owned k below absent = elim (cases_eq k owned.place) [
          | inl e ↦
              has-bundle_to trades f firm.count contracts x (suc m) k below
              ∙ ap₂ (λ (a b : Bool). (a && b) || is_traded contracts x (own trades f k) m) member
              (on_here (own trades f k) ∙ eq-eqb contract.trade (own trades f k) (sym owned.owns
              ∙ ap (own trades f) (sym e)))
              ∙ sym (ap (has (toggle before owned.place)) e ∙ has-toggle_same before owned.place ∙ ap not absent)
          | inr d ↦
              has-bundle_to trades f firm.count contracts x (suc m) k below
              ∙ ap₂ (λ (a b : Bool). (a && b) || is_traded contracts x (own trades f k) m) member
              (on_here (own trades f k) ∙ ne_eqb contract.trade (own trades f k)
              (λ e. d (own_once firms trades network f firm is k owned.place below owned.inside (sym e
              ∙ sym owned.owns))))
              ∙ sym (has-toggle_other before owned.place k d ∙ has-bundle_to trades f firm.count contracts x m k below)
        ]

    by_member : sum_over (at_place (paid_at trades f prices) contracts) m x ≡ paid_for firm trades f prices before
        → (b : Bool) → has x m ≡ b
        → sum_over (at_place (paid_at trades f prices) contracts) m x +ℤ (if has x m
        then at_place (paid_at trades f prices) contracts m else pos 0)
        ≡ paid_for firm trades f prices after
    by_member rest false away =
        let none : (if has x m then at_place (paid_at trades f prices) contracts m else pos 0) ≡ pos 0 =
        ap (λ (b : Bool). if b then at_place (paid_at trades f prices) contracts m else pos 0) away in
        let same : paid_for firm trades f prices before ≡ paid_for firm trades f prices after =
        sum_over-same c before after firm.count (λ k below. has-bundle_to trades f firm.count contracts x m k below
        ∙ sym (has-bundle_to trades f firm.count contracts x (suc m) k below
        ∙ ap (λ (b : Bool). (b && is_on contracts (own trades f k) m) || is_traded contracts x (own trades f k) m)
        away)) in
        add _ _ _ _ rest none same
      where
        add : (a b z after : ℤ) → a ≡ b → z ≡ pos 0 → b ≡ after → a +ℤ z ≡ after
        add a b z after rest none same = omega (arith, ints, rest, none, same)
    by_member rest true member = elim (slice_get_cases contracts m).1 [
      | inl found ↦
          let one : (if has x m then at_place (paid_at trades f prices) contracts m else pos 0)
          ≡ at_place (paid_at trades f prices) contracts m =
          ap (λ (b : Bool). if b then at_place (paid_at trades f prices) contracts m else pos 0) member in
          ap₂ (λ (a b : ℤ). a +ℤ b) rest one ∙ sym (with_contract found.0 found.2 member)
      | inr past ↦ absurd (let above = past.0 in omega (arith, above, within))
    ]

-- a part pays what the firm gets for its bundle at the prices, and the gains
pub part_paid : (firms : List Firm) (trades : List Ends) → IsNetwork firms trades → (f : ℕ) (firm : Firm)
    → slice_get firms f ≡ Some firm
    → (contracts : List Contract) (x : ℕ) → IsPart trades f contracts x → (prices : ℕ → ℤ)
    → sum_over (payment trades f contracts) (length contracts) x
    ≡ sum_over (at_place (gain_by trades f prices) contracts) (length contracts) x
    +ℤ paid_for firm trades f prices (bundle_by trades f firm.count contracts x)
unfolding bundle_to
part_paid firms trades network f firm is contracts x is_part prices =
    sum_over-same_terms (payment trades f contracts) (λ k. at_place (gain_by trades f prices) contracts k
    +ℤ at_place (paid_at trades f prices) contracts k) x (length contracts)
    (λ k below member. payment-gain trades f prices contracts k)
    ∙ sum_over-plus (at_place (gain_by trades f prices) contracts) (at_place (paid_at trades f prices) contracts)
    (length contracts) x
    ∙ ap (λ (z : ℤ). sum_over (at_place (gain_by trades f prices) contracts) (length contracts) x +ℤ z)
    (paid_to_part firms trades network f firm is contracts x is_part prices (length contracts) (omega arith))
