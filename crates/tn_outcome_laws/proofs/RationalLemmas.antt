-- Parts of an outcome and bundles of signed trades: which are best among the one are best among the other.
use Rattle.std.proofs.Common.{◌≡◌, ℕ, zero, suc, ◌^◌, ◌<◌, Bool, true, false, ◌==◌, ◌&&◌, ◌||◌, ltb, if◌then◌else◌, List, length, slice_get, Some, None, Option, option_map, refl, sym, ap, ◌∙◌, subst, arith, inl, inr, ◌↔◌, ℤ, pos, ◌+ℤ◌, ◌-ℤ◌, neg_ℤ, ◌*ℤ◌}
use Rattle.std.specs.Prelude.{unwrap_or}
use Rattle.std.proofs.lemmas.Int.{ints}
use Rattle.std.proofs.lemmas.Bool.{cases_Bool, cases_eq, eqb-true, eq-eqb, and_parts, and_from, or_cases, or_left, or_right, lt-ltb, true≢false}
use Rattle.std.proofs.lemmas.Option.{slice_get_within}
use Rattle.tn_base.specs.Sets.{has, set_of, sum_over}
use Rattle.tn_base.specs.Firm.{Firm}
use Rattle.tn_base.proofs.SetLemmas.{same_below, has-set_of, has-union, has-zero, has_below, set_of_within, within_from}
use Rattle.tn_model.specs.declared.ends.Ends.{Ends}
use Rattle.tn_model.specs.declared.contract.Contract.{Contract}
use Rattle.tn_model.specs.Network.{own, IsNetwork}
use Rattle.tn_market.specs.Best.{IsSubset, IsBetween, IsBestBetween}
use Rattle.tn_model.specs.Choices.{is_of, paid_to, paid_by, payment, is_traded, bundle_by, part_utility, own_part, IsFeasible, IsPart, IsChoice, IsIndividuallyRational}
use Rattle.tn_market.specs.Signed.{is_signed, signed, signed_price, signed_bundle, contract_utility, HaveBestSigned}
use Rattle.tn_network_laws.proofs.PartLemmas.{at_place, at_place-is, at_place-none, gain_by, own_once, traded_at, traded_by, part_paid}
use Rattle.tn_network_laws.proofs.StabilityLemmas.{no_gains, own_is_of}
use Rattle.tn_outcome_laws.proofs.SignedLemmas.{contract_on, signed_by, price_of_contract, has-signed_bundle}

-- a firm of a network, with contracts that can be signed together
pub record IsSigner (firms : List Firm) (trades : List Ends) (contracts : List Contract) (f : ℕ) (firm : Firm) : Type
    0 where
  pub network : IsNetwork firms trades
  pub feasible : IsFeasible trades contracts
  pub is : slice_get firms f ≡ Some firm

-- ---- the utility of a part

-- at the contracts' own prices no contract gains
no_gain : (trades : List Ends) (contracts : List Contract) → IsFeasible trades contracts → (f k : ℕ)
    → at_place (gain_by trades f (signed_price contracts)) contracts k ≡ pos 0
no_gain trades contracts feasible f k = by_case (slice_get contracts k) refl
  where
    nothing : (o : Option Ends) → unwrap_or (option_map (paid_to f (pos 0)) o) (pos 0) ≡ pos 0
    nothing None = refl
    nothing (Some trade) = by_end (trade.seller == f) (trade.buyer == f)
      where
        by_end : (a b : Bool) → (if a then pos 0 else (if b then neg_ℤ (pos 0) else pos 0)) ≡ pos 0
        by_end true b = refl
        by_end false true = refl
        by_end false false = refl

    minus : (a b : ℤ) → b ≡ a → a -ℤ b ≡ pos 0
    minus a b e = omega (arith, ints, e)

    by_case : (o : Option Contract) → slice_get contracts k ≡ o
        → at_place (gain_by trades f (signed_price contracts)) contracts k ≡ pos 0
    by_case None there = at_place-none (gain_by trades f (signed_price contracts)) contracts k there
    by_case (Some contract) there =
        at_place-is (gain_by trades f (signed_price contracts)) contracts k contract there
        ∙ ap (λ (z : ℤ). paid_by trades f (record { trade = contract.trade; price = z }))
        (minus contract.price (signed_price contracts contract.trade)
        (price_of_contract contracts feasible.once k contract there))
        ∙ nothing (slice_get trades contract.trade)

-- so a part has the utility of its bundle
pub part_is_bundle : (firms : List Firm) (trades : List Ends) (over : ℤ) (contracts : List Contract) (f : ℕ)
    (firm : Firm) → IsSigner firms trades contracts f firm
    → (x : ℕ) → IsPart trades f contracts x
    → part_utility trades over f firm contracts x ≡ contract_utility trades over contracts f firm
    (bundle_by trades f firm.count contracts x)
part_is_bundle firms trades over contracts f firm signer x is_part =
    ap (λ (z : ℤ). option_map (λ worth. over *ℤ worth +ℤ z) (firm.worth (bundle_by trades f firm.count contracts x)))
    (pays (sum_over (payment trades f contracts) (length contracts) x) _ _
    (part_paid firms trades signer.network f firm signer.is contracts x is_part (signed_price contracts))
    (no_gains (at_place (gain_by trades f (signed_price contracts)) contracts) (length contracts) x
    (λ k below member. no_gain trades contracts signer.feasible f k)))
  where
    pays : (p g q : ℤ) → p ≡ g +ℤ q → g ≡ pos 0 → p ≡ q
    pays p g q sum none = omega (arith, ints, sum, none)

-- ---- the bundle of a part

-- a part that takes the firm's contracts on wanted trades has the bundle of the signed ones among these
wanted_bundle : (firms : List Firm) (trades : List Ends) (contracts : List Contract) (f : ℕ) (firm : Firm)
    → IsSigner firms trades contracts f firm
    → (x z : ℕ) (wanted : ℕ → Bool)
    → ((k : ℕ) (contract : Contract) → slice_get contracts k ≡ Some contract → is_of trades f contract ≡ true
    → wanted contract.trade ≡ true → has x k ≡ true)
    → ((k : ℕ) (contract : Contract) → slice_get contracts k ≡ Some contract → has x k ≡ true
    → wanted contract.trade ≡ true)
    → z < 2 ^ firm.count
    → ((i : ℕ) → i < firm.count → has z i ≡ (wanted (own trades f i) && is_signed contracts (own trades f i)))
    → bundle_by trades f firm.count contracts x ≡ z
wanted_bundle firms trades contracts f firm signer x z wanted takes only z_within z_is =
    same_below (bundle_by trades f firm.count contracts x) z firm.count
    (set_of_within (λ k. is_traded contracts x (own trades f k) (length contracts)) firm.count) z_within
    (λ i below. has-set_of (λ k. is_traded contracts x (own trades f k) (length contracts)) firm.count i
    ∙ ap (λ (b : Bool). b && is_traded contracts x (own trades f i) (length contracts)) (lt-ltb i firm.count below)
    ∙ agree i below ∙ sym (z_is i below))
  where
    both : (a b : Bool) → (a && b) ≡ false → (a ≡ true → b ≡ true → ⊥)
    both true true e p q = absurd (cc e)
    both true false e p q = absurd (cc q)
    both false b e p q = absurd (cc p)

    agree : (i : ℕ) → i < firm.count → is_traded contracts x (own trades f i) (length contracts)
        ≡ (wanted (own trades f i) && is_signed contracts (own trades f i))
    agree i below = elim (cases_Bool (wanted (own trades f i) && is_signed contracts (own trades f i))) [
      | inl there ↦
          let parts = and_parts (wanted (own trades f i)) (is_signed contracts (own trades f i)) there in
          let found = contract_on contracts (own trades f i) parts.1 in
          traded_by contracts x (own trades f i) (length contracts) found.place found.contract
          (slice_get_within contracts found.place found.contract found.is)
          (takes found.place found.contract found.is (own_is_of trades f i found.contract
          (signer.network.whole f i firm signer.is below) found.trade)
          (ap wanted found.trade ∙ parts.0)) found.is found.trade
          ∙ sym there
      | inr away ↦ elim (cases_Bool (is_traded contracts x (own trades f i) (length contracts))) [
        | inr untraded ↦ untraded ∙ sym away
        | inl traded ↦
            let at = traded_at contracts x (own trades f i) (length contracts) traded in
            absurd (both (wanted (own trades f i)) (is_signed contracts (own trades f i)) away
            (ap wanted (sym at.trade) ∙ only at.place at.contract at.is at.member)
            (signed_by contracts at.place (own trades f i) at.contract at.is at.trade))
      ]
    ]

-- the bundle of any part has signed trades alone
pub bundle_signed : (firms : List Firm) (trades : List Ends) (contracts : List Contract) (f : ℕ) (firm : Firm)
    → IsSigner firms trades contracts f firm
    → (x : ℕ) → IsSubset (bundle_by trades f firm.count contracts x) (signed_bundle trades contracts f firm)
bundle_signed firms trades contracts f firm signer x k there =
    let below = has_below (bundle_by trades f firm.count contracts x) firm.count k
    (set_of_within (λ i. is_traded contracts x (own trades f i) (length contracts)) firm.count) there in
    let traded =
    sym (ap (λ (b : Bool). b && is_traded contracts x (own trades f k) (length contracts))
    (lt-ltb k firm.count below))
    ∙ sym (has-set_of (λ i. is_traded contracts x (own trades f i) (length contracts)) firm.count k) ∙ there in
    let at = traded_at contracts x (own trades f k) (length contracts) traded in
    has-signed_bundle firms trades signer.network contracts f k firm signer.is below
    ∙ signed_by contracts at.place (own trades f k) at.contract at.is at.trade

-- ---- the part of a bundle

-- whether trade t stands at one of the first n positions that is in the bundle
pub is_in : List Ends → ℕ → ℕ → ℕ → ℕ → Bool
is_in trades f zero z t = false
is_in trades f (suc n) z t = (has z n && own trades f n == t) || is_in trades f n z t

in_from : (trades : List Ends) (f n z t k : ℕ) → k < n → has z k ≡ true → own trades f k ≡ t
    → is_in trades f n z t ≡ true
unfolding is_in
in_from trades f zero z t k below member trade = absurd (omega (arith, below))
in_from trades f (suc n) z t k below member trade = elim (cases_eq k n) [
  | inl e ↦ or_left (has z n && own trades f n == t) (is_in trades f n z t)
      (and_from (has z n) (own trades f n == t) (ap (has z) (sym e) ∙ member)
      (eq-eqb (own trades f n) t (ap (own trades f) (sym e) ∙ trade)))
  | inr d ↦ or_right (has z n && own trades f n == t) (is_in trades f n z t)
      (in_from trades f n z t k (omega (arith, below, d)) member trade)
]

in_at : (trades : List Ends) (f n z t : ℕ) → is_in trades f n z t ≡ true → (k : ℕ) × (k < n) × (has z k ≡ true)
    × (own trades f k ≡ t)
unfolding is_in
in_at trades f zero z t e = absurd (cc e)
in_at trades f (suc n) z t e = elim (or_cases (has z n && own trades f n == t) (is_in trades f n z t) e) [
  | inl here ↦ let parts = and_parts (has z n) (own trades f n == t) here in
      (n, omega arith, parts.0, eqb-true (own trades f n) t parts.1)
  | inr before ↦ let found = in_at trades f n z t before in let below = found.1 in
      (found.0, omega (arith, below), found.2, found.3)
]

pub in_is : (firms : List Firm) (trades : List Ends) → IsNetwork firms trades → (f : ℕ) (firm : Firm)
    → slice_get firms f ≡ Some firm → (z i : ℕ) → i < firm.count
    → is_in trades f firm.count z (own trades f i) ≡ has z i
in_is firms trades network f firm is z i below = elim (cases_Bool (has z i)) [
  | inl there ↦ in_from trades f firm.count z (own trades f i) i below there refl ∙ sym there
  | inr away ↦ elim (cases_Bool (is_in trades f firm.count z (own trades f i))) [
    | inr out ↦ out ∙ sym away
    | inl inside ↦
        let found = in_at trades f firm.count z (own trades f i) inside in
        let same = own_once firms trades network f firm is found.0 i found.1 below found.3 in
        absurd (true≢false (sym found.2 ∙ ap (has z) same ∙ away))
  ]
]

-- whether a contract of the list is one of firm f on a wanted trade
is_wanted : List Ends → ℕ → List Contract → (ℕ → Bool) → ℕ → Bool
is_wanted trades f contracts wanted k =
    unwrap_or (option_map (λ contract. is_of trades f contract && wanted contract.trade) (slice_get contracts k)) false

wanted_at : (trades : List Ends) (f : ℕ) (contracts : List Contract) (wanted : ℕ → Bool) (k : ℕ) (contract : Contract)
    → slice_get contracts k ≡ Some contract
    → is_wanted trades f contracts wanted k ≡ (is_of trades f contract && wanted contract.trade)
unfolding is_wanted
wanted_at trades f contracts wanted k contract is =
    ap (λ (o : Option Contract). unwrap_or (option_map (λ c. is_of trades f c && wanted c.trade) o) false) is

-- the contracts of firm f on wanted trades
pub wanted_part : List Ends → ℕ → List Contract → (ℕ → Bool) → ℕ
wanted_part trades f contracts wanted = set_of (is_wanted trades f contracts wanted) (length contracts)

wanted_member : (trades : List Ends) (f : ℕ) (contracts : List Contract) (wanted : ℕ
    → Bool) (k : ℕ) (contract : Contract) → slice_get contracts k ≡ Some contract
    → has (wanted_part trades f contracts wanted) k ≡ (is_of trades f contract && wanted contract.trade)
unfolding wanted_part
wanted_member trades f contracts wanted k contract is =
    has-set_of (is_wanted trades f contracts wanted) (length contracts) k
    ∙ ap (λ (b : Bool). b && is_wanted trades f contracts wanted k)
    (lt-ltb k (length contracts) (slice_get_within contracts k contract is))
    ∙ wanted_at trades f contracts wanted k contract is

pub wanted_is_part : (trades : List Ends) (contracts : List Contract) → IsFeasible trades contracts
    → (f : ℕ) (wanted : ℕ → Bool) → IsPart trades f contracts (wanted_part trades f contracts wanted)
unfolding wanted_part
wanted_is_part trades contracts feasible f wanted = record {
  within = set_of_within (is_wanted trades f contracts wanted) (length contracts);
  own = λ k contract is member. (and_parts (is_of trades f contract) (wanted contract.trade)
      (sym (wanted_member trades f contracts wanted k contract is) ∙ member)).0;
  once = λ j k one other one_is other_is j_member k_member same. feasible.once j k one other one_is other_is same;
}

-- all contracts of the firm are those where every trade is wanted
own_is_wanted : (trades : List Ends) (f : ℕ) (contracts : List Contract)
    → own_part trades f contracts ≡ wanted_part trades f contracts (λ t. true)
unfolding wanted_part is_wanted
own_is_wanted trades f contracts =
    same_below _ _ (length contracts)
    (set_of_within (λ k. unwrap_or (option_map (is_of trades f) (slice_get contracts k)) false) (length contracts))
    (set_of_within (is_wanted trades f contracts (λ t. true)) (length contracts))
    (λ k below. has-set_of (λ j. unwrap_or (option_map (is_of trades f) (slice_get contracts j)) false)
    (length contracts) k
    ∙ ap (λ (b : Bool). ltb k (length contracts) && b) (by_case (slice_get contracts k))
    ∙ sym (has-set_of (is_wanted trades f contracts (λ t. true)) (length contracts) k))
  where
    and_true : (b : Bool) → b ≡ (b && true)
    and_true true = refl
    and_true false = refl

    by_case : (o : Option Contract) → unwrap_or (option_map (is_of trades f) o) false
        ≡ unwrap_or (option_map (λ contract. is_of trades f contract && true) o) false
    by_case None = refl
    by_case (Some contract) = and_true (is_of trades f contract)

pub own_is_part : (trades : List Ends) (contracts : List Contract) → IsFeasible trades contracts → (f : ℕ)
    → IsPart trades f contracts (own_part trades f contracts)
own_is_part trades contracts feasible f =
    subst (IsPart trades f contracts) (sym (own_is_wanted trades f contracts))
    (wanted_is_part trades contracts feasible f (λ t. true))

-- the bundle of the wanted contracts
pub part_bundle : (firms : List Firm) (trades : List Ends) (contracts : List Contract) (f : ℕ) (firm : Firm)
    → IsSigner firms trades contracts f firm → (wanted : ℕ → Bool) (z : ℕ)
    → z < 2 ^ firm.count
    → ((i : ℕ) → i < firm.count → has z i ≡ (wanted (own trades f i) && is_signed contracts (own trades f i)))
    → bundle_by trades f firm.count contracts (wanted_part trades f contracts wanted) ≡ z
part_bundle firms trades contracts f firm signer wanted z within is =
    wanted_bundle firms trades contracts f firm signer (wanted_part trades f contracts wanted) z wanted
    (λ k contract there of want. wanted_member trades f contracts wanted k contract there
    ∙ and_from (is_of trades f contract) (wanted contract.trade) of want)
    (λ k contract there member. (and_parts (is_of trades f contract) (wanted contract.trade)
    (sym (wanted_member trades f contracts wanted k contract there) ∙ member)).1)
    within is

pub own_bundle : (firms : List Firm) (trades : List Ends) (contracts : List Contract) (f : ℕ) (firm : Firm)
    → IsSigner firms trades contracts f firm
    → bundle_by trades f firm.count contracts (own_part trades f contracts) ≡ signed_bundle trades contracts f firm
own_bundle firms trades contracts f firm signer =
    ap (bundle_by trades f firm.count contracts) (own_is_wanted trades f contracts)
    ∙ part_bundle firms trades contracts f firm signer (λ t. true) (signed_bundle trades contracts f firm)
    (set_of_within (λ k. has (signed (length trades) contracts) (own trades f k)) firm.count)
    (λ i below. has-signed_bundle firms trades signer.network contracts f i firm signer.is below)

-- ---- parts and bundles

-- a part of the signed trades is between nothing and them
pub between_signed : (y given : ℕ) → IsSubset y given → IsBetween 0 given y
between_signed y given inside = (
  λ k there. absurd (true≢false (sym there ∙ has-zero k)),
  λ k there. has-union 0 given k ∙ or_right (has 0 k) (has given k) (inside k there),
)

pub inside_signed : (y given : ℕ) → IsBetween 0 given y → IsSubset y given
inside_signed y given between k there =
    elim (or_cases (has 0 k) (has given k) (sym (has-union 0 given k) ∙ between.1 k there)) [
      | inl e ↦ absurd (true≢false (sym e ∙ has-zero k))
      | inr e ↦ e
    ]

-- a choice is a part with a best bundle of signed trades
pub choice_to_bundles : (firms : List Firm) (trades : List Ends) (over : ℤ) (contracts : List Contract) (f : ℕ)
    (firm : Firm) → IsSigner firms trades contracts f firm → (x : ℕ)
    → (choice : IsChoice trades over f firm contracts x)
    → IsBestBetween 0 (signed_bundle trades contracts f firm) (contract_utility trades over contracts f firm)
    (bundle_by trades f firm.count contracts x) choice.value
choice_to_bundles firms trades over contracts f firm signer x choice = record {
  is = sym (part_is_bundle firms trades over contracts f firm signer x choice.part) ∙ choice.is;
  between = between_signed (bundle_by trades f firm.count contracts x) given
      (bundle_signed firms trades contracts f firm signer x);
  most = λ y other between y_is.
      let inside = inside_signed y given between in
      let bundle =
      part_bundle firms trades contracts f firm signer (is_in trades f firm.count y) y (within y inside)
      (same y inside) in
      choice.most (wanted_part trades f contracts (is_in trades f firm.count y)) other
      (wanted_is_part trades contracts signer.feasible f (is_in trades f firm.count y))
      (part_is_bundle firms trades over contracts f firm signer
      (wanted_part trades f contracts (is_in trades f firm.count y))
      (wanted_is_part trades contracts signer.feasible f (is_in trades f firm.count y))
      ∙ ap (contract_utility trades over contracts f firm) bundle ∙ y_is);
}
  where
    given : ℕ
    given = signed_bundle trades contracts f firm

    given_within : given < 2 ^ firm.count
    given_within = set_of_within (λ k. has (signed (length trades) contracts) (own trades f k)) firm.count

    within : (y : ℕ) → IsSubset y (signed_bundle trades contracts f firm) → y < 2 ^ firm.count
    within y inside = within_from y firm.count (λ k above. elim (cases_Bool (has y k)) [
      | inr out ↦ out
      | inl there ↦
          let below = has_below (signed_bundle trades contracts f firm) firm.count k
          (set_of_within (λ j. has (signed (length trades) contracts) (own trades f j)) firm.count) (inside k there)
          in
          absurd (omega (arith, above, below))
    ])

    with_signed : (b s : Bool) → (b ≡ true → s ≡ true) → b ≡ (b && s)
    with_signed true s h = sym (h refl)
    with_signed false s h = refl

    same : (y : ℕ) → IsSubset y (signed_bundle trades contracts f firm) → (i : ℕ) → i < firm.count
        → has y i ≡ (is_in trades f firm.count y (own trades f i) && is_signed contracts (own trades f i))
    same y inside i below =
        with_signed (has y i) (is_signed contracts (own trades f i))
        (λ there. sym (has-signed_bundle firms trades signer.network contracts f i firm signer.is below)
        ∙ inside i there)
        ∙ ap (λ (b : Bool). b && is_signed contracts (own trades f i))
        (sym (in_is firms trades signer.network f firm signer.is y i below))

rational_to_bundles : (firms : List Firm) (trades : List Ends) (over : ℤ) (contracts : List Contract) (f : ℕ)
    (firm : Firm) → IsSigner firms trades contracts f firm
    → (choice : IsChoice trades over f firm contracts (own_part trades f contracts))
    → IsBestBetween 0 (signed_bundle trades contracts f firm) (contract_utility trades over contracts f firm)
    (signed_bundle trades contracts f firm) choice.value
rational_to_bundles firms trades over contracts f firm signer choice =
    subst (λ (z : ℕ). IsBestBetween 0 (signed_bundle trades contracts f firm)
    (contract_utility trades over contracts f firm) z choice.value)
    (own_bundle firms trades contracts f firm signer)
    (choice_to_bundles firms trades over contracts f firm signer (own_part trades f contracts) choice)

pub rational_from_bundles : (firms : List Firm) (trades : List Ends) (over : ℤ) (contracts : List Contract) (f : ℕ)
    (firm : Firm) → IsSigner firms trades contracts f firm → (value : ℤ)
    → IsBestBetween 0 (signed_bundle trades contracts f firm) (contract_utility trades over contracts f firm)
    (signed_bundle trades contracts f firm) value
    → IsChoice trades over f firm contracts (own_part trades f contracts)
rational_from_bundles firms trades over contracts f firm signer value best = record {
  part = own_is_part trades contracts signer.feasible f;
  value = value;
  is =
      part_is_bundle firms trades over contracts f firm signer (own_part trades f contracts)
      (own_is_part trades contracts signer.feasible f)
      ∙ ap (contract_utility trades over contracts f firm) (own_bundle firms trades contracts f firm signer) ∙ best.is;
  most = λ y other y_part y_is.
      best.most (bundle_by trades f firm.count contracts y) other
      (between_signed (bundle_by trades f firm.count contracts y) (signed_bundle trades contracts f firm)
      (bundle_signed firms trades contracts f firm signer y))
      (sym (part_is_bundle firms trades over contracts f firm signer y y_part) ∙ y_is);
}

pub rational_by_bundles : (firms : List Firm) (trades : List Ends) (over : ℤ) (contracts : List Contract)
    → IsNetwork firms trades → IsFeasible trades contracts
    → IsIndividuallyRational firms trades over contracts ↔ HaveBestSigned firms trades over contracts
rational_by_bundles firms trades over contracts network feasible = (
  λ rational f firm is.
      let signer : IsSigner firms trades contracts f firm = record { network = network; feasible = feasible; is = is }
      in
      ((rational f firm is).value, rational_to_bundles firms trades over contracts f firm signer (rational f firm is)),
  λ best f firm is.
      let signer : IsSigner firms trades contracts f firm = record { network = network; feasible = feasible; is = is }
      in
      rational_from_bundles firms trades over contracts f firm signer (best f firm is).0 (best f firm is).1,
)
