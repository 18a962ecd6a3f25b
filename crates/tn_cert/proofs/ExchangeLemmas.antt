-- The test of firms one after another, and its reasons in positions and in trades.
use Rattle.std.proofs.Common.{◌≡◌, ◌⊎◌, ℕ, zero, suc, ◌+◌, ◌≤◌, List, [], ◌∷◌, ◌++◌, length, map, Bool, true, false, if◌then◌else◌, Some, option_map, refl, sym, ap, ap₂, ◌∙◌, subst, arith, inl, inr}
use Rattle.std.specs.Prelude.{slice_get}
use Rattle.std.proofs.lemmas.Bool.{cases_eq}
use Rattle.std.proofs.lemmas.List.{length-map, map-append}
use Rattle.std.proofs.lemmas.Option.{same_Some, slice_get_within}
use Rattle.tn_base.specs.Sets.{has}
use Rattle.tn_market.specs.Widths.{most_worth}
use Rattle.tn_base.specs.Firm.{Firm, HasOwnBundles}
use Rattle.tn_base.specs.Exchange.{MeetsExchange, NoneFails}
use Rattle.tn_base.proofs.ExchangeLemmas.{exchange_from_none_fails, none_fails_from_exchange}
use Rattle.tn_exchange.proofs.RowLemmas.{own_bundles}
use Rattle.tn_exchange.specs.TestOrder.{Triple}
use Rattle.tn_firm.specs.declared.raw.RawFirm.{RawFirm}
use Rattle.tn_firm.specs.declared.raw.RawFirm.TheVariants.{Table, Laminar, Middle, Dealer}
use Rattle.tn_firm.specs.declared.value.FirmValue.TheVariants.{Laminar as LaminarValue, Middle as MiddleValue, Dealer as DealerValue}
use Rattle.tn_firm.specs.FirmLemmas.{firm_laws}
use Rattle.tn_firm.specs.Raw.{raw_firm_of}
use Rattle.tn_local.specs.First.{IsFirstTriple}
use Rattle.tn_model.specs.declared.ends.Ends.{Ends}
use Rattle.tn_market.specs.Lawful.{IsLawful}
use Rattle.tn_model.specs.Network.{own, trades_of, trades_on}
use Rattle.tn_price.proofs.JudgeLemmas.{firm_is}
use Rattle.tn_cert.specs.Reasons.{MeetBefore, IsFirstToFail}

-- only bundles of own trades have a worth, whatever the kind
raw_own_bundles : (raw : RawFirm) → HasOwnBundles (raw_firm_of raw)
raw_own_bundles (Table table) = own_bundles table
raw_own_bundles (Laminar firm) = (firm_laws (LaminarValue firm)).own_bundles
raw_own_bundles (Middle firm) = (firm_laws (MiddleValue firm)).own_bundles
raw_own_bundles (Dealer firm) = (firm_laws (DealerValue firm)).own_bundles

none_fails_lawful : (firm : Firm) → IsLawful most_worth firm → NoneFails firm
none_fails_lawful firm laws =
    none_fails_from_exchange firm (record { one = laws.exchange_one; net_count = laws.exchange_net })

-- laminar firms, middlemen and dealers meet exchange
pub none_fails_of_kind : (raw : RawFirm) → ((firm : _) × (raw ≡ Laminar firm))
    ⊎ (((firm : _) × (raw ≡ Middle firm)) ⊎ ((firm : _) × (raw ≡ Dealer firm))) → NoneFails (raw_firm_of raw)
none_fails_of_kind raw (inl (firm, is)) =
    subst (λ (it : RawFirm). NoneFails (raw_firm_of it)) (sym is) (none_fails_lawful _ (firm_laws (LaminarValue firm)))
none_fails_of_kind raw (inr (inl (firm, is))) =
    subst (λ (it : RawFirm). NoneFails (raw_firm_of it)) (sym is) (none_fails_lawful _ (firm_laws (MiddleValue firm)))
none_fails_of_kind raw (inr (inr (firm, is))) =
    subst (λ (it : RawFirm). NoneFails (raw_firm_of it)) (sym is) (none_fails_lawful _ (firm_laws (DealerValue firm)))

-- each firm before the next one meets exchange, where this one has no failing triple
pub one_more_meets : (firms : List RawFirm) (f : ℕ) (raw : RawFirm) → slice_get firms f ≡ Some raw
    → NoneFails (raw_firm_of raw)
    → MeetBefore (map raw_firm_of firms) f → MeetBefore (map raw_firm_of firms) (f + 1)
one_more_meets firms f raw there holds before g firm below is = elim (cases_eq g f) [
  | inr d ↦ before g firm (omega (arith, below, d)) is
  | inl e ↦
      let same : raw_firm_of raw ≡ firm =
      same_Some (raw_firm_of raw) firm (sym (firm_is raw_firm_of firms f raw there)
      ∙ ap (slice_get (map raw_firm_of firms)) (sym e) ∙ is) in
      subst MeetsExchange same (exchange_from_none_fails (raw_firm_of raw) (raw_own_bundles raw) holds)
]

pub all_meet : (firms : List RawFirm) (f : ℕ) → length firms ≤ f → MeetBefore (map raw_firm_of firms) f
    → (g : ℕ) (firm : Firm) → slice_get (map raw_firm_of firms) g ≡ Some firm → MeetsExchange firm
all_meet firms f end before g firm is =
    before g firm (omega (arith, end, length-map firms raw_firm_of, slice_get_within (map raw_firm_of firms) g firm is))
    is

-- the trades of a bundle are those at its positions
positions_named : (trades : List Ends) (f n x : ℕ) → map (own trades f) (trades_on x n) ≡ trades_of trades f n x
positions_named trades f zero x = refl
positions_named trades f (suc n) x =
    map-append (own trades f) (trades_on x n) (if has x n then n ∷ [] else [])
    ∙ ap₂ (λ (xs ys : List ℕ). xs ++ ys) (positions_named trades f n x) (last (has x n))
  where
    last : (b : Bool) → map (own trades f) (if b then n ∷ [] else []) ≡ (if b then own trades f n ∷ [] else [])
    last true = refl
    last false = refl

-- the first firm that fails, with the trades at the positions of its first triple
pub first_to_fail : (firms : List RawFirm) (trades : List Ends) (f : ℕ) (raw : RawFirm) (triple : Triple) (count : ℕ)
    (xs ys : List ℕ) → MeetBefore (map raw_firm_of firms) f
    → slice_get firms f ≡ Some raw → IsFirstTriple (raw_firm_of raw) triple → count ≡ (raw_firm_of raw).count
    → xs ≡ trades_on triple.x count → ys ≡ trades_on triple.y count
    → IsFirstToFail (map raw_firm_of firms) trades f (map (own trades f) xs) (map (own trades f) ys)
    (option_map (own trades f) triple.at)
first_to_fail firms trades f raw triple count xs ys before there first counted xs_are ys_are = record {
  before = before;
  firm = raw_firm_of raw;
  is = firm_is raw_firm_of firms f raw there;
  triple = triple;
  first = first;
  x_is = ap (map (own trades f)) xs_are ∙ positions_named trades f count triple.x
      ∙ ap (λ (n : ℕ). trades_of trades f n triple.x) counted;
  y_is = ap (map (own trades f)) ys_are ∙ positions_named trades f count triple.y
      ∙ ap (λ (n : ℕ). trades_of trades f n triple.y) counted;
  at_is = refl;
}
