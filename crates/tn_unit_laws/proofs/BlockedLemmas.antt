-- Where each firm can have some of what is signed, whatever contracts of single units block an outcome are offers by counts that do;
-- so it is stable by counts exactly where its unit contracts are stable.
use Rattle.std.proofs.Common.{◌≡◌, ℕ, Bool, true, false, ◌&&◌, nat_lt, List, slice_get, Some, inl, inr, sym, ap₂, ◌∙◌, subst, arith, ℤ, pos, ◌+ℤ◌, ◌*ℤ◌}
use Rattle.std.proofs.lemmas.Bool.{and_parts, cases_Bool, lt-ltb, ltb-true}
use Rattle.tn_base.specs.Firm.{Firm}
use Rattle.tn_base.specs.Sets.{has}
use Rattle.tn_base.proofs.SetLemmas.{has-set_of, set_of_within}
use Rattle.tn_firm_laws.proofs.KeepLemmas.{option_map-some}
use Rattle.tn_model.specs.declared.contract.Contract.{Contract}
use Rattle.tn_model.specs.Choices.{Blocks, IsStable}
use Rattle.tn_model.specs.Network.{own, part}
use Rattle.tn_counts.specs.Counts.{AreCounts, CountFirm, payments}
use Rattle.tn_counts.specs.Laminar.{firms_of}
use Rattle.tn_counts.specs.Outcomes.{AreUnitContracts, IsRationalByCounts, IsStableByCounts, all_signed, joined, prices_beside, signed_units, split_trades}
use Rattle.tn_counts.specs.declared.contract.UnitContract.{UnitContract}
use Rattle.tn_counts.specs.declared.trade.UnitTrade.{UnitTrade}
use Rattle.tn_market.specs.Best.{IsSubset}
use Rattle.tn_unit_laws.specs.Laws.{BlockedByUnits, FitByCounts, StableByCounts}
use Rattle.tn_unit_laws.specs.Outcomes.{CanHaveSome, signed_twins, single_offers, split_price, unit_contracts}
use Rattle.tn_unit_laws.specs.Units.{counts_of, first_units, own_units, trade_of, twins_before, unit_count, unit_firm, unit_firms, unit_trades}
use Rattle.tn_unit_laws.proofs.UnitLemmas.{comes_from}
use Rattle.tn_unit_laws.proofs.MarketLemmas.{markets_fit, markets_have_nothing}
use Rattle.tn_unit_laws.proofs.BundleLemmas.{counts_of_part, fits_network}
use Rattle.tn_unit_laws.proofs.EquilibriumLemmas.{first_have}
use Rattle.tn_unit_laws.proofs.SplitLemmas.{joined_signed}
use Rattle.tn_unit_laws.proofs.TwinLemmas.{unit_worth}
use Rattle.tn_unit_laws.proofs.UnitContractLemmas.{are_contracts}
use Rattle.tn_unit_laws.proofs.OutcomeLemmas.{fellow_is, rational_is_by_counts}
use Rattle.tn_unit_laws.proofs.FreshLemmas.{HaveSome, is_fresh}
use Rattle.tn_unit_laws.proofs.SingleLemmas.{singles_block}
use Rattle.tn_unit_laws.proofs.BlockLemmas.{blocked_is_by_counts}

-- ---- what firms can have

module _ (firms : List CountFirm) (trades : List UnitTrade) (fit : FitByCounts firms trades)
    (contracts : List UnitContract) (together : AreUnitContracts trades contracts) where
  -- where each firm can have some of what is signed, unit firms can have some of the signed twins
  units_have : CanHaveSome firms contracts
      → HaveSome (unit_firms trades firms) (unit_trades trades) (signed_twins trades contracts)
  units_have can f unit at =
      let from = comes_from trades 0 firms f f unit (omega arith) at in
      subst HasSome from.same (has_some from.firm from.is)
    where
      HasSome : Firm → Type 0
      HasSome one = (y : ℕ) × IsSubset y (part (unit_trades trades) f one.count (signed_twins trades contracts))
          × (worth : ℤ) × (one.worth y ≡ Some worth)

      has_some : (firm : CountFirm) → slice_get firms f ≡ Some firm → HasSome (unit_firm trades f firm)
      has_some firm is =
          (part (unit_trades trades) f n (first_units trades counts), inside, (can f firm is).2, worth_is)
        where
          n : ℕ
          n = own_units trades f

          counts : ℕ → ℕ
          counts = (can f firm is).0

          within : AreCounts trades counts
          within t below =
              let few = (can f firm is).1 t in
              let all = together.within t below in
              omega (arith, few, all)

          inside : IsSubset (part (unit_trades trades) f n (first_units trades counts))
              (part (unit_trades trades) f n (signed_twins trades contracts))
          inside k there =
              let parts = and_parts (nat_lt k n) (has (first_units trades counts) (own (unit_trades trades) f k))
              (sym (has-set_of (λ i. has (first_units trades counts) (own (unit_trades trades) f i)) n k) ∙ there) in
              has-set_of (λ i. has (signed_twins trades contracts) (own (unit_trades trades) f i)) n k
              ∙ ap₂ (λ (a b : Bool). a && b) parts.0 (signed_too (own (unit_trades trades) f k) parts.1)
            where
              signed_too : (u : ℕ) → has (first_units trades counts) u ≡ true → has (signed_twins trades contracts) u ≡ true
              signed_too u there =
                  let parts = and_parts (nat_lt u (unit_count trades)) (nat_lt (twins_before trades u) (counts (trade_of trades u)))
                  (sym (has-set_of (λ v. nat_lt (twins_before trades v) (counts (trade_of trades v))) (unit_count trades) u)
                  ∙ there) in
                  let less = ltb-true (twins_before trades u) (counts (trade_of trades u)) parts.1 in
                  let few = (can f firm is).1 (trade_of trades u) in
                  has-set_of (λ v. nat_lt (twins_before trades v) (signed_units contracts (trade_of trades v)))
                  (unit_count trades) u
                  ∙ ap₂ (λ (a b : Bool). a && b) parts.0
                  (lt-ltb (twins_before trades u) (signed_units contracts (trade_of trades u)) (omega (arith, less, few)))

          worth_is : (unit_firm trades f firm).worth (part (unit_trades trades) f n (first_units trades counts))
              ≡ Some (can f firm is).2
          worth_is =
              unit_worth firms trades fit f firm is (part (unit_trades trades) f n (first_units trades counts))
              (set_of_within (λ k. has (first_units trades counts) (own (unit_trades trades) f k)) n)
              ∙ fit.own f firm is (counts_of trades f (part (unit_trades trades) f n (first_units trades counts))) counts
              (λ t below mine. counts_of_part firms trades fit f firm is (first_units trades counts) t mine
              ∙ first_have trades counts within t below)
              ∙ (can f firm is).3

  -- where an outcome is rational, each firm can have all of it
  rational_can : (d : ℤ) → IsRationalByCounts firms trades d contracts → CanHaveSome firms contracts
  rational_can d rational f firm is =
      let best = rational f (record { worth = λ counts. firm.worth (joined contracts counts) })
      (fellow_is firms trades fit contracts together f firm is) in
      let worth = option_map-some (λ w. d *ℤ w
      +ℤ payments (split_trades trades contracts (λ t. 0)) (prices_beside contracts (λ t. pos 0)) f (all_signed contracts))
      (firm.worth (joined contracts (all_signed contracts))) best.0 best.1.is in (
        signed_units contracts,
        λ t. omega arith,
        worth.0,
        sym (fit.own f firm is (joined contracts (all_signed contracts)) (signed_units contracts)
            (λ t below mine. joined_signed contracts t)) ∙ worth.1,
      )

  -- ---- offers are on unsigned twins

  is_unsigned : CanHaveSome firms contracts → (d e : ℤ) (offers : List Contract)
      → Blocks (unit_firms trades firms) (unit_trades trades) d (unit_contracts trades contracts) e offers
      → (k : ℕ) (offer : Contract) → slice_get offers k ≡ Some offer
      → has (signed_twins trades contracts) offer.trade ≡ false
  is_unsigned can d e offers blocks k offer at = elim (cases_Bool (has (signed_twins trades contracts) offer.trade)) [
    | inr away ↦ away
    | inl there ↦ absurd (is_fresh (unit_firms trades firms) (unit_trades trades) (fits_network firms trades fit) d e
        (signed_twins trades contracts) (split_price trades contracts (λ t. pos 0)) (unit_contracts trades contracts) offers
        (are_contracts trades contracts together) (units_have can) blocks k offer at there)
  ]

  -- ---- stable

  stable_units : CanHaveSome firms contracts → (d : ℤ) → IsStableByCounts firms trades d contracts
      → IsStable (unit_firms trades firms) (unit_trades trades) d (unit_contracts trades contracts)
  stable_units can d stable e offers from_one blocks =
      stable e (single_offers trades offers) from_one
      (singles_block firms trades fit d contracts together e offers blocks.feasible
      (is_unsigned can d e offers blocks) blocks)

-- ---- the laws

pub blocked_is_by_units : BlockedByUnits
blocked_is_by_units = record {
  unsigned = λ firms trades d contracts e offers fit together can.
      is_unsigned firms trades fit contracts together can d e offers;
  by_counts = λ firms trades d contracts e offers fit together unsigned blocks.
      singles_block firms trades fit d contracts together e offers blocks.feasible unsigned blocks;
}

pub stable_is_by_counts : StableByCounts
stable_is_by_counts = record {
  stable = λ firms trades d contracts fit together can. (
    stable_units firms trades fit contracts together can d,
    blocked_is_by_counts.stable firms trades d contracts fit,
  );
  of_market = λ market d contracts is together. (
    stable_units (firms_of market) market.trades.items (markets_fit market is) contracts together
        (λ f firm at.
        let none = markets_have_nothing market is f firm at in (λ t. 0, λ t. omega arith, none.0, none.1)) d,
    blocked_is_by_counts.stable (firms_of market) market.trades.items d contracts (markets_fit market is),
  );
  rational = λ firms trades d contracts fit together. (
    (λ both. (
      (rational_is_by_counts firms trades d contracts fit together).0 both.0,
      stable_units firms trades fit contracts together (rational_can firms trades fit contracts together d both.0) d both.1,
    )),
    (λ both. (
      (rational_is_by_counts firms trades d contracts fit together).1 both.0,
      blocked_is_by_counts.stable firms trades d contracts fit both.1,
    )),
  );
}
