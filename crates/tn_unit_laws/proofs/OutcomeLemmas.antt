-- Outcomes by counts are rational and completed exactly where their unit contracts are: the trades of the split network are
-- kinds of unit trades.
use Rattle.std.proofs.Common.{◌≡◌, ℕ, zero, suc, ◌+◌, ◌-◌, ◌^◌, ◌<◌, Bool, true, false, ◌==◌, ◌&&◌, ◌||◌, nat_lt, if◌then◌else◌, List, [], ◌∷◌, length, slice_get, Option, Some, option_map, refl, sym, ap, ◌∙◌, subst, arith, ℤ, pos}
use Rattle.std.specs.Prelude.{◌↔◌}
use Rattle.std.proofs.lemmas.Bool.{lt-ltb}
use Rattle.std.proofs.lemmas.List.{length-map}
use Rattle.std.proofs.lemmas.Option.{none-some, same_Some, slice_get-map}
use Rattle.tn_base.specs.Firm.{Firm, IsBest}
use Rattle.tn_base.specs.Sets.{has}
use Rattle.tn_base.proofs.SetLemmas.{has-set_of, has_below}
use Rattle.tn_model.specs.Network.{own, part}
use Rattle.tn_market.specs.Best.{IsBestBetween, IsSubset}
use Rattle.tn_market.specs.Equilibrium.{utility_at}
use Rattle.tn_market.specs.Signed.{signed, signed_bundle, signed_price}
use Rattle.tn_network_laws.proofs.PoolLemmas.{signed_at}
use Rattle.tn_outcome_laws.proofs.RationalLemmas.{between_signed, inside_signed, rational_by_bundles}
use Rattle.tn_counts.specs.Counts.{CountFirm, IsBestCount, count_utility}
use Rattle.tn_counts.specs.Outcomes.{AreUnitContracts, all_signed, contract_at, joined, prices_beside, split_firms, split_trades, unsigned_units}
use Rattle.tn_counts.specs.declared.contract.UnitContract.{UnitContract}
use Rattle.tn_counts.specs.declared.trade.UnitTrade.{UnitTrade}
use Rattle.tn_unit_laws.specs.Laws.{CompletedByCounts, FitByCounts, RationalByCounts, UnitContractsAreOfContracts}
use Rattle.tn_unit_laws.specs.Outcomes.{signed_twins, split_of, split_price, unit_contracts}
use Rattle.tn_unit_laws.specs.Units.{DependsOnOwn, counts_of, is_own, own_units, trade_of, twins_before, unit_count, unit_firm, unit_firms, unit_trades}
use Rattle.tn_unit_laws.proofs.CountLemmas.{count-same}
use Rattle.tn_unit_laws.proofs.UnitLemmas.{comes_from, length-units, unit_firm_at}
use Rattle.tn_unit_laws.proofs.BundleLemmas.{fits_network}
use Rattle.tn_unit_laws.proofs.PaymentLemmas.{bundle_below, own_below}
use Rattle.tn_unit_laws.proofs.SplitLemmas.{joined_counts, joined_same, split_free, split_signed}
use Rattle.tn_unit_laws.proofs.UnitContractLemmas.{all_units_signed, are_contracts, each_has, feasible, has_trade, kind_on, kind_within, kinds, left_in, on_has, on_kind, signed_kind_is, signed_kinds, set_priced, signed_on_has, split_sized, split_trade}
use Rattle.tn_unit_laws.proofs.KindLemmas.{IsBestOfKinds, IsOfKinds, best_by_kinds, kinds_of}

-- the firm by counts that a firm of a split network comes from
pub record SplitFrom (contracts : List UnitContract) (firms : List CountFirm) (f : ℕ) (fellow : CountFirm) : Type 0 where
  pub firm : CountFirm
  pub is : slice_get firms f ≡ Some firm
  pub same : record { worth = λ counts. firm.worth (joined contracts counts) } ≡ fellow

pub split_from : (contracts : List UnitContract) (firms : List CountFirm) (f : ℕ) (fellow : CountFirm)
    → slice_get (split_firms contracts firms) f ≡ Some fellow → SplitFrom contracts firms f fellow
split_from contracts [] f fellow at = absurd (none-some fellow at)
split_from contracts (firm ∷ firms) zero fellow at = record {
  firm = firm;
  is = refl;
  same = same_Some (record { worth = λ counts. firm.worth (joined contracts counts) }) fellow at;
}
split_from contracts (firm ∷ firms) (suc f) fellow at =
    let rest = split_from contracts firms f fellow at in
    record { firm = rest.firm; is = rest.is; same = rest.same }

module _ (firms : List CountFirm) (trades : List UnitTrade) (fit : FitByCounts firms trades)
    (contracts : List UnitContract) (together : AreUnitContracts trades contracts) where
  -- ---- split networks fit together

  module _ (free : ℕ → ℕ) where
    abbrev split : List UnitTrade
    split = split_trades trades contracts free

    split_own : (f : ℕ) (firm : CountFirm) → slice_get firms f ≡ Some firm
        → DependsOnOwn split f (record { worth = λ counts. firm.worth (joined contracts counts) })
    split_own f firm is counts others same =
        fit.own f firm is (joined contracts counts) (joined contracts others)
        (λ t below mine. joined_same contracts counts others t
        (same (length contracts + t) (let sized = split_sized trades contracts free in omega (arith, sized, below))
        (ap (λ (trade : UnitTrade). trade.seller == f || trade.buyer == f) (split_free trades contracts free t below)
        ∙ mine))
        (λ k inside trade_is. same k (let sized = split_sized trades contracts free in omega (arith, sized, inside))
        (ap (λ (trade : UnitTrade). trade.seller == f || trade.buyer == f) (split_signed trades contracts free k inside)
        ∙ ap (is_own trades f) trade_is ∙ mine)))

    pub split_fit : FitByCounts (split_firms contracts firms) split
    split_fit = record {
      ends = record {
        sellers = λ s below.
            let from = has_trade trades contracts together free s below in
            let there = fit.ends.sellers from.trade from.inside in
            let same = from.seller in
            let sized = length-map firms (λ (firm : CountFirm).
            let one : CountFirm = record { worth = λ counts. firm.worth (joined contracts counts) } in one) in
            omega (arith, there, same, sized);
        buyers = λ s below.
            let from = has_trade trades contracts together free s below in
            let there = fit.ends.buyers from.trade from.inside in
            let same = from.buyer in
            let sized = length-map firms (λ (firm : CountFirm).
            let one : CountFirm = record { worth = λ counts. firm.worth (joined contracts counts) } in one) in
            omega (arith, there, same, sized);
      };
      apart = λ s below e.
          let from = has_trade trades contracts together free s below in
          fit.apart from.trade from.inside (sym from.seller ∙ e ∙ from.buyer);
      own = λ f fellow at.
          let from = split_from contracts firms f fellow at in
          subst (DependsOnOwn split f) from.same (split_own f from.firm from.is);
    }

  -- the trade of the split network that a unit trade is of
  abbrev kind : ℕ → ℕ
  kind u = split_of contracts (trade_of trades u) (twins_before trades u)

  -- the same of signed ones alone
  abbrev signed_kind : ℕ → ℕ
  signed_kind u = if nat_lt (kind u) (length contracts) then kind u else length contracts + length trades

  abbrev on : ℕ
  on = signed_twins trades contracts

  -- ---- one firm

  module _ (f : ℕ) (firm : CountFirm) (is : slice_get firms f ≡ Some firm) where
    abbrev n : ℕ
    n = own_units trades f

    abbrev fellow : CountFirm
    fellow = record { worth = λ counts. firm.worth (joined contracts counts) }

    pub fellow_is : slice_get (split_firms contracts firms) f ≡ Some fellow
    fellow_is =
        slice_get-map (λ (one : CountFirm).
        let split_one : CountFirm = record { worth = λ counts. one.worth (joined contracts counts) } in split_one) firms f
        ∙ ap (option_map (λ (one : CountFirm).
        let split_one : CountFirm = record { worth = λ counts. one.worth (joined contracts counts) } in split_one)) is

    worth_is : (x : ℕ) → firm.worth (joined contracts (kinds_of trades kind f x)) ≡ firm.worth (counts_of trades f x)
    worth_is x =
        fit.own f firm is (joined contracts (kinds_of trades kind f x)) (counts_of trades f x)
        (λ t below mine. joined_counts (λ k. trade_of trades (own (unit_trades trades) f k)) n contracts (has x)
        (λ k. twins_before trades (own (unit_trades trades) f k)) t)

    pub signed_worth_is : (x : ℕ) → IsOfKinds trades (split_trades trades contracts (λ t. 0)) signed_kind f x
        → firm.worth (joined contracts (kinds_of trades signed_kind f x)) ≡ firm.worth (counts_of trades f x)
    signed_worth_is x of =
        fit.own f firm is (joined contracts (kinds_of trades signed_kind f x)) (joined contracts (kinds_of trades kind f x))
        (λ t below mine. joined_same contracts (kinds_of trades signed_kind f x) (kinds_of trades kind f x) t
        (each (length contracts + t)) (λ k inside same. each k)) ∙ worth_is x
      where
        by : (s k : ℕ) → k < n → (b : Bool) → has x k ≡ b → (b && s == signed_kind (own (unit_trades trades) f k))
            ≡ (b && s == kind (own (unit_trades trades) f k))
        by s k below true there =
            ap (λ (j : ℕ). s == j) (signed_kind_is trades contracts together (own (unit_trades trades) f k)
            (left_in trades contracts together (own (unit_trades trades) f k) (let inside = of k below there in
            let sized = split_sized trades contracts (λ t. 0) in omega (arith, inside, sized))))
        by s k below false away = refl

        each : (s : ℕ) → kinds_of trades signed_kind f x s ≡ kinds_of trades kind f x s
        each s = count-same (λ k. has x k && s == signed_kind (own (unit_trades trades) f k))
            (λ k. has x k && s == kind (own (unit_trades trades) f k)) n (λ k below. by s k below (has x k) refl)

    -- the firm's bundle of all that is signed
    abbrev all : ℕ
    all = part (unit_trades trades) f n on

    has_all : (k : ℕ) → k < n → has all k ≡ has on (own (unit_trades trades) f k)
    has_all k below = has-set_of (λ i. has on (own (unit_trades trades) f i)) n k
        ∙ ap (λ (b : Bool). b && has on (own (unit_trades trades) f k)) (lt-ltb k n below)

    -- a bundle lies within it exactly where all its twins are signed
    pub of_signed : (x : ℕ) → IsSubset x all → IsOfKinds trades (split_trades trades contracts (λ t. 0)) signed_kind f x
    of_signed x inside k below there =
        let u_below = own_below firms trades fit f firm is k below in
        let signed = kind_on trades contracts together (own (unit_trades trades) f k) u_below (sym (has_all k below) ∙ inside k there) in
        let same = signed_kind_is trades contracts together (own (unit_trades trades) f k) signed in
        let sized = split_sized trades contracts (λ t. 0) in
        omega (arith, signed, same, sized)

    pub signed_of : (x : ℕ) → x < 2 ^ n → IsOfKinds trades (split_trades trades contracts (λ t. 0)) signed_kind f x
        → IsSubset x all
    signed_of x within of k there =
        let below = has_below x n k within there in
        let sized = split_sized trades contracts (λ t. 0) in
        let inside = of k below there in
        has_all k below
        ∙ on_kind trades contracts together (own (unit_trades trades) f k) (own_below firms trades fit f firm is k below)
        (left_in trades contracts together (own (unit_trades trades) f k) (omega (arith, inside, sized)))

    of_all : (x : ℕ)
        → IsOfKinds trades (split_trades trades contracts (unsigned_units trades contracts)) kind f x
    of_all x k below there =
        let inside = kind_within trades contracts together (own (unit_trades trades) f k) (own_below firms trades fit f firm is k below) in
        let sized = split_sized trades contracts (unsigned_units trades contracts) in
        omega (arith, inside, sized)

    module _ (over : ℤ) where
      -- ---- rational

      abbrev signed_utility : ℕ → Option ℤ
      signed_utility x = utility_at (unit_trades trades) over (signed_price (unit_contracts trades contracts)) f
          (unit_firm trades f firm) x

      priced : (u : ℕ) → u < unit_count trades → signed_kind u < length (split_trades trades contracts (λ t. 0))
          → signed_price (unit_contracts trades contracts) u ≡ prices_beside contracts (λ t. pos 0) (signed_kind u)
      priced u below inside =
          let sized = split_sized trades contracts (λ t. 0) in
          let signed = left_in trades contracts together u (omega (arith, inside, sized)) in
          set_priced on (split_price trades contracts (λ t. pos 0)) (length (unit_trades trades)) (unit_contracts trades contracts)
          (are_contracts trades contracts together) u (let long = length-units trades (unit_count trades) in
          omega (arith, below, long)) (on_kind trades contracts together u below signed)
          ∙ sym (ap (prices_beside contracts (λ t. pos 0)) (signed_kind_is trades contracts together u signed))

      best_signed : (value : ℤ)
          → IsBestCount (split_trades trades contracts (λ t. 0))
          (count_utility (split_trades trades contracts (λ t. 0)) over (prices_beside contracts (λ t. pos 0)) f fellow)
          (all_signed contracts) value ↔ IsBestOfKinds trades (split_trades trades contracts (λ t. 0)) signed_kind f
          (utility_at (unit_trades trades) over (signed_price (unit_contracts trades contracts)) f (unit_firm trades f firm))
          all value
      best_signed value =
          best_by_kinds firms trades fit f firm is (split_firms contracts firms) (split_trades trades contracts (λ t. 0))
          (split_fit (λ t. 0)) fellow fellow_is signed_kind (signed_kinds trades contracts together) over (prices_beside contracts (λ t. pos 0))
          (signed_price (unit_contracts trades contracts)) priced signed_worth_is on (all_signed contracts) value
          (λ s below. signed_on_has trades contracts together s) (of_signed all (λ k there. there))

      to_between : (value : ℤ)
          → IsBestOfKinds trades (split_trades trades contracts (λ t. 0)) signed_kind f
          (utility_at (unit_trades trades) over (signed_price (unit_contracts trades contracts)) f (unit_firm trades f firm))
          all value → IsBestBetween 0 all signed_utility all value
      to_between value best = record {
        is = best.is;
        between = between_signed all all (λ k there. there);
        most = λ y other between at_y. best.most y other (of_signed y (inside_signed y all between)) at_y;
      }

      from_between : (value : ℤ) → IsBestBetween 0 all signed_utility all value
          → IsBestOfKinds trades (split_trades trades contracts (λ t. 0)) signed_kind f
          (utility_at (unit_trades trades) over (signed_price (unit_contracts trades contracts)) f (unit_firm trades f firm))
          all value
      from_between value best = record {
        is = best.is;
        most = λ y other of at_y. best.most y other (between_signed y all (signed_of y
            (bundle_below firms trades fit f firm is over (signed_price (unit_contracts trades contracts)) y other at_y)
            of)) at_y;
      }

      -- ---- completed

      module _ (prices : ℕ → ℤ) where
        best_completed : (value : ℤ)
            → IsBestCount (split_trades trades contracts (unsigned_units trades contracts))
            (count_utility (split_trades trades contracts (unsigned_units trades contracts)) over
            (prices_beside contracts prices) f fellow) (all_signed contracts) value
            ↔ IsBestOfKinds trades (split_trades trades contracts (unsigned_units trades contracts)) kind f
            (utility_at (unit_trades trades) over (split_price trades contracts prices) f (unit_firm trades f firm)) all value
        best_completed value =
            best_by_kinds firms trades fit f firm is (split_firms contracts firms)
            (split_trades trades contracts (unsigned_units trades contracts))
            (split_fit (unsigned_units trades contracts)) fellow fellow_is kind (kinds trades contracts together) over (prices_beside contracts prices)
            (split_price trades contracts prices) (λ u below inside. refl) (λ x of. worth_is x) on (all_signed contracts) value
            (λ s below. on_has trades contracts together s) (of_all all)

-- ---- the laws

pub contracts_are_of : UnitContractsAreOfContracts
contracts_are_of = record { feasible = feasible; each = each_has; own = split_trade }

pub rational_is_by_counts : RationalByCounts
rational_is_by_counts firms trades over contracts fit together =
    let bundles = rational_by_bundles (unit_firms trades firms) (unit_trades trades) over (unit_contracts trades contracts)
    (fits_network firms trades fit) (feasible trades contracts together) in (
      (λ rational. bundles.1 (λ f unit at.
          let from = comes_from trades 0 firms f f unit (omega arith) at in
          subst (λ (one : Firm). Signed f one) from.same (to f from.firm from.is
          (rational f (record { worth = λ counts. from.firm.worth (joined contracts counts) })
          (fellow_is firms trades fit contracts together f from.firm from.is))))),
      (λ rational. λ f fellow at.
          let from = split_from contracts firms f fellow at in
          subst (λ (one : CountFirm). ByCounts f one) from.same (back f from.firm from.is
          (bundles.0 rational f (unit_firm trades f from.firm)
          (unit_firm_at trades 0 firms f f from.firm (omega arith) from.is)))),
    )
  where
    Signed : ℕ → Firm → Type 0
    Signed f one = (value : ℤ) × IsBestBetween 0 (signed_bundle (unit_trades trades) (unit_contracts trades contracts) f one)
        (utility_at (unit_trades trades) over (signed_price (unit_contracts trades contracts)) f one)
        (signed_bundle (unit_trades trades) (unit_contracts trades contracts) f one) value

    ByCounts : ℕ → CountFirm → Type 0
    ByCounts f one = (value : ℤ) × IsBestCount (split_trades trades contracts (λ t. 0))
        (count_utility (split_trades trades contracts (λ t. 0)) over (prices_beside contracts (λ t. pos 0)) f one)
        (all_signed contracts) value

    Within : ℕ → CountFirm → ℤ → ℕ → Type 0
    Within f firm value set = IsBestBetween 0 (part (unit_trades trades) f (own_units trades f) set)
        (utility_at (unit_trades trades) over (signed_price (unit_contracts trades contracts)) f (unit_firm trades f firm))
        (part (unit_trades trades) f (own_units trades f) set) value

    to : (f : ℕ) (firm : CountFirm) → slice_get firms f ≡ Some firm
        → ByCounts f (record { worth = λ counts. firm.worth (joined contracts counts) })
        → Signed f (unit_firm trades f firm)
    to f firm is best = (
      best.0,
      subst (Within f firm best.0) (sym (all_units_signed trades contracts together))
          (to_between firms trades fit contracts together f firm is over best.0
          ((best_signed firms trades fit contracts together f firm is over best.0).0 best.1)),
    )

    back : (f : ℕ) (firm : CountFirm) → slice_get firms f ≡ Some firm → Signed f (unit_firm trades f firm)
        → ByCounts f (record { worth = λ counts. firm.worth (joined contracts counts) })
    back f firm is best = (
      best.0,
      (best_signed firms trades fit contracts together f firm is over best.0).1
          (from_between firms trades fit contracts together f firm is over best.0
          (subst (Within f firm best.0) (all_units_signed trades contracts together) best.1)),
    )

-- prices of unsigned units beside the contracts' prices are those of the unit contracts
pub agrees : (trades : List UnitTrade) (contracts : List UnitContract) → AreUnitContracts trades contracts
    → (prices : ℕ → ℤ) (u : ℕ) → u < unit_count trades → has (signed_twins trades contracts) u ≡ true
    → split_price trades contracts prices u ≡ split_price trades contracts (λ t. pos 0) u
agrees trades contracts together prices u below there =
    by (nat_lt s (length contracts)) (lt-ltb s (length contracts) (kind_on trades contracts together u below there))
  where
    s : ℕ
    s = split_of contracts (trade_of trades u) (twins_before trades u)

    by : (b : Bool) → b ≡ true → (if b then (contract_at contracts s).price else prices (s - length contracts))
        ≡ (if b then (contract_at contracts s).price else pos 0)
    by true e = refl
    by false e = absurd (cc e)

pub completed_is_by_counts : CompletedByCounts
completed_is_by_counts firms trades over contracts prices fit together = (
  (λ completes. record {
    agree = λ k contract at.
        let found = signed_at (signed_twins trades contracts) (split_price trades contracts (λ t. pos 0))
        (unit_count trades) k contract at in
        agrees trades contracts together prices contract.trade found.below found.there ∙ sym found.price;
    equilibrium = λ f unit at.
        let from = comes_from trades 0 firms f f unit (omega arith) at in
        subst (λ (one : Firm). Best f one) from.same (to f from.firm from.is
        (completes f (record { worth = λ counts. from.firm.worth (joined contracts counts) })
        (fellow_is firms trades fit contracts together f from.firm from.is)));
  }),
  (λ completes. λ f fellow at.
      let from = split_from contracts firms f fellow at in
      subst (λ (one : CountFirm). ByCounts f one) from.same (back f from.firm from.is
      (completes.equilibrium f (unit_firm trades f from.firm)
      (unit_firm_at trades 0 firms f f from.firm (omega arith) from.is)))),
)
  where
    Best : ℕ → Firm → Type 0
    Best f one = (value : ℤ) × IsBest (utility_at (unit_trades trades) over (split_price trades contracts prices) f one)
        (part (unit_trades trades) f one.count (signed (length (unit_trades trades)) (unit_contracts trades contracts))) value

    ByCounts : ℕ → CountFirm → Type 0
    ByCounts f one = (value : ℤ) × IsBestCount (split_trades trades contracts (unsigned_units trades contracts))
        (count_utility (split_trades trades contracts (unsigned_units trades contracts)) over
        (prices_beside contracts prices) f one) (all_signed contracts) value

    With : ℕ → CountFirm → ℤ → ℕ → Type 0
    With f firm value set =
        IsBest (utility_at (unit_trades trades) over (split_price trades contracts prices) f (unit_firm trades f firm))
        (part (unit_trades trades) f (own_units trades f) set) value

    to : (f : ℕ) (firm : CountFirm) → slice_get firms f ≡ Some firm
        → ByCounts f (record { worth = λ counts. firm.worth (joined contracts counts) }) → Best f (unit_firm trades f firm)
    to f firm is best =
        let found = (best_completed firms trades fit contracts together f firm is over prices best.0).0 best.1 in (
          best.0,
          subst (With f firm best.0) (sym (all_units_signed trades contracts together)) (record {
            is = found.is;
            most = λ y other at_y. found.most y other (of_all firms trades fit contracts together f firm is y) at_y;
          }),
        )

    back : (f : ℕ) (firm : CountFirm) → slice_get firms f ≡ Some firm → Best f (unit_firm trades f firm)
        → ByCounts f (record { worth = λ counts. firm.worth (joined contracts counts) })
    back f firm is best =
        let found = subst (With f firm best.0) (all_units_signed trades contracts together) best.1 in (
          best.0,
          (best_completed firms trades fit contracts together f firm is over prices best.0).1 (record {
            is = found.is;
            most = λ y other of at_y. found.most y other at_y;
          }),
        )
