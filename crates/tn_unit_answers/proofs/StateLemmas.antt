-- An equilibrium of usable units is a state of a session.
use Rattle.std.proofs.Common.{◌≡◌, ℕ, ◌+◌, ◌<◌, ◌≤◌, Bool, List, length, map, take, true, get_or, Some, refl, sym, ap, ◌∙◌, subst, arith, ℤ, pos}
use Rattle.std.specs.Prelude.{nat_lt, All}
use Rattle.std.specs.List.{range_with_len}
use Rattle.std.specs.List.Sorted.{IsStrictlyIncreasing}
use Rattle.std.proofs.lemmas.Int.{ints}
use Rattle.std.proofs.lemmas.List.{length-map}
use Rattle.std.proofs.lemmas.List.Elements.{All-get_or, All-weaker, filter_passes}
use Rattle.std.proofs.lemmas.List.FromFn.{length-range_with_len}
use Rattle.std.proofs.lemmas.Bool.{ltb-true}
use Rattle.std.proofs.lemmas.Option.{same_Some, slice_get-get_or}
use Rattle.tn_base.specs.Arcs.{IsAtMost}
use Rattle.tn_model.specs.declared.contract.Contract.{Contract}
use Rattle.tn_answer.specs.Apart.{IsNamedAnswer, IsNamedEntry, IsNamedUnitState}
use Rattle.tn_answer.specs.Kept.{HasAscendingTrades, IsAscendingUnitState, IsUnitBundle, IsWithinEntry, IsWithinPrices, IsWithinUnitState}
use Rattle.tn_names.specs.Named.{IsNamed}
use Rattle.tn_counts.specs.Counts.{AreCounts, CountFirm, HaveFirms, IsBestCount, IsEquilibriumByCounts, count_surplus, trade_at}
use Rattle.tn_counts.specs.Laminar.{firm_of, firms_of}
use Rattle.tn_counts.specs.Widths.{most_unit_price, most_unit_surplus}
use Rattle.tn_counts.specs.declared.market.UnitMarket.{UnitMarket}
use Rattle.tn_counts.specs.declared.trade.UnitTrade.{UnitTrade}
use Rattle.tn_counts.proofs.SurplusLemmas.{firm_at}
use Rattle.tn_counts.proofs.WelfareLemmas.{equilibria_efficient}
use Rattle.tn_read_units.specs.Documents.{IsUnitDocument}
use Rattle.tn_read_units.specs.Firms.{UnitDocument}
use Rattle.tn_read_units.specs.Worths.{written_firms}
use Rattle.tn_read_units.proofs.SameLemmas.{AreAlike, equilibria_alike, surplus_alike}
use Rattle.tn_said.specs.declared.said.Said.{Said}
use Rattle.tn_said.specs.declared.said.Said.TheVariants.{SessionByCounts}
use Rattle.tn_said.specs.declared.session.UnitEdit.{UnitEdit}
use Rattle.tn_said.specs.declared.session.UnitState.{UnitState}
use Rattle.tn_said.specs.declared.units.TradeUnits.{TradeUnits}
use Rattle.tn_tree.specs.Lists.{count_in, price_in}
use Rattle.tn_unit_answers.specs.Session.{IsUnitState, TellsUnitStates, admitted_after, count_entry, going, is_away_after, price_entry, priced, usable_after, usable_trades}
use Rattle.tn_unit_answers.specs.Standing.{IsMarketBetween}
use Rattle.tn_unit_answers.proofs.ListedLemmas.{numbers_ascend, of_each}
use Rattle.tn_unit_answers.proofs.SolutionLemmas.{ends_are, firms_count, surplus_within, trade_is}
use Rattle.tn_unit_answers.proofs.UsableLemmas.{usable_at, usable_count, usable_fewer, within_all}

module _ (doc : UnitDocument) (is : IsUnitDocument doc) (admitted : ℕ → ℕ) (away : ℕ → Bool)
    (within : AreCounts doc.head.trades admitted) where
  abbrev usable : List UnitTrade
  usable = usable_trades admitted away doc.head.trades

  -- the firms of a market between the same firms have the worths of the document
  alike : (market : UnitMarket) → IsMarketBetween doc market
      → AreAlike usable (firms_of market) (written_firms doc)
  alike market between = record {
    count = length-map (range_with_len 0 market.firms) (firm_of market) ∙ length-range_with_len 0 market.firms
        ∙ between.firms ∙ all;
    worths = λ f one other first second counts inside.
        ap (λ (firm : CountFirm). firm.worth counts) (firm_at market f one first).1
        ∙ between.worths f other second counts (within_all doc admitted away within counts inside);
  }
    where
      all : length doc.head.names.firms ≡ length (written_firms doc)
      all = let named = is.named in let count = firms_count doc.head.trades 0 doc.firms in omega (arith, named, count)

  ends : HaveFirms (length (written_firms doc)) usable
  ends =
      let known = ends_are doc is in
      let count = usable_count doc admitted away in
      record {
        sellers = λ t inside.
            let below : t < length doc.head.trades = omega (arith, inside, count) in
            subst (λ (trade : UnitTrade). trade.seller < length (written_firms doc))
            (sym (usable_at doc admitted away t below)) (known.sellers t below);
        buyers = λ t inside.
            let below : t < length doc.head.trades = omega (arith, inside, count) in
            subst (λ (trade : UnitTrade). trade.buyer < length (written_firms doc))
            (sym (usable_at doc admitted away t below)) (known.buyers t below);
      }

  pub state_is : (market : UnitMarket) (counts : List ℕ) (prices : List ℤ) (surplus : ℤ) (state : UnitState)
      → IsMarketBetween doc market → market.trades.items ≡ usable
      → IsEquilibriumByCounts (firms_of market) market.trades.items (pos 1) (count_in counts) (price_in prices)
      → count_surplus (firms_of market) (count_in counts) ≡ Some surplus → length counts ≡ length market.trades.items
      → length prices ≡ length market.trades.items → state.on ≡ going counts
      → state.prices ≡ priced market.trades.items prices → state.surplus ≡ surplus
      → IsUnitState (written_firms doc) usable state
  state_is market counts prices surplus state between units equilibrium sum counted listed on_is prices_are surplus_is =
      let here = subst (λ (xs : List UnitTrade).
      IsEquilibriumByCounts (firms_of market) xs (pos 1) (count_in counts) (price_in prices)) units equilibrium in
      let firms = alike market between in
      let told = equilibria_alike (firms_of market) (written_firms doc) usable firms (pos 1) (count_in counts)
      (price_in prices) here in
      let best = equilibria_efficient (written_firms doc) usable (pos 1) (count_in counts) (price_in prices) ends
      (omega (arith, ints)) told in
      let found : surplus ≡ best.0 = same_Some surplus best.0 (sym sum
      ∙ surplus_alike usable (firms_of market) (written_firms doc) firms (count_in counts) best.1.within
      ∙ best.1.is) in
      record {
        counts = counts;
        counted = counted ∙ ap length units;
        on_is = on_is;
        prices = prices;
        priced_all = listed ∙ ap length units;
        prices_are = prices_are ∙ ap (λ (xs : List UnitTrade). priced xs prices) units;
        equilibrium = told;
        greatest = subst (IsBestCount usable (count_surplus (written_firms doc)) (count_in counts))
            (sym (surplus_is ∙ found)) best.1;
      }

  pub state_within : (prices : List ℤ) (state : UnitState) → IsUnitState (written_firms doc) usable state
      → state.prices ≡ priced usable prices → length prices ≡ length usable
      → All (λ price. IsAtMost price most_unit_price) prices → IsAtMost state.surplus most_unit_surplus
      → IsWithinUnitState state
  state_within prices state told prices_are listed small most = record {
    on = subst (All IsWithinEntry) (sym told.on_is)
        (of_each (λ entry. nat_lt 0 entry.units) (count_entry told.counts) (length told.counts) IsWithinEntry (λ t inside.
        let count = usable_count doc admitted away in
        let sized = told.counted in
        let below : t < length doc.head.trades = omega (arith, inside, sized, count) in
        let goes = told.greatest.within t (omega (arith, below, count)) in
        let less = usable_fewer doc admitted away within t below in
        let few = (trade_is doc is t below).few in
        omega (arith, goes, less, few)));
    prices = subst (All (λ (contract : Contract). IsWithinPrices contract.price)) (sym prices_are)
        (of_each (λ contract. nat_lt 0 (trade_at usable contract.trade).units) (price_entry prices) (length usable)
        (λ contract. IsWithinPrices contract.price) (λ t inside.
        let at = All-get_or (λ price. IsAtMost price most_unit_price) prices t (pos 0) (omega (arith, inside, listed)) small
        in
        record { low = omega (arith, ints, at.low); high = omega (arith, ints, at.high) }));
    surplus = surplus_within state.surplus most;
  }

-- ---- what a session says keeps the rules of answers

module _ (doc : UnitDocument) (is : IsUnitDocument doc) where
  state_known : (trades : List UnitTrade) → length trades ≡ length doc.head.trades → (state : UnitState)
      → IsUnitState (written_firms doc) trades state → IsNamedUnitState doc.head.names.trades state
  state_known trades count state told =
      let named = is.head.named in
      let sized = told.counted in
      record {
        on = subst (All (IsNamedEntry doc.head.names.trades)) (sym told.on_is)
            (of_each (λ entry. nat_lt 0 entry.units) (count_entry told.counts) (length told.counts)
            (IsNamedEntry doc.head.names.trades) (λ t inside. omega (arith, inside, sized, count, named)));
        prices = subst (All (λ (contract : Contract). IsNamed doc.head.names.trades contract.trade)) (sym told.prices_are)
            (of_each (λ contract. nat_lt 0 (trade_at trades contract.trade).units) (price_entry told.prices)
            (length trades) (λ contract. IsNamed doc.head.names.trades contract.trade)
            (λ t inside. omega (arith, inside, count, named)));
      }

  state_ascends : (trades : List UnitTrade) (state : UnitState) → IsUnitState (written_firms doc) trades state
      → IsAscendingUnitState state
  state_ascends trades state told = record {
    on = subst IsUnitBundle (sym told.on_is) (record {
      ascending = numbers_ascend (λ (entry : TradeUnits). nat_lt 0 entry.units) (count_entry told.counts)
          (λ entry. entry.trade) (λ t. refl) (length told.counts);
      some = All-weaker (λ entry. nat_lt 0 entry.units ≡ true) (λ entry. 1 ≤ entry.units)
          (λ entry some. ltb-true 0 entry.units some) (going told.counts)
          (filter_passes (λ entry. nat_lt 0 entry.units)
          (map (count_entry told.counts) (range_with_len 0 (length told.counts))));
    });
    prices = subst (λ (contracts : List Contract). IsStrictlyIncreasing (map (λ contract. contract.trade) contracts))
        (sym told.prices_are)
        (numbers_ascend (λ (contract : Contract). nat_lt 0 (trade_at trades contract.trade).units)
        (price_entry told.prices) (λ contract. contract.trade) (λ t. refl) (length trades));
  }

  pub session_named : (edits : List UnitEdit) (said : Said) → TellsUnitStates doc edits said
      → IsNamedAnswer doc.head.names said
  session_named edits (SessionByCounts states) told = λ k d below.
      state_known (usable_after (take (k + 1) edits) doc.head.trades)
      (usable_count doc (admitted_after (take (k + 1) edits) doc.head.trades) (is_away_after (take (k + 1) edits)))
      (get_or states k d) (told.each k (get_or states k d) (slice_get-get_or states k d below))
  session_named edits said told = absurd told

  pub session_ascends : (edits : List UnitEdit) (said : Said) → TellsUnitStates doc edits said → HasAscendingTrades said
  session_ascends edits (SessionByCounts states) told = λ k d below.
      state_ascends (usable_after (take (k + 1) edits) doc.head.trades) (get_or states k d)
      (told.each k (get_or states k d) (slice_get-get_or states k d below))
  session_ascends edits said told = absurd told
