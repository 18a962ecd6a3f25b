-- Offers at the prices of a taxed market block the outcome: who chose without one of its own would be taxed less for what is
-- best in the taxed market.
use Rattle.std.proofs.Common.{◌≡◌, ℕ, zero, suc, ◌+◌, ◌-◌, ◌*◌, ◌<◌, ◌≤◌, Bool, true, false, ◌==◌, if◌then◌else◌, List, ◌++◌, length, Option, Some, None, option_map, refl, sym, ap, ◌∙◌, subst, arith, inl, inr, ℤ, pos, ◌+ℤ◌, ◌-ℤ◌, ◌*ℤ◌, ◌≤ℤ◌}
use Rattle.std.specs.Prelude.{◌<ℤ◌, nat_lt}
use Rattle.std.proofs.lemmas.Int.{ints}
use Rattle.std.proofs.lemmas.Bool.{cases_lt, eq-eqb, le-ltb, lt-ltb}
use Rattle.std.proofs.lemmas.List.Elements.{All-from_get_or}
use Rattle.std.proofs.lemmas.Option.{get_or_from_slice_get, none-some, same_Some, slice_get-get_or, slice_get_within}
use Rattle.std.proofs.Math.IntN.{*ℤ-zero, *ℤ-one}
use Rattle.tn_base.specs.Arcs.{IsAtMost}
use Rattle.tn_links.specs.Totals.{total}
use Rattle.tn_links.proofs.TotalLemmas.{times-below, total-same}
use Rattle.tn_counts.specs.Counts.{AreCounts, CountFirm, IsBestCount, count_utility, payments, trade_at}
use Rattle.tn_counts.specs.Laminar.{firm_of, firms_of}
use Rattle.tn_counts.specs.Markets.{IsUnitMarket}
use Rattle.tn_counts.specs.Outcomes.{AreUnitContracts, BlocksByCounts, HasEnd, contract_at, counted, prices_beside, signed_units, split_trades, together}
use Rattle.tn_counts.specs.Widths.{most_unit_surplus}
use Rattle.tn_counts.specs.declared.contract.UnitContract.{UnitContract}
use Rattle.tn_counts.specs.declared.market.UnitMarket.{UnitMarket}
use Rattle.tn_counts.specs.declared.trade.UnitTrade.{UnitTrade}
use Rattle.tn_counts.proofs.SurplusLemmas.{best_same}
use Rattle.tn_counts.proofs.UtilityLemmas.{when}
use Rattle.tn_tree.specs.Lists.{count_in, own_counts, price_in}
use Rattle.tn_tree.specs.Pinned.{IsSettledBeside}
use Rattle.tn_tree.specs.declared.beside.SettledBeside.{SettledBeside}
use Rattle.tn_unit_judge.specs.Blocks.{AreBlocking, AreOffersTo, IsTaxedMarket}
use Rattle.tn_unit_judge.specs.Completion.{contract_pins}
use Rattle.tn_unit_judge.proofs.BlockLemmas.{all_offered_at, all_signed_at, all_sized, from_most, known_offers, own_free, signed_append, signed_units_of, sold_within, taxed_counts, taxed_firms, taxed_free, taxed_signed, taxed_sized, total-less, utility_all, utility_taxed, free_units}
use Rattle.tn_unit_judge.proofs.DropLemmas.{firm_split}
use Rattle.tn_unit_judge.proofs.JoinLemmas.{AreKnown, signed_from, signed_is, signed_sum}
use Rattle.tn_unit_judge.proofs.SplitLemmas.{split_firm, split_free, split_signed, split_sized}
use Rattle.tn_unit_judge.proofs.TaxLemmas.{own_tax, tax_of}

-- ---- one unit, or none

abbrev one_at_most : ℤ → ℕ → ℤ
one_at_most c n = c *ℤ pos n

taxed_most : (f : ℕ) (trade : UnitTrade) (n : ℕ) → n ≤ 1 → (own_tax f trade *ℤ pos n) ≤ℤ (own_tax f trade *ℤ pos 1)
taxed_most f trade zero most =
    let none = *ℤ-zero (own_tax f trade) in
    let one = *ℤ-one (own_tax f trade) in
    let least = by (f == trade.seller) (f == trade.buyer) in
    omega (arith, ints, none, one, least)
  where
    by : (s b : Bool) → pos 0 ≤ℤ (when s (pos 1) +ℤ when b (pos 1))
    by true true = omega (arith, ints)
    by true false = omega (arith, ints)
    by false true = omega (arith, ints)
    by false false = omega (arith, ints)
taxed_most f trade (suc n) most =
    let place : suc n ≡ 1 = omega (arith, most) in
    let same = ap (λ (m : ℕ). own_tax f trade *ℤ pos m) place in
    omega (arith, ints, same)

-- an end of a trade is taxed
taxed_end : (f : ℕ) (trade : UnitTrade) → HasEnd f trade → pos 1 ≤ℤ own_tax f trade
taxed_end f trade (inl seller) =
    let test = ap (λ (b : Bool). when b (pos 1)) (eq-eqb f trade.seller (sym seller)) in
    let other = by (f == trade.buyer) in
    omega (arith, ints, test, other)
  where
    by : (b : Bool) → pos 0 ≤ℤ when b (pos 1)
    by true = omega (arith, ints)
    by false = omega (arith, ints)
taxed_end f trade (inr buyer) =
    let test = ap (λ (b : Bool). when b (pos 1)) (eq-eqb f trade.buyer (sym buyer)) in
    let other = by (f == trade.seller) in
    omega (arith, ints, test, other)
  where
    by : (b : Bool) → pos 0 ≤ℤ when b (pos 1)
    by true = omega (arith, ints)
    by false = omega (arith, ints)

module _ (market : UnitMarket) (over scale : ℕ) (contracts : List UnitContract) (free : ℕ → ℕ) (taxed : UnitMarket)
    (settled : SettledBeside) (offers : List UnitContract) (market_is : IsUnitMarket market)
    (known : AreKnown (length market.trades.items) contracts)
    (is : IsTaxedMarket market (over * scale) contracts free taxed)
    (found : IsSettledBeside taxed (contract_pins (counted (pos scale) contracts)) settled)
    (made : AreOffersTo (length contracts) settled.sold.items settled.prices.items (length market.trades.items) offers)
    (some : 1 ≤ over) where
  abbrev trades : List UnitTrade
  trades = market.trades.items

  abbrev prices : ℕ → ℤ
  prices = price_in settled.prices.items

  abbrev parts : List UnitTrade
  parts = split_trades market.trades.items contracts free

  abbrev all : List UnitContract
  all = contracts ++ offers

  abbrev choices : List UnitTrade
  choices = split_trades market.trades.items (contracts ++ offers) (λ t. 0)

  abbrev beside : ℕ → ℤ
  beside = prices_beside (together (pos over) contracts (pos (over * scale)) offers) (λ t. pos 0)

  abbrev own : ℕ → ℕ → ℕ
  own f = own_counts taxed.trades.items settled.sold.items settled.bought.items f

  abbrev turned : (ℕ → ℕ) → ℕ → ℕ
  turned counts = taxed_counts market over scale contracts free taxed settled market_is known is found offers made counts

  -- all offers, and of the contracts what is best in the taxed market
  abbrev full : ℕ → ℕ → ℕ
  full f k = if nat_lt k (length contracts) then own_counts taxed.trades.items settled.sold.items settled.bought.items f k
      else if nat_lt k (length contracts + length offers) then 1 else 0

  full_signed : (f k : ℕ) → k < length contracts → full f k ≡ own f k
  full_signed f k below =
      ap (λ (b : Bool). if b then own f k else if nat_lt k (length contracts + length offers) then 1 else 0)
      (lt-ltb k (length contracts) below)

  full_offered : (f j : ℕ) → j < length offers → full f (length contracts + j) ≡ 1
  full_offered f j below =
      ap (λ (b : Bool). if b then own f (length contracts + j)
      else if nat_lt (length contracts + j) (length contracts + length offers) then 1 else 0)
      (le-ltb (length contracts + j) (length contracts) (omega arith))
      ∙ ap (λ (b : Bool). if b then 1 else 0)
      (lt-ltb (length contracts + j) (length contracts + length offers) (omega (arith, below)))

  full_none : (f k : ℕ) → length contracts + length offers ≤ k → full f k ≡ 0
  full_none f k past =
      ap (λ (b : Bool). if b then own f k else if nat_lt k (length contracts + length offers) then 1 else 0)
      (le-ltb k (length contracts) (omega (arith, past)))
      ∙ ap (λ (b : Bool). if b then 1 else 0) (le-ltb k (length contracts + length offers) past)

  offer_units : (j : ℕ) → j < length offers → (contract_at offers j).units ≡ 1
  offer_units j below = (made.each j (contract_at offers j) (slice_get-get_or offers j (record {
    trade = 0;
    units = 0;
    price = pos 0;
  }) below)).1

  pub offered_is : (t : ℕ) → t < length market.trades.items
      → signed_units offers t ≡ count_in settled.sold.items (length contracts + t)
  offered_is t below = made.all t
      ∙ ap (λ (b : Bool). if b then count_in settled.sold.items (length contracts + t) else 0)
      (lt-ltb t (length market.trades.items) below)

  -- as counts of the taxed market these are the best ones
  turned_full : (f k : ℕ) → k < length taxed.trades.items → own f k ≡ turned (full f) k
  turned_full f k inside = elim (cases_lt k (length contracts)) [
    | inl signed ↦
        sym (taxed_signed market over scale contracts free taxed settled market_is known is found offers made (full f) k signed
        ∙ full_signed f k signed)
    | inr past ↦
        let long = taxed_sized market over scale contracts free taxed settled market_is known is found in
        let t : ℕ = k - length contracts in
        let below : t < length trades = omega (arith, past, inside, long) in
        let place : k ≡ length contracts + t = omega (arith, past) in
        ap (own f) place
        ∙ own_free market over scale contracts free taxed settled market_is known is found f t below
        ∙ sym (offered_is t below)
        ∙ sym (signed_is offers (full f) (length contracts) t
        (λ j here. full_offered f j here ∙ sym (offer_units j here)))
        ∙ sym (taxed_free market over scale contracts free taxed settled market_is known is found offers made (full f) t)
        ∙ sym (ap (turned (full f)) place)
  ]

  choices_sized : length choices ≡ length contracts + length offers + length market.trades.items
  choices_sized =
      let long = split_sized market.trades.items all (λ t. 0) in
      let sum = all_sized market over scale contracts free taxed settled market_is known is found offers made in
      omega (arith, long, sum)

  choice_signed : (k : ℕ) → k < length contracts → (trade_at choices k).units ≡ (contract_at contracts k).units
  choice_signed k below =
      let sum = all_sized market over scale contracts free taxed settled market_is known is found offers made in
      ap (λ (p : UnitTrade). p.units) (split_signed market.trades.items all (λ t. 0) k (omega (arith, below, sum)))
      ∙ ap (λ (c : UnitContract). c.units)
      (all_signed_at market over scale contracts free taxed settled market_is known is found offers made k below)

  choice_offered : (j : ℕ) → j < length offers → (trade_at choices (length contracts + j)).units ≡ 1
  choice_offered j below =
      let sum = all_sized market over scale contracts free taxed settled market_is known is found offers made in
      ap (λ (p : UnitTrade). p.units)
      (split_signed market.trades.items all (λ t. 0) (length contracts + j) (omega (arith, below, sum)))
      ∙ ap (λ (c : UnitContract). c.units)
      (all_offered_at market over scale contracts free taxed settled market_is known is found offers made j)
      ∙ offer_units j below

  choice_none : (counts : ℕ → ℕ) → AreCounts choices counts → (t : ℕ) → t < length market.trades.items
      → counts (length (contracts ++ offers) + t) ≡ 0
  choice_none counts within t below =
      let long = split_sized market.trades.items all (λ t. 0) in
      let most = within (length all + t) (omega (arith, below, long)) in
      let units = ap (λ (p : UnitTrade). p.units) (split_free market.trades.items all (λ t. 0) t below) in
      omega (arith, most, units)

  -- ---- a firm

  module _ (f : ℕ) (there : f < market.firms) where
    best : (value : ℤ) × IsBestCount taxed.trades.items
        (count_utility taxed.trades.items (pos 1) (price_in settled.prices.items) f (firm_of taxed f)) (turned (full f)) value
    best =
        let firms = taxed_firms market over scale contracts free taxed settled market_is known is found in
        let own_best = found.best f (omega (arith, there, firms)) in (
          own_best.0,
          best_same taxed (pos 1) (price_in settled.prices.items) f (own f) (turned (full f)) own_best.0
              (λ k inside. turned_full f k inside) own_best.1,
        )

    full_within : AreCounts choices (full f)
    full_within k inside = elim (cases_lt k (length contracts)) [
      | inl signed ↦
          let long = taxed_sized market over scale contracts free taxed settled market_is known is found in
          let firms = taxed_firms market over scale contracts free taxed settled market_is known is found in
          let most = (found.best f (omega (arith, there, firms))).1.within k (omega (arith, signed, long)) in
          let same = full_signed f k signed in
          let left =
          signed_units_of market over scale contracts free taxed settled market_is known is found k signed in
          let right = choice_signed k signed in
          omega (arith, most, same, left, right)
      | inr past ↦ elim (cases_lt k (length contracts + length offers)) [
        | inl offered ↦
            let j : ℕ = k - length contracts in
            let here : j < length offers = omega (arith, past, offered) in
            let place : k ≡ length contracts + j = omega (arith, past) in
            let one = ap (full f) place ∙ full_offered f j here in
            let units = ap (λ (i : ℕ). (trade_at choices i).units) place ∙ choice_offered j here in
            omega (arith, one, units)
        | inr none ↦ let zero_is = full_none f k none in omega (arith, zero_is)
      ]
    ]

    -- any choice is counts of the taxed market
    turned_within : (counts : ℕ → ℕ) → AreCounts choices counts → AreCounts taxed.trades.items (turned counts)
    turned_within counts within k inside = elim (cases_lt k (length contracts)) [
      | inl signed ↦
          let long = choices_sized in
          let most = within k (omega (arith, signed, long)) in
          let same =
          taxed_signed market over scale contracts free taxed settled market_is known is found offers made counts k signed in
          let left =
          signed_units_of market over scale contracts free taxed settled market_is known is found k signed in
          let right = choice_signed k signed in
          omega (arith, most, same, left, right)
      | inr past ↦
          let long = taxed_sized market over scale contracts free taxed settled market_is known is found in
          let t : ℕ = k - length contracts in
          let below : t < length trades = omega (arith, past, inside, long) in
          let place : k ≡ length contracts + t = omega (arith, past) in
          let turned_is = ap (turned counts) place
          ∙ taxed_free market over scale contracts free taxed settled market_is known is found offers made counts t in
          let most = from_most offers counts (length contracts) t (λ j here.
          let sized = choices_sized in
          let own_most = within (length contracts + j) (omega (arith, here, sized)) in
          let units = choice_offered j here in
          let single = offer_units j here in
          omega (arith, own_most, units, single)) in
          let sold = offered_is t below in
          let room = sold_within market over scale contracts free taxed settled market_is known is found t below in
          let units = ap (λ (i : ℕ). (trade_at taxed.trades.items i).units) place
          ∙ free_units market over scale contracts free taxed settled market_is known is found t below in
          omega (arith, turned_is, most, sold, room, units)
    ]

    -- what it is taxed for a choice
    taxed_by : (counts : ℕ → ℕ) → tax_of market.trades.items (length contracts) f (turned counts)
        ≡ total (λ j. own_tax f (trade_at trades (contract_at offers j).trade) *ℤ pos (counts (length contracts + j)))
        (length offers)
    taxed_by counts =
        total-same (λ t. own_tax f (trade_at trades t) *ℤ pos (turned counts (length contracts + t)))
        (λ t. own_tax f (trade_at trades t) *ℤ pos (signed_from offers counts (length contracts) t)) (length trades)
        (λ t below. ap (λ (n : ℕ). own_tax f (trade_at trades t) *ℤ pos n)
        (taxed_free market over scale contracts free taxed settled market_is known is found offers made counts t))
        ∙ signed_sum (λ t. own_tax f (trade_at trades t)) counts (length trades) offers (length contracts)
        (known_offers market over scale contracts free taxed settled market_is known is found offers made)

    -- a best choice is taxed no less than the best counts of the taxed market
    least_taxed : (counts : ℕ → ℕ) (value : ℤ)
        → IsBestCount choices (count_utility choices (pos over *ℤ pos (over * scale)) beside f
        (split_firm market (contracts ++ offers) f)) counts value
        → tax_of market.trades.items (length contracts) f (turned (full f))
        ≤ℤ tax_of market.trades.items (length contracts) f (turned counts)
    least_taxed counts value choice =
        by ((split_firm market contracts f).worth (turned (full f))) ((split_firm market contracts f).worth (turned counts)) refl
        refl
      where
        paid : (ℕ → ℕ) → ℤ
        paid c = payments parts prices f (turned c)

        taxes : (ℕ → ℕ) → ℤ
        taxes c = tax_of market.trades.items (length contracts) f (turned c)

        after_tax : (ℕ → ℕ) → ℤ → ℤ
        after_tax c w = (pos (over * scale) *ℤ w -ℤ taxes c) +ℤ paid c

        before_tax : (ℕ → ℕ) → ℤ → ℤ
        before_tax c w = pos over *ℤ (pos (over * scale) *ℤ w +ℤ paid c)

        in_taxed : (c : ℕ → ℕ) (o : Option ℤ) → (split_firm market contracts f).worth (turned c) ≡ o
            → count_utility taxed.trades.items (pos 1) prices f (firm_of taxed f) (turned c) ≡ option_map (after_tax c) o
        in_taxed c o worth =
            utility_taxed market over scale contracts free taxed settled market_is known is found f (turned c)
            ∙ ap (option_map (after_tax c)) worth

        in_choices : (c : ℕ → ℕ) (o : Option ℤ) → AreCounts choices c
            → (split_firm market contracts f).worth (turned c) ≡ o
            → count_utility choices (pos over *ℤ pos (over * scale)) beside f (split_firm market (contracts ++ offers) f) c
            ≡ option_map (before_tax c) o
        in_choices c o within worth =
            utility_all market over scale contracts free taxed settled market_is known is found offers made f c
            (choice_none c within)
            ∙ ap (option_map (before_tax c)) worth

        by : (o p : Option ℤ) → (split_firm market contracts f).worth (turned (full f)) ≡ o
            → (split_firm market contracts f).worth (turned counts) ≡ p → taxes (full f) ≤ℤ taxes counts
        by None p full_worth worth = absurd (none-some best.0 (sym (in_taxed (full f) None full_worth) ∙ best.1.is))
        by (Some v) None full_worth worth =
            absurd (none-some value (sym (in_choices counts None choice.within worth) ∙ choice.is))
        by (Some v) (Some w) full_worth worth =
            let full_is = same_Some (after_tax (full f) v) best.0
            (sym (in_taxed (full f) (Some v) full_worth) ∙ best.1.is) in
            let under = best.1.most (turned counts) (after_tax counts w) (turned_within counts choice.within)
            (in_taxed counts (Some w) worth) in
            let own_is = same_Some (before_tax counts w) value
            (sym (in_choices counts (Some w) choice.within worth) ∙ choice.is) in
            let most = choice.most (full f) (before_tax (full f) v) full_within
            (in_choices (full f) (Some v) full_within full_worth) in
            let below = times-below (pos over) (pos (over * scale) *ℤ v +ℤ paid (full f))
            (pos (over * scale) *ℤ w +ℤ paid counts) (omega (arith, ints, some)) (omega (arith, ints, most, own_is)) in
            omega (arith, ints, full_is, under, below)

    -- so it takes each of its own offers
    pub takes : (counts : ℕ → ℕ) (value : ℤ)
        → IsBestCount choices (count_utility choices (pos over *ℤ pos (over * scale)) beside f
        (split_firm market (contracts ++ offers) f)) counts value
        → (j : ℕ) → j < length offers → HasEnd f (trade_at market.trades.items (contract_at offers j).trade)
        → counts (length contracts + j) ≡ 1
    takes counts value choice j inside end =
        let most = single j inside in
        elim (cases_lt 0 (counts (length contracts + j))) [
          | inl taken ↦ omega (arith, most, taken)
          | inr none ↦
              let least = least_taxed counts value choice in
              let first = taxed_by (full f) in
              let second = taxed_by counts in
              let less = total-less (λ i. taxed_for i (counts (length contracts + i)))
              (λ i. taxed_for i (full f (length contracts + i))) j (length offers) inside each (strict none) in
              absurd (omega (arith, ints, least, first, second, less))
        ]
      where
        taxed_for : ℕ → ℕ → ℤ
        taxed_for i n = own_tax f (trade_at trades (contract_at offers i).trade) *ℤ pos n

        single : (i : ℕ) → i < length offers → counts (length contracts + i) ≤ 1
        single i below =
            let long = choices_sized in
            let most = choice.within (length contracts + i) (omega (arith, below, long)) in
            let units = choice_offered i below in
            omega (arith, most, units)

        each : (i : ℕ) → i < length offers
            → taxed_for i (counts (length contracts + i)) ≤ℤ taxed_for i (full f (length contracts + i))
        each i below =
            let most = taxed_most f (trade_at trades (contract_at offers i).trade) (counts (length contracts + i))
            (single i below) in
            let one = ap (taxed_for i) (full_offered f i below) in
            omega (arith, ints, most, one)

        strict : counts (length contracts + j) ≤ 0
            → taxed_for j (counts (length contracts + j)) <ℤ taxed_for j (full f (length contracts + j))
        strict none =
            let zero_is : counts (length contracts + j) ≡ 0 = omega (arith, none) in
            let left = ap (taxed_for j) zero_is in
            let nothing = *ℤ-zero (own_tax f (trade_at trades (contract_at offers j).trade)) in
            let right = ap (taxed_for j) (full_offered f j inside) in
            let one = *ℤ-one (own_tax f (trade_at trades (contract_at offers j).trade)) in
            let least = taxed_end f (trade_at trades (contract_at offers j).trade) end in
            omega (arith, ints, left, nothing, right, one, least)

  -- ---- the offers block

  -- they can be signed beside the contracts
  beside_is : AreUnitContracts market.trades.items contracts
      → ((t : ℕ) → t < length market.trades.items
      → signed_units contracts t + free t ≤ (trade_at market.trades.items t).units)
      → AreUnitContracts market.trades.items (contracts ++ offers)
  beside_is signed left = record {
    known = λ k contract at. elim (cases_lt k (length contracts)) [
      | inl first ↦
          let read = sym (get_or_from_slice_get all k contract (record { trade = 0; units = 0; price = pos 0 }) at)
          ∙ all_signed_at market over scale contracts free taxed settled market_is known is found offers made k first in
          let trade = ap (λ (c : UnitContract). c.trade) read in
          let below = signed.known k (contract_at contracts k)
          (slice_get-get_or contracts k (record { trade = 0; units = 0; price = pos 0 }) first) in
          omega (arith, trade, below)
      | inr past ↦
          let sum = all_sized market over scale contracts free taxed settled market_is known is found offers made in
          let inside = slice_get_within all k contract at in
          let j : ℕ = k - length contracts in
          let here : j < length offers = omega (arith, past, inside, sum) in
          let place : k ≡ length contracts + j = omega (arith, past) in
          let read = sym (get_or_from_slice_get all k contract (record { trade = 0; units = 0; price = pos 0 }) at)
          ∙ ap (contract_at all) place
          ∙ all_offered_at market over scale contracts free taxed settled market_is known is found offers made j in
          let trade = ap (λ (c : UnitContract). c.trade) read in
          let below = (made.each j (contract_at offers j)
          (slice_get-get_or offers j (record { trade = 0; units = 0; price = pos 0 }) here)).0 in
          omega (arith, trade, below)
    ];
    within = λ t below.
        let sum = signed_append contracts offers t in
        let offered = offered_is t below in
        let room = sold_within market over scale contracts free taxed settled market_is known is found t below in
        let most = left t below in
        omega (arith, sum, offered, room, most);
  }

  pub blocks : AreUnitContracts market.trades.items contracts
      → ((t : ℕ) → t < length market.trades.items
      → signed_units contracts t + free t ≤ (trade_at market.trades.items t).units)
      → 0 < length offers
      → BlocksByCounts (firms_of market) market.trades.items (pos over) contracts (pos (over * scale)) offers
  blocks signed left nonempty = record {
    some = nonempty;
    units = λ k offer at. let one = (made.each k offer at).1 in omega (arith, one);
    beside = beside_is signed left;
    chosen = λ f firm counts value at best k offer there end.
        let own = firm_split market all f firm at in
        let read = get_or_from_slice_get offers k offer (record { trade = 0; units = 0; price = pos 0 }) there in
        takes f own.0 counts value
        (subst (λ (one : CountFirm). IsBestCount choices (count_utility choices (pos over *ℤ pos (over * scale)) beside f one)
        counts value) own.1 best) k (slice_get_within offers k offer there)
        (subst (λ (c : UnitContract). HasEnd f (trade_at market.trades.items c.trade)) (sym read) end)
        ∙ sym (made.each k offer there).1;
  }

  pub blocking : AreUnitContracts market.trades.items contracts
      → ((t : ℕ) → t < length market.trades.items
      → signed_units contracts t + free t ≤ (trade_at market.trades.items t).units)
      → 0 < length offers → 1 ≤ over * scale → over * scale ≤ 819300
      → AreBlocking (firms_of market) market.trades.items (pos over) contracts offers (pos (over * scale))
  blocking signed left nonempty least most = record {
    least = omega (arith, ints, least);
    most = record { low = omega (arith, ints); high = omega (arith, ints, most) };
    single = All-from_get_or (λ offer. offer.units ≡ 1) offers (record { trade = 0; units = 0; price = pos 0 })
        (λ j inside. offer_units j inside);
    small = All-from_get_or (λ offer. IsAtMost offer.price most_unit_surplus) offers
        (record { trade = 0; units = 0; price = pos 0 }) (λ j inside.
        let own = made.each j (contract_at offers j)
        (slice_get-get_or offers j (record { trade = 0; units = 0; price = pos 0 }) inside) in
        let below = own.0 in
        let long = found.one_each in
        let sized = taxed_sized market over scale contracts free taxed settled market_is known is found in
        let price = own.2 in
        let small = found.small (length contracts + (contract_at offers j).trade) (pos 0) (omega (arith, below, long, sized)) in
        record { low = omega (arith, ints, small.low, price); high = omega (arith, ints, small.high, price) });
    blocks = blocks signed left nonempty;
  }
