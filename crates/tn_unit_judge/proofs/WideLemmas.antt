-- The split network of an outcome is a market that is served.
use Rattle.std.proofs.Common.{◌≡◌, ℕ, zero, suc, ◌+◌, ◌<◌, ◌≤◌, Bool, true, false, ◌&&◌, List, [], ◌∷◌, length, map, get_or, Some, slice_get, refl, sym, ap, ◌∙◌, subst, arith, ℤ, pos, ◌*ℤ◌, ◌≤ℤ◌}
use Rattle.std.specs.Prelude.{sum_by}
use Rattle.std.proofs.lemmas.Int.{ints}
use Rattle.std.proofs.lemmas.Bool.{false≢true}
use Rattle.std.proofs.lemmas.List.{length-map}
use Rattle.std.proofs.lemmas.Option.{get_or_from_slice_get, none-some, same_Some, slice_get_within}
use Rattle.std.proofs.Math.IntN.{*ℤ-zero, *ℤ-one, *ℤ_comm}
use Rattle.tn_base.specs.Arcs.{IsAtMost}
use Rattle.tn_links.specs.declared.link.Step.{Step}
use Rattle.tn_links.specs.Links.{AddAtMost, AreFalling, room}
use Rattle.tn_links.specs.RiseLemmas.{times_small, times_suc}
use Rattle.tn_links.specs.Totals.{total}
use Rattle.tn_links.proofs.TotalLemmas.{total-most, total-same}
use Rattle.tn_counts.specs.Counts.{trade_at}
use Rattle.tn_counts.specs.Laminar.{amounts_at}
use Rattle.tn_counts.specs.Markets.{AreAmountsWithin, AreLaminar, IsBetween, IsMarketWithin, IsSetWithin, IsUnitMarket, IsWideMarket}
use Rattle.tn_counts.specs.Outcomes.{joined, signed_units, split_trades}
use Rattle.tn_counts.specs.Widths.{most_unit_amount, most_unit_trades, most_wide_amount, most_wide_trades}
use Rattle.tn_counts.specs.declared.contract.UnitContract.{UnitContract}
use Rattle.tn_counts.specs.declared.market.UnitMarket.{UnitMarket}
use Rattle.tn_counts.specs.declared.set.CountSet.{CountSet}
use Rattle.tn_counts.specs.declared.trade.UnitAmounts.{UnitAmounts}
use Rattle.tn_counts.specs.declared.trade.UnitTrade.{UnitTrade}
use Rattle.tn_counts.proofs.NetLemmas.{between_at}
use Rattle.tn_counts.proofs.PlaceLemmas.{item_at}
use Rattle.tn_counts.proofs.SmallLemmas.{units_total}
use Rattle.tn_tree.proofs.FirmLemmas.{small_amounts}
use Rattle.tn_unit_judge.specs.Split.{IsSplitMarket, IsSplitSet, most_split_amount, most_split_over, origins, times_amounts, times_step}
use Rattle.tn_unit_judge.proofs.JoinLemmas.{AreKnown, joined_sum, origins_known, origins_sized, signed_is}
use Rattle.tn_unit_judge.proofs.SplitLemmas.{room_times, split_ends, split_free, split_signed, split_sized}

-- an item of a list that is made of another
pub map_item : {A B : Type 0} (f : A → B) (xs : List A) (k : ℕ) (y : B) → slice_get (map f xs) k ≡ Some y
    → (x : A) × (slice_get xs k ≡ Some x) × (f x ≡ y)
map_item f [] k y at = absurd (none-some y at)
map_item f (x ∷ xs) zero y at = (x, refl, same_Some (f x) y at)
map_item f (x ∷ xs) (suc k) y at = map_item f xs k y at

-- numbers that are counted so often
times_within : (over : ℕ) (z : ℤ) → over ≤ most_split_over → IsAtMost z most_unit_amount → IsAtMost (pos over *ℤ z) most_split_amount
times_within over z few small =
    let most = times_small z over most_unit_amount small in
    let turned = *ℤ_comm (pos over) z in
    record { low = omega (arith, ints, most.low, turned, few); high = omega (arith, ints, most.high, turned, few) }

pub times_most : (n : ℕ) (a b : ℤ) → b ≤ℤ a → (b *ℤ pos n) ≤ℤ (a *ℤ pos n)
times_most zero a b below =
    let first = *ℤ-zero a in let second = *ℤ-zero b in omega (arith, ints, first, second)
times_most (suc n) a b below =
    let before = times_most n a b below in
    let first = times_suc a n in
    let second = times_suc b n in
    omega (arith, ints, before, first, second, below)

falling_times : (over : ℕ) (steps : List Step) → AreFalling steps → AreFalling (map (times_step over) steps)
falling_times over steps falling i k a b order at_i at_k =
    let first = map_item (times_step over) steps i a at_i in
    let second = map_item (times_step over) steps k b at_k in
    let most = times_most over first.0.each second.0.each (falling i k first.0 second.0 order first.1 second.1) in
    let one = ap (λ (s : Step). s.each) first.2 in
    let two = ap (λ (s : Step). s.each) second.2 in
    let left = *ℤ_comm (pos over) first.0.each in
    let right = *ℤ_comm (pos over) second.0.each in
    omega (arith, ints, most, one, two, left, right)

small_times : (over : ℕ) (steps : List Step) → over ≤ most_split_over → AddAtMost most_unit_amount steps
    → AddAtMost most_split_amount (map (times_step over) steps)
small_times over steps few small k step at =
    let own = map_item (times_step over) steps k step at in
    subst (λ (s : Step). IsAtMost s.each most_split_amount) own.2 (times_within over own.0.each few (small k own.0 own.1))

both_true : (a b : Bool) → (a && b) ≡ true → (a ≡ true) × (b ≡ true)
both_true true b is = (refl, is)
both_true false b is = absurd (false≢true is)

-- numbers within a limit are within a larger one
number_wider : (z : ℤ) (few more : ℕ) → few ≤ more → IsAtMost z few → IsAtMost z more
number_wider z few more most small =
    record { low = omega (arith, ints, most, small.low); high = omega (arith, ints, most, small.high) }

pub set_wider : (few more firms : ℕ) (set : CountSet) → few ≤ more → IsSetWithin few firms set → IsSetWithin more firms set
set_wider few more firms set most is = record {
  known = is.known;
  around = is.around;
  few = is.few;
  concave = is.concave;
  small = λ k step at. number_wider step.each few more most (is.small k step at);
  constant = number_wider set.constant few more most is.constant;
}

market_wider : (trades few more : ℕ) (market : UnitMarket) → few ≤ more → IsMarketWithin trades few market
    → IsMarketWithin trades more market
market_wider trades few more market most is = record {
  few_firms = is.few_firms;
  few_trades = is.few_trades;
  few_sets = is.few_sets;
  few_units = is.few_units;
  between = is.between;
  as_many = is.as_many;
  small = λ t each at. record {
    seller = number_wider each.seller few more most (is.small t each at).seller;
    buyer = number_wider each.buyer few more most (is.small t each at).buyer;
  };
  each = λ i set at. set_wider few more market.firms set most (is.each i set at);
  laminar = is.laminar;
}

-- what is signed and what is free of each trade is within its units
abbrev pub IsFree : List UnitTrade → List UnitContract → (ℕ → ℕ) → Type 0
IsFree trades contracts free =
    (t : ℕ) → t < length trades → signed_units contracts t + free t ≤ (trade_at trades t).units

module _ (market : UnitMarket) (over : ℕ) (contracts : List UnitContract) (free : ℕ → ℕ) (split : UnitMarket)
    (market_is : IsUnitMarket market) (few_over : over ≤ most_split_over) (few : length contracts ≤ most_unit_trades)
    (known : AreKnown (length market.trades.items) contracts) (within : IsFree market.trades.items contracts free)
    (is : IsSplitMarket market over contracts free split) where
  trades : List UnitTrade
  trades = market.trades.items

  parts : List UnitTrade
  parts = split_trades market.trades.items contracts free

  sized : length split.trades.items ≡ length contracts + length market.trades.items
  sized = ap length is.trades ∙ split_sized market.trades.items contracts free

  -- the units of all parts
  part_units : ℕ → ℕ
  part_units k = (trade_at (split_trades market.trades.items contracts free) k).units

  one_time : (z : ℤ) → pos 1 *ℤ z ≡ z
  one_time z = let turned = *ℤ_comm (pos 1) z in let unit = *ℤ-one z in omega (arith, ints, turned, unit)

  few_units : sum_by (λ trade. trade.units) split.trades.items ≤ 1048576
  unfolding part_units
  few_units =
      let all = units_total (split_trades market.trades.items contracts free) in
      let whole = units_total market.trades.items in
      let long = ap (total (λ k. pos (part_units k))) (split_sized market.trades.items contracts free) in
      let ones = total-same (λ k. pos 1 *ℤ pos (part_units k)) (λ k. pos (part_units k))
      (length contracts + length market.trades.items) (λ k below. one_time (pos (part_units k))) in
      let joined_is = joined_sum (λ t. pos 1) part_units (length market.trades.items) contracts known in
      let most = total-most (λ t. pos 1 *ℤ pos (joined contracts part_units t))
      (λ t. pos (trade_at market.trades.items t).units) (length market.trades.items) each in
      let units = market_is.few_units in
      let made = ap (sum_by (λ (trade : UnitTrade). trade.units)) is.trades in
      omega (arith, ints, all, whole, long, ones, joined_is, most, units, made)
    where
      each : (t : ℕ) → t < length market.trades.items
          → (pos 1 *ℤ pos (joined contracts part_units t)) ≤ℤ pos (trade_at market.trades.items t).units
      each t below =
          let one = one_time (pos (joined contracts part_units t)) in
          let rest = ap (λ (p : UnitTrade). p.units) (split_free market.trades.items contracts free t below) in
          let signed = signed_is contracts part_units 0 t (λ k inside.
          let place : 0 + k ≡ k = omega arith in
          ap part_units place
          ∙ ap (λ (p : UnitTrade). p.units) (split_signed market.trades.items contracts free k inside)) in
          let enough = within t below in
          omega (arith, ints, one, rest, signed, enough)

  between : (t : ℕ) (trade : UnitTrade) → slice_get split.trades.items t ≡ Some trade → IsBetween split.firms trade
  between t trade at =
      let inside = slice_get_within split.trades.items t trade at in
      let below : t < length contracts + length market.trades.items = omega (arith, inside, sized) in
      let o : ℕ = get_or (origins (length market.trades.items) contracts) t 0 in
      let long = origins_sized (length market.trades.items) contracts in
      let here = item_at (origins (length market.trades.items) contracts) t (omega (arith, below, long)) in
      let o_is : o ≡ here.0 = get_or_from_slice_get (origins (length market.trades.items) contracts) t here.0 0 here.1 in
      let o_below = origins_known (length market.trades.items) contracts known t here.0 here.1 in
      let own = between_at market market_is o (omega (arith, o_is, o_below)) in
      let ends = split_ends market.trades.items contracts free t below in
      let same : trade_at (split_trades market.trades.items contracts free) t ≡ trade =
      ap (λ (ts : List UnitTrade). trade_at ts t) (sym is.trades)
      ∙ get_or_from_slice_get split.trades.items t trade (record { seller = 0; buyer = 0; units = 0 }) at in
      let seller = sym (ap (λ (p : UnitTrade). p.seller) same) ∙ ends.seller in
      let buyer = sym (ap (λ (p : UnitTrade). p.buyer) same) ∙ ends.buyer in
      let first = own.seller in
      let second = own.buyer in
      let firms = is.firms in
      record {
        seller = omega (arith, seller, first, firms);
        buyer = omega (arith, buyer, second, firms);
        apart = λ e. own.apart (sym seller ∙ e ∙ buyer);
      }

  small : (t : ℕ) (each : UnitAmounts) → slice_get split.amounts.items t ≡ Some each → AreAmountsWithin most_split_amount each
  small t each at =
      let made = map_item (λ o. times_amounts over (amounts_at market.amounts.items o))
      (origins (length market.trades.items) contracts) t each
      (sym (ap (λ (xs : List UnitAmounts). slice_get xs t) is.amounts) ∙ at) in
      let below = origins_known (length market.trades.items) contracts known t made.0 made.1 in
      let own = small_amounts market market_is made.0 below in
      subst (AreAmountsWithin most_split_amount) made.2 (record {
        seller = times_within over (amounts_at market.amounts.items made.0).seller few_over own.0;
        buyer = times_within over (amounts_at market.amounts.items made.0).buyer few_over own.1;
      })

  -- the set of which one is a part
  set_at : (i : ℕ) (one : CountSet) → slice_get split.sets.items i ≡ Some one
      → (set : CountSet) × (slice_get market.sets.items i ≡ Some set)
      × IsSplitSet over (origins (length market.trades.items) contracts) set one
  set_at i one at =
      let inside = slice_get_within split.sets.items i one at in
      let long = is.sets.sized in
      let found = item_at market.sets.items i (omega (arith, inside, long)) in
      (found.0, found.1, is.sets.each i found.0 one found.1 at)

  each_set : (i : ℕ) (one : CountSet) → slice_get split.sets.items i ≡ Some one → IsSetWithin most_split_amount split.firms one
  each_set i one at =
      let found = set_at i one at in
      let set = found.0 in
      let part = found.2 in
      let own = market_is.each i set found.1 in
      let room_is = ap room part.steps ∙ room_times over set.steps.items in
      let firms = is.firms in
      let firm = part.firm in
      let back = part.back in
      record {
        known = let below = own.known in omega (arith, below, firms, firm);
        around = let around = own.around in omega (arith, around, back, room_is);
        few = let units = own.few in omega (arith, units, room_is);
        concave = subst AreFalling (sym part.steps) (falling_times over set.steps.items own.concave);
        small = subst (AddAtMost most_split_amount) (sym part.steps) (small_times over set.steps.items few_over own.small);
        constant = subst (λ (z : ℤ). IsAtMost z most_split_amount) (sym part.constant)
            (times_within over set.constant few_over own.constant);
      }

  laminar : AreLaminar split.sets.items
  laminar i k t u inner outer order at_inner at_outer same in_inner in_outer other =
      let first = set_at i inner at_inner in
      let second = set_at k outer at_outer in
      let one = both_true _ _ (sym (first.2.members t) ∙ in_inner) in
      let two = both_true _ _ (sym (second.2.members t) ∙ in_outer) in
      let three = both_true _ _ (sym (first.2.members u) ∙ other) in
      let has = market_is.laminar i k (get_or (origins (length market.trades.items) contracts) t 0)
      (get_or (origins (length market.trades.items) contracts) u 0) first.0 second.0 order first.1 second.1
      (sym first.2.firm ∙ same ∙ second.2.firm) one.1 two.1 three.1 in
      second.2.members u ∙ joins _ _ three.0 has
    where
      joins : (a b : Bool) → a ≡ true → b ≡ true → (a && b) ≡ true
      joins true b first second = second
      joins false b first second = absurd (false≢true first)

  pub split_within : IsMarketWithin most_wide_trades most_split_amount split
  split_within = record {
    few_firms = let firms = is.firms in let few_firms = market_is.few_firms in omega (arith, firms, few_firms);
    few_trades = let most = market_is.few_trades in omega (arith, sized, most, few);
    few_sets = let long = is.sets.sized in let most = market_is.few_sets in omega (arith, long, most);
    few_units = few_units;
    between = between;
    as_many = ap length is.amounts
        ∙ length-map (origins (length market.trades.items) contracts)
        (λ t. times_amounts over (amounts_at market.amounts.items t))
        ∙ origins_sized (length market.trades.items) contracts ∙ sym sized;
    small = small;
    each = each_set;
    laminar = laminar;
  }

  -- so it is served
  pub split_wide : IsWideMarket split
  split_wide = market_wider most_wide_trades most_split_amount most_wide_amount split (omega arith) split_within
