-- Prices that complete an outcome, from labels of its fixed graph.
use Rattle.std.proofs.Common.{◌≡◌, ℕ, ◌+◌, ◌-◌, ◌<◌, ◌≤◌, ◌==◌, Bool, true, false, if◌then◌else◌, List, length, map, Option, Some, None, option_map, refl, sym, ap, ap₂, ◌∙◌, subst, arith, ℤ, pos, ◌+ℤ◌, ◌-ℤ◌, ◌*ℤ◌, neg_ℤ}
use Rattle.std.specs.Prelude.{All, IfSome, ◌≤ℤ◌, ◌<ℤ◌}
use Rattle.std.proofs.lemmas.Int.{ints}
use Rattle.std.proofs.lemmas.Nat.{mul-le}
use Rattle.std.proofs.lemmas.List.{get_or_default}
use Rattle.tn_base.specs.Arcs.{IsAtMost}
use Rattle.tn_base.specs.Firm.{Firm}
use Rattle.tn_base.specs.Walks.{KeepsArcs}
use Rattle.tn_firm_laws.proofs.KeepLemmas.{option_map-some}
use Rattle.tn_firm_laws.proofs.LabelLemmas.{walk-kept}
use Rattle.tn_cycle.specs.Answers.{label_in, AreLabels, IsNegative}
use Rattle.tn_graph.specs.Blocks.{CostBlocks, arcs_of}
use Rattle.tn_graph.specs.Reading.{IsExchangeGraph}
use Rattle.tn_model.specs.declared.ends.Ends.{Ends}
use Rattle.tn_model.specs.declared.contract.Contract.{Contract}
use Rattle.tn_model.specs.Limits.{most_numerator, most_trades}
use Rattle.tn_model.specs.Network.{IsNetwork}
use Rattle.tn_model.specs.Prices.{price_at}
use Rattle.tn_market.specs.Graph.{exchange_arc, ArePossible}
use Rattle.tn_market.specs.Lawful.{IsLawful}
use Rattle.tn_market.specs.Limits.{IsOutcomeOf, IsWithinLimits}
use Rattle.tn_market.specs.Signed.{is_signed, signed_price, signed, Completes}
use Rattle.tn_market.specs.Traded.{Traded}
use Rattle.tn_market.specs.Valued.{IsWorthAtMost}
use Rattle.tn_market.specs.Widths.{most_worth}
use Rattle.tn_network_laws.specs.Laws.{price_of_node}
use Rattle.tn_network_laws.proofs.EachLemmas.{each_within, meet_all, same_prices}
use Rattle.tn_network_laws.proofs.SupportLemmas.{arcs_small}
use Rattle.tn_outcome_laws.specs.Fixed.{lesser, fixed_at, fixed_arc, fixing_arc, IsPossibleOutcome}
use Rattle.tn_outcome_laws.proofs.FixedLemmas.{completion_is_fixed_labels, null_unsigned}
use Rattle.tn_outcome_laws.proofs.SignedLemmas.{agreed_price, signed_within}
use Rattle.tn_residual.specs.Held.{contract_price}
use Rattle.tn_residual.proofs.HeldLemmas.{price_some}
use Rattle.tn_residual.proofs.MakingLemmas.{outcome_feasible}
use Rattle.tn_chain.proofs.CostLemmas.{small_graph}
use Rattle.tn_chain.proofs.MoveLemmas.{price_small}
use Rattle.tn_judge.specs.Completion.{ArePricesTo}
use Rattle.tn_judge.specs.Fixing.{price_in, height, raised_arc, raised_fixed, ArePriced, CanBeFixed}
use Rattle.tn_judge.specs.FixingLemmas.{raised_small}
use Rattle.tn_judge.specs.Limits.{most_completing_price, most_exchange_cost, most_fixed_cost, most_fixed_label}
use Rattle.tn_judge.specs.Verdict.{IsCompletedBy, IsIncomplete}

-- ---- an outcome whose bundles are possible

pub possible_outcome : {V : Type 0} {limit_of : V → ℕ} (firm_of : V
    → Firm) (items : List V) (trades : List Ends) (over : ℤ) (contracts : List Contract)
    → IsNetwork (map firm_of items) trades
    → ((v : V) → IsLawful (limit_of v) (firm_of v)) → IsOutcomeOf trades over contracts
    → ArePossible (map firm_of items) trades (signed (length trades) contracts)
    → IsPossibleOutcome (map firm_of items) trades over contracts
possible_outcome firm_of items trades over contracts network lawful outcome possible = record {
  network = network;
  meet = meet_all firm_of items lawful;
  from_one = outcome.least;
  feasible = outcome_feasible trades over contracts outcome;
  possible = possible;
}

-- ---- prices of the nodes

-- the prices of the first v nodes are those of the contracts on them
pub record ArePricedBelow (contracts : List Contract) (v : ℕ) (prices : List (Option ℤ)) : Type 0 where
  pub counted : length prices ≡ v
  pub each : (i : ℕ) → i < v → price_in prices i ≡ contract_price contracts i

-- null has no contract
no_contract : (trades : List Ends) (over : ℤ) (contracts : List Contract) → IsOutcomeOf trades over contracts
    → (null : ℕ) → null ≡ length trades → contract_price contracts null ≡ None
no_contract trades over contracts outcome null null_is = by_case (is_signed contracts null) refl
  where
    by_case : (b : Bool) → is_signed contracts null ≡ b → contract_price contracts null ≡ None
    by_case true there = absurd (let below = signed_within trades contracts (outcome_feasible trades over contracts outcome)
        null there in omega (arith, below, null_is))
    by_case false there = ap (λ (b : Bool). if b then Some (signed_price contracts null) else None) there

-- a graph with such prices can be fixed
pub can_be_fixed : {V : Type 0} (firm_of : V → Firm) (limit_of : V
    → ℕ) (market : Traded V) (over : ℤ) (contracts : List Contract) → IsNetwork (map firm_of market.firms) market.trades
    → ((v : V) → IsWorthAtMost (limit_of v) (firm_of v)) → IsWithinLimits firm_of limit_of market
    → IsOutcomeOf market.trades over contracts
    → (on : ℕ) (graph : CostBlocks) → IsExchangeGraph (map firm_of market.firms) market.trades on graph → (null : ℕ)
    → null ≡ length market.trades
    → (prices : List (Option ℤ)) → ArePriced contracts (null + 1) prices → CanBeFixed graph over null prices
can_be_fixed firm_of limit_of market over contracts network within limits outcome on graph is null null_is prices
    priced = record {
      nodes = (let nodes = is.nodes in omega (arith, nodes, null_is));
      laid = is.laid_out.all ∙ sym null_is;
      free = priced.each null ∙ no_contract market.trades over contracts outcome null null_is;
      counted = priced.counted;
      small_costs = small_graph (exchange_arc (map firm_of market.firms) market.trades on) most_exchange_cost graph
          (arcs_small (map firm_of market.firms) market.trades network most_worth on
          (each_within firm_of limit_of market.firms within most_worth limits.small_worths)) is.arcs;
      from_one = outcome.least;
      small_over = outcome.most;
      small_prices = λ v price there.
          subst (λ (z : ℤ). IsAtMost z most_numerator) (price_some contracts v price (sym (priced.each v) ∙ there)).1
          (price_small contracts outcome.contracts.small v);
    }

-- a cost that is there is small
pub small_if : (limit : ℕ) (o : Option ℤ) → ((z : ℤ) → o ≡ Some z → IsAtMost z limit) → IfSome o (λ z. IsAtMost z limit)
small_if limit None small = tt
small_if limit (Some z) small = small z refl

-- ---- prices of the trades

-- ---- raised nodes

-- numbers that keep the arcs of a graph keep those of the raised one, raised themselves, and the other way round
keeps_raised : (high : ℕ → ℤ) (arc : ℕ → ℕ → Option ℤ) (label : ℕ → ℤ) → KeepsArcs arc label
    → KeepsArcs (raised_arc high arc) (λ v. label v +ℤ high v)
keeps_raised high arc label keeps u v cost is =
    let found = option_map-some (λ c. (c +ℤ high v) -ℤ high u) (arc u v) cost is in
    rises (label u) (label v) (high u) (high v) found.0 cost (keeps u v found.0 found.1) found.2
  where
    rises : (lu lv hu hv c cost : ℤ) → lv ≤ℤ (lu +ℤ c) → (c +ℤ hv) -ℤ hu ≡ cost → (lv +ℤ hv) ≤ℤ ((lu +ℤ hu) +ℤ cost)
    rises lu lv hu hv c cost kept is = omega (arith, ints, kept, is)

keeps_lowered : (high : ℕ → ℤ) (arc : ℕ → ℕ → Option ℤ) (label : ℕ → ℤ) → KeepsArcs (raised_arc high arc) label
    → KeepsArcs arc (λ v. label v -ℤ high v)
keeps_lowered high arc label keeps u v cost is =
    falls (label u) (label v) (high u) (high v) cost (keeps u v ((cost +ℤ high v) -ℤ high u)
    (ap (option_map (λ c. (c +ℤ high v) -ℤ high u)) is))
  where
    falls : (lu lv hu hv cost : ℤ) → lv ≤ℤ (lu +ℤ ((cost +ℤ hv) -ℤ hu)) → (lv -ℤ hv) ≤ℤ ((lu -ℤ hu) +ℤ cost)
    falls lu lv hu hv cost kept = omega (arith, ints, kept)

-- the graph that is read is the fixed one before nodes are raised
same_fixed : (firms : List Firm) (trades : List Ends) (over : ℤ) (contracts : List Contract) (graph : CostBlocks)
    → IsExchangeGraph firms trades (signed (length trades) contracts) graph
    → (null : ℕ) → null ≡ length trades → (prices : List (Option ℤ)) → ArePriced contracts (null + 1) prices
    → (u v : ℕ) → fixed_at over (price_in prices) null (arcs_of graph) u v ≡ fixed_arc firms trades over contracts u v
same_fixed firms trades over contracts graph is null null_is prices priced u v =
    ap₂ lesser (ap (option_map (λ c. over *ℤ c)) (is.arcs u v))
    (ap (λ (n : ℕ). fixing_arc (price_in prices) n u v) null_is
    ∙ ap₂ (λ (a b : Option ℤ). if u == length trades then a
    else (if v == length trades then option_map neg_ℤ b else None)) (priced.each v) (priced.each u))

-- ---- labels

-- labels of the fixed graph are small
pub labels_small : (nodes : ℕ) (graph : CostBlocks) (over : ℤ) (null : ℕ) (prices : List (Option ℤ)) (labels : List ℤ)
    → nodes ≤ most_trades + 1 → CanBeFixed graph over null prices
    → AreLabels nodes (raised_fixed over prices null (arcs_of graph)) labels → (v : ℕ) → v < length labels
    → IsAtMost (label_in labels v) most_fixed_label
labels_small nodes graph over null prices labels few fits are v below =
    let inside : v < nodes = (let one_each = are.one_each in omega (arith, below, one_each)) in
    let high = are.high v inside in
    let low = are.low most_fixed_cost v (raised_small graph over null prices fits) inside in
    let product = mul-le (nodes - 1) most_fixed_cost most_trades most_fixed_cost (omega (arith, few)) (omega arith) in
    record { low = omega (arith, ints, low, product); high = omega (arith, ints, high) }

pub labels_complete : (firms : List Firm) (trades : List Ends) (over : ℤ) (contracts : List Contract)
    → IsPossibleOutcome firms trades over contracts → All (λ contract. IsAtMost contract.price most_numerator) contracts
    → (graph : CostBlocks) → IsExchangeGraph firms trades (signed (length trades) contracts) graph → (null : ℕ)
    → null ≡ length trades
    → (prices : List (Option ℤ)) → ArePriced contracts (null + 1) prices → (labels : List ℤ)
    → KeepsArcs (raised_fixed over prices null (arcs_of graph)) (label_in labels)
    → ((v : ℕ) → v < length labels → IsAtMost (label_in labels v) most_fixed_label) → length labels ≡ length trades + 1
    → (answer : List ℤ) → ArePricesTo contracts labels null null answer
    → IsCompletedBy firms trades over contracts answer
labels_complete firms trades over contracts outcome small_contracts graph is null null_is prices priced labels keeps
    small labelled answer are = record {
      one_each = are.counted ∙ null_is;
      small = λ k d below. subst (λ (z : ℤ). IsAtMost z most_completing_price)
          (sym (get_or_default answer k d (pos 0) below ∙ are.each k (let counted = are.counted in
          omega (arith, below, counted))))
          (by_case (is_signed contracts k) k (let counted = are.counted in omega (arith, below, counted, null_is)));
      completes = record {
        agree = λ k contract there. price_is contract.trade (outcome.feasible.known k contract there)
            ∙ complete.agree k contract there;
        equilibrium =
            same_prices firms trades over (signed (length trades) contracts) (price_at answer) (λ t. low t
            -ℤ low (length trades)) outcome.network price_is complete.equilibrium;
      };
    }
  where
    high : ℕ → ℤ
    high v = height (price_in prices v)

    low : ℕ → ℤ
    low v = label_in labels v -ℤ height (price_in prices v)

    complete : Completes firms trades over contracts (λ t. low t -ℤ low (length trades))
    complete = completion_is_fixed_labels.from_labels firms trades over contracts low outcome (λ u v cost arc.
        keeps_lowered high (fixed_at over (price_in prices) null (arcs_of graph)) (label_in labels) keeps u v cost
        (same_fixed firms trades over contracts graph is null null_is prices priced u v ∙ arc))

    -- a node without a contract isn't raised
    flat : (v : ℕ) → is_signed contracts v ≡ false → low v ≡ label_in labels v
    flat v away =
        at (label_in labels v) (height (price_in prices v))
        (ap height (priced.each v ∙ ap (λ (b : Bool). if b then Some (signed_price contracts v) else None) away))
      where
        at : (l h : ℤ) → h ≡ pos 0 → l -ℤ h ≡ l
        at l h none = omega (arith, ints, none)

    by_sign : (t : ℕ) (s : Bool) → is_signed contracts t ≡ s
        → (if s then signed_price contracts t else label_in labels t -ℤ label_in labels null) ≡ low t
        -ℤ low (length trades)
    by_sign t true there =
        sym (agreed_price trades contracts outcome.feasible (λ t. low t -ℤ low (length trades)) complete.agree t there)
    by_sign t false away =
        ap (λ (n : ℕ). label_in labels t -ℤ label_in labels n) null_is
        ∙ ap₂ (λ (a b : ℤ). a -ℤ b) (sym (flat t away)) (sym
        (flat (length trades) (null_unsigned trades contracts outcome.feasible)))

    price_is : (t : ℕ) → t < length trades → price_at answer t ≡ low t -ℤ low (length trades)
    price_is t below = are.each t (omega (arith, below, null_is)) ∙ by_sign t (is_signed contracts t) refl

    difference : (a b : ℤ) → IsAtMost a most_fixed_label → IsAtMost b most_fixed_label
        → IsAtMost (a -ℤ b) most_completing_price
    difference a b first second =
        record {
          low = omega (arith, ints, first.low, first.high, second.low, second.high);
          high =
              omega (arith, ints, first.low, first.high, second.low, second.high);
        }

    wider : (z : ℤ) → IsAtMost z most_numerator → IsAtMost z most_completing_price
    wider z h = record { low = omega (arith, ints, h.low); high = omega (arith, ints, h.high) }

    by_case : (s : Bool) (k : ℕ) → k < length trades → IsAtMost (if s then signed_price contracts k
        else label_in labels k -ℤ label_in labels null) most_completing_price
    by_case true k below = wider (signed_price contracts k) (price_small contracts small_contracts k)
    by_case false k below =
        difference (label_in labels k) (label_in labels null) (small k (omega (arith, below, labelled)))
        (small null (omega (arith, labelled, null_is)))

pub cycle_incomplete : (firms : List Firm) (trades : List Ends) (over : ℤ) (contracts : List Contract)
    → IsPossibleOutcome firms trades over contracts → (graph : CostBlocks)
    → IsExchangeGraph firms trades (signed (length trades) contracts) graph → (null : ℕ) → null ≡ length trades
    → (prices : List (Option ℤ)) → ArePriced contracts (null + 1) prices
    → (nodes : ℕ) (listed : List ℕ) (cost : ℤ) (count : ℕ)
    → IsNegative nodes (raised_fixed over prices null (arcs_of graph)) listed cost count
    → IsIncomplete firms trades over contracts
cycle_incomplete firms trades over contracts outcome graph is null null_is prices priced nodes listed cost count found
    completing completes =
    let keeps = completion_is_fixed_labels.to_labels firms trades over contracts completing outcome completes in
    let raised =
    keeps_raised (λ v. height (price_in prices v)) (fixed_at over (price_in prices) null (arcs_of graph))
    (price_of_node (length trades) completing)
    (λ u v c arc. keeps u v c (sym (same_fixed firms trades over contracts graph is null null_is prices priced u v)
    ∙ arc)) in
    let round = walk-kept (raised_fixed over prices null (arcs_of graph))
    (λ v. price_of_node (length trades) completing v +ℤ height (price_in prices v)) raised
    found.first found.rest found.first cost found.cycle.walk in
    let negative = found.negative in
    absurd (less (price_of_node (length trades) completing found.first +ℤ height (price_in prices found.first)) cost
    round negative)
  where
    less : (l c : ℤ) → l ≤ℤ (l +ℤ c) → c <ℤ pos 0 → ⊥
    less l c round negative = omega (arith, ints, round, negative)
