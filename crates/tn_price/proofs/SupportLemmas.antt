-- From the exchange graph's labels to prices, and from its cycles to none.
use Rattle.std.proofs.Common.{◌≡◌, ℕ, ◌+◌, ◌*◌, ◌<◌, ◌≤◌, ◌⊎◌, inl, inr, Bool, not, true, false, sym, ap, ◌∙◌, subst, arith, refl, ℤ, pos, ◌-ℤ◌, List, [], ◌∷◌, length, map, slice_get, Option, Some, None, is_none}
use Rattle.std.specs.Prelude.{is_some, All, IsSome, get_or}
use Rattle.std.proofs.lemmas.Bool.{cases_eq}
use Rattle.std.proofs.lemmas.List.{get_or_default}
use Rattle.tn_base.specs.Arcs.{IsAtMost}
use Rattle.tn_base.specs.Firm.{Firm}
use Rattle.tn_base.proofs.WalkLemmas.{walk-same}
use Rattle.tn_model.specs.declared.ends.Ends.{Ends}
use Rattle.tn_model.specs.Network.{part, IsNetwork}
use Rattle.tn_model.specs.Prices.{price_at}
use Rattle.tn_market.specs.Graph.{exchange_arc, ArePossible, graph_worths}
use Rattle.tn_market.specs.Supported.{AreSupports, IsFirstUnable, IsNegativeCycle, said_node}
use Rattle.tn_graph.specs.Blocks.{CostBlocks, arcs_of}
use Rattle.tn_graph.specs.BlockLemmas.{arcs_of-small}
use Rattle.tn_graph.specs.Reading.{IsExchangeGraph}
use Rattle.tn_cycle.specs.Answers.{AreLabels, BeginsWell, IsNegative, label_in}
use Rattle.tn_cycle.specs.Widths.{most_graph_nodes, most_read}
use Rattle.tn_cycle.proofs.DifferenceLemmas.{labels-same, label_small, difference_within}
use Rattle.tn_network_laws.specs.Laws.{MeetExchange}
use Rattle.tn_market.specs.Limits.{AreWorthsWithin}
use Rattle.tn_network_laws.proofs.EachLemmas.{same_prices}
use Rattle.tn_network_laws.proofs.SupportLemmas.{labels_are_supports, negative_cycles, arcs_small}
use Rattle.tn_price.specs.Supports.{IsUnsupported}

-- ---- impossible bundles

pub is_none_of : (o other : Option ℤ) (b : Bool) → is_some o ≡ not b → o ≡ other → b ≡ is_none other
is_none_of None other true e same = ap is_none same
is_none_of None other false e same = absurd (cc e)
is_none_of (Some a) other true e same = absurd (cc e)
is_none_of (Some a) other false e same = ap is_none same

pub none_is : {A : Type 0} (o : Option A) → true ≡ is_none o → o ≡ None
none_is None e = refl
none_is (Some a) e = absurd (cc e)

pub some_is : {A : Type 0} (o : Option A) → false ≡ is_none o → IsSome o
some_is None e = absurd (cc e)
some_is (Some a) e = refl

-- the firms before f have possible bundles
abbrev pub AreAble : List Firm → List Ends → ℕ → ℕ → Type 0
AreAble firms trades on f = (h : ℕ) (firm : Firm) → h < f → slice_get firms h ≡ Some firm
    → IsSome (firm.worth (part trades h firm.count on))

pub one_able : (firms : List Firm) (trades : List Ends) (on f : ℕ) (unable : Bool) → AreAble firms trades on f
    → ((firm : Firm) → slice_get firms f ≡ Some firm → unable ≡ is_none (firm.worth (part trades f firm.count on)))
    → unable ≡ false → AreAble firms trades on (f + 1)
one_able firms trades on f unable before here able h firm below is = elim (cases_eq h f) [
  | inl e ↦
      subst (λ (g : ℕ). IsSome (firm.worth (part trades g firm.count on))) (sym e)
      (some_is _ (sym able ∙ here firm (subst (λ (g : ℕ). slice_get firms g ≡ Some firm) e is)))
  | inr d ↦ before h firm (omega (arith, below, d)) is
]

pub first_unable : (firms : List Firm) (trades : List Ends) (on f : ℕ) (unable : Bool) (firm : Firm)
    → AreAble firms trades on f → slice_get firms f ≡ Some firm
    → ((other : Firm) → slice_get firms f ≡ Some other → unable ≡ is_none (other.worth (part trades f other.count on)))
    → unable ≡ true → IsFirstUnable firms trades on f
first_unable firms trades on f unable firm before is here none =
    record { before = before; firm = firm; is = is; impossible = none_is _ (sym none ∙ here firm is) }

-- a firm whose bundle is impossible is in no equilibrium
pub unable_unsupported : (firms : List Firm) (trades : List Ends) (on f : ℕ) → IsFirstUnable firms trades on f
    → IsUnsupported firms trades on
unable_unsupported firms trades on f unable prices equilibrium =
    let best = equilibrium f unable.firm unable.is in
    let none = unable.impossible in
    let is = best.1.is in
    absurd (cc (none, is))

-- ---- labels

pub exchange_labels : (firms : List Firm) (trades : List Ends) (on nodes : ℕ) (graph : CostBlocks) (labels : List ℤ)
    → IsExchangeGraph firms trades on graph → nodes ≡ length trades + 1
    → AreLabels nodes (arcs_of graph) labels → AreLabels (length trades + 1) (exchange_arc firms trades on) labels
exchange_labels firms trades on nodes graph labels is sized are =
    labels-same (length trades + 1) (exchange_arc firms trades on) (arcs_of graph) labels (λ u v. sym (is.arcs u v))
    (subst (λ (n : ℕ). AreLabels n (arcs_of graph) labels) sized are)

pub exchange_small : (nodes : ℕ) (graph : CostBlocks) (labels : List ℤ) → nodes ≤ most_graph_nodes
    → AreLabels nodes (arcs_of graph) labels → (v : ℕ) → v < length labels → IsAtMost (label_in labels v) most_read
exchange_small nodes graph labels few are = label_small nodes (arcs_of graph) labels are (arcs_of-small graph) few

-- prices as they were read off the labels
pub record AreRead (count : ℕ) (labels prices : List ℤ) : Type 0 where
  pub one_each : length prices ≡ count
  pub each : (t : ℕ) → t < count → price_at prices t ≡ label_in labels t -ℤ label_in labels count

pub read : (trades count : ℕ) (labels prices : List ℤ) → trades ≡ count → length prices ≡ trades
    → ((t : ℕ) → t < trades → price_at prices t ≡ label_in labels t -ℤ label_in labels trades)
    → AreRead count labels prices
read trades count labels prices same sized each =
    subst (λ (n : ℕ). AreRead n labels prices) same (record { one_each = sized; each = each })

pub labels_support : (firms : List Firm) (trades : List Ends) (on : ℕ) (labels prices : List ℤ) → IsNetwork firms trades
    → MeetExchange firms → ArePossible firms trades on
    → AreLabels (length trades + 1) (exchange_arc firms trades on) labels → AreRead (length trades) labels prices
    → AreSupports firms trades on prices
labels_support firms trades on labels prices network meet possible are is = record {
  one_each = is.one_each;
  equilibrium =
      same_prices firms trades (pos 1) on (price_at prices) (λ t. label_in labels t -ℤ label_in labels (length trades))
      network is.each
      (labels_are_supports firms trades on (label_in labels) network meet possible are.keeps);
}

pub priced_within : (firms : List Firm) (trades : List Ends) (on : ℕ) (labels prices : List ℤ) → IsNetwork firms trades
    → AreLabels (length trades + 1) (exchange_arc firms trades on) labels → AreRead (length trades) labels prices
    → (bound : ℕ) → AreWorthsWithin bound firms → All (λ price. IsAtMost price (2 * bound * length trades)) prices
priced_within firms trades on labels prices network are is bound within k d below =
    let sized = is.one_each in
    let inside : k < length trades = omega (arith, below, sized) in
    subst (λ (z : ℤ). IsAtMost z (2 * bound * length trades))
    (sym (get_or_default prices k d (pos 0) below ∙ is.each k inside))
    (difference_within (length trades) (2 * bound) _ labels are (arcs_small firms trades network bound on within) k
    inside)

-- ---- cycles

begins_well : (nodes n first : ℕ) (listed rest : List ℕ) → nodes ≡ n + 1 → listed ≡ first ∷ rest
    → BeginsWell nodes first listed
    → (first ≡ n) ⊎ All (λ v. (first ≤ v) × (v < n)) (first ∷ rest)
begins_well nodes n first listed rest sized is (inl last) = inl (omega (arith, sized, last))
begins_well nodes n first listed rest sized is (inr all) =
    inr (subst (All (λ v. (first ≤ v) × (v < n))) is (λ k d below. let at = all k d below in
    within (get_or listed k d) at.0 at.1))
  where
    within : (v : ℕ) → first ≤ v → v + 1 < nodes → (first ≤ v) × (v < n)
    within v from below = (from, omega (arith, sized, below))

pub exchange_cycle : (firms : List Firm) (trades : List Ends) (on nodes count null : ℕ) (graph : CostBlocks)
    (listed : List ℕ) (said : List (Option ℕ)) (cost : ℤ) → IsExchangeGraph firms trades on graph
    → nodes ≡ length trades + 1 → null ≡ length trades → ArePossible firms trades on
    → IsNegative nodes (arcs_of graph) listed cost count → said ≡ map (said_node null) listed
    → IsNegativeCycle firms trades on said cost
exchange_cycle firms trades on nodes count null graph listed said cost is sized last possible negative said_is =
    record {
      possible = possible;
      first = negative.first;
      rest = negative.rest;
      nodes_are = said_is ∙ ap (λ (n : ℕ). map (said_node n) listed) last
          ∙ ap (map (said_node (length trades))) negative.nodes_are;
      cycle = record {
        walk = sym (walk-same (arcs_of graph) (exchange_arc firms trades on) is.arcs negative.first negative.rest
            negative.first) ∙ negative.cycle.walk;
        different = negative.cycle.different;
      };
      negative = negative.negative;
      begins = begins_well nodes (length trades) negative.first listed negative.rest sized negative.nodes_are
          negative.begins;
    }

pub cycle_unsupported : (firms : List Firm) (trades : List Ends) (on : ℕ) (said : List (Option ℕ)) (cost : ℤ)
    → IsNetwork firms trades → IsNegativeCycle firms trades on said cost
    → IsUnsupported firms trades on
cycle_unsupported firms trades on said cost network cycle prices equilibrium =
    negative_cycles firms trades on cycle.first cycle.rest cost network cycle.cycle.walk cycle.negative (pos 1) prices
    (omega (arith)) equilibrium

-- ---- worths

-- each firm has a place at least
pub worths_from : (firms : List Firm) → length firms ≤ graph_worths firms
worths_from [] = omega arith
worths_from (firm ∷ firms) =
    let rest = worths_from firms in
    let e : (firm.count + 1) * (firm.count + 1) ≡ firm.count * firm.count + 2 * firm.count + 1 = grind arith in
    omega (arith, rest, e)
