-- What shows the clauses of `flow_of` of `src/flow.rt`.
use Rattle.std.proofs.Common.{◌≡◌, ℕ, List, ◌++◌, map, sym, ap, ◌∙◌, subst, ℤ, pos, get_or, length}
use Rattle.std.specs.List.{range_with_len}
use Rattle.tn_base.specs.Arcs.{IsAtMost}
use Rattle.tn_counts.specs.Tree.{root_node}
use Rattle.tn_counts.specs.Widths.{most_market_units, unbounded}
use Rattle.tn_counts.specs.declared.market.UnitMarket.{UnitMarket}
use Rattle.tn_tree.specs.Levels.{levels_by}
use Rattle.tn_tree.proofs.KeptLemmas.{firm_small, free_flow}
use Rattle.tn_tree.proofs.NetLemmas.{net_small}
use Rattle.tn_tree.proofs.flow.flow_of.Goals as goal

pub first_levels-requires-clause-sets : goal.first_levels-requires-clause-sets
first_levels-requires-clause-sets c = λ i below.
    subst (λ (xs : List ℤ). IsAtMost (get_or xs i (pos 0)) most_market_units) (sym c.deref.ensures.value)
    (subst (λ (z : ℤ). IsAtMost z most_market_units) (sym (c.in_ok-nets.ensures.sets i below))
    (net_small c.args.market.now c.args.counts.now c.args.counts.now i c.requires.market c.requires.within
    c.requires.within))

pub first_levels-requires-clause-roots : goal.first_levels-requires-clause-roots
first_levels-requires-clause-roots c = λ f below.
    subst (λ (xs : List ℤ). IsAtMost (get_or xs (root_node c.args.market.now f) (pos 0)) most_market_units)
    (sym c.deref.ensures.value)
    (subst (λ (z : ℤ). IsAtMost z most_market_units) (sym (c.in_ok-nets.ensures.roots f below))
    (firm_small c.args.market.now c.args.counts.now c.args.counts.now f c.requires.market c.requires.within
    c.requires.within))

-- what all levels are
made_of : (market : UnitMarket) (nets lent : List ℤ) (counts first levels : List ℕ) (pins : ℕ) → lent ≡ nets
    → first ≡ levels_by market lent counts counts → levels ≡ first ++ map (λ k. unbounded) (range_with_len 0 pins)
    → levels ≡ levels_by market nets counts counts ++ map (λ k. unbounded) (range_with_len 0 pins)
made_of market nets lent counts first levels pins same first_is made =
    made ∙ ap (λ (xs : List ℕ). xs ++ map (λ k. unbounded) (range_with_len 0 pins))
    (first_is ∙ ap (λ (xs : List ℤ). levels_by market xs counts counts) same)

pub returns-clause-kept : goal.returns-clause-kept
returns-clause-kept c =
    (free_flow c.args.market.now c.args.pins.now c.args.links.now.links.items c.in_ok-nets.nets.items c.args.counts.now
    c.add_pin_levels.new.levels.items c.requires.market c.requires.links c.requires.as_many c.requires.within
    c.requires.possible (record { sets = c.in_ok-nets.ensures.sets; roots = c.in_ok-nets.ensures.roots })
    (made_of c.args.market.now c.in_ok-nets.nets.items c.deref.result.now c.args.counts.now c.in_ok-levels.levels.items
    c.add_pin_levels.new.levels.items (length c.args.pins.now) c.deref.ensures.value c.in_ok-levels.ensures
    c.in_ok-add_pin_levels.ensures)).0

pub returns-clause-counts : goal.returns-clause-counts
returns-clause-counts c =
    (free_flow c.args.market.now c.args.pins.now c.args.links.now.links.items c.in_ok-nets.nets.items c.args.counts.now
    c.add_pin_levels.new.levels.items c.requires.market c.requires.links c.requires.as_many c.requires.within
    c.requires.possible (record { sets = c.in_ok-nets.ensures.sets; roots = c.in_ok-nets.ensures.roots })
    (made_of c.args.market.now c.in_ok-nets.nets.items c.deref.result.now c.args.counts.now c.in_ok-levels.levels.items
    c.add_pin_levels.new.levels.items (length c.args.pins.now) c.deref.ensures.value c.in_ok-levels.ensures
    c.in_ok-add_pin_levels.ensures)).1
