-- What shows the clauses of `Graph::place` of `src/graph.rt`.
use Rattle.std.proofs.Common.{◌≡◌, ◌<◌, Some, None, length, subst, sym, arith}
use Rattle.tn_graph.specs.Blocks.{CostBlocks, place_of}
use Rattle.tn_graph.proofs.PlacedLemmas.{read_up, read_down, same_block, found_both, found_neither, found_to_null, found_from_null, place_fits, place_of_null}
use Rattle.tn_graph.proofs.graph.Graph.place.Goals as goal

pub place-requires-clause-row : goal.place-requires-clause-row
place-requires-clause-row c =
    let from = read_up _ _ _ c.self.inside.sound c.args.a c.in-true-true.is-0 c.index-from.result.now
    c.index-from.ensures in
    let below = from.stands.below in
    omega (arith, below)

pub place-requires-clause-column : goal.place-requires-clause-column
place-requires-clause-column c =
    let from = read_up _ _ _ c.self.inside.sound c.args.a c.in-true-true.is-0 c.index-from.result.now
    c.index-from.ensures in
    let to = read_down _ _ _ c.self.inside.sound c.args.b c.in-true-true.is-1 c.index-to.result.now
    c.index-to.ensures in
    let counts = same_block _ _ _ c.self.inside.sound c.args.a c.args.b c.in-true-true.is-0 c.in-true-true.is-1 _ _
    from to c.if-from-to.true in
    let below = to.stands.below in
    omega (arith, below, counts)

pub place-requires-clause-one : goal.place-requires-clause-one
place-requires-clause-one c =
    let from = read_up _ _ _ c.self.inside.sound c.args.a c.in-true-true.is-0 c.index-from.result.now
    c.index-from.ensures in
    let to = read_down _ _ _ c.self.inside.sound c.args.b c.in-true-true.is-1 c.index-to.result.now
    c.index-to.ensures in
    let counts = same_block _ _ _ c.self.inside.sound c.args.a c.args.b c.in-true-true.is-0 c.in-true-true.is-1 _ _
    from to c.if-from-to.true in
    let from_below = from.stands.below in
    let to_below = to.stands.below in
    omega (arith, from_below, to_below, counts)

pub place-requires-clause-fits : goal.place-requires-clause-fits
place-requires-clause-fits c =
    (read_up _ _ _ c.self.inside.sound c.args.a c.in-true-true.is-0 c.index-from.result.now c.index-from.ensures).fits

pub place-requires-in-true-false-clause-row : goal.place-requires-in-true-false-clause-row
place-requires-in-true-false-clause-row c =
    let from = read_up _ _ _ c.self.inside.sound c.args.a c.in-true-false.is-0 c.index-from-in-true-false.result.now
    c.index-from-in-true-false.ensures in
    let below = from.stands.below in
    omega (arith, below)

pub place-requires-in-true-false-clause-one : goal.place-requires-in-true-false-clause-one
place-requires-in-true-false-clause-one c =
    let from = read_up _ _ _ c.self.inside.sound c.args.a c.in-true-false.is-0 c.index-from-in-true-false.result.now
    c.index-from-in-true-false.ensures in
    let below = from.stands.below in
    omega (arith, below)

pub place-requires-in-true-false-clause-fits : goal.place-requires-in-true-false-clause-fits
place-requires-in-true-false-clause-fits c =
    (read_up _ _ _ c.self.inside.sound c.args.a c.in-true-false.is-0 c.index-from-in-true-false.result.now
    c.index-from-in-true-false.ensures).fits

pub place-requires-in-false-true-clause-column : goal.place-requires-in-false-true-clause-column
place-requires-in-false-true-clause-column c =
    let to = read_down _ _ _ c.self.inside.sound c.args.b c.in-false-true.is-1 c.index-to-in-false-true.result.now
    c.index-to-in-false-true.ensures in
    let below = to.stands.below in
    omega (arith, below)

pub place-requires-in-false-true-clause-one : goal.place-requires-in-false-true-clause-one
place-requires-in-false-true-clause-one c =
    let to = read_down _ _ _ c.self.inside.sound c.args.b c.in-false-true.is-1 c.index-to-in-false-true.result.now
    c.index-to-in-false-true.ensures in
    let below = to.stands.below in
    omega (arith, below)

pub place-requires-in-false-true-clause-fits : goal.place-requires-in-false-true-clause-fits
place-requires-in-false-true-clause-fits c =
    (read_down _ _ _ c.self.inside.sound c.args.b c.in-false-true.is-1 c.index-to-in-false-true.result.now
    c.index-to-in-false-true.ensures).fits

pub returns-then-from-to-clause-place : goal.returns-then-from-to-clause-place
returns-then-from-to-clause-place c =
    let from = read_up _ _ _ c.self.inside.sound c.args.a c.in-true-true.is-0 c.index-from.result.now
    c.index-from.ensures in
    let to = read_down _ _ _ c.self.inside.sound c.args.b c.in-true-true.is-1 c.index-to.result.now
    c.index-to.ensures in
    subst (λ (m : CostBlocks). Some c.place.result ≡ place_of m.nodes m.places c.args.a c.args.b) c.self.view_is
    (found_both _ _ _ c.self.inside.sound c.args.a c.args.b c.place.result c.in-true-true.is-0 c.in-true-true.is-1 _ _
    from to c.if-from-to.true c.place.ensures.place)

pub returns-then-from-to-clause-inside : goal.returns-then-from-to-clause-inside
returns-then-from-to-clause-inside c =
    let from = read_up _ _ _ c.self.inside.sound c.args.a c.in-true-true.is-0 c.index-from.result.now
    c.index-from.ensures in
    subst (λ (m : CostBlocks). c.place.result < length m.cells) c.self.view_is
    (place_fits _ _ _ c.self.inside.sound _ _ _ _ from c.place.ensures.inside)

pub returns-else-from-to-clause-place : goal.returns-else-from-to-clause-place
returns-else-from-to-clause-place c =
    let from = read_up _ _ _ c.self.inside.sound c.args.a c.in-true-true.is-0 c.index-from.result.now
    c.index-from.ensures in
    let to = read_down _ _ _ c.self.inside.sound c.args.b c.in-true-true.is-1 c.index-to.result.now
    c.index-to.ensures in
    subst (λ (m : CostBlocks). None ≡ place_of m.nodes m.places c.args.a c.args.b) c.self.view_is
    (found_neither _ _ _ c.self.inside.sound c.args.a c.args.b c.in-true-true.is-0 c.in-true-true.is-1 _ _ from to
    c.if-from-to.false)

pub returns-in-true-false-clause-place : goal.returns-in-true-false-clause-place
returns-in-true-false-clause-place c =
    let from = read_up _ _ _ c.self.inside.sound c.args.a c.in-true-false.is-0 c.index-from-in-true-false.result.now
    c.index-from-in-true-false.ensures in
    subst (λ (m : CostBlocks). Some c.place-in-true-false.result ≡ place_of m.nodes m.places c.args.a c.args.b)
    c.self.view_is
    (found_to_null _ _ _ c.self.inside.sound c.args.a c.args.b c.place-in-true-false.result c.in-true-false.is-0
    c.in-true-false.is-1 (subst (λ (m : CostBlocks). c.args.b < m.nodes) (sym c.self.view_is) c.requires.to) _ from
    c.place-in-true-false.ensures.place)

pub returns-in-true-false-clause-inside : goal.returns-in-true-false-clause-inside
returns-in-true-false-clause-inside c =
    let from = read_up _ _ _ c.self.inside.sound c.args.a c.in-true-false.is-0 c.index-from-in-true-false.result.now
    c.index-from-in-true-false.ensures in
    subst (λ (m : CostBlocks). c.place-in-true-false.result < length m.cells) c.self.view_is
    (place_fits _ _ _ c.self.inside.sound _ _ _ _ from c.place-in-true-false.ensures.inside)

pub returns-in-false-true-clause-place : goal.returns-in-false-true-clause-place
returns-in-false-true-clause-place c =
    let to = read_down _ _ _ c.self.inside.sound c.args.b c.in-false-true.is-1 c.index-to-in-false-true.result.now
    c.index-to-in-false-true.ensures in
    subst (λ (m : CostBlocks). Some c.place-in-false-true.result ≡ place_of m.nodes m.places c.args.a c.args.b)
    c.self.view_is
    (found_from_null _ _ _ c.self.inside.sound c.args.a c.args.b c.place-in-false-true.result c.in-false-true.is-0
    c.in-false-true.is-1 (subst (λ (m : CostBlocks). c.args.a < m.nodes) (sym c.self.view_is) c.requires.from) _ to
    c.place-in-false-true.ensures.place)

pub returns-in-false-true-clause-inside : goal.returns-in-false-true-clause-inside
returns-in-false-true-clause-inside c =
    let to = read_down _ _ _ c.self.inside.sound c.args.b c.in-false-true.is-1 c.index-to-in-false-true.result.now
    c.index-to-in-false-true.ensures in
    subst (λ (m : CostBlocks). c.place-in-false-true.result < length m.cells) c.self.view_is
    (place_fits _ _ _ c.self.inside.sound _ _ _ _ to c.place-in-false-true.ensures.inside)

pub returns-in-false-false-clause-place : goal.returns-in-false-false-clause-place
returns-in-false-false-clause-place c =
    subst (λ (m : CostBlocks). None ≡ place_of m.nodes m.places c.args.a c.args.b) c.self.view_is
    (sym (place_of_null _ _ c.args.a c.args.b
    (subst (λ (m : CostBlocks). c.args.a < m.nodes) (sym c.self.view_is) c.requires.from)
    (subst (λ (m : CostBlocks). c.args.b < m.nodes) (sym c.self.view_is) c.requires.to) c.in-false-false.is-0
    c.in-false-false.is-1))
