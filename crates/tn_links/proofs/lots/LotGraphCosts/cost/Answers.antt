-- What shows the clauses of `cost` of `src/lots.rt`.
use Rattle.std.proofs.Common.{◌∙◌, sym, arith, get_or}
use Rattle.std.proofs.lemmas.Option.{slice_get-get_or}
use Rattle.tn_links.proofs.NearLemmas.{arc_none, arc_some, between_is}
use Rattle.tn_links.proofs.lots.LotGraphCosts.cost.Goals as goal

pub bounds-self-j : goal.bounds-self-j
bounds-self-j c =
    let graph = c.args.self.now in
    let found = between_is graph.links.now.links.items c.args.a c.args.b c.in-Some.j (sym c.between.ensures ∙ c.in-Some.is) in
    let below = found.below in
    omega (arith, below, graph.one_each)

pub lot_cost-requires-clause-inside : goal.lot_cost-requires-clause-inside
lot_cost-requires-clause-inside c =
    let graph = c.args.self.now in
    (between_is graph.links.now.links.items c.args.a c.args.b c.in-Some.j (sym c.between.ensures ∙ c.in-Some.is)).below

pub lot_cost-requires-clause-within : goal.lot_cost-requires-clause-within
lot_cost-requires-clause-within c link is =
    let graph = c.args.self.now in
    let found = between_is graph.links.now.links.items c.args.a c.args.b c.in-Some.j (sym c.between.ensures ∙ c.in-Some.is) in
    let below = found.below in
    graph.within c.in-Some.j (get_or graph.levels.now c.in-Some.j 0) link is
    (slice_get-get_or graph.levels.now c.in-Some.j 0 (omega (arith, below, graph.one_each)))

pub returns-in-None : goal.returns-in-None
returns-in-None c =
    let graph = c.args.self.now in
    sym (arc_none graph.links.now.links.items graph.levels.now graph.lot c.args.a c.args.b
    (sym c.between.ensures ∙ c.in-None.is))

pub returns-in-Some : goal.returns-in-Some
returns-in-Some c =
    let graph = c.args.self.now in
    let e = sym c.between.ensures ∙ c.in-Some.is in
    let found = between_is graph.links.now.links.items c.args.a c.args.b c.in-Some.j e in
    let below = found.below in
    c.lot_cost.ensures found.link found.link_is
    ∙ sym (arc_some graph.links.now.links.items graph.levels.now graph.lot c.args.a c.args.b c.in-Some.j found.link
    (get_or graph.levels.now c.in-Some.j 0) e found.link_is
    (slice_get-get_or graph.levels.now c.in-Some.j 0 (omega (arith, below, graph.one_each))))
