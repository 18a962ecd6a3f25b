-- What shows the clauses of `step` of `src/push.rt`.
use Rattle.std.proofs.Common.{◌≡◌, ◌∙◌, Some, sym, ap, arith, get_or, set}
use Rattle.std.proofs.lemmas.Option.{slice_get-get_or, slice_get_read}
use Rattle.std.specs.Prelude.{slice_get}
use Rattle.tn_links.proofs.NearLemmas.{between_is, stepped_none, stepped_some}
use Rattle.tn_links.proofs.push.step.Goals as goal

pub index-requires : goal.index-requires
index-requires c =
    let links = c.args.links.now in
    let found = between_is links.links.items c.args.from c.args.to c.in-Some.j (sym c.between.ensures ∙ c.in-Some.is) in
    let below = found.below in
    omega (arith, below, links.links.ok.0)

pub bounds-levels-j : goal.bounds-levels-j
bounds-levels-j c =
    let links = c.args.links.now in
    let found = between_is links.links.items c.args.from c.args.to c.in-Some.j (sym c.between.ensures ∙ c.in-Some.is) in
    let below = found.below in
    omega (arith, below, c.requires.one_each)

pub bounds-levels-j-in-Some : goal.bounds-levels-j-in-Some
bounds-levels-j-in-Some c =
    let links = c.args.links.now in
    let found = between_is links.links.items c.args.from c.args.to c.in-Some.j (sym c.between.ensures ∙ c.in-Some.is) in
    let below = found.below in
    omega (arith, below, c.requires.one_each)

pub returns-in-Some : goal.returns-in-Some
returns-in-Some c =
    let links = c.args.links.now in
    let e = sym c.between.ensures ∙ c.in-Some.is in
    let found = between_is links.links.items c.args.from c.args.to c.in-Some.j e in
    let below = found.below in
    let at : slice_get links.links.items c.in-Some.j ≡ Some c.index.result.now =
    slice_get_read links.links.items links.links.len c.in-Some.j c.index.result.now (omega (arith, links.links.ok.0))
    (omega (arith, links.links.ok.0, below)) c.index.ensures in
    ap (set c.args.levels.now c.in-Some.j) c.level_after.ensures
    ∙ sym (stepped_some links.links.items c.args.levels.now c.args.lot c.args.from c.args.to c.in-Some.j c.index.result.now
    (get_or c.args.levels.now c.in-Some.j 0) e at
    (slice_get-get_or c.args.levels.now c.in-Some.j 0 (omega (arith, below, c.requires.one_each))))

pub returns-in-None : goal.returns-in-None
returns-in-None c =
    sym (stepped_none c.args.links.now.links.items c.args.levels.now c.args.lot c.args.from c.args.to
    (sym c.between.ensures ∙ c.in-None.is))
