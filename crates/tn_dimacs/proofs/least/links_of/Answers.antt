-- What shows the clauses of `links_of` of `src/least.rt`.
use Rattle.std.proofs.Common.{◌≡◌, ◌+◌, ◌++◌, ◌∷◌, [], ℕ, suc, subst, sym, take, get_or, pos, arith}
use Rattle.tn_dimacs.specs.declared.problem.Arc.{Arc}
use Rattle.std.proofs.lemmas.Option.{slice_get-get_or}
use Rattle.tn_dimacs.specs.Served.{AreLinksOf}
use Rattle.tn_dimacs.proofs.FlowLemmas.{one_link_more}
use Rattle.tn_dimacs.proofs.least.links_of.Goals as goal

pub link_of-requires : goal.link_of-requires
link_of-requires c =
    let none : Arc = record { tail = 0; head = 0; capacity = 0; cost = pos 0 } in
    c.requires c.loop-arc.arc-index (get_or c.args.arcs.now c.loop-arc.arc-index none)
    (slice_get-get_or c.args.arcs.now c.loop-arc.arc-index none c.loop-arc-test.true)

pub loop-arc-preserved : goal.loop-arc-preserved
loop-arc-preserved c =
    let none : Arc = record { tail = 0; head = 0; capacity = 0; cost = pos 0 } in
    let k = c.loop-arc.arc-index in
    let arc = get_or c.args.arcs.now k none in
    let link = c.in_ok-link_of.field-0 in
    let more : AreLinksOf (take (suc k) c.args.arcs.now) (c.loop-arc.links.items ++ link ∷ []) =
    one_link_more c.args.arcs.now c.loop-arc.links.items k arc link
    (slice_get-get_or c.args.arcs.now k none c.loop-arc-test.true) c.loop-arc.invariant c.in_ok-link_of.ensures in
    let next : suc k ≡ k + 1 = omega arith in
    subst (AreLinksOf (take (k + 1) c.args.arcs.now)) (sym c.in_ok-push.ensures.items)
    (subst (λ (n : ℕ). AreLinksOf (take n c.args.arcs.now) (c.loop-arc.links.items ++ link ∷ [])) next more)
