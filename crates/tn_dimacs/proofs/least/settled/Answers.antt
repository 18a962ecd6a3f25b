-- What shows the clauses of `settled` of `src/least.rt`.
use Rattle.std.proofs.Common.{◌≡◌, ◌++◌, List, sym, subst, take, drop, arith, length}
use Rattle.std.proofs.lemmas.List.{take_at}
use Rattle.tn_links.specs.declared.link.Link.{Link}
use Rattle.tn_dimacs.specs.Served.{IsBest}
use Rattle.tn_dimacs.proofs.least.settled.Goals as goal

pub returns-clause-least : goal.returns-clause-least
returns-clause-least c =
    let links = c.in_ok-links.links in
    let old = c.in_ok-levels.levels in
    let new = c.settle_near.new.levels in
    let settled = c.settle_near.ensures in
    let kept = settled.kept in
    let count : old.len ≡ length new =
    omega (arith, old.ok.0, c.in_ok-levels.ensures.one_each, kept.one_each) in
    let back : take old.len (new ++ drop (length new) old.items) ≡ new =
    take_at new (drop (length new) old.items) old.len (sym count) in
    subst (IsBest c.args.links.items) (sym back) (subst (λ (some : List Link). IsBest some new) c.in_ok-links.ensures.1
    (record { few = links.few; kept = kept; greatest = settled.greatest }))
