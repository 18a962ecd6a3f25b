-- What shows the clauses of `Finder::set_label` of `src/finder.rt`.
use Rattle.std.proofs.Common.{◌≡◌, ℤ, List, ap, subst, set, take}
use Rattle.std.proofs.lemmas.Int.{to_z-of_z}
use mir.Syntax.{w128}
use mir.Val.{SFits}
use Rattle.tn_cycle.specs.Reading.{Reading, finder_reading}
use Rattle.tn_cycle.proofs.ViewLemmas.{taken-set}
use Rattle.tn_cycle.proofs.finder.Finder.set_label.Goals as goal

pub returns : goal.returns
returns c =
    let f = c.self.inside in
    let reading = finder_reading f.nodes f.count f.path.items f.labelled f.labels.items f.reached f.turns f.end f.row.items
    in
    let fits : SFits w128 c.args.label = c.ranges.label in
    simp to_z-of_z
    (subst (λ (one : Reading). record reading { labels = take f.labelled (set f.labels.items c.args.v c.args.label) }
    ≡ record one { labels = set one.labels c.args.v c.args.label }) c.self.view_is
    (ap (λ (labels : List ℤ). record reading { labels = labels })
    (taken-set f.labelled f.labels.items c.args.v c.args.label)))
