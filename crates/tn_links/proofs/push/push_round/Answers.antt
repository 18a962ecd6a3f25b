-- What shows the clauses of `push_round` of `src/push.rt`.
use Rattle.std.proofs.Common.{◌≡◌, ◌∙◌, ℕ, List, sym, ap, subst, arith, drop, get_or}
use Rattle.std.proofs.lemmas.Int.{ints}
use Rattle.std.proofs.lemmas.List.{drop_all}
use Rattle.tn_links.specs.Flows.{IsKeptFlow, total_gain}
use Rattle.tn_links.specs.Lots.{pushed}
use Rattle.tn_links.proofs.RoundLemmas.{round_gains}
use Rattle.tn_links.proofs.push.push_round.Goals as goal

pub returns-clause-kept : goal.returns-clause-kept
returns-clause-kept c =
    let links = c.args.links.now in
    let first = get_or c.args.nodes.now 0 0 in
    let after : c.step-2.new.levels
    ≡ pushed links.links.items c.args.lot c.args.levels.now first (drop 1 c.args.nodes.now) first =
    c.step-2.ensures
    ∙ sym (ap (λ (rest : List ℕ). pushed links.links.items c.args.lot c.loop-k.levels c.loop-k.at rest first)
    (drop_all c.loop-k.k c.args.nodes.now c.loop-k-test.false))
    ∙ c.loop-k.invariant.rest in
    subst (IsKeptFlow links.links.items) (sym after)
    (round_gains links.nodes links.links.items c.args.levels.now c.args.lot c.args.nodes.now links.plain c.requires.kept
    c.requires.round).kept

pub returns-clause-gained : goal.returns-clause-gained
returns-clause-gained c =
    let links = c.args.links.now in
    let first = get_or c.args.nodes.now 0 0 in
    let after : c.step-2.new.levels
    ≡ pushed links.links.items c.args.lot c.args.levels.now first (drop 1 c.args.nodes.now) first =
    c.step-2.ensures
    ∙ sym (ap (λ (rest : List ℕ). pushed links.links.items c.args.lot c.loop-k.levels c.loop-k.at rest first)
    (drop_all c.loop-k.k c.args.nodes.now c.loop-k-test.false))
    ∙ c.loop-k.invariant.rest in
    let gains = round_gains links.nodes links.links.items c.args.levels.now c.args.lot c.args.nodes.now links.plain
    c.requires.kept c.requires.round in
    let gained = gains.gained in
    let negative = c.requires.round.negative in
    let same = ap (total_gain links.links.items) after in
    omega (arith, ints, same, gained, negative)
