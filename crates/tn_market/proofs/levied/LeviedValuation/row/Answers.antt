-- What shows the clauses of `LeviedValuation::row` of `src/levied.rt`.
use Rattle.std.proofs.Common.{◌≡◌, ◌<◌, ◌^◌, ℕ, arith, sym, subst}
use Rattle.tn_base.proofs.SetLemmas.{toggle_within}
use Rattle.tn_market.specs.Levied.{levied}
use Rattle.tn_market.proofs.RowLemmas.{changed_all}
use Rattle.tn_market.proofs.levied.LeviedValuation.row.Goals as goal

pub levied_worth-requires-clause-own : goal.levied_worth-requires-clause-own
levied_worth-requires-clause-own g c =
    let count = c.trades-k-end.ensures.count in
    let below = c.loop-k-test.true in
    subst (λ (y : ℕ). y < 2 ^ (g.V.Valuation.firm c.args.self.now.inner.now).count) (sym c.toggle.ensures)
    (toggle_within c.args.x c.loop-k.k _ c.requires.own (omega (arith, count, below)))

pub returns-clause-worths : goal.returns-clause-worths
returns-clause-worths g c =
    let levy = c.args.self.now in
    let firm = g.V.Valuation.firm levy.inner.now in
    let count = c.trades-k-end.ensures.count in
    let past = c.loop-k-test.false in
    let end : c.loop-k.k ≡ firm.count = omega (arith, count, past, c.loop-k.auto.k-end) in
    changed_all (levied levy.scale levy.taxed levy.tax firm).worth firm.worth c.args.x c.args.wanted c.loop-k.k
    c.loop-k.worths c.loop-k.invariant
    (subst (λ (n : ℕ). c.args.wanted < 2 ^ n) (sym end) c.requires.own_wanted)
