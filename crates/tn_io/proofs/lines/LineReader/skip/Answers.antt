-- What shows the clauses of `LineReader::skip` of `src/lines.rt`.
use Rattle.std.proofs.Common.{ap, drop, length, sym, subst, ◌∙◌, ◌≤◌, List, ℕ}
use Rattle.tn_io.proofs.LineLemmas.{skip_range}
use Rattle.tn_io.proofs.lines.LineReader.skip.Goals as goal

pub returns : goal.returns
returns c =
    skip_range c.self.inside.piece c.self.inside.from c.self.inside.to c.args.count
    (subst (λ (bytes : List ℕ). c.args.count ≤ length bytes) (sym c.self.view_is) c.requires)
    ∙ ap (drop c.args.count) c.self.view_is
