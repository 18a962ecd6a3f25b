-- What is said of the firms so far.
use Rattle.std.proofs.Common.{◌≡◌, length}
use Rattle.tn_unit_answers.specs.Judged.{AreToldBy}
use Rattle.tn_unit_answers.proofs.firms.holdings_of.Given as goal

abbrev pub invariant-loop-f : goal.invariant-loop-f
invariant-loop-f l = (length l.holdings.items ≡ l.f)
    × AreToldBy l.trades l.counts l.judged.best.sold.items l.judged.best.bought.items l.judged.firms.items l.holdings.items
