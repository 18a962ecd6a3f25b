-- What the loops of `answer_firms` of `src/firms.rt` keep.
use Rattle.std.proofs.Common.{map}
use Rattle.tn_firm.specs.Raw.{raw_firm_of}
use Rattle.tn_model.specs.Prices.{price_at}
use Rattle.tn_raw_answers.proofs.HoldingLemmas.{AreTold}
use Rattle.tn_raw_answers.proofs.firms.answer_firms.Given as goal

abbrev pub invariant-loop-f : goal.invariant-loop-f
invariant-loop-f g l =
    AreTold (map raw_firm_of l.firms) l.ends l.at.on (price_at l.at.prices) l.f l.holdings.items l.content l.surplus
