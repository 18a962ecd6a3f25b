-- What shows the clause of `links_are_plain` of `src/laws.rt`.
use Rattle.tn_counts.proofs.PlainLemmas.{links_plain}
use Rattle.tn_counts.proofs.laws.links_are_plain.Goals as goal

pub returns : goal.returns
returns c = links_plain
