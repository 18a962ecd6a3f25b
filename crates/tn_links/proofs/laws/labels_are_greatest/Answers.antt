-- What shows the clause of `labels_are_greatest` of `src/laws.rt`.
use Rattle.tn_links.proofs.LawLemmas.{labels_are_greatest}
use Rattle.tn_links.proofs.laws.labels_are_greatest.Goals as goal

pub returns : goal.returns
returns c = labels_are_greatest
