-- What shows the clauses of `all_on_block` of `src/laws.rt`.
use Rattle.tn_blocking_laws.proofs.OfferLemmas.{all_on_block}
use Rattle.tn_blocking_laws.proofs.laws.all_on_block.Goals as goal

pub returns : goal.returns
returns c = all_on_block
