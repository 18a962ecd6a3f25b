-- What shows the clause of `labels_are_prices` of `src/laws.rt`.
use Rattle.tn_counts.proofs.PlainLemmas.{links_plain}
use Rattle.tn_counts.proofs.PriceLemmas.{prices_are}
use Rattle.tn_counts.proofs.laws.labels_are_prices.Goals as goal

pub returns : goal.returns
returns c market pins links levels label is are of kept keeps = prices_are market pins links levels label (record {
  flow = record { market_is = is; of = of; plain = links_plain market pins links is are of; kept = kept };
  pins_are = are;
  keeps = keeps;
})
