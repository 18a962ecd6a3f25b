-- What shows the clauses of `taxed_amounts` of `src/blocks.rt`.
use Rattle.std.proofs.Common.{pos}
use Rattle.std.proofs.lemmas.Option.{slice_get-get_or}
use Rattle.tn_counts.specs.Laminar.{amounts_at}
use Rattle.tn_unit_judge.proofs.blocks.taxed_amounts.Goals as goal

pub taxed-requires : goal.taxed-requires
taxed-requires c = c.requires c.loop-k.k (amounts_at c.args.amounts.now c.loop-k.k)
    (slice_get-get_or c.args.amounts.now c.loop-k.k (record { seller = pos 0; buyer = pos 0 }) c.loop-k-test.true)
