-- What shows the clauses of `read_on` of `src/arrangement.rt`.
use Rattle.std.proofs.Common.{◌^◌, ◌<◌, sym, subst}
use Rattle.std.specs.Prelude.{ℤ, unsigned_abs, All}
use Rattle.tn_read_unit_parts.proofs.ArrangementLemmas.{counts_fit}
use Rattle.tn_read_unit_parts.proofs.EntryLemmas.{numbers_lead}
use Rattle.tn_read_unit_parts.specs.declared.entries.EntryNumbers.TheVariants.{Units}
use Rattle.tn_read_unit_parts.proofs.arrangement.read_on.Goals as goal

pub counts_of-requires : goal.counts_of-requires
counts_of-requires c =
    let kept = c.trades-trades.ensures.kept in
    let are = (numbers_lead c.args.head.now kept.named kept.few Units _).at _ c.in_ok-units.ensures.gives in
    subst (All (λ (z : ℤ). unsigned_abs z < 2 ^ 32)) (sym c.deref.ensures.value)
    (counts_fit c.args.head.now kept c.in_ok-units.units.items are)
