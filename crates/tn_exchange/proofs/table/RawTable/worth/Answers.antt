-- What shows the clauses of `RawTable::worth` of `src/table.rt`.
use Rattle.std.proofs.Common.{◌≡◌, not, sym, ap, ◌∙◌, arith, None}
use Rattle.std.specs.Prelude.{is_some}
use Rattle.std.proofs.lemmas.Bool.{false≢true}
use Rattle.tn_exchange.proofs.RowLemmas.{worth_from_read, worth_by_row-empty, worth_by_row-other, none_from_test}
use Rattle.tn_exchange.proofs.table.RawTable.worth.Goals as goal
use Rattle.tn_exchange.proofs.table.RawTable.worth.Goals.{else-is_none-via-then-is_none+else-bits-eq0, else-is_none-via-else-is_none}

pub returns-then-bits-eq0-clause-worth : goal.returns-then-bits-eq0-clause-worth
returns-then-bits-eq0-clause-worth c =
    let own = rw (← c.self.view_is) at c.requires in
    let read = rw c.bits.ensures at c.index.ensures in
    let none : c.index.result.now ≡ None = none_from_test _ (c.is_none.ensures ∙ ap not c.if-is_none.true) in
    let empty : c.args.x ≡ 0 = omega arith in
    rw (← c.self.view_is) (sym (worth_from_read _ c.self.invariant c.args.x _ _ own read
    ∙ worth_by_row-empty _ c.args.x none empty))

pub returns-else-is_none-clause-worth : goal.returns-else-is_none-clause-worth
returns-else-is_none-clause-worth c =
    let own = rw (← c.self.view_is) at c.requires in
    let read = rw c.bits.ensures at c.index.ensures in
    let not_both : c.index.result.now ≡ None → c.args.x ≡ 0 → ⊥ = λ none empty.
    elim c.else-is_none.branch [
      | else-is_none-via-then-is_none+else-bits-eq0 w ↦ w.if-bits-eq0.false (w.bits-then-is_none.ensures ∙ empty)
      | else-is_none-via-else-is_none w ↦
          false≢true (sym (ap is_some none) ∙ c.is_none.ensures ∙ ap not w.if-is_none.false)
    ] in
    rw (← c.self.view_is) (sym (worth_from_read _ c.self.invariant c.args.x _ _ own read
    ∙ worth_by_row-other _ c.args.x not_both))
