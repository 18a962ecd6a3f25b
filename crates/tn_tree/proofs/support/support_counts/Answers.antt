-- What shows the clauses of `support_counts` of `src/support.rt`.
use Rattle.std.proofs.Common.{List, Option, None, Some, ℤ, subst}
use Rattle.tn_tree.specs.Supports.{FindsNone}
use Rattle.tn_tree.proofs.SupportLemmas.{possible_by, unable_by}
use Rattle.tn_tree.proofs.support.support_counts.Goals as goal

pub returns-in-Some : goal.returns-in-Some
returns-in-Some c =
    unable_by c.args.market.now c.args.counts.now c.in_ok-worths.worths.items c.in-Some.firm
    (record { sized = c.in_ok-worths.ensures.sized; each = c.in_ok-worths.ensures.worths })
    (subst (λ (xs : List (Option ℤ)). FindsNone xs (Some c.in-Some.firm)) c.deref.ensures.value c.in-Some.ensures)

pub support_possible-requires-clause-possible : goal.support_possible-requires-clause-possible
support_possible-requires-clause-possible c =
    possible_by c.args.market.now c.args.counts.now c.in_ok-worths.worths.items
    (record { sized = c.in_ok-worths.ensures.sized; each = c.in_ok-worths.ensures.worths })
    (subst (λ (xs : List (Option ℤ)). FindsNone xs None) c.deref.ensures.value c.in-None.ensures)
