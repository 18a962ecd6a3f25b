-- What shows the clauses of `dealer_of` of `src/dealers.rt`.
use Rattle.std.proofs.Common.{length, subst, sym, ap, ◌∙◌}
use Rattle.std.specs.Prelude.{All, List}
use Rattle.tn_base.specs.Table.{buys_of}
use Rattle.tn_base.specs.declared.side.Side.{Side}
use Rattle.tn_dealer.specs.Pairs.{IsOwnPair}
use Rattle.tn_read_references.specs.Ordered.{sides_of}
use Rattle.tn_read_firms.proofs.DealerLeads.{pairs_lead}
use Rattle.tn_read_firms.proofs.dealers.dealer_of.Goals as goal

pub of_different-requires-clause-own : goal.of_different-requires-clause-own
of_different-requires-clause-own c =
    subst (λ (sides : List Side). All (IsOwnPair (length sides) (buys_of sides)) c.in_ok-pairs.pairs.items)
    (sym (c.in_ok-sides.ensures ∙ ap (λ ends. sides_of ends c.args.f) c.ends.ensures.is))
    ((pairs_lead c.args.head.now c.ends.ensures.trades c.args.f _).at c.in_ok-pairs.pairs.items
    c.in_ok-pairs.ensures).own

pub of_different-requires-clause-different : goal.of_different-requires-clause-different
of_different-requires-clause-different c =
    ((pairs_lead c.args.head.now c.ends.ensures.trades c.args.f _).at c.in_ok-pairs.pairs.items
    c.in_ok-pairs.ensures).different
