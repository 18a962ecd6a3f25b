-- What shows the clauses of `laminar_of` of `src/laminars.rt`.
use Rattle.std.proofs.Common.{rules, ◌≡◌, length, subst, sym, ap, ◌∙◌, arith}
use Rattle.std.specs.Prelude.{ℤ, List, All}
use Rattle.tn_base.specs.Widths.{most_amount}
use Rattle.tn_base.specs.declared.side.Side.{Side}
use Rattle.tn_laminar.specs.Sum.{IsOwnSet}
use Rattle.tn_read_firms.specs.Laminars.{amounts_list}
use Rattle.tn_read_references.specs.Ordered.{sides_of}
use Rattle.tn_read_firms.specs.OwnNumbers.{no_numbers}
use Rattle.tn_read_references.proofs.EntryLeads.{AreNumbers, all_within, zeros}
use Rattle.tn_read_firms.proofs.OwnLemmas.{own_numbers_lead}
use Rattle.tn_read_firms.proofs.LaminarLeads.{sets_lead}
use Rattle.tn_read_firms.proofs.RoomLemmas.{sets_room}
use Rattle.tn_read_firms.proofs.laminars.laminar_of.Goals as goal

pub checked-requires-clause-small : goal.checked-requires-clause-small
checked-requires-clause-small c =
    let n = length (sides_of c.args.head.now.ends c.args.f) in
    let start : c.in_ok-zeros.zeros.items ≡ no_numbers c.args.head.now.ends c.args.f = search rules in
    let limit = c.args.head.now.limits.amount in
    let are : AreNumbers n limit c.in_ok-zeros.zeros.items =
    subst (λ (numbers : List ℤ). AreNumbers n limit numbers) (sym start) (zeros n limit) in
    all_within limit most_amount c.in_ok-amounts.amounts.items c.ends.ensures.trades.limits.amount
    ((own_numbers_lead c.args.head.now (amounts_list c.args.f) n c.in_ok-zeros.zeros.items _ are).at
    c.in_ok-amounts.amounts.items c.in_ok-amounts.ensures.gives).small

pub checked-requires-clause-few_sets : goal.checked-requires-clause-few_sets
checked-requires-clause-few_sets c =
    let most = c.ends.ensures.trades.limits.sets in
    let few = ((sets_lead c.args.head.now c.ends.ensures.trades c.args.f _).at c.in_ok-sets.sets.items
    c.in_ok-sets.ensures).1 in
    omega (arith, few, most)

pub checked-requires-clause-own : goal.checked-requires-clause-own
checked-requires-clause-own c =
    subst (λ (sides : List Side). All (IsOwnSet (length sides)) c.in_ok-sets.sets.items)
    (sym (c.in_ok-sides.ensures ∙ ap (λ ends. sides_of ends c.args.f) c.ends.ensures.is))
    ((sets_lead c.args.head.now c.ends.ensures.trades c.args.f _).at c.in_ok-sets.sets.items c.in_ok-sets.ensures).0.own

pub checked-requires-clause-numbered : goal.checked-requires-clause-numbered
checked-requires-clause-numbered c =
    sets_room c.args.head.now.limits c.ends.ensures.trades.limits c.in_ok-sets.sets.items
    ((sets_lead c.args.head.now c.ends.ensures.trades c.args.f _).at c.in_ok-sets.sets.items
    c.in_ok-sets.ensures).0.numbered
