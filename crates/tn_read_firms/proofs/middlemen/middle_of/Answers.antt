-- What shows the clauses of `middle_of` of `src/middlemen.rt`.
use Rattle.std.proofs.Common.{rules, ◌≡◌, length, subst, sym}
use Rattle.std.specs.Prelude.{ℤ, List}
use Rattle.tn_base.specs.Widths.{most_amount}
use Rattle.tn_read_firms.specs.Middlemen.{costs_list, gains_list}
use Rattle.tn_read_references.specs.Ordered.{sides_of}
use Rattle.tn_read_firms.specs.OwnNumbers.{no_numbers}
use Rattle.tn_read_references.proofs.EntryLeads.{AreNumbers, all_within, within_more, zeros}
use Rattle.tn_read_firms.proofs.OwnLemmas.{own_numbers_lead}
use Rattle.tn_read_firms.proofs.MiddleLeads.{keep_leads}
use Rattle.tn_read_firms.proofs.middlemen.middle_of.Goals as goal

pub new-requires-clause-small : goal.new-requires-clause-small
new-requires-clause-small c =
    let n = length (sides_of c.args.head.now.ends c.args.f) in
    let start : c.in_ok-zeros.zeros.items ≡ no_numbers c.args.head.now.ends c.args.f = search rules in
    let limit = c.args.head.now.limits.amount in
    let none : AreNumbers n limit c.in_ok-zeros.zeros.items =
    subst (λ (numbers : List ℤ). AreNumbers n limit numbers) (sym start) (zeros n limit) in
    let costs = (own_numbers_lead c.args.head.now (costs_list c.args.f) n c.in_ok-zeros.zeros.items _ none).at
    c.in_ok-numbers.numbers.items c.in_ok-numbers.ensures.gives in
    all_within limit most_amount c.in_ok-numbers-2.numbers.items c.ends.ensures.trades.limits.amount
    ((own_numbers_lead c.args.head.now (gains_list c.args.f) n c.in_ok-numbers.numbers.items _ costs).at
    c.in_ok-numbers-2.numbers.items c.in_ok-numbers-2.ensures.gives).small

pub new-requires-clause-small_keep : goal.new-requires-clause-small_keep
new-requires-clause-small_keep c =
    let limits = c.args.head.now.limits in
    let small = (keep_leads limits _ _).at c.in_ok-keep.keep c.in_ok-keep.ensures in
    λ number is. within_more number limits.amount most_amount c.ends.ensures.trades.limits.amount (small number is)
