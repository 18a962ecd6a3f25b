-- What shows the clauses of `number_within` of `src/numbers.rt`.
use Rattle.std.proofs.Common.{sym, ◌∙◌, rules}
use Rattle.tn_run.proofs.NumberLemmas.{none_within}
use Rattle.tn_run.proofs.numbers.number_within.Goals as goal

pub returns-in-Err-clause-number : goal.returns-in-Err-clause-number
returns-in-Err-clause-number c =
    none_within c.args.least c.args.most c.args.word.now c.parse.result c.in-Err.field-0 c.parse.ensures.value.0
    c.in-Err.is (sym c.is_numeral.ensures ∙ c.if-not-is_numeral.false)
    (search rules)
