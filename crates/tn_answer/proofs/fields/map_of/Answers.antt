-- What shows the clauses of `map_of` of `src/fields.rt`.
use Rattle.std.proofs.Common.{sym, subst, ap, ◌∙◌, ℕ, List, Bor}
use Rattle.tn_answer.specs.declared.fields.Field.{Field}
use Rattle.tn_answer.specs.Fields.{members_of, IsShortField}
use Rattle.tn_answer.proofs.MapLemmas.{take-whole}
use Rattle.tn_answer.proofs.fields.map_of.Goals as goal

pub field_value-requires : goal.field_value-requires
field_value-requires c =
    let P : Bor (List ℕ) × Field → Type 0 = λ field. IsShortField field.1 in
    subst P (sym c.loop-key-item.is) (c.requires c.loop-key.key-index c.loop-key-item.result c.loop-key-test.true)

pub returns : goal.returns
returns c =
    let all = take-whole c.args.fields.now c.loop-key.key-index c.loop-key-test.false in
    c.loop-key.invariant ∙ ap (members_of c.args.names.now) all
