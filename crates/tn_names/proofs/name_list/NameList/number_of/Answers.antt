-- What shows the clauses of `NameList::number_of` of `src/name_list.rt`.
use Rattle.std.proofs.Common.{◌≡◌, ◌∙◌, arith, Some}
use Rattle.std.proofs.lemmas.Grind.{common_steps}
use Rattle.tn_names.specs.Names.{number_of}
use Rattle.tn_names.proofs.NameLemmas.{has_name-keys, number_of-keys, name_at_number}
use Rattle.tn_names.proofs.name_list.NameList.number_of.Goals as goal

pub returns-in_err-number-clause-number : goal.returns-in_err-number-clause-number
returns-in_err-number-clause-number c =
    let e = c.get_index_of.ensures.index ∙ number_of-keys c.self.inside.names.keys c.args.name.now in
    rw (← c.self.view_is) (grind (arith, e, common_steps))

pub returns-in_err-number-clause-there : goal.returns-in_err-number-clause-there
returns-in_err-number-clause-there c =
    let e = c.get_index_of.ensures.found ∙ has_name-keys c.self.inside.names.keys c.args.name.now in
    rw (← c.self.view_is) (grind (arith, e, common_steps))

pub returns-clause-number : goal.returns-clause-number
returns-clause-number c =
    let e = c.get_index_of.ensures.index ∙ number_of-keys c.self.inside.names.keys c.args.name.now in
    rw (← c.self.view_is) (grind (arith, e, common_steps))

pub returns-clause-there : goal.returns-clause-there
returns-clause-there c =
    let e = c.get_index_of.ensures.found ∙ has_name-keys c.self.inside.names.keys c.args.name.now in
    rw (← c.self.view_is) (grind (arith, e, common_steps))

pub returns-clause-found : goal.returns-clause-found
returns-clause-found c =
    let e = c.get_index_of.ensures.index ∙ number_of-keys c.self.inside.names.keys c.args.name.now in
    let at : number_of c.args.self.now c.args.name.now ≡ Some c.in_ok-number.number =
    rw (← c.self.view_is) (grind (arith, e, common_steps)) in
    name_at_number _ _ _ at
