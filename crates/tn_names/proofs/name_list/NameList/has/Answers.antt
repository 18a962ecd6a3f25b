-- What shows the clauses of `NameList::has` of `src/name_list.rt`.
use Rattle.std.proofs.Common.{◌∙◌, ap}
use Rattle.tn_names.specs.Names.{has_name}
use Rattle.tn_names.proofs.NameLemmas.{has_name-keys}
use Rattle.tn_names.proofs.name_list.NameList.has.Goals as goal

pub returns : goal.returns
returns c = c.contains.ensures ∙ has_name-keys c.self.inside.names.keys c.args.name.now
    ∙ ap (λ names. has_name names c.args.name.now) c.self.view_is
