-- What shows the clauses of `NameList::push` of `src/name_list.rt`.
use Rattle.std.proofs.Common.{◌∙◌, ap, map, string_bytes, ◌++◌, ◌∷◌, []}
use Rattle.tn_names.proofs.NameLemmas.{map-insert_name, IsNameList-push}
use Rattle.tn_names.proofs.name_list.NameList.push.Goals as goal

pub invariant_of-self-2 : goal.invariant_of-self-2
invariant_of-self-2 c =
    let new = rw (← c.self.view_is) at c.requires.new in
    rw (
      c.in_ok-insert.ensures.keys,
      map-insert_name c.self.inside.names.keys c.in_ok-owned.owned c.args.name.now
          c.in_ok-owned.ensures.ok new,
    )
    (IsNameList-push _ _ c.self.invariant new c.requires.named (rw c.self.view_is c.requires.room))

pub returns-clause-last : goal.returns-clause-last
returns-clause-last c =
    let new = rw (← c.self.view_is) at c.requires.new in
    ap (map string_bytes) c.in_ok-insert.ensures.keys ∙ map-insert_name c.self.inside.names.keys c.in_ok-owned.owned
    c.args.name.now c.in_ok-owned.ensures.ok new
    ∙ ap (λ names. names ++ c.args.name.now ∷ []) c.self.view_is
