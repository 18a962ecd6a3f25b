-- What shows the clauses of `list_link` of `src/lists.rt`.
use Rattle.std.proofs.Common.{◌≡◌, ◌∙◌, ◌++◌, ◌∷◌, [], List, ap, sym, get_or, set}
use Rattle.std.proofs.lemmas.List.{get_or-map, map-set}
use Rattle.tn_links.specs.declared.links.Neighbour.{Neighbour}
use Rattle.tn_links.specs.Near.{rows}
use Rattle.tn_links.proofs.lists.list_link.Goals as goal

pub returns : goal.returns
returns c =
    let near = c.args.near.now.items in
    let list : c.index_mut-list.result.now.items ≡ get_or (rows near) c.args.v [] =
    ap (λ list. list.items) c.index_mut-list.ensures.value
    ∙ sym (get_or-map (λ list. list.items) near c.args.v c.index_mut-list.result.now [] c.requires) in
    map-set _ near c.args.v c.push.new.self
    ∙ ap (set (rows near) c.args.v) (c.in_ok-push.ensures.items
    ∙ ap (λ (some : List Neighbour). some ++ c.args.one ∷ []) list)
