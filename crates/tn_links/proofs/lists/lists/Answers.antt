-- What shows the clauses of `lists` of `src/lists.rt`.
use Rattle.std.proofs.Common.{◌≡◌, ◌∙◌, ◌+◌, ◌++◌, ◌∷◌, [], Some, List, refl, ap, sym, subst, take, arith, length, get_or, set}
use Rattle.std.proofs.lemmas.List.{length-map, length-set}
use Rattle.std.proofs.lemmas.Option.{slice_get_read}
use Rattle.std.specs.Prelude.{slice_get}
use Rattle.tn_links.specs.declared.links.Neighbour.{Neighbour}
use Rattle.tn_links.specs.Near.{AreListed, rows}
use Rattle.tn_links.proofs.ListLemmas.{one_more_link, with_link}
use Rattle.tn_links.proofs.lists.lists.Goals as goal

pub list_link-requires : goal.list_link-requires
list_link-requires c =
    let link = c.index-links-j.result in
    let at : slice_get c.args.links.now c.loop-j.j ≡ Some link =
    slice_get_read c.args.links.now (length c.args.links.now) c.loop-j.j link refl c.loop-j-test.true c.index-links-j.is in
    let inside = (c.requires.each c.loop-j.j link at).tail_inside in
    let count : length (rows c.loop-j.near.items) ≡ length c.loop-j.near.items =
    length-map c.loop-j.near.items (λ list. list.items) in
    omega (arith, inside, count, c.loop-j.invariant.one_each)

pub list_link-requires-in-loop-j : goal.list_link-requires-in-loop-j
list_link-requires-in-loop-j c =
    let link = c.index-links-j.result in
    let at : slice_get c.args.links.now c.loop-j.j ≡ Some link =
    slice_get_read c.args.links.now (length c.args.links.now) c.loop-j.j link refl c.loop-j-test.true c.index-links-j.is in
    let inside = (c.requires.each c.loop-j.j link at).head_inside in
    let count : length (rows c.list_link.new.near.items) ≡ length c.list_link.new.near.items =
    length-map c.list_link.new.near.items (λ list. list.items) in
    let same : length (rows c.list_link.new.near.items) ≡ length (rows c.loop-j.near.items) =
    ap length c.in_ok-list_link.ensures ∙ length-set (rows c.loop-j.near.items) link.tail
    (get_or (rows c.loop-j.near.items) link.tail [] ++ record { link = c.loop-j.j; node = link.head } ∷ []) in
    omega (arith, inside, count, same, c.loop-j.invariant.one_each)

pub loop-j-preserved : goal.loop-j-preserved
loop-j-preserved c =
    let link = c.index-links-j.result in
    let at : slice_get c.args.links.now c.loop-j.j ≡ Some link =
    slice_get_read c.args.links.now (length c.args.links.now) c.loop-j.j link refl c.loop-j-test.true c.index-links-j.is in
    let made : rows c.list_link-in-loop-j.new.near.items ≡ with_link (rows c.loop-j.near.items) link c.loop-j.j =
    c.in_ok-list_link-2.ensures
    ∙ ap (λ (first : List (List Neighbour)).
    set first link.head (get_or first link.head [] ++ record { link = c.loop-j.j; node = link.tail } ∷ []))
    c.in_ok-list_link.ensures in
    subst (AreListed c.args.nodes (take (c.loop-j.j + 1) c.args.links.now)) (sym made)
    (one_more_link c.args.nodes c.loop-j.j c.args.links.now (rows c.loop-j.near.items) link c.loop-j.invariant
    c.loop-j-test.true c.index-links-j.is (c.requires.each c.loop-j.j link at))
