-- What shows the clauses of `are_single` of `src/checks.rt`.
use Rattle.std.proofs.Common.{◌≡◌, ◌∙◌, Some, refl, sym, arith, length}
use Rattle.std.proofs.lemmas.Grind.{common_steps}
use Rattle.std.proofs.lemmas.List.{length-map}
use Rattle.std.proofs.lemmas.Option.{slice_get_read}
use Rattle.std.specs.Prelude.{slice_get}
use Rattle.tn_links.specs.Near.{link_between, rows}
use Rattle.tn_links.proofs.CheckLemmas.{holds_more}
use Rattle.tn_links.proofs.ListLemmas.{found_by, found_single, single_by}
use Rattle.tn_links.proofs.checks.are_single.Goals as goal

pub link_by-requires-clause-first : goal.link_by-requires-clause-first
link_by-requires-clause-first c =
    let link = c.index-links-j.result in
    let at : slice_get c.args.links.now c.loop-j.j ≡ Some link =
    slice_get_read c.args.links.now (length c.args.links.now) c.loop-j.j link refl c.loop-j-test.true c.index-links-j.is in
    let inside = (c.requires.each c.loop-j.j link at).tail_inside in
    let count : length (rows c.args.near.now) ≡ length c.args.near.now = length-map c.args.near.now (λ list. list.items) in
    omega (arith, inside, count, c.requires.listed.one_each)

pub link_by-requires-clause-second : goal.link_by-requires-clause-second
link_by-requires-clause-second c =
    let link = c.index-links-j.result in
    let at : slice_get c.args.links.now c.loop-j.j ≡ Some link =
    slice_get_read c.args.links.now (length c.args.links.now) c.loop-j.j link refl c.loop-j-test.true c.index-links-j.is in
    let inside = (c.requires.each c.loop-j.j link at).head_inside in
    let count : length (rows c.args.near.now) ≡ length c.args.near.now = length-map c.args.near.now (λ list. list.items) in
    omega (arith, inside, count, c.requires.listed.one_each)

pub returns-then-ne-clause-no : goal.returns-then-ne-clause-no
returns-then-ne-clause-no c is single =
    let link = c.index-links-j.result in
    let at : slice_get c.args.links.now c.loop-j.j ≡ Some link =
    slice_get_read c.args.links.now (length c.args.links.now) c.loop-j.j link refl c.loop-j-test.true c.index-links-j.is in
    let own = c.requires.each c.loop-j.j link at in
    let found : c.link_by.result ≡ Some c.loop-j.j =
    c.link_by.ensures
    ∙ found_by c.args.nodes c.args.links.now (rows c.args.near.now) link.tail link.head c.requires.each c.requires.listed
    own.tail_inside own.head_inside
    ∙ found_single c.args.links.now c.loop-j.j link single at in
    grind (arith, common_steps, found)

pub loop-j-preserved : goal.loop-j-preserved
loop-j-preserved c =
    let link = c.index-links-j.result in
    let at : slice_get c.args.links.now c.loop-j.j ≡ Some link =
    slice_get_read c.args.links.now (length c.args.links.now) c.loop-j.j link refl c.loop-j-test.true c.index-links-j.is in
    let own = c.requires.each c.loop-j.j link at in
    let found : c.link_by.result ≡ Some c.loop-j.j = grind (arith, common_steps) in
    let between : link_between c.args.links.now link.tail link.head ≡ Some c.loop-j.j =
    sym (c.link_by.ensures
    ∙ found_by c.args.nodes c.args.links.now (rows c.args.near.now) link.tail link.head c.requires.each c.requires.listed
    own.tail_inside own.head_inside) ∙ found in
    holds_more (λ j one. link_between c.args.links.now one.tail one.head ≡ Some j) c.args.links.now c.loop-j.j link at
    between (λ j one less. c.loop-j.invariant j one less)

pub returns-clause-yes : goal.returns-clause-yes
returns-clause-yes c is =
    single_by c.args.links.now (λ j link below at. c.loop-j.invariant j link
    (omega (arith, below, c.loop-j-test.false)) at)
