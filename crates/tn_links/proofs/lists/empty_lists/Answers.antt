-- What shows the clauses of `empty_lists` of `src/lists.rt`.
use Rattle.std.proofs.Common.{◌≡◌, ◌∙◌, ◌+◌, ◌++◌, ◌∷◌, ℕ, List, ap, sym, subst, refl, arith, []}
use Rattle.std.proofs.lemmas.List.{map-append}
use Rattle.tn_links.specs.declared.links.Neighbour.{Neighbour}
use Rattle.tn_links.specs.Near.{AreListed, rows}
use Rattle.tn_links.proofs.NearLemmas.{one_more_listed}
use Rattle.tn_links.proofs.lists.empty_lists.Goals as goal

pub loop-v-preserved : goal.loop-v-preserved
loop-v-preserved c =
    let more : rows c.push.new.self.items ≡ rows c.loop-v.near.items ++ [] ∷ [] =
    ap rows c.in_ok-push.ensures.items ∙ map-append _ c.loop-v.near.items (c.new.result ∷ [])
    ∙ ap (λ (list : List Neighbour). rows c.loop-v.near.items ++ list ∷ []) c.new.ensures.items in
    subst (AreListed (c.loop-v.v + 1) []) (sym more)
    (one_more_listed c.loop-v.v [] (rows c.loop-v.near.items) [] c.loop-v.invariant refl)

pub returns : goal.returns
returns c =
    let same : c.loop-v.v ≡ c.args.nodes = omega (arith, c.loop-v-test.false, c.loop-v.auto.v-end) in
    subst (λ (n : ℕ). AreListed n [] (rows c.loop-v.near.items)) same c.loop-v.invariant
