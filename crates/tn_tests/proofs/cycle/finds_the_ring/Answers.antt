-- What shows the clauses of `finds_the_ring` of `src/cycle.rt`.
use Rattle.std.proofs.Common.{◌≡◌, ◌-◌, ap, ◌∙◌, arith, ℕ, true, false, length}
use Rattle.tn_base.specs.Sets.{has}
use Rattle.tn_base.proofs.SetLemmas.{has-toggle_other, has-zero}
use Rattle.tn_base.specs.Walks.{arcs_among, is_admitted}
use Rattle.tn_cycle.specs.Reading.{Reading, nothing}
use Rattle.tn_tests.specs.Ring.{ring}
use Rattle.tn_tests.proofs.RingLemmas.{all_zero_keep, all_zero_near, zeros_keep}
use Rattle.tn_tests.proofs.cycle.finds_the_ring.Goals as goal

pub through-path-requires : goal.through-path-requires
through-path-requires g c =
    let labelled = c.label_all.new.self in
    let made : c.in_ok-finder.finder ≡ nothing 4 = c.in_ok-finder.ensures in
    let had : c.in_ok-finder.finder.nodes ≡ 4 = ap (λ (reading : Reading). reading.nodes) made in
    let nodes : labelled.nodes ≡ 4 = omega (arith, had, c.label_all.ensures.rest.same_nodes) in
    let sized : length labelled.labels ≡ labelled.nodes = omega (arith, had, nodes, c.label_all.ensures.one_each) in
    let lacks : has c.toggle-2.new.self 0 ≡ false =
    ap (λ (x : ℕ). has x 0) c.toggle-2.ensures.toggled ∙ has-toggle_other c.toggle.new.self 2 0 (λ e. omega (arith, e))
    ∙ ap (λ (x : ℕ). has x 0) c.toggle.ensures.toggled ∙ has-toggle_other c.empty-admitted.result 1 0
    (λ e. omega (arith, e))
    ∙ ap (λ (x : ℕ). has x 0) c.empty-admitted.ensures ∙ has-zero 0 in
    let null = labelled.nodes - 1 in (
      omega arith,
      (
        omega (arith, nodes),
        (
          omega (arith, nodes),
          (
            omega (arith, nodes),
            (
              sized,
              (
                all_zero_near labelled.labels c.label_all.ensures.zero,
                all_zero_keep (arcs_among (is_admitted null c.toggle-2.new.self) (ring 4 true)) labelled.labels
                    c.label_all.ensures.zero
                    (zeros_keep null c.toggle-2.new.self 4 true (λ e. omega (arith, e, nodes)) lacks),
              ),
            ),
          ),
        ),
      ),
    )
