-- What shows the clauses of `finds_the_least_ring` of `src/cycle.rt`.
use Rattle.std.proofs.Common.{◌≡◌, ◌-◌, ap, arith, false, length}
use Rattle.tn_base.specs.Walks.{arcs_among, is_admitted, is_looked_at}
use Rattle.tn_cycle.specs.Reading.{Reading, nothing}
use Rattle.tn_tests.specs.Ring.{ring}
use Rattle.tn_tests.proofs.RingLemmas.{all_zero_keep, all_zero_near, zeros_keep_among}
use Rattle.tn_tests.proofs.cycle.finds_the_least_ring.Goals as goal

pub least_through-path-requires : goal.least_through-path-requires
least_through-path-requires g c =
    let labelled = c.label_all.new.self in
    let made : c.in_ok-finder.finder ≡ nothing 4 = c.in_ok-finder.ensures in
    let had : c.in_ok-finder.finder.nodes ≡ 4 = ap (λ (reading : Reading). reading.nodes) made in
    let nodes : labelled.nodes ≡ 4 = omega (arith, had, c.label_all.ensures.rest.same_nodes) in
    let sized : length labelled.labels ≡ labelled.nodes = omega (arith, had, nodes, c.label_all.ensures.one_each) in
    let test = is_looked_at (labelled.nodes - 1) 0 c.toggle-2.new.self in (
      omega arith,
      (
        omega (arith, nodes),
        (
          omega (arith, nodes),
          (
            omega (arith, nodes),
            (
              sized,
              (
                all_zero_near labelled.labels c.label_all.ensures.zero,
                all_zero_keep (arcs_among test (ring 4 false)) labelled.labels c.label_all.ensures.zero
                    (zeros_keep_among test 4),
              ),
            ),
          ),
        ),
      ),
    )

pub relabel-requires : goal.relabel-requires
relabel-requires g c =
    let labelled = c.label_all-2.new.self in
    let made : c.in_ok-finder.finder ≡ nothing 4 = c.in_ok-finder.ensures in
    let had : c.in_ok-finder.finder.nodes ≡ 4 = ap (λ (reading : Reading). reading.nodes) made in
    let first : c.label_all.new.self.nodes ≡ 4 = omega (arith, had, c.label_all.ensures.rest.same_nodes) in
    let second : c.least_through-path.new.self.nodes ≡ 4 =
    omega (arith, first, c.least_through-path.ensures.rest.same_nodes) in
    let nodes : labelled.nodes ≡ 4 = omega (arith, second, c.label_all-2.ensures.rest.same_nodes) in
    let test = is_admitted (labelled.nodes - 1) c.toggle-3.new.self in (
      omega arith,
      (
        omega (arith, nodes),
        (
          omega (arith, nodes),
          (
            omega (arith, nodes, second, c.label_all-2.ensures.one_each),
            (
              all_zero_near labelled.labels c.label_all-2.ensures.zero,
              all_zero_keep (arcs_among test (ring 4 false)) labelled.labels c.label_all-2.ensures.zero
                  (zeros_keep_among test 4),
            ),
          ),
        ),
      ),
    )
