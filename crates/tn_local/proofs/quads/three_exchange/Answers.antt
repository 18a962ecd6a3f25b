-- What shows the clauses of `three_exchange` of `src/quads.rt`.
use Rattle.std.proofs.Common.{◌≡◌, ℕ, ap, ◌∙◌, rules, SFits, arith}
use Rattle.std.specs.Int.{w128}
use Rattle.std.proofs.lemmas.Int.{to_z-of_z, ints}
use Rattle.tn_base.specs.Sets.{toggle}
use Rattle.tn_firm_laws.specs.Quads.{value}
use Rattle.tn_exchange.specs.Rows.{firm_of_table}
use Rattle.tn_local.proofs.QuadLemmas.{same_sums}
use Rattle.tn_local.proofs.quads.three_exchange.Goals as goal

pub returns : goal.returns
returns c =
    let firm = firm_of_table c.args.table.now in
    let both_fits : SFits w128 c.args.worths.both = search rules in
    let first_fits : SFits w128 c.args.worths.first = search rules in
    let second_fits : SFits w128 c.args.worths.second = search rules in
    let third_fits : SFits w128 c.worth_of-third.result = search rules in
    let with_first_fits : SFits w128 c.worth_of-with_first.result = search rules in
    let with_second_fits : SFits w128 c.worth_of-with_second.result = search rules in
    let one_fits : SFits w128 c.together.result = search rules in
    let two_fits : SFits w128 c.together-2.result = search rules in
    let three_fits : SFits w128 c.together-3.result = search rules in
    let one = simp to_z-of_z at c.together.ensures in
    let two = simp to_z-of_z at c.together-2.ensures in
    let three = simp to_z-of_z at c.together-3.ensures in
    let stands = simp to_z-of_z at c.stands_twice.ensures in
    let both = c.requires.both in
    let first = c.requires.first in
    let second = c.requires.second in
    let third : c.worth_of-third.result ≡ value firm (toggle c.args.z c.args.c) =
    c.worth_of-third.ensures.worth ∙ ap (value firm) c.toggled.ensures.toggled in
    let with_first : c.worth_of-with_first.result ≡ value firm (toggle (toggle c.args.z c.args.a) c.args.c) =
    c.worth_of-with_first.ensures.worth ∙ ap (value firm) (c.toggled-3.ensures.toggled
    ∙ ap (λ (x : ℕ). toggle x c.args.c) c.toggled-2.ensures.toggled) in
    let with_second : c.worth_of-with_second.result ≡ value firm (toggle (toggle c.args.z c.args.b) c.args.c) =
    c.worth_of-with_second.ensures.worth ∙ ap (value firm) (c.toggled-5.ensures.toggled
    ∙ ap (λ (x : ℕ). toggle x c.args.c) c.toggled-4.ensures.toggled) in
    same_sums _ _ _ _ _ _ _ (omega (arith, ints, one, both, third)) (omega (arith, ints, two, with_first, second))
    (omega (arith, ints, three, with_second, first)) stands
