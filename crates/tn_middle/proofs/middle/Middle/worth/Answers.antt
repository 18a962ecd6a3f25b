-- What shows the clauses of `Middle::worth` of `src/middle.rt`.
use Rattle.std.proofs.Common.{rules, ◌≡◌, ap, ◌∙◌, Some}
use Rattle.tn_base.specs.Sets.{meet, minus, size}
use Rattle.tn_middle.proofs.BalanceLemmas.{kept_is, kept_worth}
use Rattle.tn_middle.proofs.middle.Middle.worth.Goals as goal

pub overflow_add-result : goal.overflow_add-result
overflow_add-result c =
    let there : c.args.self.now.keep ≡ Some c.in_ok-self-in-1-eq0.field-0 = search rules in
    let kept = c.args.self.now.middle.small_keep c.in_ok-self-in-1-eq0.field-0 there in
    let low = kept.low in
    let high = kept.high in
    let balance = c.balance.ensures.small in
    search rules

pub returns-in_ok-self-in-1-eq0 : goal.returns-in_ok-self-in-1-eq0
returns-in_ok-self-in-1-eq0 c =
    let there : c.args.self.now.keep ≡ Some c.in_ok-self-in-1-eq0.field-0 = search rules in
    let kept = c.args.self.now.middle.small_keep c.in_ok-self-in-1-eq0.field-0 there in
    let purchase : size (meet c.args.x c.args.self.now.buys) ≡ 1 = search rules in
    let sale : size (minus c.args.x c.args.self.now.buys) ≡ 0 = search rules in
    ap Some (kept_is c.in_ok-self-in-1-eq0.field-0 c.balance.result kept c.balance.ensures.small)
    ∙ kept_worth (size (meet c.args.x c.args.self.now.buys)) (size (minus c.args.x c.args.self.now.buys))
    c.args.self.now.keep
    c.in_ok-self-in-1-eq0.field-0 c.balance.result _ purchase sale there c.balance.ensures.sum
