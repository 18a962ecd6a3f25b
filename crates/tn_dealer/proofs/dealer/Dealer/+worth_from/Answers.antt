-- What shows the clauses of `Dealer::+worth_from` of `src/worth.rt`.
use Rattle.std.proofs.Common.{ℕ, arith, rules, refl, length, drop, ◌≤◌, ◌≡◌, ◌+◌, ◌<◌, true, ◌∙◌, sym, ap}
use Rattle.std.proofs.lemmas.Option.{slice_get_read}
use Rattle.std.proofs.lemmas.Int.{to_z-of_z}
use mir.Syntax.{w128}
use mir.Val.{SFits}
use Rattle.tn_base.specs.Sets.{has, toggle}
use Rattle.tn_dealer.specs.Pairs.{matched_worth}
use Rattle.tn_dealer.specs.WorthLemmas.{own_pairs}
use Rattle.tn_dealer.proofs.CertificateLemmas.{last_none, last_empty, next_with, next_without, with_is, small_after, both_there, first_out, second_out}
use Rattle.tn_dealer.proofs.dealer.Dealer.+worth_from.Goals as goal
use Rattle.tn_dealer.proofs.dealer.Dealer.+worth_from.Goals.{else-has-via-then-has+else-has-2, else-has-via-else-has}

pub returns-then-eq-clause-worth : goal.returns-then-eq-clause-worth
returns-then-eq-clause-worth t c =
    let none : c.args.x ≡ 0 = search rules in
    last_empty c.args.self.now.pairs.items c.args.from c.args.x none

pub returns-else-eq-clause-worth : goal.returns-else-eq-clause-worth
returns-else-eq-clause-worth t c =
    let some : c.args.x ≡ 0 → ⊥ = search rules in
    last_none c.args.self.now.pairs.items c.args.from c.args.x (let p = c.if-from-len.true in omega arith) some

-- the pair at the place
inside_at : (n from len : ℕ) → from ≤ n → len ≡ n → (from ≡ len → ⊥) → from < n
inside_at n from len within count differs = omega (arith, within, count, differs)

pub returns-then-has-2-clause-worth : goal.returns-then-has-2-clause-worth
returns-then-has-2-clause-worth t c =
    let count : c.len.result ≡ length c.args.self.now.pairs.items = search rules in
    let inside =
    inside_at (length c.args.self.now.pairs.items) c.args.from c.len.result c.requires count c.if-from-len.false in
    let is = slice_get_read c.args.self.now.pairs.items (length c.args.self.now.pairs.items) c.args.from
    c.index-pair.result.now refl inside c.index-pair.ensures in
    let cost_fit : SFits w128 c.index-pair.result.now.cost = search rules in
    let less = simp to_z-of_z at c.less.ensures in
    let buy : has c.args.x c.index-pair.result.now.buy ≡ true = sym c.has.ensures ∙ c.if-has.true in
    let sell : has c.args.x c.index-pair.result.now.sell ≡ true = sym c.has-then-has.ensures ∙ c.if-has-2.true in
    let left : c.toggle-then-has-2.result ≡ toggle (toggle c.args.x c.index-pair.result.now.buy)
    c.index-pair.result.now.sell =
    c.toggle-then-has-2.ensures ∙ ap (λ (z : ℕ). toggle z c.index-pair.result.now.sell) c.toggle.ensures in
    with_is c.index-pair.result.now.cost c.greater.result c.worth_from-without.result c.less.result
    c.worth_from-rest.result _ _ _
    c.greater.ensures less c.worth_from-without.ensures.worth
    (c.worth_from-rest.ensures.worth ∙ ap (matched_worth (drop (c.args.from + 1) c.args.self.now.pairs.items)) left)
    (next_with c.args.self.now.pairs.items c.args.from c.index-pair.result.now c.args.x inside is
    (both_there _ _ buy sell))

pub returns-then-has-2-clause-small : goal.returns-then-has-2-clause-small
returns-then-has-2-clause-small t c =
    small_after c.args.self.now.trades c.args.self.now.buys c.args.from c.args.self.now.pairs.items
    (own_pairs c.args.self.now.trades c.args.self.now.buys c.args.self.now.pairs.items c.args.self.now.dealer.own)
    c.args.x c.greater.result (search rules)
    (returns-then-has-2-clause-worth t c)

pub returns-else-has-clause-worth : goal.returns-else-has-clause-worth
returns-else-has-clause-worth t c =
    let count : c.len.result ≡ length c.args.self.now.pairs.items = search rules in
    let inside =
    inside_at (length c.args.self.now.pairs.items) c.args.from c.len.result c.requires count c.if-from-len.false in
    let is = slice_get_read c.args.self.now.pairs.items (length c.args.self.now.pairs.items) c.args.from
    c.index-pair.result.now refl inside c.index-pair.ensures in
    c.worth_from-without.ensures.worth
    ∙ next_without c.args.self.now.pairs.items c.args.from c.index-pair.result.now c.args.x inside is
    (elim c.else-has.branch [
      | else-has-via-then-has+else-has-2 w ↦ second_out _ _ (sym w.has-then-has.ensures ∙ w.if-has-2.false)
      | else-has-via-else-has w ↦ first_out _ _ (sym c.has.ensures ∙ w.if-has.false)
    ])
