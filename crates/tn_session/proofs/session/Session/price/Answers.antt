-- What shows the clauses of `Session::price` of `src/session.rt`.
use Rattle.std.proofs.Common.{◌≡◌, ◌∙◌, ℕ, ◌+◌, ◌<◌, ◌-ℤ◌, ℤ, List, sym, ap, subst, arith, length}
use Rattle.std.specs.Int.{w128}
use Rattle.std.proofs.lemmas.Int.{ints, to_z-of_z}
use Rattle.tn_base.specs.Arcs.{IsAtMost}
use Rattle.tn_cycle.specs.Answers.{label_in}
use Rattle.tn_cycle.specs.Widths.{most_read}
use Rattle.tn_model.specs.Prices.{price_at}
use Rattle.tn_session.specs.Standing.{Standing}
use Rattle.tn_session.proofs.StandingLemmas.{numbers_small, price-is}
use Rattle.tn_session.proofs.session.Session.price.Goals as goal
use mir.Val.{SFits}

pub label_less-requires-clause-small : goal.label_less-requires-clause-small
label_less-requires-clause-small g c =
    numbers_small g.V.Valuation.firm g.V.Valuation.limit c.self.inside.market.now
    c.self.inside.rounds.finder.labels (λ v. (g.met.V.Valuation.lawful v).within) c.self.invariant.small
    c.self.invariant.under_way.labels.one_each c.self.invariant.settled

-- a difference of two labels fits its type
fits : (labels : List ℤ) (count t null : ℕ) (price : ℤ) → length labels ≡ count → t < count → null < count
    → ((v : ℕ) → v < length labels → IsAtMost (label_in labels v) most_read)
    → price ≡ label_in labels t -ℤ label_in labels null → SFits w128 price
fits labels count t null price counted below last small is =
    let one = small t (omega (arith, counted, below)) in
    let other = small null (omega (arith, counted, last)) in
    between (label_in labels t) (label_in labels null) price one other is
  where
    between : (a b z : ℤ) → IsAtMost a most_read → IsAtMost b most_read → z ≡ a -ℤ b → SFits w128 z
    between a b z first second is =
        let a_low = first.low in
        let a_high = first.high in
        let b_low = second.low in
        let b_high = second.high in
        omega (arith, ints, a_low, a_high, b_low, b_high, is)

pub returns : goal.returns
returns g c =
    let count = c.trades.ensures.count in
    let below : c.args.t < length c.self.inside.market.now.trades =
    subst (λ (s : Standing g.row.V.Denot). c.args.t < length s.market.trades) (sym c.self.view_is) c.requires in
    to_z-of_z w128 c.label_less.result (fits c.self.inside.rounds.finder.labels (length c.self.inside.market.now.trades
    + 1) c.args.t c.trades.result c.label_less.result c.self.invariant.under_way.labels.one_each
    (omega (arith, below)) (omega (arith, count)) (numbers_small g.V.Valuation.firm g.V.Valuation.limit
    c.self.inside.market.now
    c.self.inside.rounds.finder.labels (λ v. (g.met.V.Valuation.lawful v).within) c.self.invariant.small
    c.self.invariant.under_way.labels.one_each
    c.self.invariant.settled) c.label_less.ensures)
    ∙ c.label_less.ensures
    ∙ ap (λ (n : ℕ). label_in c.self.inside.rounds.finder.labels c.args.t
    -ℤ label_in c.self.inside.rounds.finder.labels n) count
    ∙ sym (price-is (length c.self.inside.market.now.trades) c.self.inside.rounds.finder.labels c.args.t below)
    ∙ ap (λ (s : Standing g.row.V.Denot). price_at s.solution.prices c.args.t) c.self.view_is
