-- What shows the clauses of `trades_in` of `src/bundle.rt`.
use Rattle.std.proofs.Common.{◌≡◌, ℕ, ◌+◌, List, [], ◌∷◌, ◌++◌, Bool, true, false, if◌then◌else◌, ap, ◌∙◌, add-one, append-nil, arith, sym}
use Rattle.tn_base.specs.Sets.{has}
use Rattle.tn_model.specs.declared.ends.Ends.{Ends}
use Rattle.tn_model.specs.Network.{own, trades_of}
use Rattle.tn_price.proofs.bundle.trades_in.Goals as goal
use Rattle.tn_price.proofs.bundle.trades_in.Goals.{then-has+in_ok-push, else-has}

-- with one more position
next : (trades : List Ends) (f k x : ℕ) (b : Bool) → has x k ≡ b
    → trades_of trades f (k + 1) x ≡ trades_of trades f k x ++ (if b then own trades f k ∷ [] else [])
next trades f k x b e = ap (λ (n : ℕ). trades_of trades f n x) (add-one k)
    ∙ ap (λ (c : Bool). trades_of trades f k x ++ (if c then own trades f k ∷ [] else [])) e

pub loop-k-preserved : goal.loop-k-preserved
loop-k-preserved g c = elim c.if-has.branch [
  | then-has+in_ok-push w ↦
      let grown = next c.args.market.now.trades c.args.f c.loop-k.k c.args.bundle true (sym c.has.ensures
      ∙ w.if-has.true) in
      grind (arith, grown, c.loop-k.invariant, w.own.ensures.trade)
  | else-has w ↦
      let same = next c.args.market.now.trades c.args.f c.loop-k.k c.args.bundle false (sym c.has.ensures
      ∙ w.if-has.false) in
      grind (arith, same, c.loop-k.invariant, append-nil)
]
