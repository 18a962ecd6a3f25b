-- What shows the clauses of `purchases` of `src/side.rt`.
use Rattle.std.proofs.Common.{◌≡◌, refl, sym, ap, ◌∙◌, arith, length}
use Rattle.std.proofs.lemmas.Option.{slice_get_read, get_or_from_slice_get}
use Rattle.tn_base.specs.declared.side.Side.TheVariants.{Buy}
use Rattle.tn_base.specs.Sets.{has, set_of}
use Rattle.tn_base.specs.Table.{buys_of}
use Rattle.tn_base.proofs.BuysLemmas.{buys_none, buys_more, buys_same, buys_all}
use Rattle.tn_base.proofs.side.purchases.Goals as goal
use Rattle.tn_base.proofs.side.purchases.Goals.{in-Buy, in_default}

pub loop-k-init : goal.loop-k-init
loop-k-init c = c.empty-buys.ensures ∙ buys_none c.args.sides.now

pub loop-k-preserved : goal.loop-k-preserved
loop-k-preserved c = elim c.match-sides-k.branch [
  | in-Buy w ↦
      w.buys-is ∙ w.toggle-buys.ensures ∙ buys_more c.args.sides.now c.loop-k.k c.loop-k.buys
      (slice_get_read c.args.sides.now (length c.args.sides.now) c.loop-k.k Buy refl c.loop-k-test.true
      (sym w.in-Buy.is)) c.loop-k.invariant
  | in_default w ↦
      w.buys-is ∙ buys_same c.args.sides.now c.loop-k.k c.loop-k.buys
      (λ e. w.in_default.not-Buy (get_or_from_slice_get c.args.sides.now c.loop-k.k Buy Buy e)) c.loop-k.invariant
]

pub returns : goal.returns
returns c =
    let end : c.loop-k.k ≡ length c.args.sides.now = omega arith in
    c.loop-k.invariant ∙ ap (set_of (has (buys_of c.args.sides.now))) end ∙ buys_all c.args.sides.now
