-- What shows the clauses of `TradeSet::has` of `src/trade_set.rt`.
use Rattle.std.proofs.Common.{ℕ, ◌%◌, sym, ap, ◌∙◌}
use Rattle.std.specs.Prelude.{nat_eq}
use Rattle.std.proofs.lemmas.Nat.Bits.{shr_and_one}
use Rattle.tn_base.specs.Sets.{has}
use Rattle.tn_base.proofs.LimbLemmas.{has-limb}
use Rattle.tn_base.proofs.trade_set.TradeSet.has.Goals as goal

pub returns : goal.returns
unfolding has
returns g c =
    let limbs = c.self.inside.limbs in
    ap (λ (d : ℕ). nat_eq d 1) (shr_and_one _ (c.args.t % 64))
    ∙ sym (has-limb limbs c.args.t c.self.invariant.1.words)
    ∙ ap (λ (x : ℕ). has x c.args.t) c.self.view_is
