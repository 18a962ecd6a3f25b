-- What shows the clauses of `TradeSet::toggle` of `src/trade_set.rt`.
use Rattle.std.proofs.Common.{◌≡◌, ℕ, ◌*◌, ◌/◌, ◌%◌, ◌^◌, List, ap, ◌∙◌, subst, sym, arith, set, get_or}
use Rattle.std.specs.Prelude.{bit_xor}
use Rattle.std.proofs.lemmas.Nat.{one_shl}
use Rattle.tn_base.specs.Sets.{toggle}
use Rattle.tn_base.specs.Limbs.{AreLimbs, joined}
use Rattle.tn_base.proofs.LimbLemmas.{toggle_done, toggled, joined_within}
use Rattle.tn_base.proofs.trade_set.TradeSet.toggle.Goals as goal

-- the words that the code writes
written : (limbs : List ℕ) (t : ℕ)
    → set limbs (t / 64) (bit_xor (get_or limbs (t / 64) 0) ((1 * 2 ^ (t % 64)) % 2 ^ 64)) ≡ toggled limbs t
unfolding toggle
written limbs t =
    ap (λ (mask : ℕ). set limbs (t / 64) (bit_xor (get_or limbs (t / 64) 0) mask)) (one_shl (t % 64) 64 (omega arith))

pub invariant_of-self : goal.invariant_of-self
invariant_of-self g c =
    let limbs = c.self.inside.limbs in (
      c.self.invariant.0,
      subst (AreLimbs g.row.W) (sym (written limbs c.args.t))
          (toggle_done g.row.W limbs c.args.t c.self.invariant.1 c.requires.inside).0,
    )

pub returns-clause-toggled : goal.returns-clause-toggled
returns-clause-toggled g c =
    let limbs = c.self.inside.limbs in
    ap joined (written limbs c.args.t) ∙ (toggle_done g.row.W limbs c.args.t c.self.invariant.1 c.requires.inside).1
    ∙ ap (λ (x : ℕ). toggle x c.args.t) c.self.view_is

pub returns-clause-within : goal.returns-clause-within
returns-clause-within g c =
    let limbs = c.self.inside.limbs in
    joined_within g.row.W _ (subst (AreLimbs g.row.W) (sym (written limbs c.args.t))
    (toggle_done g.row.W limbs c.args.t c.self.invariant.1 c.requires.inside).0)
