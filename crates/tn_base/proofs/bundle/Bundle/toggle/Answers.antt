-- What shows the clauses of `Bundle::toggle` of `src/bundle.rt`.
use Rattle.std.proofs.Common.{◌*◌, ◌^◌, lit<}
use Rattle.std.proofs.lemmas.Nat.{xor_lt}
use Rattle.std.proofs.Math.Nat.{mod-lt}
use Rattle.tn_base.proofs.bundle.Bundle.toggle.Goals as goal

pub invariant_of-result : goal.invariant_of-result
invariant_of-result c = xor_lt 64 _ _ c.self.invariant (mod-lt (1 * 2 ^ c.args.k) (lit< tt))
