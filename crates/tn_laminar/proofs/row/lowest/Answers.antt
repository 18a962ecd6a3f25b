-- What shows the clauses of `lowest` of `src/row.rt`.
use Rattle.std.proofs.Common.{arith, ap, ◌∙◌, ℕ}
use Rattle.std.specs.Int.{trailing_zeros}
use Rattle.std.proofs.lemmas.Nat.Bits.{bit_at-trailing_zeros}
use mir.Syntax.{w64}
use Rattle.tn_base.specs.Sets.{has}
use Rattle.tn_base.proofs.SetLemmas.{has_from_one}
use Rattle.tn_laminar.proofs.row.lowest.Goals as goal

pub returns-clause-member : goal.returns-clause-member
returns-clause-member c =
    let full = c.requires in
    let same = c.bits.ensures in
    let small = c.bits.type_inv in
    let found = bit_at-trailing_zeros w64 c.args.x (omega (arith, full)) (omega (arith, same, small)) in
    ap (λ (y : ℕ). has c.args.x (trailing_zeros w64 y)) same
    ∙ has_from_one c.args.x (trailing_zeros w64 c.args.x) found.1
