-- What shows the clauses of `laminar` of `src/firms.rt`.
use Rattle.std.proofs.Common.{rules, ℤ, pos, List, sym, subst}
use Rattle.std.specs.Prelude.{IsSome}
use Rattle.std.proofs.lemmas.Int.{to_z-of_z}
use mir.Syntax.{w32}
use mir.Val.{SFits, to_z, of_z}
use Rattle.tn_firm_laws.specs.Nested.{IsConcaveList, listed_from}
use Rattle.tn_laminar.specs.declared.set.LaminarSet.{LaminarSet}
use Rattle.tn_laminar.specs.Faults.{IsRefusedFor}
use Rattle.tn_drill.proofs.FirmLemmas.{one_set_sound}
use Rattle.tn_drill.proofs.firms.laminar.Goals as goal

pub want_of_memory-requires : goal.want_of_memory-requires
want_of_memory-requires c =
    let fits : SFits w32 c.args.low = search rules in
    let same = to_z-of_z w32 c.args.low fits in
    one_set_sound (record {
      members = c.from_bits.result;
      low = to_z w32 (of_z w32 c.args.low);
      numbers =
          c.from_vec.result;
    }) c.in-Err.refusal
    (subst (λ (low : ℤ). IsSome (listed_from low c.from_vec.result (pos 0))) (sym same)
    (subst (λ (numbers : List ℤ). IsSome (listed_from c.args.low numbers (pos 0))) (sym c.from_vec.ensures)
    c.requires.empty))
    (subst IsConcaveList (sym c.from_vec.ensures) c.requires.concave)
    (subst (λ (sets : List LaminarSet). IsRefusedFor sets c.in-Err.refusal) c.in_ok-vec.ensures.items
    c.in-Err.ensures.refused)
