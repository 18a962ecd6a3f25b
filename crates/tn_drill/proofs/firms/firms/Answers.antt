-- What shows the clauses of `firms` of `src/firms.rt`.
use Rattle.std.proofs.Common.{◌++◌, ◌∷◌, [], List, map, ap, ap₂, ◌∙◌, sym, arith}
use Rattle.std.proofs.lemmas.List.{map-append}
use Rattle.std.proofs.lemmas.List.FromFn.{map-range_with_len_more}
use Rattle.tn_base.specs.Firm.{Firm}
use Rattle.tn_firm.specs.declared.value.FirmValue.{FirmValue}
use Rattle.tn_firm.specs.Firms.{firm_of}
use Rattle.tn_drill.specs.Drill.{firm_in}
use Rattle.tn_drill.proofs.firms.firms.Goals as goal

pub loop-f-preserved : goal.loop-f-preserved
loop-f-preserved c =
    ap (λ (firms : List FirmValue). map firm_of firms) c.in_ok-push.ensures.items
    ∙ map-append firm_of c.loop-f.firms.items (c.in_ok-firm.field-0 ∷ [])
    ∙ ap₂ (λ (firms : List Firm) (firm : Firm). firms ++ firm ∷ []) c.loop-f.invariant c.in_ok-firm.ensures
    ∙ sym (map-range_with_len_more (firm_in c.args.trades.now c.args.draws.now) 0 c.loop-f.f c.loop-f.f (omega arith))
