-- What shows the clauses of `read_unit_document` of `src/firms.rt`.
use Rattle.std.proofs.Common.{◌∙◌, List, ap, subst, sym}
use Rattle.serde_json.specs.View.{items_view}
use Rattle.tn_read_shapes.proofs.ShapeLemmas.{items_len_is}
use Rattle.tn_read_units.specs.Documents.{IsUnitDocument}
use Rattle.tn_read_units.specs.Firms.{WrittenFirm, WrittenFirms}
use Rattle.tn_read_units.proofs.LawLemmas.{document_from}
use Rattle.tn_read_units.proofs.firms.read_unit_document.Goals as goal

pub invariant_of-result : goal.invariant_of-result
invariant_of-result c =
    subst (λ (firms : List WrittenFirm). IsUnitDocument (record { head = c.in_ok-head.head; firms = firms }))
    (sym (ap (λ (all : WrittenFirms). all.firms) c.all.view_is))
    (document_from c.in_ok-head.head (items_view c.in_ok-head.items.now) c.in-Ok.all c.in_ok-head.ensures.kept
    (c.in_ok-head.ensures.count ∙ sym (items_len_is c.in_ok-head.items.now)) c.in-Ok.ensures)
