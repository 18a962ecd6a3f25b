-- What shows the clause of `leave_out` of `src/searching.rt`.
use Rattle.std.proofs.Common.{◌∙◌, ℕ, ap, sym}
use Rattle.std.specs.Prelude.{not}
use Rattle.tn_base.specs.Sets.{has}
use Rattle.tn_base.proofs.SetLemmas.{has-toggle_same}
use Rattle.tn_links.proofs.searching.leave_out.Goals as goal

pub returns-then-has : goal.returns-then-has
returns-then-has c =
    ap (λ (x : ℕ). has x c.args.node) c.toggle.ensures.toggled
    ∙ has-toggle_same c.args.nodes.now c.args.node
    ∙ ap not (sym c.has.ensures ∙ c.if-has.true)
