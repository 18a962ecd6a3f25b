-- What shows the clauses of `read_firms` of `src/firms.rt`.
use Rattle.std.proofs.Common.{◌≡◌, ap, ◌∙◌, ◌++◌, ◌∷◌, [], map, length, subst, ◌≤◌, arith, length-append}
use Rattle.std.proofs.lemmas.Result.{err_from_is_err_and}
use Rattle.std.proofs.lemmas.List.{length-map, map_push}
use Rattle.std.proofs.lemmas.List.Elements.{All-push, All-same}
use Rattle.serde_json.specs.View.{items_view}
use Rattle.tn_read_shapes.specs.Reading.{each}
use Rattle.tn_read_firms.specs.Firms.{one_firm}
use Rattle.tn_read_shapes.proofs.EachLemmas.{each_goes_on, each_is_done, each_fails}
use Rattle.tn_model.specs.Limits.{most_own_trades}
use Rattle.tn_read_references.specs.Ordered.{sides_of}
use Rattle.tn_read_firms.proofs.FirmLemmas.{below_more, one_firm-fails, one_firm-next}
use Rattle.tn_read_firms.proofs.firms.read_firms.Goals as goal

pub returns-in_err-next-clause-gives : goal.returns-in_err-next-clause-gives
returns-in_err-next-clause-gives g c =
    let p = err_from_is_err_and c.from_residual.result c.from_residual.ensures.1 in
    let step = one_firm g.F.FromKinds.tested c.args.head.now in
    let firms = map g.F.FromKinds.firm c.loop-firm.made.items in
    let f : c.len-f.result ≡ length firms = omega (
      arith,
      c.len-f.ensures,
      c.loop-firm.made.ok,
      length-map c.loop-firm.made.items g.F.FromKinds.firm,
    ) in
    rw (p.1, p.2) (each_fails step c.in_err-next.field-0.0 c.args.firms.now c.loop-firm.firm-index c.firm-item.result
    firms (each step [] (items_view c.args.firms.now)) c.loop-firm-test.true
    (one_firm-fails g.F.FromKinds.tested c.args.head.now firms _ c.len-f.result f c.in_err-next.field-0.0
    (rw (← c.firm-item.is) c.in_err-next.ensures.gives))
    c.loop-firm.invariant.rest)

pub loop-firm-preserved : goal.loop-firm-preserved
loop-firm-preserved g c =
    let step = one_firm g.F.FromKinds.tested c.args.head.now in
    let firms = map g.F.FromKinds.firm c.loop-firm.made.items in
    let f : c.len-f.result ≡ length firms = omega (
      arith,
      c.len-f.ensures,
      c.loop-firm.made.ok,
      length-map c.loop-firm.made.items g.F.FromKinds.firm,
    ) in
    let items = c.in_ok-push.ensures.items in
    let more : map g.F.FromKinds.firm c.push.new.self.items ≡ firms ++ g.F.FromKinds.firm c.in_ok-next.next ∷ [] =
    ap (map g.F.FromKinds.firm) items ∙ map_push g.F.FromKinds.firm c.loop-firm.made.items c.in_ok-next.next in
    record {
      count = ap length items ∙ omega (
        arith,
        length-append c.loop-firm.made.items (c.in_ok-next.next ∷ []),
        c.loop-firm.invariant.count,
      );
      few = below_more (λ f. length (sides_of c.args.head.now.ends f) ≤ most_own_trades) c.loop-firm.firm-index
          c.loop-firm.invariant.few
          (subst (λ f. length (sides_of c.args.head.now.ends f) ≤ most_own_trades) (let count =
          c.loop-firm.invariant.count in omega (arith, c.len-f.ensures, c.loop-firm.made.ok, count))
          c.in_ok-next.ensures.few);
      known = All-same g.F.FromKinds.known _ _ items (All-push g.F.FromKinds.known c.loop-firm.made.items
          c.in_ok-next.next c.loop-firm.invariant.known c.in_ok-next.ensures.known);
      rest = rw more (each_goes_on step c.args.firms.now c.loop-firm.firm-index c.firm-item.result firms (firms
          ++ g.F.FromKinds.firm c.in_ok-next.next ∷ []) (each step [] (items_view c.args.firms.now))
          c.loop-firm-test.true
          (one_firm-next g.F.FromKinds.tested c.args.head.now firms _ c.len-f.result f
          (g.F.FromKinds.firm c.in_ok-next.next) (rw (← c.firm-item.is) c.in_ok-next.ensures.gives))
          c.loop-firm.invariant.rest);
    }

pub returns-clause-gives : goal.returns-clause-gives
returns-clause-gives g c =
    each_is_done (one_firm g.F.FromKinds.tested c.args.head.now) c.args.firms.now c.loop-firm.firm-index _ _
    c.loop-firm-test.false c.loop-firm.invariant.rest

pub returns-clause-few : goal.returns-clause-few
returns-clause-few g c f below =
    let count = c.loop-firm.invariant.count in
    c.loop-firm.invariant.few f (omega (arith, below, count))
