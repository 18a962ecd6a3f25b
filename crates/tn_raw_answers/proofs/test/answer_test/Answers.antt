-- What shows the clauses of `answer_test` of `src/test.rt`.
use Rattle.std.proofs.Common.{List, map, sym, subst, ap, ◌∙◌, arith}
use Rattle.std.specs.Prelude.{slice_get}
use Rattle.tn_firm.specs.declared.raw.RawFirm.{RawFirm}
use Rattle.tn_firm.specs.Raw.{raw_firm_of}
use Rattle.tn_model.specs.Network.{trades_of}
use Rattle.tn_price.proofs.JudgeLemmas.{firm_is}
use Rattle.tn_cert.specs.Reasons.{MeetBefore}
use Rattle.tn_cert.proofs.ExchangeLemmas.{one_more_meets}
use Rattle.tn_raw_answers.proofs.TestLemmas.{item_there, all_meet}
use Rattle.tn_raw_answers.proofs.test.answer_test.Goals as goal

pub loop-firm-preserved : goal.loop-firm-preserved
loop-firm-preserved c = record {
  counted = omega (arith, c.loop-firm.invariant.counted);
  met = one_more_meets c.firms-firms.result.now c.loop-firm.f c.firm-item.result
      (item_there c.firms-firms.result.now c.loop-firm.firm-index c.loop-firm.f c.firm-item.result
      c.loop-firm.invariant.counted c.loop-firm-test.true c.firm-item.is)
      (c.test.ensures.holds.0 c.in-Holds.is) c.loop-firm.invariant.met;
}

pub returns-in-Fails-clause-answer : goal.returns-in-Fails-clause-answer
returns-in-Fails-clause-answer c =
    let there = item_there c.firms-firms.result.now c.loop-firm.firm-index c.loop-firm.f c.firm-item.result
    c.loop-firm.invariant.counted c.loop-firm-test.true c.firm-item.is in
    record {
      before = subst (λ (xs : List RawFirm). MeetBefore (map raw_firm_of xs) c.loop-firm.f) c.firms-firms.ensures.is
          c.loop-firm.invariant.met;
      firm = raw_firm_of c.firm-item.result;
      is = ap (λ (xs : List RawFirm). slice_get (map raw_firm_of xs) c.loop-firm.f) (sym c.firms-firms.ensures.is)
          ∙ firm_is raw_firm_of c.firms-firms.result.now c.loop-firm.f c.firm-item.result there;
      triple = record { x = c.in-Fails.x; y = c.in-Fails.y; at = c.in-Fails.at };
      first = c.in-Fails.ensures.first;
      x_is = c.in_ok-x-in-Fails.ensures ∙ ap (λ n. trades_of c.args.net.now.ends c.loop-firm.f n c.in-Fails.x)
          c.trades-count.ensures.count;
      y_is = c.in_ok-y-in-Fails.ensures ∙ ap (λ n. trades_of c.args.net.now.ends c.loop-firm.f n c.in-Fails.y)
          c.trades-count.ensures.count;
      at_is = c.trade_at.ensures;
    }

pub returns-clause-answer : goal.returns-clause-answer
returns-clause-answer c =
    all_meet c.firms-firms.result.now c.args.net.now.firms c.loop-firm.f c.loop-firm.firm-index c.firms-firms.ensures.is
    c.loop-firm.invariant.counted c.loop-firm-test.false c.loop-firm.invariant.met
