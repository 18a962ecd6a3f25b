-- What shows the clauses of `replay_accepted` of `src/exchange.rt`.
use Rattle.std.proofs.lemmas.Option.{slice_get_read}
use Rattle.std.proofs.Common.{refl}
use Rattle.tn_cert.proofs.ExchangeLemmas.{one_more_meets, all_meet, first_to_fail}
use Rattle.tn_cert.proofs.exchange.replay_accepted.Goals as goal

pub returns-in-Fails-clause-replays : goal.returns-in-Fails-clause-replays
returns-in-Fails-clause-replays c = λ trades.
    first_to_fail c.args.firms.now trades c.loop-f.f c.index-firms-f.result (record {
      x = c.in-Fails.x;
      y =
          c.in-Fails.y;
      at = c.in-Fails.at;
    }) c.trades-count.result
    c.in_ok-x-in-Fails.x c.in_ok-y-in-Fails.y c.loop-f.invariant
    (slice_get_read c.args.firms.now _ c.loop-f.f c.index-firms-f.result refl c.loop-f-test.true c.index-firms-f.is)
    c.in-Fails.ensures.first c.trades-count.ensures.count c.in_ok-x-in-Fails.ensures c.in_ok-y-in-Fails.ensures

pub loop-f-preserved : goal.loop-f-preserved
loop-f-preserved c =
    one_more_meets c.args.firms.now c.loop-f.f c.index-firms-f.result
    (slice_get_read c.args.firms.now _ c.loop-f.f c.index-firms-f.result refl c.loop-f-test.true c.index-firms-f.is)
    (c.test.ensures.holds.0 c.in-Holds.is) c.loop-f.invariant

pub returns-clause-replays : goal.returns-clause-replays
returns-clause-replays c = λ trades. all_meet c.args.firms.now c.loop-f.f c.loop-f-test.false c.loop-f.invariant
