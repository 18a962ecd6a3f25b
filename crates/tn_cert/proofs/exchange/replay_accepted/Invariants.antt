-- What the loops of `replay_accepted` of `src/exchange.rt` keep.
use Rattle.std.proofs.Common.{map}
use Rattle.tn_firm.specs.Raw.{raw_firm_of}
use Rattle.tn_cert.specs.Reasons.{MeetBefore}
use Rattle.tn_cert.proofs.exchange.replay_accepted.Given as goal

abbrev pub invariant-loop-f : goal.invariant-loop-f
invariant-loop-f l = MeetBefore (map raw_firm_of l.firms) l.f
