-- What the loops of `answer_test` of `src/test.rt` keep.
use Rattle.std.proofs.Common.{◌≡◌, map}
use Rattle.tn_firm.specs.Raw.{raw_firm_of}
use Rattle.tn_cert.specs.Reasons.{MeetBefore}
use Rattle.tn_raw_answers.proofs.test.answer_test.Given as goal

abbrev pub invariant-loop-firm : goal.invariant-loop-firm
invariant-loop-firm l = record {
  counted : l.f ≡ l.firm-index;
  met : MeetBefore (map raw_firm_of l.firms) l.f;
}
