-- What shows the clauses of `Dealer::new` of `src/dealer.rt`.
use Rattle.tn_dealer.proofs.dealer.Dealer.new.Goals as goal

pub of_different-requires-clause-different : goal.of_different-requires-clause-different
of_different-requires-clause-different c = rw c.deref.ensures.value at c.in-None.ensures

pub returns-in-Ok-clause-different : goal.returns-in-Ok-clause-different
returns-in-Ok-clause-different c = rw c.deref.ensures.value at c.in-None.ensures

pub returns-in-Err-clause-refused : goal.returns-in-Err-clause-refused
returns-in-Err-clause-refused c = rw c.deref.ensures.value at c.in-None.ensures
