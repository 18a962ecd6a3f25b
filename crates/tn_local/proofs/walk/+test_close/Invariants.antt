-- What the loops of `+test_close` of `src/walk.rt` keep.
use Rattle.tn_local.proofs.walk.+test_close.Given as goal

abbrev pub decreases-test_close : goal.decreases-test_close
decreases-test_close l = l.k
