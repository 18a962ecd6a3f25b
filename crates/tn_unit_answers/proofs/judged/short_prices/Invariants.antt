-- The prices so far.
use Rattle.std.proofs.Common.{◌≡◌, take}
use Rattle.tn_unit_answers.proofs.judged.short_prices.Given as goal

abbrev pub invariant-loop-price : goal.invariant-loop-price
invariant-loop-price l = l.short.items ≡ take l.price-index l.prices
