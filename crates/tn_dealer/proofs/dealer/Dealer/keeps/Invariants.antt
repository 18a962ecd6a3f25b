-- What the loops of `Dealer::keeps` of `src/worth.rt` keep.
use Rattle.std.proofs.Common.{◌≡◌, ℕ, ◌<◌, true}
use Rattle.tn_base.specs.Sets.{has, meet, minus}
use Rattle.tn_dealer.specs.Certificates.{KeepsBeside}
use Rattle.tn_market.specs.OwnNumbers.{own_number}
use Rattle.tn_dealer.proofs.dealer.Dealer.keeps.Given as goal

abbrev pub invariant-loop-buy : goal.invariant-loop-buy
invariant-loop-buy l = (buy : ℕ) → buy < l.buy → has (meet l.fn.x l.self.buys) buy ≡ true
    → KeepsBeside l.priced l.self.costs.value (own_number l.numbers) (minus l.fn.x l.self.buys) buy l.self.trades
