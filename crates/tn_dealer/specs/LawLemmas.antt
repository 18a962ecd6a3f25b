-- The laws of a dealer.
use Rattle.std.proofs.Common.{◌*◌, arith, pos}
use Rattle.tn_market.specs.Lawful.{IsLawful}
use Rattle.tn_market.specs.Valued.{IsWorthAtMost}
use Rattle.tn_market.proofs.AscentLemmas.{smaller}
use Rattle.tn_dealer.specs.declared.dealer.Dealer.{Dealer}
use Rattle.tn_dealer.specs.Firms.{firm_of}
use Rattle.tn_dealer.specs.WorthLemmas.{own_pairs, matched_exchange, matched_empty}
use Rattle.tn_dealer.specs.WithinLemmas.{dealing_within}
use Rattle.tn_base.specs.Widths.{most_amount}
use Rattle.tn_market.specs.Widths.{most_worth}

within_of : (dealer : Dealer) → IsWorthAtMost most_worth (firm_of dealer)
within_of dealer x a is =
    let few = dealer.dealer.few in
    let own = own_pairs dealer.trades dealer.buys dealer.pairs.items dealer.dealer.own in
    smaller a (dealer.trades * most_amount) most_worth (omega (arith, few))
    (dealing_within dealer.trades dealer.buys dealer.pairs.items most_amount own
    (λ k pair there. (own k pair there).small) x a is)

-- a dealer is a firm that may be asked, and no worth of it is above (60 + 64) * 10^9
pub dealer_laws : (dealer : Dealer) → IsLawful most_worth (firm_of dealer)
dealer_laws dealer =
    let few = dealer.dealer.few in
    let own = own_pairs dealer.trades dealer.buys dealer.pairs.items dealer.dealer.own in
    let exchange = matched_exchange dealer.trades dealer.buys dealer.pairs.items own in
    record {
      few_trades = omega (arith, few);
      own_purchases = dealer.dealer.bought;
      own_bundles = exchange.0;
      empty_is_possible = (pos 0, matched_empty dealer.pairs.items);
      exchange_one = exchange.1.one;
      exchange_net = exchange.1.net_count;
      within = within_of dealer;
      small_limit = omega arith;
    }
