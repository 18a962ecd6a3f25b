-- What the impl for a table needs: it is a firm that may be asked.
use Rattle.std.specs.Prelude.{◌≤◌, ℤ}
use Rattle.std.proofs.Common.{arith}
use Rattle.std.proofs.lemmas.Int.{ints}
use Rattle.tn_base.specs.Arcs.{IsAtMost}
use Rattle.tn_base.specs.Exchange.{MeetsExchange}
use Rattle.tn_base.proofs.ExchangeLemmas.{exchange_from_none_fails}
use Rattle.tn_base.proofs.TableLemmas.{buys_of_within}
use Rattle.tn_exchange.proofs.RowLemmas.{own_bundles, may_abstain, worth_is_small}
use Rattle.tn_market.specs.Lawful.{IsLawful}
use Rattle.tn_table.specs.declared.table.Table.{Table}
use Rattle.tn_table.specs.Tables.{firm_of}
use Rattle.tn_base.specs.Widths.{most_amount}
use Rattle.tn_market.specs.Widths.{most_worth}
use Rattle.tn_exchange.specs.Widths.{most_table_trades}

at_most_bound : (z : ℤ) → IsAtMost z most_amount → IsAtMost z most_worth
at_most_bound z small =
    let low = small.low in
    let high = small.high in
    record { low = omega (arith, ints, low); high = omega (arith, ints, high) }

-- a table is a firm that may be asked, and no worth of it is above (60 + 64) * 10^9
pub table_laws : (table : Table) → IsLawful most_worth (firm_of table)
table_laws table =
    let few = table.within.few in
    let meets : MeetsExchange (firm_of table) =
    exchange_from_none_fails (firm_of table) (own_bundles table.raw) table.none_fails in
    record {
      few_trades = omega (arith, few);
      own_purchases = buys_of_within table.raw.sides;
      own_bundles = own_bundles table.raw;
      empty_is_possible = may_abstain table.raw;
      exchange_one = meets.one;
      exchange_net = meets.net_count;
      within = λ x a is. at_most_bound a (worth_is_small table.raw table.within x a is);
      small_limit = omega arith;
    }

-- a table has at most 14 own trades
pub table_few : (table : Table) → (firm_of table).count ≤ most_table_trades
table_few table = table.within.few
