-- The firm that a table is, and what a refusal of a table says.
use Rattle.std.specs.Prelude.{◌≡◌}
use Rattle.tn_base.specs.Firm.{Firm}
use Rattle.tn_exchange.specs.Rows.{TableRows, firm_of_table}
use Rattle.tn_local.specs.First.{IsFirstTriple}
use Rattle.tn_table.specs.declared.table.Table.{Table}
use Rattle.tn_table.specs.declared.table.TableRefused.{TableRefused}

abbrev pub firm_of : Table → Firm
firm_of table = firm_of_table table.raw

-- the table is handed back, with its first triple
pub record Refuses (raw : TableRows) (refused : TableRefused) : Type 0 where
  pub same : refused.raw ≡ raw
  pub first : IsFirstTriple (firm_of_table raw) (record { x = refused.x; y = refused.y; at = refused.at })
