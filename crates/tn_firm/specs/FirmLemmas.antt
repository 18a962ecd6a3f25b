-- What the impl for a firm of any kind needs: the laws of each kind.
use Rattle.std.specs.Prelude.{◌≤◌}
use Rattle.std.proofs.Common.{arith}
use Rattle.tn_market.specs.Lawful.{IsLawful}
use Rattle.tn_table.specs.TableLemmas.{table_laws, table_few}
use Rattle.tn_laminar.specs.LawLemmas.{laminar_laws}
use Rattle.tn_middle.specs.LawLemmas.{middle_laws}
use Rattle.tn_dealer.specs.LawLemmas.{dealer_laws}
use Rattle.tn_firm.specs.declared.value.FirmValue.{FirmValue}
use Rattle.tn_firm.specs.declared.value.FirmValue.TheVariants.{Table, Laminar, Middle, Dealer}
use Rattle.tn_firm.specs.Firms.{firm_of}
use Rattle.tn_market.specs.Widths.{most_worth, most_own}

-- whatever its kind, it is a firm that may be asked, and no worth of it is above (60 + 64) * 10^9
pub firm_laws : (value : FirmValue) → IsLawful most_worth (firm_of value)
firm_laws (Table table) = table_laws table
firm_laws (Laminar firm) = laminar_laws firm
firm_laws (Middle firm) = middle_laws firm
firm_laws (Dealer firm) = dealer_laws firm

-- a firm of any kind has at most 60 own trades, which is what the search for a best bundle asks
pub firm_few : (value : FirmValue) → (firm_of value).count ≤ most_own
firm_few (Table table) = let few = table_few table in omega (arith, few)
firm_few (Laminar firm) = firm.laminar.few
firm_few (Middle firm) = firm.middle.few
firm_few (Dealer firm) = firm.dealer.few
