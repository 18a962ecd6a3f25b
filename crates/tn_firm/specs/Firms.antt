-- The firm that a value of any kind is.
use Rattle.tn_base.specs.Firm.{Firm}
use Rattle.tn_table.specs.Tables.{firm_of as table_firm_of}
use Rattle.tn_laminar.specs.Firms.{firm_of as laminar_firm_of}
use Rattle.tn_middle.specs.Firms.{firm_of as middle_firm_of}
use Rattle.tn_dealer.specs.Firms.{firm_of as dealer_firm_of}
use Rattle.tn_firm.specs.declared.value.FirmValue.{FirmValue}
use Rattle.tn_firm.specs.declared.value.FirmValue.TheVariants.{Table, Laminar, Middle, Dealer}

abbrev pub firm_of : FirmValue → Firm
firm_of (Table table) = table_firm_of table
firm_of (Laminar firm) = laminar_firm_of firm
firm_of (Middle firm) = middle_firm_of firm
firm_of (Dealer firm) = dealer_firm_of firm
