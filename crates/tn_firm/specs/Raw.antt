-- The firm that a value of any kind is whose exchange isn't tested yet, and which can be tested.
use Rattle.tn_base.specs.Firm.{Firm}
use Rattle.tn_exchange.specs.Rows.{firm_of_table}
use Rattle.tn_local.specs.First.{IsFullIfLarge}
use Rattle.tn_laminar.specs.Firms.{firm_of as laminar_firm_of}
use Rattle.tn_middle.specs.Firms.{firm_of as middle_firm_of}
use Rattle.tn_dealer.specs.Firms.{firm_of as dealer_firm_of}
use Rattle.tn_firm.specs.declared.raw.RawFirm.{RawFirm}
use Rattle.tn_firm.specs.declared.raw.RawFirm.TheVariants.{Table, Laminar, Middle, Dealer}

abbrev pub raw_firm_of : RawFirm → Firm
raw_firm_of (Table table) = firm_of_table table
raw_firm_of (Laminar firm) = laminar_firm_of firm
raw_firm_of (Middle firm) = middle_firm_of firm
raw_firm_of (Dealer firm) = dealer_firm_of firm

-- a table of more than 10 own trades has every bundle; a firm of another kind needn't be tested
abbrev pub CanBeTested : RawFirm → Type 0
CanBeTested (Table table) = IsFullIfLarge (firm_of_table table)
CanBeTested (Laminar firm) = Unit {0}
CanBeTested (Middle firm) = Unit {0}
CanBeTested (Dealer firm) = Unit {0}
