-- The firm that the code's laminar firm is.
use Rattle.tn_base.specs.Firm.{Firm}
use Rattle.tn_laminar.specs.declared.laminar.Laminar.{Laminar}
use Rattle.tn_laminar.specs.Sum.{laminar_sum}

abbrev pub firm_of : Laminar → Firm
firm_of firm = laminar_sum firm.trades firm.buys firm.amounts.items firm.sets.items
