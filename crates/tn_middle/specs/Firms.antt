-- The firm that the code's middleman is.
use Rattle.tn_base.specs.Firm.{Firm}
use Rattle.tn_middle.specs.declared.middle.Middle.{Middle}
use Rattle.tn_middle.specs.Pairs.{pairing}

abbrev pub firm_of : Middle → Firm
firm_of firm = pairing firm.trades firm.buys firm.numbers.items firm.keep
