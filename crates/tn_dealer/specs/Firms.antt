-- The firm that the code's dealer is.
use Rattle.tn_base.specs.Firm.{Firm}
use Rattle.tn_dealer.specs.declared.dealer.Dealer.{Dealer}
use Rattle.tn_dealer.specs.Pairs.{dealing}

abbrev pub firm_of : Dealer → Firm
firm_of dealer = dealing dealer.trades dealer.buys dealer.pairs.items
