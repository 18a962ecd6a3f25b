-- The numbers of the kinds of faults.
use Rattle.std.specs.Prelude.{ℕ}
use Rattle.tn_said.specs.declared.fault.FaultKind.{FaultKind}
use Rattle.tn_said.specs.declared.fault.FaultKind.TheVariants.{NotJson, TooLong, Shape, BadName, SameName, UnknownFirm, SelfTrade, UnknownTrade, Limit, AmountRange, NotOwnTrade, SameBundle, NoEmpty, NotLaminar, NotConcave, ExchangeFails, SameTrade, PriceMissing, BadOver, SamePair}

-- the number that stands in an answer for a kind of fault
abbrev pub fault_number : FaultKind → ℕ
fault_number NotJson = 1
fault_number TooLong = 2
fault_number Shape = 3
fault_number BadName = 4
fault_number SameName = 5
fault_number UnknownFirm = 6
fault_number SelfTrade = 7
fault_number UnknownTrade = 8
fault_number Limit = 9
fault_number AmountRange = 10
fault_number NotOwnTrade = 11
fault_number SameBundle = 12
fault_number NoEmpty = 13
fault_number NotLaminar = 14
fault_number NotConcave = 15
fault_number ExchangeFails = 16
fault_number SameTrade = 17
fault_number PriceMissing = 18
fault_number BadOver = 19
fault_number SamePair = 20
