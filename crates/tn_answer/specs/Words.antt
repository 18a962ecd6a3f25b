-- The names of kinds of faults, as answers have them.
use Rattle.std.specs.Prelude.{ℕ, List, codes}
use Rattle.tn_said.specs.declared.fault.FaultKind.{FaultKind}
use Rattle.tn_said.specs.declared.fault.FaultKind.TheVariants.{NotJson, TooLong, Shape, BadName, SameName, UnknownFirm, SelfTrade, UnknownTrade, Limit, AmountRange, NotOwnTrade, SameBundle, NoEmpty, NotLaminar, NotConcave, ExchangeFails, SameTrade, PriceMissing, BadOver, SamePair}

-- the name of a kind of fault
abbrev pub kind_name : FaultKind → List ℕ
kind_name NotJson = codes "NotJson"
kind_name TooLong = codes "TooLong"
kind_name Shape = codes "Shape"
kind_name BadName = codes "BadName"
kind_name SameName = codes "SameName"
kind_name UnknownFirm = codes "UnknownFirm"
kind_name SelfTrade = codes "SelfTrade"
kind_name UnknownTrade = codes "UnknownTrade"
kind_name Limit = codes "Limit"
kind_name AmountRange = codes "AmountRange"
kind_name NotOwnTrade = codes "NotOwnTrade"
kind_name SameBundle = codes "SameBundle"
kind_name NoEmpty = codes "NoEmpty"
kind_name NotLaminar = codes "NotLaminar"
kind_name NotConcave = codes "NotConcave"
kind_name ExchangeFails = codes "ExchangeFails"
kind_name SameTrade = codes "SameTrade"
kind_name PriceMissing = codes "PriceMissing"
kind_name BadOver = codes "BadOver"
kind_name SamePair = codes "SamePair"
