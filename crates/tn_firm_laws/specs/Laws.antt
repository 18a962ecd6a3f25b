-- The laws, each as one statement over all firms.
use Rattle.std.specs.Prelude.{◌≡◌, ℕ, ◌<◌, ℤ, pos, ◌<ℤ◌, ◌≤ℤ◌, ◌↔◌, ◌^◌, Option, Some, List}
use Rattle.tn_base.specs.Firm.{Firm, net, HasOwnBundles, plus_sum, among, utility, IsBest}
use Rattle.tn_base.specs.Exchange.{MeetsExchange}
use Rattle.tn_base.specs.Arcs.{AreBetweenNodes}
use Rattle.tn_base.specs.Walks.{KeepsArcs, HasNoNegativeCycle}
use Rattle.tn_firm_laws.specs.Places.{level, move, ArePlaces, ExchangesOverPlaces}
use Rattle.tn_firm_laws.specs.Local.{IsLocallyBest, IsUnimproved}
use Rattle.tn_firm_laws.specs.Additive.{additive}
use Rattle.tn_firm_laws.specs.Ordered.{Shift, shifted, AreOrdered}
use Rattle.tn_firm_laws.specs.Nested.{CountTerm, nested_sum, AreNested, IsConcave, IsConcaveList, listed_from}

-- bundles, whatever the count of trades and the purchases among them, have places, levels and moves
abbrev pub BundlesHavePlaces : Type 0
BundlesHavePlaces = (n buys : ℕ) → ArePlaces n (level n buys) (move n)

-- a bundle has the smaller net count exactly where null has the greater level
abbrev pub NullIsNetCount : Type 0
NullIsNetCount = (n buys x y : ℕ) → x < 2 ^ n → y < 2 ^ n
    → (net buys x <ℤ net buys y) ↔ (level n buys y n < level n buys x n)

-- a firm meets exchange exactly where it exchanges over places
abbrev pub ExchangeIsOverPlaces : Type 0
ExchangeIsOverPlaces = (firm : Firm) → HasOwnBundles firm → MeetsExchange firm ↔ ExchangesOverPlaces firm

-- the firm with a multiple of at least 0 of each worth, and a sum over the bundle beside it, meets exchange too
abbrev pub ExchangeOfPricedFirms : Type 0
ExchangeOfPricedFirms = (firm : Firm) (scale : ℤ) (c : ℕ → ℤ) → pos 0 ≤ℤ scale → HasOwnBundles firm → MeetsExchange firm
    → HasOwnBundles (plus_sum scale c firm) × MeetsExchange (plus_sum scale c firm)

-- the firm whose possible bundles are those within a set of positions meets exchange too
abbrev pub ExchangeAmong : Type 0
ExchangeAmong = (firm : Firm) (allowed : ℕ) → HasOwnBundles firm → MeetsExchange firm
    → HasOwnBundles (among allowed firm) × MeetsExchange (among allowed firm)

-- where a firm meets exchange, a possible bundle that no single toggle and no pair of toggles improves is best
abbrev pub LocallyBestIsBest : Type 0
LocallyBestIsBest = (firm : Firm) → HasOwnBundles firm → MeetsExchange firm
    → (x : ℕ) (value : ℤ) → firm.worth x ≡ Some value → IsLocallyBest firm.count firm.worth x value
    → IsBest firm.worth x value

-- where a firm meets exchange, at every scale of at least 0 and at all prices a possible bundle is best exactly where
-- no single toggle and no pair of one raising and one lowering toggle has more utility
abbrev pub LocalIsGlobal : Type 0
LocalIsGlobal = (firm : Firm) → HasOwnBundles firm → MeetsExchange firm → (scale : ℤ) (prices : ℕ → ℤ) → pos 0 ≤ℤ scale
    → (x : ℕ) (value : ℤ) → utility scale prices firm x ≡ Some value
    → IsBest (utility scale prices firm) x value ↔ IsUnimproved firm.count firm.buys (utility scale prices firm) x value

-- where a firm meets exchange, a best bundle with several tight shifts, in an order without a shortcut, is possible and
-- best again after all of them
abbrev pub OrderedShiftsKeepBest : Type 0
OrderedShiftsKeepBest = (firm : Firm) → HasOwnBundles firm → MeetsExchange firm → (x : ℕ) (value : ℤ)
    → IsBest firm.worth x value
    → (shifts : List Shift) → AreOrdered firm x value shifts → IsBest firm.worth (shifted firm.count x shifts) value

-- a firm to which its trades are independent of each other meets exchange
abbrev pub ExchangeOfAdditiveFirms : Type 0
ExchangeOfAdditiveFirms = (count buys : ℕ) (c : ℕ → ℤ) → HasOwnBundles (additive count buys c)
    × MeetsExchange (additive count buys c)

-- a firm whose worth is the sum of an amount for each of its trades, and of concave functions of the net counts within
-- sets of which no two cross, meets exchange
abbrev pub ExchangeOfNestedSums : Type 0
ExchangeOfNestedSums = (count buys : ℕ) (amounts : ℕ → ℤ) (terms : List CountTerm) → AreNested count terms
    → HasOwnBundles (nested_sum count buys amounts terms) × MeetsExchange (nested_sum count buys amounts terms)

-- a list of numbers of which none is below the middle of its neighbours is a concave function, wherever it begins
abbrev pub ListedNumbersAreConcave : Type 0
ListedNumbersAreConcave = (low : ℤ) (numbers : List ℤ) → IsConcaveList numbers → IsConcave (listed_from low numbers)

-- in a graph of finitely many nodes some numbers keep every arc exactly where no closed walk is negative
abbrev pub NumbersKeepArcs : Type 0
NumbersKeepArcs = (n : ℕ) (arc : ℕ → ℕ → Option ℤ) → AreBetweenNodes n arc
    → HasNoNegativeCycle arc ↔ ((label : ℕ → ℤ) × KeepsArcs arc label)
