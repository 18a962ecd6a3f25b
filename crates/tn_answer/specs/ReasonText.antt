-- What is written of a reason against a claim, and what holds of it.
use Rattle.std.specs.Prelude.{ℕ, ◌<◌, ◌^◌, ℤ, Bool, true, false, List, All, IfSome, FitsSigned, codes}
use Rattle.std.specs.Int.{w64}
use Rattle.std.specs.List.Sorted.{IsStrictlyIncreasing}
use Rattle.serde_json.specs.Data.{number, string, unsigned, Members, no_members, member}
use Rattle.tn_base.specs.Arcs.{IsAtMost}
use Rattle.tn_model.specs.Limits.{most_number}
use Rattle.tn_said.specs.declared.reason.Reason.{Reason}
use Rattle.tn_said.specs.declared.reason.Reason.TheVariants.{Impossible, Better, Possible, Surplus, Gain, Exchange, Holds, Arc, Cost, Contract, Over, Price, Empty, Signed, Choice, Shares, Balance, Whole}
use Rattle.tn_names.specs.Names.{NameLists}
use Rattle.tn_names.specs.Named.{IsNamed, IsNamedTriple, IsAscendingTriple}
use Rattle.tn_answer.specs.Values.{name_data, names_data, option_data, integer_data, bound_data}

-- the member with the reason's name, and those that follow
abbrev pub because : List ℕ → Members → Members
because name rest = member (codes "reason") (string name) rest

-- a firm before the reason's name
abbrev pub firm_because : NameLists → ℕ → List ℕ → Members → Members
firm_because names firm name rest = member (codes "firm") (name_data names.firms firm) (because name rest)

-- the members of an answer with a reason, in byte order
abbrev pub reason_members : NameLists → Reason → Members
reason_members names (Impossible firm) = firm_because names firm (codes "impossible") no_members
reason_members names (Better firm bundle) =
    member (codes "bundle") (names_data names.trades bundle) (firm_because names firm (codes "better") no_members)
reason_members names (Possible firm) = firm_because names firm (codes "possible") no_members
reason_members names (Surplus surplus) =
    because (codes "surplus") (member (codes "surplus") (integer_data surplus) no_members)
reason_members names (Gain firm gain) =
    member (codes "firm") (name_data names.firms firm) (member (codes "gain") (bound_data gain)
    (because (codes "gain") no_members))
reason_members names (Exchange firm x y at) =
    member (codes "at") (option_data names.trades at) (firm_because names firm (codes "exchange")
    (member (codes "x") (names_data names.trades x) (member (codes "y") (names_data names.trades y) no_members)))
reason_members names Holds = because (codes "holds") no_members
reason_members names (Arc index) = member (codes "index") (number (unsigned index)) (because (codes "arc") no_members)
reason_members names (Cost cost) = member (codes "cost") (integer_data cost) (because (codes "cost") no_members)
reason_members names (Contract trade) =
    because (codes "contract") (member (codes "trade") (name_data names.trades trade) no_members)
reason_members names (Over over) = member (codes "over") (integer_data over) (because (codes "over") no_members)
reason_members names (Price trade) =
    because (codes "price") (member (codes "trade") (name_data names.trades trade) no_members)
reason_members names Empty = because (codes "empty") no_members
reason_members names (Signed trade) =
    because (codes "signed") (member (codes "trade") (name_data names.trades trade) no_members)
reason_members names (Choice firm trade) =
    firm_because names firm (codes "choice") (member (codes "trade") (name_data names.trades trade) no_members)
reason_members names (Shares firm) = firm_because names firm (codes "shares") no_members
reason_members names (Balance trade) =
    because (codes "balance") (member (codes "trade") (name_data names.trades trade) no_members)
reason_members names (Whole on surplus) =
    member (codes "on") (names_data names.trades on) (because (codes "whole")
    (member (codes "surplus") (integer_data surplus) no_members))

-- a number of a reason keeps a limit
abbrev pub KeepsNumbers : (ℤ → Type 0) → ℕ → Reason → Type 0
KeepsNumbers keeps most (Surplus surplus) = keeps surplus
KeepsNumbers keeps most (Gain firm gain) = IfSome gain keeps
KeepsNumbers keeps most (Arc index) = index < 2 ^ most
KeepsNumbers keeps most (Cost cost) = keeps cost
KeepsNumbers keeps most (Over over) = keeps over
KeepsNumbers keeps most (Whole on surplus) = keeps surplus
KeepsNumbers keeps most (Impossible firm) = Unit {0}
KeepsNumbers keeps most (Better firm bundle) = Unit {0}
KeepsNumbers keeps most (Possible firm) = Unit {0}
KeepsNumbers keeps most (Exchange firm x y at) = Unit {0}
KeepsNumbers keeps most Holds = Unit {0}
KeepsNumbers keeps most (Contract trade) = Unit {0}
KeepsNumbers keeps most (Price trade) = Unit {0}
KeepsNumbers keeps most Empty = Unit {0}
KeepsNumbers keeps most (Signed trade) = Unit {0}
KeepsNumbers keeps most (Choice firm trade) = Unit {0}
KeepsNumbers keeps most (Shares firm) = Unit {0}
KeepsNumbers keeps most (Balance trade) = Unit {0}

-- the numbers of a reason fit 64 bits, or are within the limits of claims
abbrev pub IsShortReason : Reason → Type 0
IsShortReason reason = KeepsNumbers (FitsSigned w64) 64 reason

abbrev pub IsReasonWithin : Reason → Type 0
IsReasonWithin reason = KeepsNumbers (λ z. IsAtMost z most_number) 32 reason

-- a reason speaks only of firms and trades that have a name
abbrev pub IsNamedReason : NameLists → Reason → Type 0
IsNamedReason names (Impossible firm) = IsNamed names.firms firm
IsNamedReason names (Better firm bundle) = IsNamed names.firms firm × All (IsNamed names.trades) bundle
IsNamedReason names (Possible firm) = IsNamed names.firms firm
IsNamedReason names (Surplus surplus) = Unit {0}
IsNamedReason names (Gain firm gain) = IsNamed names.firms firm
IsNamedReason names (Exchange firm x y at) = IsNamed names.firms firm
    × IsNamedTriple names.trades (record { x = x; y = y; at = at })
IsNamedReason names Holds = Unit {0}
IsNamedReason names (Arc index) = Unit {0}
IsNamedReason names (Cost cost) = Unit {0}
IsNamedReason names (Contract trade) = IsNamed names.trades trade
IsNamedReason names (Over over) = Unit {0}
IsNamedReason names (Price trade) = IsNamed names.trades trade
IsNamedReason names Empty = Unit {0}
IsNamedReason names (Signed trade) = IsNamed names.trades trade
IsNamedReason names (Choice firm trade) = IsNamed names.firms firm × IsNamed names.trades trade
IsNamedReason names (Shares firm) = IsNamed names.firms firm
IsNamedReason names (Balance trade) = IsNamed names.trades trade
IsNamedReason names (Whole on surplus) = All (IsNamed names.trades) on

-- whether a reason names no firm and no trade
abbrev pub reason_names_nothing : Reason → Bool
reason_names_nothing (Impossible firm) = false
reason_names_nothing (Better firm bundle) = false
reason_names_nothing (Possible firm) = false
reason_names_nothing (Surplus surplus) = true
reason_names_nothing (Gain firm gain) = false
reason_names_nothing (Exchange firm x y at) = false
reason_names_nothing Holds = true
reason_names_nothing (Arc index) = true
reason_names_nothing (Cost cost) = true
reason_names_nothing (Contract trade) = false
reason_names_nothing (Over over) = true
reason_names_nothing (Price trade) = false
reason_names_nothing Empty = true
reason_names_nothing (Signed trade) = false
reason_names_nothing (Choice firm trade) = false
reason_names_nothing (Shares firm) = false
reason_names_nothing (Balance trade) = false
reason_names_nothing (Whole on surplus) = false

-- each list of trades in a reason ascends strictly
abbrev pub HasAscendingBundles : Reason → Type 0
HasAscendingBundles (Better firm bundle) = IsStrictlyIncreasing bundle
HasAscendingBundles (Whole on surplus) = IsStrictlyIncreasing on
HasAscendingBundles (Exchange firm x y at) = IsAscendingTriple (record { x = x; y = y; at = at })
HasAscendingBundles (Impossible firm) = Unit {0}
HasAscendingBundles (Possible firm) = Unit {0}
HasAscendingBundles (Surplus surplus) = Unit {0}
HasAscendingBundles (Gain firm gain) = Unit {0}
HasAscendingBundles Holds = Unit {0}
HasAscendingBundles (Arc index) = Unit {0}
HasAscendingBundles (Cost cost) = Unit {0}
HasAscendingBundles (Contract trade) = Unit {0}
HasAscendingBundles (Over over) = Unit {0}
HasAscendingBundles (Price trade) = Unit {0}
HasAscendingBundles Empty = Unit {0}
HasAscendingBundles (Signed trade) = Unit {0}
HasAscendingBundles (Choice firm trade) = Unit {0}
HasAscendingBundles (Shares firm) = Unit {0}
HasAscendingBundles (Balance trade) = Unit {0}
