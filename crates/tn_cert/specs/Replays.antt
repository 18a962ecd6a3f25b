-- What the replay of a claim says.
use Rattle.std.specs.Prelude.{◌≡◌, ◌⊎◌, ℕ, ℤ, pos, List, map, Option, Some, None, option_map, Result, Ok, Err}
use Rattle.tn_base.specs.Arcs.{IsAtMost}
use Rattle.tn_base.specs.Firm.{Firm}
use Rattle.tn_said.specs.Claim.{Claim}
use Rattle.tn_model.specs.declared.ends.Ends.{Ends}
use Rattle.tn_said.specs.declared.reason.Reason.{Reason}
use Rattle.tn_said.specs.declared.reason.Reason.TheVariants.{Exchange, Whole}
use Rattle.tn_said.specs.ClaimLimits.{IsFirmWith}
use Rattle.tn_model.specs.Limits.{most_number}
use Rattle.tn_market.specs.Equilibrium.{IsEquilibrium, surplus_of}
use Rattle.tn_model.specs.Network.{own, part}
use Rattle.tn_cert.specs.declared.replayed.Replayed.{Replayed}
use Rattle.tn_cert.specs.declared.replayed.Replayed.TheVariants.{Valid, Invalid}
use Rattle.tn_cert.specs.Claims.{Gains, GoesRound, IsValid}
use Rattle.tn_cert.specs.Reasons.{IsFirstBreak, LacksBest, Refutes}

-- the claim is valid, or this is the first of its conditions that fails
abbrev pub Replays : List Firm → List Ends → Claim → Replayed → Type 0
Replays firms trades claim Valid = IsValid firms trades claim
Replays firms trades claim (Invalid reason) = Refutes firms trades claim reason

-- the reason with the trades at the firm's positions in place of the positions
abbrev pub reason_in : List Ends → Reason → Reason
reason_in trades (Exchange f x y at) =
    Exchange f (map (own trades f) x) (map (own trades f) y) (option_map (own trades f) at)
reason_in trades reason = reason

abbrev pub in_trades : List Ends → Replayed → Replayed
in_trades trades Valid = Valid
in_trades trades (Invalid reason) = Invalid (reason_in trades reason)

-- the surplus that is told of a set of trades is within the limits of claims
abbrev pub HasSmallSurplus : Replayed → Type 0
HasSmallSurplus (Invalid (Whole on surplus)) = IsAtMost surplus most_number
HasSmallSurplus replayed = Unit {0}

-- an equilibrium with its surplus, or the first firm without a best bundle
abbrev pub Weighs : List Firm → List Ends → ℤ → ℕ → (ℕ → ℤ) → Result ℤ Reason → Type 0
Weighs firms trades scale on prices (Ok surplus) = IsEquilibrium firms trades scale on prices
    × (surplus_of firms trades on ≡ Some surplus)
Weighs firms trades scale on prices (Err reason) = LacksBest firms trades scale on prices reason

-- the first firm without a best bundle, none at an equilibrium
abbrev pub FindsLack : List Firm → List Ends → ℤ → ℕ → (ℕ → ℤ) → Option Reason → Type 0
FindsLack firms trades scale on prices None = IsEquilibrium firms trades scale on prices
FindsLack firms trades scale on prices (Some reason) = LacksBest firms trades scale on prices reason

-- what firm f gains where it has x in place of its bundle, none where one of the two is impossible
abbrev pub TellsGain : List Firm → List Ends → ℕ → (ℕ → ℤ) → ℕ → ℕ → Option ℤ → Type 0
TellsGain firms trades on prices f x (Some gain) =
    IsFirmWith firms f (λ firm. Gains trades (pos 1) prices f firm x (part trades f firm.count on) gain)
TellsGain firms trades on prices f x None =
    IsFirmWith firms f (λ firm. (firm.worth (part trades f firm.count on) ≡ None) ⊎ (firm.worth x ≡ None))

-- what it costs to go round, or the first node without an arc to the one after it
abbrev pub Rounds : (ℕ → ℕ → Option ℤ) → List ℕ → Result ℤ ℕ → Type 0
Rounds arc nodes (Ok cost) = GoesRound arc nodes cost
Rounds arc nodes (Err index) = IsFirstBreak arc nodes index
