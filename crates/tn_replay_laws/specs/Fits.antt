-- Which answers have numbers that a claim may have.
use Rattle.std.specs.Prelude.{All, IfSome}
use Rattle.tn_answer.specs.Kept.{IsWithinClaims}
use Rattle.tn_said.specs.ClaimLimits.{IsNumberWithin}
use Rattle.tn_said.specs.declared.said.Said.{Said}
use Rattle.tn_said.specs.declared.said.Said.TheVariants.{Better, Blocks, Completes, Cycle, Drops, Equilibrium, Solved, Supported}

-- the numbers of an answer are within the limits of claims; its denominator, and how many nodes it has, need no word
abbrev pub FitsClaim : Said → Type 0
FitsClaim (Equilibrium surplus) = IsNumberWithin surplus
FitsClaim (Better firm bundle gain) = IsNumberWithin gain
FitsClaim (Supported on prices ends) = All IsNumberWithin prices
FitsClaim (Cycle nodes cost) = IsNumberWithin cost
FitsClaim (Solved on prices surplus ends) = All IsNumberWithin prices × IsNumberWithin surplus
FitsClaim (Drops firm keeps gain over) = IfSome gain IsNumberWithin
FitsClaim (Completes prices over) = All IsNumberWithin prices
FitsClaim (Blocks contracts over) = All (λ contract. IsNumberWithin contract.price) contracts
FitsClaim said = Unit {0}

-- all that the program answers has such numbers
abbrev pub AnswersFitClaims : Type 0
AnswersFitClaims = (said : Said) → IsWithinClaims said → FitsClaim said
