-- That the line that is written for an answer as an object is JSON, and stands for the answer's value.
use Rattle.std.specs.Prelude.{◌≡◌, ◌++◌, [], ◌∷◌, Bool, true, false, Some}
use Rattle.serde_json.specs.Read.{read}
use Rattle.serde_json.specs.Written.{compact_text}
use Rattle.tn_answer.specs.AnswerText.{answer_data, answer_line}
use Rattle.tn_answer.specs.Kept.{IsWithinClaims}
use Rattle.tn_answer.specs.declared.layout.Layout.TheVariants.{Object}
use Rattle.tn_said.specs.declared.said.Said.{Said}
use Rattle.tn_said.specs.declared.said.Said.TheVariants.{Accepted, Better, Blocks, Completes, Cycle, Drops, Equilibrium, ExchangeFails, Impossible, Solved, Supported}
use Rattle.tn_names.specs.Names.{NameLists}

-- whether an answer is one that claims are made of
abbrev pub is_claim : Said → Bool
is_claim (Equilibrium surplus) = true
is_claim (Better firm bundle gain) = true
is_claim (Impossible firm) = true
is_claim Accepted = true
is_claim (ExchangeFails firm x y at) = true
is_claim (Supported on prices ends) = true
is_claim (Cycle nodes cost) = true
is_claim (Solved on prices surplus ends) = true
is_claim (Drops firm keeps gain over) = true
is_claim (Completes prices over) = true
is_claim (Blocks contracts over) = true
is_claim said = false

-- its line, without the end of it, is read as its value
abbrev pub LinesAreRead : Type 0
LinesAreRead = (names : NameLists) (said : Said) → is_claim said ≡ true → IsWithinClaims said
    → (answer_line Object names said ≡ compact_text (answer_data names said) ++ 10 ∷ [])
    × (read (compact_text (answer_data names said)) ≡ Some (answer_data names said))
