-- No case is among those that failed.
use Rattle.std.proofs.Common.{◌≡◌, ◌+◌, ◌-◌, ◌<◌, ◌≤◌, inl, inr, [], ◌∷◌, get_or, slice_get, Some, refl, subst, arith}
use Rattle.std.specs.Prelude.{Contains}
use Rattle.std.proofs.lemmas.List.Elements.{All-head}
use Rattle.std.proofs.lemmas.Option.{slice_get-get_or}
use Rattle.tn_cases.specs.Book.{cases_of_the_book}
use Rattle.tn_cases.specs.Case.{CaseData}
use Rattle.tn_said.specs.declared.said.Said.{Said}
use Rattle.tn_said.specs.declared.said.Said.TheVariants.{Cases}
use Rattle.tn_run.specs.Cases.{AreFailed, MayDiffer, TellsCases}
use Rattle.tn_case_laws.specs.Laws.{HasOneAnswer, NoCaseFails, CasesArePassed}
use Rattle.tn_case_laws.proofs.Cases.{each_case_has_one_answer}

-- a case with one answer doesn't differ
never_differs : (case : CaseData) → HasOneAnswer case → MayDiffer case → ⊥
never_differs case one other =
    let same = one.only other.status other.text other.allowed in other.differs same.0 same.1

abbrev no_case : CaseData
no_case = record { command = []; document = []; status = 0; text = [] }

pub no_case_fails : NoCaseFails
no_case_fails [] failed = refl
no_case_fails (number ∷ numbers) failed =
    let within = All-head (λ n. (1 ≤ n) × (n ≤ 12)) number numbers failed.among in
    let least : 1 ≤ number = within.0 in
    let most : number ≤ 12 = within.1 in
    let below : number - 1 < 12 = omega (arith, least, most) in
    let here : slice_get cases_of_the_book (number - 1) ≡ Some (get_or cases_of_the_book (number - 1) no_case) =
    slice_get-get_or cases_of_the_book (number - 1) no_case below in
    let same : number ≡ number - 1 + 1 = omega (arith, least) in
    let listed : Contains (number ∷ numbers) (number - 1 + 1) = (0, omega arith, same) in
    absurd (never_differs (get_or cases_of_the_book (number - 1) no_case)
    (each_case_has_one_answer (number - 1) (get_or cases_of_the_book (number - 1) no_case) here)
    (failed.failing (number - 1) (get_or cases_of_the_book (number - 1) no_case) below here listed))

tells_none : (said : Said) → TellsCases said → said ≡ Cases 12 []
tells_none (Cases count failed) tells =
    let all = tells.0 in
    let none = no_case_fails failed (subst (λ n. AreFailed n cases_of_the_book failed) all tells.1) in
    λ i. Cases (all i) (none i)
tells_none said tells = absurd tells

pub cases_are_passed : CasesArePassed
cases_are_passed said (inl no_memory) = inl no_memory
cases_are_passed said (inr tells) = inr (tells_none said tells)
