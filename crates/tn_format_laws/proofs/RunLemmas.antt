-- The answers to two texts of documents that are the same but for the version.
use Rattle.std.proofs.Common.{◌≡◌, inl, inr, Ok, Result, ap, refl, sym, subst, ◌∙◌}
use Rattle.std.specs.Prelude.{◌↔◌, ℕ, List, false, Some}
use Rattle.serde_json.specs.Data.{Data}
use Rattle.tn_names.specs.Names.{NameLists}
use Rattle.tn_said.specs.declared.said.Said.{Said}
use Rattle.tn_read_head.specs.Beside.{Stop}
use Rattle.tn_file.specs.Document.{DocumentData, document_of, reading_of}
use Rattle.tn_file.specs.Json.{json_of}
use Rattle.tn_file.specs.Readings.{any_reading_of, as_network, says_units}
use Rattle.tn_file.proofs.ReadingLemmas.{any_reading_as, limits_say, network_read, reading_as}
use Rattle.tn_file.specs.declared.command.Command.{Command}
use Rattle.tn_run.specs.Answer.{IsAnswerTo}
use Rattle.tn_format_laws.specs.Versions.{AreOfVersions, MeetButForLimits, StopsAtLimit}
use Rattle.tn_format_laws.specs.Runs.{AnswersAreThoseOfEachVersion}
use Rattle.tn_format_laws.proofs.DocumentLemmas.{readings_meet, second_said}

-- readings that stop at no limit are one
one_reading : (command : Command) (r s : Result DocumentData Stop) → MeetButForLimits r s → (StopsAtLimit r → ⊥)
    → (StopsAtLimit s → ⊥) → (names : NameLists) (said : Said)
    → IsAnswerTo command (as_network r) names said ↔ IsAnswerTo command (as_network s) names said
one_reading command r s (inl one) free other_free names said =
    subst (λ t. IsAnswerTo command (as_network r) names said ↔ IsAnswerTo command (as_network t) names said) one
    (λ answer. answer, λ answer. answer)
one_reading command r s (inr (inl stops)) free other_free names said = absurd (free stops)
one_reading command r s (inr (inr stops)) free other_free names said = absurd (other_free stops)

-- what says no version of units is read as a network
as_read : (command : Command) (bytes : List ℕ) (top : Data) → json_of bytes ≡ Some top → says_units top ≡ false
    → any_reading_of command bytes ≡ as_network (reading_of command bytes)
as_read command bytes top stands none =
    any_reading_as command bytes top stands ∙ network_read command top none
    ∙ sym (ap as_network (reading_as command bytes top stands))

other_says : (top other : Data) → AreOfVersions top other → says_units other ≡ false
other_says top other versions =
    subst (λ (value : Data). says_units value ≡ false) (sym versions.same)
    (limits_say _ versions.second_limits
    (second_said versions.second top versions.limits versions.second_limits versions.says versions.there_is))

pub answers_are_those_of_each_version : AnswersAreThoseOfEachVersion
answers_are_those_of_each_version command bytes other versions free other_free names said =
    let is = reading_as command bytes versions.top versions.stands in
    let other_is = reading_as command other versions.other_top versions.other_stands in
    let reads =
    as_read command bytes versions.top versions.stands (limits_say versions.top versions.versions.limits versions.versions.says)
    in
    let other_reads =
    as_read command other versions.other_top versions.other_stands
    (other_says versions.top versions.other_top versions.versions) in
    subst (λ r. IsAnswerTo command r names said ↔ IsAnswerTo command (any_reading_of command other) names said) (sym reads)
    (subst (λ r. IsAnswerTo command (as_network (reading_of command bytes)) names said ↔ IsAnswerTo command r names said)
    (sym other_reads)
    (one_reading command (reading_of command bytes) (reading_of command other)
    (subst (λ r. MeetButForLimits r (reading_of command other)) (sym is)
    (subst (λ r. MeetButForLimits (document_of command versions.top) r) (sym other_is)
    (readings_meet command versions.top versions.other_top versions.versions))) free other_free names said))
