-- Every answer replays.
use Rattle.std.proofs.Common.{◌≡◌, ℕ, true, List, Some, Ok, refl, sym, subst, ◌∙◌, true≢false}
use Rattle.std.specs.Prelude.{◌↔◌}
use Rattle.std.proofs.lemmas.Option.{slice_get_within}
use Rattle.serde_json.specs.Data.{Data}
use Rattle.tn_said.specs.declared.said.Said.{Said}
use Rattle.tn_said.specs.declared.said.Said.TheVariants.{Accepted, ExchangeFails, Invalid, Valid}
use Rattle.tn_said.specs.Claim.{Claim}
use Rattle.tn_model.specs.declared.ends.Ends.{Ends}
use Rattle.tn_base.specs.Firm.{Firm}
use Rattle.tn_cert.specs.Claims.{IsValid}
use Rattle.tn_cert.specs.RefutedLaw.{RefutedIsNotValid}
use Rattle.tn_commands.specs.Replay.{DecidesClaim}
use Rattle.tn_commands.proofs.CheckLemmas.{claim_implies}
use Rattle.tn_answer.specs.AnswerText.{answer_data}
use Rattle.tn_file.specs.declared.command.Command.{Command}
use Rattle.tn_file.specs.Document.{DocumentData, ExtraData, arrangement, document_of, on_alone, outcome, reading_of}
use Rattle.tn_file.specs.Json.{json_of}
use Rattle.tn_file.proofs.DocumentLeads.{documents_are_networks}
use Rattle.tn_file.proofs.ReadingLemmas.{networks_read, reading_as}
use Rattle.tn_file.specs.Readings.{any_reading_of}
use Rattle.tn_replay_laws.specs.Fits.{FitsClaim}
use Rattle.tn_replay_laws.specs.Replayed.{IsReplayed, claimed_in, with_claim}
use Rattle.tn_replay_laws.proofs.CheckedLemmas.{tests_replay, verdicts_replay}
use Rattle.tn_replay_laws.proofs.FoundLemmas.{solutions_replay, supports_replay}
use Rattle.tn_replay_laws.proofs.OutcomeLemmas.{judgements_replay}
use Rattle.tn_file.specs.declared.command.Command.TheVariants.{Check, Firms, Judge, Range, Replay, Session, Solve, Support, Test}
use Rattle.tn_run.specs.Answer.{ChecksExtra, IsAnswerOf, IsAnswerTo, JudgesExtra, SupportsExtra}
use Rattle.tn_replay_laws.specs.Runs.{AnswersReplay, answers_claims}
use Rattle.tn_raw_answers.specs.Test.{Tests}

module _ (top : Data) (doc : DocumentData) (said : Said) (within : FitsClaim said) where
  checked : document_of Check top ≡ Ok doc → (extra : ExtraData) → doc.extra ≡ extra
      → ChecksExtra doc extra said → IsReplayed top doc said
  checked read (arrangement at) is checks = verdicts_replay top doc at said read is checks.0 within
  checked read extra is checks = absurd checks

  judged : document_of Judge top ≡ Ok doc → (extra : ExtraData) → doc.extra ≡ extra
      → JudgesExtra doc extra said → IsReplayed top doc said
  judged read (outcome signed) is judges = judgements_replay top doc signed said read is judges within
  judged read extra is judges = absurd judges

  supported : document_of Support top ≡ Ok doc → (extra : ExtraData) → doc.extra ≡ extra
      → SupportsExtra doc extra said → IsReplayed top doc said
  supported read (on_alone on) is supports = supports_replay top doc on said read is supports within
  supported read extra is supports = absurd supports

tested : (top : Data) (doc : DocumentData) (said : Said) → document_of Test top ≡ Ok doc
    → Tests doc.firms doc.ends said → IsReplayed top doc said
tested top doc Accepted read meet =
    tests_replay.accepted top doc read (λ f firm is. meet f firm (slice_get_within doc.firms f firm is) is)
tested top doc (ExchangeFails f x y at) read fails = tests_replay.failing top doc f x y at read fails
tested top doc said read tests = absurd tests

replayed : (command : Command) (top : Data) (doc : DocumentData) (said : Said) → answers_claims command ≡ true
    → document_of command top ≡ Ok doc → IsAnswerOf command doc said → FitsClaim said
    → IsReplayed top doc said
replayed Check top doc said claims read answer within = checked top doc said within read doc.extra refl answer
replayed Judge top doc said claims read answer within = judged top doc said within read doc.extra refl answer
replayed Firms top doc said claims read answer within = absurd (true≢false (sym claims))
replayed Range top doc said claims read answer within = absurd (true≢false (sym claims))
replayed Replay top doc said claims read answer within = absurd (true≢false (sym claims))
replayed Session top doc said claims read answer within = absurd (true≢false (sym claims))
replayed Solve top doc said claims read answer within = solutions_replay top doc said read answer within
replayed Support top doc said claims read answer within = supported top doc said within read doc.extra refl answer
replayed Test top doc said claims read answer within = tested top doc said read answer

-- a claim that is valid has no other decision
only_valid : RefutedIsNotValid → (firms : List Firm) (trades : List Ends) (claim : Claim) → IsValid firms trades claim
    → (answer : Said) → DecidesClaim firms trades claim answer → answer ≡ Valid
only_valid refuted firms trades claim valid Valid decides = refl
only_valid refuted firms trades claim valid (Invalid reason) decides =
    absurd (refuted.never firms trades claim reason decides valid)
only_valid refuted firms trades claim valid answer decides = absurd decides

pub answers_replay : RefutedIsNotValid → AnswersReplay
answers_replay refuted command bytes claimed top doc said claims is read answered within there names answer =
    let replays =
    replayed command top doc said claims (sym (reading_as command bytes top is) ∙ read) answered within in
    let reads : reading_of Replay claimed ≡ Ok (claimed_in doc replays.read) =
    reading_as Replay claimed (with_claim (answer_data doc.names said) top) there ∙ replays.reads in
    let is_document = documents_are_networks Replay claimed (claimed_in doc replays.read) reads in
    let implied = claim_implies doc.firms doc.ends replays.read is_document.network is_document.extra replays.valid in
    subst (λ r. IsAnswerTo Replay r names answer ↔ ((answer ≡ Valid) × (names ≡ doc.names))) (sym (networks_read Replay claimed (claimed_in doc replays.read) reads)) (
      λ to. (only_valid refuted doc.firms doc.ends replays.read replays.valid answer to.0, to.1),
      λ is_valid. (
        subst (DecidesClaim doc.firms doc.ends replays.read) (sym is_valid.0) (replays.valid, implied),
        is_valid.1,
      ),
    )
