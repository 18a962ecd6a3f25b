-- Every answer replays, command by command: of any document that is read, any answer that the command's definition
-- allows is a valid claim once it is put into the document, where its numbers are within the limits of claims.
use Rattle.std.specs.Prelude.{◌≡◌, ℕ, pos, List, slice_get, Option, Some, Ok}
use Rattle.serde_json.specs.Data.{Data}
use Rattle.tn_replay_laws.specs.Fits.{FitsClaim}
use Rattle.tn_base.specs.Exchange.{MeetsExchange}
use Rattle.tn_base.specs.Firm.{Firm}
use Rattle.tn_cert.specs.Reasons.{IsFirstToFail}
use Rattle.tn_commands.specs.Judge.{JudgesOutcome}
use Rattle.tn_commands.specs.Solve.{Solves}
use Rattle.tn_commands.specs.Support.{SupportsSet}
use Rattle.tn_read_parts.specs.Arranged.{Arranged}
use Rattle.tn_file.specs.declared.command.Command.TheVariants.{Check, Judge, Solve, Support, Test}
use Rattle.tn_file.specs.Document.{DocumentData, arrangement, document_of, on_alone, outcome}
use Rattle.tn_model.specs.declared.contract.Outcome.{Outcome as OutcomeIs}
use Rattle.tn_said.specs.declared.said.Said.{Said}
use Rattle.tn_said.specs.declared.said.Said.TheVariants.{Accepted, ExchangeFails}
use Rattle.tn_model.specs.Prices.{price_at}
use Rattle.tn_commands.specs.Check.{ChecksArrangement}
use Rattle.tn_replay_laws.specs.Replayed.{IsReplayed}

-- the verdict on the document's arrangement
abbrev pub VerdictsReplay : Type 0
VerdictsReplay = (top : Data) (doc : DocumentData) (at : Arranged) (said : Said) → document_of Check top ≡ Ok doc
    → doc.extra ≡ arrangement at
    → ChecksArrangement doc.firms doc.ends (pos 1) at.on (price_at at.prices) said → FitsClaim said → IsReplayed top doc said

-- that every firm meets the exchange property, or the first triple of the first firm that doesn't
pub record TestsReplay : Type 0 where
  pub accepted : (top : Data) (doc : DocumentData) → document_of Test top ≡ Ok doc
      → ((f : ℕ) (firm : Firm) → slice_get doc.firms f ≡ Some firm → MeetsExchange firm)
      → IsReplayed top doc Accepted
  pub failing : (top : Data) (doc : DocumentData) (f : ℕ) (x y : List ℕ) (at : Option ℕ) → document_of Test top ≡ Ok doc
      → IsFirstToFail doc.firms doc.ends f x y at
      → IsReplayed top doc (ExchangeFails f x y at)

-- prices for the trades of the document's arrangement that are on, or why there are none
abbrev pub SupportsReplay : Type 0
SupportsReplay = (top : Data) (doc : DocumentData) (on : ℕ) (said : Said) → document_of Support top ≡ Ok doc
    → doc.extra ≡ on_alone on → SupportsSet doc.firms doc.ends on said
    → FitsClaim said → IsReplayed top doc said

-- an equilibrium of the document's network
abbrev pub SolutionsReplay : Type 0
SolutionsReplay = (top : Data) (doc : DocumentData) (said : Said) → document_of Solve top ≡ Ok doc
    → Solves doc.firms doc.ends said → FitsClaim said → IsReplayed top doc said

-- the verdict on the document's outcome
abbrev pub JudgementsReplay : Type 0
JudgementsReplay = (top : Data) (doc : DocumentData) (signed : OutcomeIs) (said : Said)
    → document_of Judge top ≡ Ok doc → doc.extra ≡ outcome signed
    → JudgesOutcome doc.firms doc.ends signed.over signed.contracts said → FitsClaim said → IsReplayed top doc said
