-- A document with an answer put into it as its claim.
use Rattle.std.specs.Prelude.{◌≡◌, codes, Ok}
use Rattle.serde_json.specs.Data.{Data, object, put}
use Rattle.tn_answer.specs.AnswerText.{answer_data}
use Rattle.tn_cert.specs.Claims.{IsValid}
use Rattle.tn_file.specs.declared.command.Command.TheVariants.{Replay}
use Rattle.tn_file.specs.Document.{DocumentData, claim, document_of}
use Rattle.tn_said.specs.Claim.{Claim as ClaimIs}
use Rattle.tn_said.specs.declared.said.Said.{Said}

-- the document with a value as its claim, in place of any other
unfoldable pub with_claim : Data → Data → Data
with_claim value (object members) = object (put (codes "claim") value members)
with_claim value top = top

-- the same network, with a claim that is read beside it
abbrev pub claimed_in : DocumentData → ClaimIs → DocumentData
claimed_in doc read = record { names = doc.names; firms = doc.firms; ends = doc.ends; extra = claim read }

-- put into its document as the claim, an answer is read as a claim on the same network, and the claim is valid
pub record IsReplayed (top : Data) (doc : DocumentData) (said : Said) : Type 0 where
  pub read : ClaimIs
  pub reads : document_of Replay (with_claim (answer_data doc.names said) top) ≡ Ok (claimed_in doc read)
  pub valid : IsValid doc.firms doc.ends read
