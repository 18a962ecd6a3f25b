-- The verdict on an arrangement is the answer of `check`, which alone reads a market with one.
use Rattle.std.proofs.Common.{pos, map, Result}
use Rattle.std.specs.Prelude.{IfOk}
use Rattle.std.proofs.lemmas.Result.{IfOk-weaker}
use Rattle.tn_model.specs.declared.arrangement.Arrangement.{Arrangement as ArrangementIs}
use Rattle.tn_said.specs.declared.said.Said.{Said}
use Rattle.tn_model.specs.Prices.{price_at}
use Rattle.tn_names.specs.Names.{NameLists}
use Rattle.tn_firm.specs.declared.value.FirmValue.{FirmValue}
use Rattle.tn_firm.specs.Firms.{firm_of}
use Rattle.tn_commands.specs.Check.{ChecksArrangement}
use Rattle.tn_market.specs.Traded.{Traded}
use Rattle.tn_commands.proofs.CheckLemmas.{judged_implies}
use Rattle.tn_file.specs.declared.document.Content.TheVariants.{Market}
use Rattle.tn_file.specs.declared.asked.Asked.TheVariants.{Check as AskedCheck}
use Rattle.tn_file.specs.Laws.{IsDocument}
use Rattle.tn_file.specs.Refusal.{document_view}
use Rattle.tn_file.specs.declared.command.Command.TheVariants.{Check}
use Rattle.tn_run.specs.Answer.{IsAnswerOf}

pub verdict_answers : {E : Type 0} (names : NameLists) (market : Traded FirmValue) (at : ArrangementIs 16)
    (result : Result Said E)
    → IsDocument Check (document_view (record { names = names; content = Market market (AskedCheck at) }))
    → IfOk result (ChecksArrangement (map firm_of market.firms) market.trades (pos 1) at.on (price_at at.prices))
    → IfOk result (IsAnswerOf Check (document_view (record { names = names; content = Market market (AskedCheck at) })))
verdict_answers names market at result document judges =
    IfOk-weaker result _ _
    (λ said verdict. (
      verdict,
      judged_implies (map firm_of market.firms) market.trades at.on (price_at at.prices)
          said document.network verdict,
    )) judges
