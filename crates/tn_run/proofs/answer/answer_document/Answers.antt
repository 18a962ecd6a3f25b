-- What shows the clauses of `answer_document` of `src/answer.rt`.
use Rattle.std.proofs.Common.{ap, rules, subst, sym, ◌∙◌}
use Rattle.std.specs.Prelude.{IfOk}
use Rattle.tn_file.specs.declared.asked.Asked.{Asked}
use Rattle.tn_file.specs.declared.asked.Asked.TheVariants.{Judge, Range, Replay, Session, Solve, Support}
use Rattle.tn_file.specs.declared.asked.RawAsked.{RawAsked}
use Rattle.tn_file.specs.declared.asked.RawAsked.TheVariants.{Replay as RawReplay, Test}
use Rattle.tn_file.specs.declared.document.Content.{Content}
use Rattle.tn_file.specs.declared.document.Content.TheVariants.{Market, Raw}
use Rattle.tn_file.specs.Laws.{IsDocument}
use Rattle.tn_file.specs.Refusal.{command_of, document_view}
use Rattle.tn_run.specs.Answer.{IsAnswerOf}
use Rattle.tn_run.proofs.FitLemmas.{market_fits, raw_fits}
use Rattle.tn_run.proofs.PartLemmas.{on_content}
use Rattle.tn_run.proofs.VerdictLemmas.{verdict_answers}
use Rattle.tn_run.proofs.answer.answer_document.Goals as goal

pub answer_range-requires-clause-wide : goal.answer_range-requires-clause-wide
answer_range-requires-clause-wide c =
    (market_fits _ c.args.doc.now c.requires.document c.in-Market.market c.in-Market.asked c.in-Market.is).few_trades

pub answer_range-requires-clause-worths : goal.answer_range-requires-clause-worths
answer_range-requires-clause-worths c =
    (market_fits _ c.args.doc.now c.requires.document c.in-Market.market c.in-Market.asked c.in-Market.is).worths

pub answer_solve-requires-clause-wide : goal.answer_solve-requires-clause-wide
answer_solve-requires-clause-wide c =
    (market_fits _ c.args.doc.now c.requires.document c.in-Market.market c.in-Market.asked c.in-Market.is).few_trades

pub answer_solve-requires-clause-worths : goal.answer_solve-requires-clause-worths
answer_solve-requires-clause-worths c =
    (market_fits _ c.args.doc.now c.requires.document c.in-Market.market c.in-Market.asked c.in-Market.is).worths

pub answer_check-requires-clause-wide : goal.answer_check-requires-clause-wide
answer_check-requires-clause-wide c =
    (market_fits _ c.args.doc.now c.requires.document c.in-Market.market c.in-Market.asked c.in-Market.is).few_trades

pub answer_support-requires-clause-wide : goal.answer_support-requires-clause-wide
answer_support-requires-clause-wide c =
    (market_fits _ c.args.doc.now c.requires.document c.in-Market.market c.in-Market.asked c.in-Market.is).few_trades

pub answer_support-requires-clause-worths : goal.answer_support-requires-clause-worths
answer_support-requires-clause-worths c =
    (market_fits _ c.args.doc.now c.requires.document c.in-Market.market c.in-Market.asked c.in-Market.is).worths

pub answer_judge-requires-clause-few_firms : goal.answer_judge-requires-clause-few_firms
answer_judge-requires-clause-few_firms c =
    (market_fits _ c.args.doc.now c.requires.document c.in-Market.market c.in-Market.asked c.in-Market.is).few_firms

pub answer_judge-requires-clause-wide : goal.answer_judge-requires-clause-wide
answer_judge-requires-clause-wide c =
    (market_fits _ c.args.doc.now c.requires.document c.in-Market.market c.in-Market.asked c.in-Market.is).few_trades

pub answer_judge-requires-clause-worths : goal.answer_judge-requires-clause-worths
answer_judge-requires-clause-worths c =
    (market_fits _ c.args.doc.now c.requires.document c.in-Market.market c.in-Market.asked c.in-Market.is).worths

pub answer_session-requires-clause-wide : goal.answer_session-requires-clause-wide
answer_session-requires-clause-wide c =
    (market_fits _ c.args.doc.now c.requires.document c.in-Market.market c.in-Market.asked c.in-Market.is).few_trades

pub answer_session-requires-clause-worths : goal.answer_session-requires-clause-worths
answer_session-requires-clause-worths c =
    (market_fits _ c.args.doc.now c.requires.document c.in-Market.market c.in-Market.asked c.in-Market.is).worths

pub answer_replay-requires-clause-few_firms : goal.answer_replay-requires-clause-few_firms
answer_replay-requires-clause-few_firms c =
    (market_fits _ c.args.doc.now c.requires.document c.in-Market.market c.in-Market.asked c.in-Market.is).few_firms

pub answer_replay-requires-clause-wide : goal.answer_replay-requires-clause-wide
answer_replay-requires-clause-wide c =
    (market_fits _ c.args.doc.now c.requires.document c.in-Market.market c.in-Market.asked c.in-Market.is).few_trades

pub answer_replay-requires-clause-worths : goal.answer_replay-requires-clause-worths
answer_replay-requires-clause-worths c =
    (market_fits _ c.args.doc.now c.requires.document c.in-Market.market c.in-Market.asked c.in-Market.is).worths

pub answer_firms-requires : goal.answer_firms-requires
answer_firms-requires c =
    let fits = raw_fits _ c.args.doc.now c.requires.document c.in-Raw.net c.in-Raw.asked c.in-Raw.is in
    let few_firms = fits.few_firms in
    let few_trades = fits.few_trades in
    search rules

pub answer_test-requires-clause-few_firms : goal.answer_test-requires-clause-few_firms
answer_test-requires-clause-few_firms c =
    (raw_fits _ c.args.doc.now c.requires.document c.in-Raw.net c.in-Raw.asked c.in-Raw.is).few_firms

pub answer_test-requires-clause-few_trades : goal.answer_test-requires-clause-few_trades
answer_test-requires-clause-few_trades c =
    (raw_fits _ c.args.doc.now c.requires.document c.in-Raw.net c.in-Raw.asked c.in-Raw.is).few_trades

pub answer_replay_raw-requires-clause-few_firms : goal.answer_replay_raw-requires-clause-few_firms
answer_replay_raw-requires-clause-few_firms c =
    (raw_fits _ c.args.doc.now c.requires.document c.in-Raw.net c.in-Raw.asked c.in-Raw.is).few_firms

pub answer_replay_raw-requires-clause-few_trades : goal.answer_replay_raw-requires-clause-few_trades
answer_replay_raw-requires-clause-few_trades c =
    (raw_fits _ c.args.doc.now c.requires.document c.in-Raw.net c.in-Raw.asked c.in-Raw.is).few_trades

pub returns-in-Check-clause-answer : goal.returns-in-Check-clause-answer
returns-in-Check-clause-answer c =
    let names = c.args.doc.now.names in
    let market = c.in-Market.market in
    let at = c.in-Check.at in
    let content = c.in-Market.is ∙ ap (λ (asked : Asked). Market market asked) c.in-Check.is in
    subst (λ (held : Content). IsDocument (command_of held) (document_view (record { names = names; content = held }))
    → IfOk c.answer_check.result (IsAnswerOf (command_of held) (document_view (record { names = names; content = held }))))
    (sym content)
    (λ document. verdict_answers names market at c.answer_check.result document c.answer_check.ensures.answer)
    c.requires.document

pub returns-in-Judge-clause-answer : goal.returns-in-Judge-clause-answer
returns-in-Judge-clause-answer c =
    on_content c.args.doc.now (Market c.in-Market.market (Judge c.in-Judge.outcome)) c.answer_judge.result
    (c.in-Market.is ∙ ap (λ (asked : Asked). Market c.in-Market.market asked) c.in-Judge.is)
    c.answer_judge.ensures.answer

pub returns-in-Range-clause-answer : goal.returns-in-Range-clause-answer
returns-in-Range-clause-answer c =
    on_content c.args.doc.now (Market c.in-Market.market Range) c.answer_range.result
    (c.in-Market.is ∙ ap (λ (asked : Asked). Market c.in-Market.market asked) c.in-Range.is)
    c.answer_range.ensures.answer

pub returns-in-Replay-clause-answer : goal.returns-in-Replay-clause-answer
returns-in-Replay-clause-answer c =
    on_content c.args.doc.now (Market c.in-Market.market (Replay c.in-Replay.claim)) c.answer_replay.result
    (c.in-Market.is ∙ ap (λ (asked : Asked). Market c.in-Market.market asked) c.in-Replay.is)
    c.answer_replay.ensures.answer

pub returns-in-Session-clause-answer : goal.returns-in-Session-clause-answer
returns-in-Session-clause-answer c =
    on_content c.args.doc.now (Market c.in-Market.market (Session c.in-Session.edits)) c.answer_session.result
    (c.in-Market.is ∙ ap (λ (asked : Asked). Market c.in-Market.market asked) c.in-Session.is)
    c.answer_session.ensures.answer

pub returns-in-Solve-clause-answer : goal.returns-in-Solve-clause-answer
returns-in-Solve-clause-answer c =
    on_content c.args.doc.now (Market c.in-Market.market Solve) c.answer_solve.result
    (c.in-Market.is ∙ ap (λ (asked : Asked). Market c.in-Market.market asked) c.in-Solve.is)
    c.answer_solve.ensures.answer

pub returns-in-Support-clause-answer : goal.returns-in-Support-clause-answer
returns-in-Support-clause-answer c =
    on_content c.args.doc.now (Market c.in-Market.market (Support c.in-Support.on)) c.answer_support.result
    (c.in-Market.is ∙ ap (λ (asked : Asked). Market c.in-Market.market asked) c.in-Support.is)
    c.answer_support.ensures.answer

pub returns-in-Replay-asked-clause-answer : goal.returns-in-Replay-asked-clause-answer
returns-in-Replay-asked-clause-answer c =
    on_content c.args.doc.now (Raw c.in-Raw.net (RawReplay c.in-Replay-asked.claim)) c.answer_replay_raw.result
    (c.in-Raw.is ∙ ap (λ (asked : RawAsked). Raw c.in-Raw.net asked) c.in-Replay-asked.is)
    c.answer_replay_raw.ensures.answer

pub returns-in-Test-clause-answer : goal.returns-in-Test-clause-answer
returns-in-Test-clause-answer c =
    on_content c.args.doc.now (Raw c.in-Raw.net Test) c.answer_test.result
    (c.in-Raw.is ∙ ap (λ (asked : RawAsked). Raw c.in-Raw.net asked) c.in-Test.is)
    c.answer_test.ensures.answer
