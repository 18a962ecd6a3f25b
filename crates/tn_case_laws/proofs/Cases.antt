-- Each case of the book has one answer.
use Rattle.std.proofs.Common.{◌≡◌, [], ◌∷◌, Some, None, refl}
use Rattle.std.specs.Prelude.{pos, negsuc}
use Rattle.std.specs.Fmt.{digits}
use Rattle.json.specs.Print.{escape_byte}
use Rattle.tn_base.specs.Sets.{has, set_of, toggle}
use Rattle.tn_answer.specs.AnswerText.{answer_line}
use Rattle.tn_cases.specs.Book.{cases_of_the_book}
use Rattle.tn_commands.proofs.CheckLemmas.{completed_lasts, implied_by}
use Rattle.tn_commands.specs.Implied.{IsLastingOutcome}
use Rattle.tn_exchange.specs.Rows.{worth_in}
use Rattle.tn_file.specs.Laws.{IsDocument}
use Rattle.tn_file.proofs.DocumentLeads.{documents_are_networks}
use Rattle.tn_said.specs.declared.said.Said.TheVariants.{Equilibrium, Better, Impossible, Accepted, Cycle, Solved, Drops, Completes, Invalid}
use Rattle.tn_said.specs.declared.reason.Reason.TheVariants.{Choice}
use Rattle.tn_model.specs.Prices.{price_at}
use Rattle.tn_market.specs.Equilibrium.{surplus_of}
use Rattle.tn_file.specs.declared.command.Command.TheVariants.{Check, Judge, Replay, Solve, Support, Test}
use Rattle.tn_case_laws.specs.Laws.{HasOneAnswer, EachCaseHasOneAnswer}
use Rattle.tn_case_laws.proofs.Answered.{one_answer, each_in}
use Rattle.tn_case_laws.proofs.Checked.{only_equilibrium, is_better, only_better}
use Rattle.tn_case_laws.proofs.Deal.{asks_3, asks_5, deal_firms, deal_trades, equilibrium_at_4}
use Rattle.tn_case_laws.proofs.Judged.{only_completes, rational_5, completed_5, only_5, at_9, rational_9, completed_9, only_9, is_drop, only_drop}
use Rattle.tn_case_laws.proofs.Readings
use Rattle.tn_case_laws.proofs.Replayed.{is_left, only_left}
use Rattle.tn_case_laws.proofs.Solved.{is_solved, only_solved}
use Rattle.tn_case_laws.proofs.Supported.{is_unable, only_impossible, is_cyclic, only_cyclic}
use Rattle.tn_case_laws.proofs.Tested.{is_accepted, only_accepted, dealers_meet, dealer_firms, dealer_trades, FailsFirst, failure, is_failure, only_failure, both_fail, both_firms, both_trades, both_table, both_triple, tied_fail, tied_firms, tied_trades, tied_table, tied_triple}
use Rattle.tn_case_laws.proofs.Trees

surplus_2 : surplus_of (deal_firms asks_3) deal_trades 1 ≡ Some (pos 2)
unfolding has set_of toggle worth_in
surplus_2 = refl

-- an equilibrium
case_1 : HasOneAnswer (Trees.numbered 1)
unfolding answer_line escape_byte digits
case_1 = one_answer (Trees.numbered 1) Check (Readings.deal_document asks_3 Readings.extra_1) (Equilibrium (pos 2)) refl
    Readings.reading_1 (
      (equilibrium_at_4, surplus_2),
      λ surplus e. implied_by (deal_firms asks_3) deal_trades 1 (price_at (pos 4 ∷ []))
          (documents_are_networks Check Trees.bytes_1 _ Readings.reading_1).network equilibrium_at_4,
    )
    (λ other answers. only_equilibrium (deal_firms asks_3) deal_trades 1 (price_at (pos 4 ∷ [])) (pos 2)
    equilibrium_at_4 surplus_2 other answers.0)
    refl refl

-- a better bundle
case_2 : HasOneAnswer (Trees.numbered 2)
unfolding answer_line escape_byte digits
case_2 = one_answer (Trees.numbered 2) Check (Readings.deal_document asks_3 Readings.extra_2) (Better 1 [] (pos 1)) refl
    Readings.reading_2
    (is_better, λ surplus e. absurd (cc e))
    (λ other answers. only_better other answers.0)
    refl refl

-- no trades
case_3 : HasOneAnswer (Trees.numbered 3)
unfolding answer_line escape_byte digits
case_3 = one_answer (Trees.numbered 3) Solve Readings.idle_document (Solved [] [] (pos 7) []) refl Readings.reading_3
    (is_solved (documents_are_networks Solve Trees.bytes_3 _ Readings.reading_3).network)
    only_solved
    refl refl

-- complements
case_4 : HasOneAnswer (Trees.numbered 4)
unfolding answer_line escape_byte digits has
case_4 = one_answer (Trees.numbered 4) Test Readings.document_4 (failure both_trades 1 2 both_triple) refl
    Readings.reading_4
    (is_failure both_firms both_trades 1 both_table both_triple fails)
    (only_failure both_firms both_trades 1 both_table both_triple fails)
    refl refl
  where
    fails : FailsFirst both_firms 1 both_table both_triple
    fails = both_fail ((documents_are_networks Test Trees.bytes_4 Readings.document_4 Readings.reading_4).own_bundles 0 _
        refl)

-- a dealer
case_5 : HasOneAnswer (Trees.numbered 5)
unfolding answer_line escape_byte digits
case_5 = one_answer (Trees.numbered 5) Test Readings.document_5 Accepted refl Readings.reading_5
    (is_accepted dealer_firms dealer_trades dealers_meet)
    (only_accepted dealer_firms dealer_trades dealers_meet)
    refl refl

-- tied pairs
case_6 : HasOneAnswer (Trees.numbered 6)
unfolding answer_line escape_byte digits has
case_6 = one_answer (Trees.numbered 6) Test Readings.document_6 (failure tied_trades 1 4 tied_triple) refl
    Readings.reading_6
    (is_failure tied_firms tied_trades 1 tied_table tied_triple fails)
    (only_failure tied_firms tied_trades 1 tied_table tied_triple fails)
    refl refl
  where
    fails : FailsFirst tied_firms 1 tied_table tied_triple
    fails = tied_fail ((documents_are_networks Test Trees.bytes_6 Readings.document_6 Readings.reading_6).own_bundles 0 _
        refl)

-- an impossible bundle
case_7 : HasOneAnswer (Trees.numbered 7)
unfolding answer_line escape_byte digits
case_7 = one_answer (Trees.numbered 7) Support (Readings.deal_document None Readings.extra_7) (Impossible 0) refl
    Readings.reading_7 is_unable only_impossible refl refl

-- prices that complete no contracts
case_8 : HasOneAnswer (Trees.numbered 8)
unfolding answer_line escape_byte digits
case_8 = one_answer (Trees.numbered 8) Judge (Readings.deal_document asks_5 Readings.extra_8)
    (Completes (pos 5 ∷ []) (pos 1)) refl Readings.reading_8
    (rational_5, completed_5, refl, lasts (documents_are_networks Judge Trees.bytes_8 _ Readings.reading_8))
    (only_completes (deal_firms asks_5) deal_trades (pos 1) [] (pos 5 ∷ []) rational_5 completed_5 only_5)
    refl refl
  where
    lasts : IsDocument Judge (Readings.deal_document asks_5 Readings.extra_8)
        → IsLastingOutcome (deal_firms asks_5) deal_trades (pos 1) []
    lasts is = completed_lasts (deal_firms asks_5) deal_trades (pos 1) [] (price_at (pos 5 ∷ [])) is.network is.extra
        completed_5.completes

-- a contract that its seller would drop
case_9 : HasOneAnswer (Trees.numbered 9)
unfolding answer_line escape_byte digits
case_9 = one_answer (Trees.numbered 9) Judge (Readings.deal_document asks_3 Readings.extra_9)
    (Drops 0 [] (Some (pos 1)) (pos 1)) refl Readings.reading_9 is_drop only_drop refl refl

-- a price between whole numbers
case_10 : HasOneAnswer (Trees.numbered 10)
unfolding answer_line escape_byte digits
case_10 = one_answer (Trees.numbered 10) Judge (Readings.deal_document asks_3 Readings.extra_10)
    (Completes (pos 9 ∷ []) (pos 2)) refl Readings.reading_10
    (rational_9, completed_9, refl, lasts (documents_are_networks Judge Trees.bytes_10 _ Readings.reading_10))
    (only_completes (deal_firms asks_3) deal_trades (pos 2) at_9 (pos 9 ∷ []) rational_9 completed_9 only_9)
    refl refl
  where
    lasts : IsDocument Judge (Readings.deal_document asks_3 Readings.extra_10)
        → IsLastingOutcome (deal_firms asks_3) deal_trades (pos 2) at_9
    lasts is = completed_lasts (deal_firms asks_3) deal_trades (pos 2) at_9 (price_at (pos 9 ∷ [])) is.network is.extra
        completed_9.completes

-- a negative cycle
case_11 : HasOneAnswer (Trees.numbered 11)
unfolding answer_line escape_byte digits
case_11 = one_answer (Trees.numbered 11) Support (Readings.deal_document asks_3 Readings.extra_11)
    (Cycle (None ∷ Some 0 ∷ []) (negsuc 1)) refl Readings.reading_11 is_cyclic only_cyclic refl refl

-- a claim that doesn't hold
case_12 : HasOneAnswer (Trees.numbered 12)
unfolding answer_line escape_byte digits
case_12 = one_answer (Trees.numbered 12) Replay (Readings.deal_document asks_3 Readings.extra_12) (Invalid (Choice 0 0))
    refl Readings.reading_12 is_left only_left refl refl

pub each_case_has_one_answer : EachCaseHasOneAnswer
each_case_has_one_answer = each_in HasOneAnswer cases_of_the_book (
  case_1,
  (case_2, (case_3, (case_4, (case_5, (case_6, (case_7, (case_8, (case_9, (case_10, (case_11, (case_12, tt))))))))))),
)
