-- What is said of a document keeps the rules of answers: it speaks only of firms and trades that have a name, its
-- numbers are short, and its lists of trades ascend.
use Rattle.std.proofs.Common.{◌≡◌, ◌≢◌, ℕ, ◌<◌, ℤ, pos, List, length, map, Result, sym, ap, subst, ◌∙◌, arith}
use Rattle.std.specs.Prelude.{Ok, Err, Some, All, IfOk, IfSome, get_or, slice_get}
use Rattle.std.specs.List.Sorted.{IsStrictlyIncreasing}
use Rattle.std.proofs.lemmas.Option.{slice_get-get_or}
use Rattle.tn_said.specs.declared.fault.FaultKind.TheVariants.{TooLong}
use Rattle.tn_model.specs.declared.ends.Ends.{Ends}
use Rattle.tn_said.specs.declared.said.Fault.{Fault as FaultIs}
use Rattle.tn_said.specs.declared.said.Said.{Said}
use Rattle.tn_said.specs.declared.said.Said.TheVariants.{Firms as FirmsIs, Equilibrium, Better, Impossible, Fault, Accepted, ExchangeFails, Supported, Cycle, Solved, Ranges, Session as SessionIs, Drops, Completes, Blocks}
use Rattle.tn_model.specs.Prices.{price_at}
use Rattle.tn_model.specs.Network.{part}
use Rattle.tn_commands.specs.Check.{ChecksArrangement}
use Rattle.tn_model.proofs.NetworkLemmas.{on_ascends}
use Rattle.tn_answer.specs.Apart.{AreNamedEnds, HasShortNumbers, IsNamedAnswer}
use Rattle.tn_names.specs.Names.{NameLists}
use Rattle.tn_names.specs.Named.{IsNamed}
use Rattle.tn_answer.specs.Kept.{HasAscendingTrades, IsWithinClaims}
use Rattle.tn_answer.proofs.LawLemmas.{within_sayable}
use Rattle.tn_file.specs.declared.command.Command.{Command}
use Rattle.tn_file.specs.declared.document.ReadDocument.{ReadDocument}
use Rattle.tn_file.specs.Document.{DocumentData, ExtraData, arrangement, on_alone, outcome, edits, claim}
use Rattle.tn_file.specs.Readings.{AnyDocument, network, units, any_reading_of, names_in}
use Rattle.tn_file.specs.Reads.{IsRead, any_view, read_for}
use Rattle.tn_file.specs.Laws.{IsAnyDocument, IsDocument, IsExtra}
use Rattle.tn_read_head.specs.declared.refusal.DocRefusal.{DocRefusal}
use Rattle.tn_read_head.specs.Beside.{IsStop}
use Rattle.tn_read_head.specs.Refused.{Reads}
use Rattle.tn_file.proofs.ReadingLemmas.{faults_are_sayable}
use Rattle.tn_run.specs.Answer.{ChecksExtra, SessionExtra, FirmsExtra, JudgesExtra, ReplaysExtra, SupportsExtra, IsAnswerOf, IsAnswerTo, IsAnyAnswerOf, KeepsRules}
use Rattle.tn_price.proofs.CycleLemmas.{nodes_inside}
use Rattle.tn_commands.specs.Session.{TellsStates}
use Rattle.tn_commands.specs.Judge.{JudgesOutcome}
use Rattle.tn_commands.specs.Range.{TellsRanges}
use Rattle.tn_commands.proofs.RangeLemmas.{high_inside, low_inside}
use Rattle.tn_model.specs.declared.contract.Contract.{Contract}
use Rattle.tn_said.specs.declared.session.Edit.{Edit}
use Rattle.tn_model.specs.Choices.{contracts_of}
use Rattle.tn_model.proofs.ContractLemmas.{contract_trades, contracts_are}
use Rattle.tn_commands.specs.Solve.{Solves}
use Rattle.tn_commands.specs.Support.{SupportsSet}
use Rattle.tn_raw_answers.specs.Firms.{TellsHoldings}
use Rattle.tn_price.proofs.JudgeLemmas.{some_item}
use Rattle.tn_raw_answers.specs.Test.{Tests}
use Rattle.tn_run.proofs.UnitLemmas.{unit_kept}
use Rattle.tn_run.proofs.OwnLemmas.{firm_named, bundle_named, bundle_ascends, failure_named, failure_ascends, set_named}
use Rattle.tn_run.proofs.ReplayLemmas.{decided_named, decided_ascends}
use Rattle.tn_file.specs.declared.command.Command.TheVariants.{Check, Firms, Judge, Range, Replay, Session, Solve, Support, Test}

module _ (command : Command) (doc : DocumentData) (is : IsDocument command doc) where
  -- the answer of `check`
  judged_named : (scale : ℤ) (on : ℕ) (prices : ℕ → ℤ) (said : Said) → ChecksArrangement doc.firms doc.ends scale on prices said
      → IsNamedAnswer doc.names said
  judged_named scale on prices (Equilibrium surplus) judges = tt
  judged_named scale on prices (Better f bundle gain) judges =
      let bettered = judges.1 in (
        firm_named command doc is f bettered.firm bettered.is,
        subst (All (IsNamed doc.names.trades)) (sym judges.2)
            (bundle_named command doc is f bettered.firm judges.0 bettered.is),
      )
  judged_named scale on prices (Impossible f) judges = firm_named command doc is f judges.firm judges.is
  judged_named scale on prices said judges = absurd judges

  checked_named : (extra : ExtraData) (said : Said) → ChecksExtra doc extra said → IsNamedAnswer doc.names said
  checked_named (arrangement at) said checks = judged_named (pos 1) at.on (price_at at.prices) said checks.0
  checked_named extra said checks = absurd checks

  -- the answer of `firms`
  told_named : (on : ℕ) (prices : ℕ → ℤ) (said : Said) → TellsHoldings doc.firms doc.ends on prices said
      → IsNamedAnswer doc.names said
  told_named on prices (FirmsIs content told surplus) tells = (
    tells.0.one_each ∙ sym is.firms_named,
    (λ k d below.
        let one_each = tells.0.one_each in
        let firm = some_item doc.firms k (omega (arith, below, one_each)) in
        let holding = tells.0.each k firm.0 (get_or told k d) firm.1 (slice_get-get_or told k d below) in
        record {
          best = subst (All (IsNamed doc.names.trades)) (sym holding.best_is)
              (bundle_named command doc is k firm.0 holding.bundle firm.1);
          has = subst (All (IsNamed doc.names.trades)) (sym holding.has_is)
              (bundle_named command doc is k firm.0 (part doc.ends k firm.0.count on) firm.1);
        }),
  )
  told_named on prices said tells = absurd tells

  firms_named : (extra : ExtraData) (said : Said) → FirmsExtra doc extra said → IsNamedAnswer doc.names said
  firms_named (arrangement at) said tells = told_named at.on (price_at at.prices) said tells
  firms_named extra said tells = absurd tells

  told_ascends : (on : ℕ) (prices : ℕ → ℤ) (said : Said) → TellsHoldings doc.firms doc.ends on prices said
      → HasAscendingTrades said
  told_ascends on prices (FirmsIs content told surplus) tells = λ k d below.
      let one_each = tells.0.one_each in
      let firm = some_item doc.firms k (omega (arith, below, one_each)) in
      let holding = tells.0.each k firm.0 (get_or told k d) firm.1 (slice_get-get_or told k d below) in
      record {
        best = subst IsStrictlyIncreasing (sym holding.best_is)
            (bundle_ascends command doc is k firm.0 holding.bundle firm.1);
        has = subst IsStrictlyIncreasing (sym holding.has_is)
            (bundle_ascends command doc is k firm.0 (part doc.ends k firm.0.count on) firm.1);
      }
  told_ascends on prices said tells = absurd tells

  firms_ascend : (extra : ExtraData) (said : Said) → FirmsExtra doc extra said → HasAscendingTrades said
  firms_ascend (arrangement at) said tells = told_ascends at.on (price_at at.prices) said tells
  firms_ascend extra said tells = absurd tells

  -- the answer of `test`
  tested_named : (said : Said) → Tests doc.firms doc.ends said → IsNamedAnswer doc.names said
  tested_named Accepted tests = tt
  tested_named (ExchangeFails f x y at) tests = failure_named command doc is f x y at tests
  tested_named said tests = absurd tests

  -- their lists of trades ascend
  judged_ascends : (scale : ℤ) (on : ℕ) (prices : ℕ → ℤ) (said : Said) → ChecksArrangement doc.firms doc.ends scale on prices said
      → HasAscendingTrades said
  judged_ascends scale on prices (Equilibrium surplus) judges = tt
  judged_ascends scale on prices (Better f bundle gain) judges =
      let bettered = judges.1 in
      subst IsStrictlyIncreasing (sym judges.2) (bundle_ascends command doc is f bettered.firm judges.0 bettered.is)
  judged_ascends scale on prices (Impossible f) judges = tt
  judged_ascends scale on prices said judges = absurd judges

  checked_ascends : (extra : ExtraData) (said : Said) → ChecksExtra doc extra said → HasAscendingTrades said
  checked_ascends (arrangement at) said checks = judged_ascends (pos 1) at.on (price_at at.prices) said checks.0
  checked_ascends extra said checks = absurd checks

  tested_ascends : (said : Said) → Tests doc.firms doc.ends said → HasAscendingTrades said
  tested_ascends Accepted tests = tt
  tested_ascends (ExchangeFails f x y at) tests = failure_ascends command doc is f x y at tests
  tested_ascends said tests = absurd tests

  -- the ends of the trades
  ends_named : (ends : List Ends) → ends ≡ doc.ends → AreNamedEnds doc.names ends
  ends_named ends same = record {
    one_each = ap length same ∙ sym is.trades_named;
    sellers = λ t d below.
        let trade = get_or ends t d in
        let sold = is.network.sold t trade (subst (λ (all : List Ends). slice_get all t ≡ Some trade) same
        (slice_get-get_or ends t d below)) in
        firm_named command doc is trade.seller sold.0 sold.1;
    buyers = λ t d below.
        let trade = get_or ends t d in
        let bought =
        is.network.bought t trade (subst (λ (all : List Ends). slice_get all t ≡ Some trade) same
        (slice_get-get_or ends t d below)) in
        firm_named command doc is trade.buyer bought.0 bought.1;
  }

  -- the answer of `solve`
  solved_named : (said : Said) → Solves doc.firms doc.ends said → IsNamedAnswer doc.names said
  solved_named (Solved on prices surplus ends) solves = (
    set_named command doc is solves.0.set on solves.0.on_is,
    solves.0.one_each ∙ sym is.trades_named,
    ends_named ends solves.1,
  )
  solved_named said solves = absurd solves

  -- the answer of `range`
  ranged_named : (said : Said) → TellsRanges doc.firms doc.ends said → IsNamedAnswer doc.names said
  ranged_named (Ranges on ranges ends) tells = (
    set_named command doc is tells.0.set on tells.0.on_is,
    tells.0.each.one_each ∙ sym is.trades_named,
    (λ k d below.
        let range = tells.0.each.each k (get_or ranges k d) (slice_get-get_or ranges k d below) in
        let one_each = tells.0.each.one_each in
        let inside : k < length doc.ends = omega (arith, below, one_each) in
        record {
          high = subst (λ n. All (λ node. IfSome node (λ t. t < n)) (get_or ranges k d).high_path) (sym is.trades_named)
              (high_inside doc.firms doc.ends tells.0.set is.network k (get_or ranges k d).high
              (get_or ranges k d).high_path inside range.high_shown);
          low = subst (λ n. All (λ node. IfSome node (λ t. t < n)) (get_or ranges k d).low_path) (sym is.trades_named)
              (low_inside doc.firms doc.ends tells.0.set is.network k (get_or ranges k d).low
              (get_or ranges k d).low_path inside range.low_shown);
        }),
    ends_named ends tells.1,
  )
  ranged_named said tells = absurd tells

  ranged_ascends : (said : Said) → TellsRanges doc.firms doc.ends said → HasAscendingTrades said
  ranged_ascends (Ranges on ranges ends) tells =
      subst IsStrictlyIncreasing (sym tells.0.on_is) (on_ascends tells.0.set (length doc.ends))
  ranged_ascends said tells = absurd tells

  -- the answer of `session`
  states_named : (listed : List Edit) (said : Said) → TellsStates doc.firms doc.ends listed said
      → IsNamedAnswer doc.names said
  states_named listed (SessionIs states) tells = λ k d below.
      let state = (tells.each k (get_or states k d) (slice_get-get_or states k d below)).is in
      let allowed = (tells.each k (get_or states k d) (slice_get-get_or states k d below)).allowed in
      record {
        on = set_named command doc is state.set (get_or states k d).on state.on_is;
        prices = subst (All (λ contract. IsNamed doc.names.trades contract.trade)) (sym state.prices_are)
            (subst (λ n. All (λ contract. contract.trade < n) (contracts_of allowed (price_at state.prices)
            (length doc.ends))) (sym is.trades_named)
            (contracts_are allowed (price_at state.prices) (λ contract. contract.trade < length doc.ends)
            (length doc.ends) (λ t inside there. inside)));
      }
  states_named listed said tells = absurd tells

  edited_named : (extra : ExtraData) (said : Said) → SessionExtra doc extra said → IsNamedAnswer doc.names said
  edited_named (edits listed) said tells = states_named listed said tells
  edited_named extra said tells = absurd tells

  states_ascend : (listed : List Edit) (said : Said) → TellsStates doc.firms doc.ends listed said
      → HasAscendingTrades said
  states_ascend listed (SessionIs states) tells = λ k d below.
      let after = tells.each k (get_or states k d) (slice_get-get_or states k d below) in
      record {
        on = subst IsStrictlyIncreasing (sym after.is.on_is) (on_ascends after.is.set (length doc.ends));
        prices = subst (λ (contracts : List Contract). IsStrictlyIncreasing
            (map (λ (contract : Contract). contract.trade) contracts)) (sym after.is.prices_are)
            (subst IsStrictlyIncreasing
            (sym (contract_trades after.allowed (price_at after.is.prices) (length doc.ends)))
            (on_ascends after.allowed (length doc.ends)));
      }
  states_ascend listed said tells = absurd tells

  edited_ascends : (extra : ExtraData) (said : Said) → SessionExtra doc extra said → HasAscendingTrades said
  edited_ascends (edits listed) said tells = states_ascend listed said tells
  edited_ascends extra said tells = absurd tells

  -- the answer of `support`
  supported_named : (on : ℕ) (said : Said) → SupportsSet doc.firms doc.ends on said → IsNamedAnswer doc.names said
  supported_named on (Impossible f) supports = firm_named command doc is f supports.0.firm supports.0.is
  supported_named on (Supported listed prices ends) supports = (
    set_named command doc is on listed supports.2,
    supports.0.one_each ∙ sym is.trades_named,
    ends_named ends supports.3,
  )
  supported_named on (Cycle nodes cost) supports =
      subst (λ n. All (λ node. IfSome node (λ t. t < n)) nodes) (sym is.trades_named)
      (nodes_inside doc.firms doc.ends on nodes cost supports.0)
  supported_named on said supports = absurd supports

  priced_named : (extra : ExtraData) (said : Said) → SupportsExtra doc extra said → IsNamedAnswer doc.names said
  priced_named (on_alone on) said supports = supported_named on said supports
  priced_named extra said supports = absurd supports

  supported_ascends : (on : ℕ) (said : Said) → SupportsSet doc.firms doc.ends on said → HasAscendingTrades said
  supported_ascends on (Impossible f) supports = tt
  supported_ascends on (Supported listed prices ends) supports =
      subst IsStrictlyIncreasing (sym supports.2) (on_ascends on (length doc.ends))
  supported_ascends on (Cycle nodes cost) supports = tt
  supported_ascends on said supports = absurd supports

  priced_ascends : (extra : ExtraData) (said : Said) → SupportsExtra doc extra said → HasAscendingTrades said
  priced_ascends (on_alone on) said supports = supported_ascends on said supports
  priced_ascends extra said supports = absurd supports

  solved_ascends : (said : Said) → Solves doc.firms doc.ends said → HasAscendingTrades said
  solved_ascends (Solved on prices surplus ends) solves =
      subst IsStrictlyIncreasing (sym solves.0.on_is) (on_ascends solves.0.set (length doc.ends))
  solved_ascends said solves = absurd solves

  -- the answer of `judge`
  outcome_named : (over : ℤ) (contracts : List Contract) (said : Said)
      → JudgesOutcome doc.firms doc.ends over contracts said → IsNamedAnswer doc.names said
  outcome_named over contracts (Drops f keeps gain told) judges =
      let first = judges.1 in (
        firm_named command doc is f first.firm first.is,
        subst (All (IsNamed doc.names.trades)) (sym judges.2) (bundle_named command doc is f first.firm judges.0 first.is),
      )
  outcome_named over contracts (Completes prices told) judges = judges.1.one_each ∙ sym is.trades_named
  outcome_named over contracts (Blocks offers told) judges = λ k d below.
      subst (λ n. (get_or offers k d).trade < n) (sym is.trades_named)
      (judges.chain.blocks.feasible.known k (get_or offers k d) (slice_get-get_or offers k d below))
  outcome_named over contracts said judges = absurd judges

  judged_outcome_named : (extra : ExtraData) (said : Said) → JudgesExtra doc extra said → IsNamedAnswer doc.names said
  judged_outcome_named (outcome signed) said judges = outcome_named signed.over signed.contracts said judges
  judged_outcome_named extra said judges = absurd judges

  outcome_ascends : (over : ℤ) (contracts : List Contract) (said : Said)
      → JudgesOutcome doc.firms doc.ends over contracts said → HasAscendingTrades said
  outcome_ascends over contracts (Drops f keeps gain told) judges =
      let first = judges.1 in
      subst IsStrictlyIncreasing (sym judges.2) (bundle_ascends command doc is f first.firm judges.0 first.is)
  outcome_ascends over contracts (Completes prices told) judges = tt
  outcome_ascends over contracts (Blocks offers told) judges = tt
  outcome_ascends over contracts said judges = absurd judges

  judged_outcome_ascends : (extra : ExtraData) (said : Said) → JudgesExtra doc extra said → HasAscendingTrades said
  judged_outcome_ascends (outcome signed) said judges = outcome_ascends signed.over signed.contracts said judges
  judged_outcome_ascends extra said judges = absurd judges

  -- the answer of `replay`
  replayed_named : (extra : ExtraData) (said : Said) → IsExtra doc.firms doc.ends extra → ReplaysExtra doc extra said
      → IsNamedAnswer doc.names said
  replayed_named (claim claimed) said within decides = decided_named command doc is claimed said within decides
  replayed_named extra said within decides = absurd decides

  replayed_ascends : (extra : ExtraData) (said : Said) → ReplaysExtra doc extra said → HasAscendingTrades said
  replayed_ascends (claim claimed) said decides = decided_ascends command doc is claimed said decides
  replayed_ascends extra said decides = absurd decides

-- the answer of a command on a document
document_ascends : (command : Command) (doc : DocumentData) → IsDocument command doc → (said : Said)
    → IsAnswerOf command doc said → HasAscendingTrades said
document_ascends Check doc is said answer = checked_ascends Check doc is doc.extra said answer
document_ascends Firms doc is said answer = firms_ascend Firms doc is doc.extra said answer
document_ascends Judge doc is said answer = judged_outcome_ascends Judge doc is doc.extra said answer
document_ascends Range doc is said answer = ranged_ascends Range doc is said answer
document_ascends Replay doc is said answer = replayed_ascends Replay doc is doc.extra said answer
document_ascends Session doc is said answer = edited_ascends Session doc is doc.extra said answer
document_ascends Solve doc is said answer = solved_ascends Solve doc is said answer
document_ascends Support doc is said answer = priced_ascends Support doc is doc.extra said answer
document_ascends Test doc is said answer = tested_ascends Test doc is said answer

document_named : (command : Command) (doc : DocumentData) → IsDocument command doc → (said : Said)
    → IsAnswerOf command doc said → IsNamedAnswer doc.names said
document_named Check doc is said answer = checked_named Check doc is doc.extra said answer
document_named Firms doc is said answer = firms_named Firms doc is doc.extra said answer
document_named Judge doc is said answer = judged_outcome_named Judge doc is doc.extra said answer
document_named Range doc is said answer = ranged_named Range doc is said answer
document_named Replay doc is said answer = replayed_named Replay doc is doc.extra said is.extra answer
document_named Session doc is said answer = edited_named Session doc is doc.extra said answer
document_named Solve doc is said answer = solved_named Solve doc is said answer
document_named Support doc is said answer = priced_named Support doc is doc.extra said answer
document_named Test doc is said answer = tested_named Test doc is said answer

-- what is said of a document is no fault
no_fault : (command : Command) (doc : DocumentData) (fault : FaultIs) → IsAnswerOf command doc (Fault fault) → ⊥
no_fault Check doc fault answer = by_extra doc.extra answer
  where
    by_extra : (extra : ExtraData) → ChecksExtra doc extra (Fault fault) → ⊥
    by_extra (arrangement at) checks = checks.0
    by_extra extra checks = checks
no_fault Firms doc fault answer = by_extra doc.extra answer
  where
    by_extra : (extra : ExtraData) → FirmsExtra doc extra (Fault fault) → ⊥
    by_extra (arrangement at) tells = tells
    by_extra extra tells = tells
no_fault Judge doc fault answer = by_extra doc.extra answer
  where
    by_extra : (extra : ExtraData) → JudgesExtra doc extra (Fault fault) → ⊥
    by_extra (outcome signed) judges = judges
    by_extra extra judges = judges
no_fault Support doc fault answer = by_extra doc.extra answer
  where
    by_extra : (extra : ExtraData) → SupportsExtra doc extra (Fault fault) → ⊥
    by_extra (on_alone on) supports = supports
    by_extra extra supports = supports
no_fault Test doc fault answer = answer
no_fault Solve doc fault answer = answer
no_fault Range doc fault answer = answer
no_fault Replay doc fault answer = by_extra doc.extra answer
  where
    by_extra : (extra : ExtraData) → ReplaysExtra doc extra (Fault fault) → ⊥
    by_extra (claim claimed) decides = decides
    by_extra extra decides = decides
no_fault Session doc fault answer = by_extra doc.extra answer
  where
    by_extra : (extra : ExtraData) → SessionExtra doc extra (Fault fault) → ⊥
    by_extra (edits listed) states = states
    by_extra extra states = states

-- and its numbers are short within the limits of claims
document_short : (command : Command) (doc : DocumentData) (said : Said) → IsAnswerOf command doc said
    → IsWithinClaims said → HasShortNumbers said
document_short command doc (Fault fault) answer within = absurd (no_fault command doc fault answer)
document_short command doc said answer within = within_sayable said within

-- it keeps the rules
document_kept : (command : Command) (doc : DocumentData) → IsDocument command doc → (said : Said)
    → IsAnswerOf command doc said → IsWithinClaims said → KeepsRules doc.names said
document_kept command doc is said answer within = record {
  named = document_named command doc is said answer;
  short = document_short command doc said answer within;
  within = within;
  ascending = document_ascends command doc is said answer;
  not_too_long = λ fault same. absurd (no_fault command doc fault (subst (IsAnswerOf command doc) same answer));
  firm_names = is.firm_names;
  trade_names = is.trade_names;
}

-- so does an answer to a document of any version
any_kept : (command : Command) (doc : AnyDocument) → IsAnyDocument command doc → (said : Said)
    → IsAnyAnswerOf command doc said → IsWithinClaims said → KeepsRules (names_in doc) said
any_kept command (network doc) is said answer within = document_kept command doc is said answer within
any_kept command (units doc extra) is said answer within = unit_kept doc extra is command said answer within

module _ {E : Type 0} (command : Command) (doc : ReadDocument) (result : Result (Said × NameLists) E) where
  -- what answers the command that the document was read for
  for_command : read_for doc ≡ command → IfOk result (λ told. IsAnyAnswerOf (read_for doc) (any_view doc) told.0)
      → IfOk result (λ told. IsAnyAnswerOf command (any_view doc) told.0)
  for_command same answer =
      subst (λ (asked : Command). IfOk result (λ told. IsAnyAnswerOf asked (any_view doc) told.0)) same answer

  pub kept_if_ok : IsRead command doc → read_for doc ≡ command
      → IfOk result (λ told. IsAnyAnswerOf (read_for doc) (any_view doc) told.0)
      → IfOk result (λ told. told.1 ≡ names_in (any_view doc)) → IfOk result (λ told. IsWithinClaims told.0)
      → IfOk result (λ told. KeepsRules told.1 told.0)
  kept_if_ok is same answer named within = by_result result (for_command same answer) named within
    where
      by_result : (r : Result (Said × NameLists) E) → IfOk r (λ told. IsAnyAnswerOf command (any_view doc) told.0)
          → IfOk r (λ told. told.1 ≡ names_in (any_view doc)) → IfOk r (λ told. IsWithinClaims told.0)
          → IfOk r (λ told. KeepsRules told.1 told.0)
      by_result (Ok told) answer named within =
          subst (λ (names : NameLists). KeepsRules names told.0) (sym named)
          (any_kept command (any_view doc) is told.0 answer within)
      by_result (Err e) answer named within = tt

  -- it is the answer to the bytes that read so
  pub answered_for : (bytes : List ℕ) → any_reading_of command bytes ≡ Ok (any_view doc) → read_for doc ≡ command
      → IfOk result (λ told. IsAnyAnswerOf (read_for doc) (any_view doc) told.0)
      → IfOk result (λ told. told.1 ≡ names_in (any_view doc))
      → IfOk result (λ told. IsAnswerTo command (any_reading_of command bytes) told.1 told.0)
  answered_for bytes reads same answer named = by_result result (for_command same answer) named
    where
      by_result : (r : Result (Said × NameLists) E) → IfOk r (λ told. IsAnyAnswerOf command (any_view doc) told.0)
          → IfOk r (λ told. told.1 ≡ names_in (any_view doc))
          → IfOk r (λ told. IsAnswerTo command (any_reading_of command bytes) told.1 told.0)
      by_result (Ok told) answer named = rw reads (answer, named)
      by_result (Err e) answer named = tt

-- so does a fault
pub stop_kept : (fault : FaultIs) (names : NameLists) → IsStop (record { fault = fault; names = names })
    → KeepsRules names (Fault fault)
stop_kept fault names stop = record {
  named = (stop.fault.place, stop.fault.triple);
  short = stop.short;
  within = tt;
  ascending = stop.ascending;
  not_too_long = λ other same. let one : fault ≡ other = cc in subst (λ (f : FaultIs). f.kind ≢ TooLong) one stop.read;
  firm_names = stop.firm_names;
  trade_names = stop.trade_names;
}

-- a refusal for a fault is a stop
pub stop_read : (command : Command) (bytes : List ℕ) (refusal : DocRefusal) (fault : FaultIs) (names : NameLists)
    → refusal ≡ DocRefusal.Fault fault names → Reads any_view (Err refusal) (any_reading_of command bytes)
    → IsStop (record { fault = fault; names = names })
stop_read command bytes refusal fault names same reads =
    faults_are_sayable command bytes (record { fault = fault; names = names })
    (subst (λ (e : DocRefusal). Reads any_view (Err e) (any_reading_of command bytes)) same reads)
