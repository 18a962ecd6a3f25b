-- What is said of a document whose trades have units keeps the rules of answers.
use Rattle.std.proofs.Common.{length, sym, subst}
use Rattle.tn_said.specs.declared.said.Fault.{Fault as FaultIs}
use Rattle.tn_said.specs.declared.said.Said.{Said}
use Rattle.tn_said.specs.declared.said.Said.TheVariants.{Fault}
use Rattle.tn_answer.specs.Apart.{HasShortNumbers, IsNamedAnswer}
use Rattle.tn_answer.specs.Kept.{HasAscendingTrades, IsWithinClaims}
use Rattle.tn_answer.proofs.LawLemmas.{within_sayable}
use Rattle.tn_file.specs.declared.command.Command.{Command}
use Rattle.tn_file.specs.declared.command.Command.TheVariants.{Check, Firms, Range, Session, Solve, Support, Test}
use Rattle.tn_file.specs.Laws.{IsUnitExtra, IsUnitsWith}
use Rattle.tn_file.specs.Readings.{UnitExtra, arranged, counts_on, unit_edits}
use Rattle.tn_read_units.specs.Firms.{UnitDocument}
use Rattle.tn_run.specs.Answer.{ChecksUnits, HoldsUnits, IsUnitAnswerOf, KeepsRules, SessionsUnits, SupportsUnits}
use Rattle.tn_unit_answers.proofs.KeptLemmas.{ascends_range, ascends_solve, ascends_support, named_range, named_solve, named_support}
use Rattle.tn_unit_answers.proofs.CheckLemmas.{check_ascends, check_named}
use Rattle.tn_unit_answers.proofs.FirmLemmas.{firms_ascend, firms_named}
use Rattle.tn_unit_answers.proofs.StateLemmas.{session_ascends, session_named}

-- no answer to one is a fault
no_fault : (command : Command) (doc : UnitDocument) (extra : UnitExtra) (fault : FaultIs)
    → IsUnitAnswerOf command doc extra (Fault fault) → ⊥
no_fault Check doc (arranged at) fault answer = answer
no_fault Check doc extra fault answer = answer
no_fault Firms doc (arranged at) fault answer = answer
no_fault Firms doc extra fault answer = answer
no_fault Range doc extra fault answer = answer
no_fault Session doc (unit_edits listed) fault answer = answer
no_fault Session doc extra fault answer = answer
no_fault Solve doc extra fault answer = answer
no_fault Support doc (counts_on counts) fault answer = answer
no_fault Support doc extra fault answer = answer
no_fault Test doc extra fault answer = cc
no_fault command doc extra fault answer = answer

module _ (doc : UnitDocument) (extra : UnitExtra) (is : IsUnitsWith doc extra) where
  named : (command : Command) (said : Said) → IsUnitAnswerOf command doc extra said → IsNamedAnswer doc.head.names said
  named Check said answer = by_extra extra answer
    where
      by_extra : (extra : UnitExtra) → ChecksUnits doc extra said → IsNamedAnswer doc.head.names said
      by_extra (arranged at) checks = check_named doc at.counts at.prices said is.network checks
      by_extra extra checks = absurd checks
  named Firms said answer = by_extra extra answer
    where
      by_extra : (extra : UnitExtra) → HoldsUnits doc extra said → IsNamedAnswer doc.head.names said
      by_extra (arranged at) holds = firms_named doc at.counts at.prices said is.network holds
      by_extra extra holds = absurd holds
  named Range said answer = named_range doc is.network said answer
  named Session said answer = by_extra extra answer
    where
      by_extra : (extra : UnitExtra) → SessionsUnits doc extra said → IsNamedAnswer doc.head.names said
      by_extra (unit_edits listed) tells = session_named doc is.network listed said tells
      by_extra extra tells = absurd tells
  named Solve said answer = named_solve doc is.network said answer
  named Support said answer = by_extra extra is.beside answer
    where
      by_extra : (extra : UnitExtra) → IsUnitExtra (length doc.head.names.firms) doc.head.trades extra
          → SupportsUnits doc extra said → IsNamedAnswer doc.head.names said
      by_extra (counts_on counts) are supports = named_support doc is.network counts are.counted said supports
      by_extra extra are supports = absurd supports
  named Test said answer = subst (IsNamedAnswer doc.head.names) (sym answer) tt
  named command said answer = absurd answer

  ascends : (command : Command) (said : Said) → IsUnitAnswerOf command doc extra said → HasAscendingTrades said
  ascends Check said answer = by_extra extra answer
    where
      by_extra : (extra : UnitExtra) → ChecksUnits doc extra said → HasAscendingTrades said
      by_extra (arranged at) checks = check_ascends doc at.counts at.prices said is.network checks
      by_extra extra checks = absurd checks
  ascends Firms said answer = by_extra extra answer
    where
      by_extra : (extra : UnitExtra) → HoldsUnits doc extra said → HasAscendingTrades said
      by_extra (arranged at) holds = firms_ascend doc at.counts at.prices said is.network holds
      by_extra extra holds = absurd holds
  ascends Range said answer = ascends_range doc said answer
  ascends Session said answer = by_extra extra answer
    where
      by_extra : (extra : UnitExtra) → SessionsUnits doc extra said → HasAscendingTrades said
      by_extra (unit_edits listed) tells = session_ascends doc is.network listed said tells
      by_extra extra tells = absurd tells
  ascends Solve said answer = ascends_solve doc said answer
  ascends Support said answer = by_extra extra answer
    where
      by_extra : (extra : UnitExtra) → SupportsUnits doc extra said → HasAscendingTrades said
      by_extra (counts_on counts) supports = ascends_support doc counts said supports
      by_extra extra supports = absurd supports
  ascends Test said answer = subst HasAscendingTrades (sym answer) tt
  ascends command said answer = absurd answer

  short : (command : Command) (said : Said) → IsUnitAnswerOf command doc extra said → IsWithinClaims said
      → HasShortNumbers said
  short command (Fault fault) answer within = absurd (no_fault command doc extra fault answer)
  short command said answer within = within_sayable said within

  pub unit_kept : (command : Command) (said : Said) → IsUnitAnswerOf command doc extra said → IsWithinClaims said
      → KeepsRules doc.head.names said
  unit_kept command said answer within = record {
    named = named command said answer;
    short = short command said answer within;
    within = within;
    ascending = ascends command said answer;
    not_too_long = λ fault same. absurd (no_fault command doc extra fault
        (subst (IsUnitAnswerOf command doc extra) same answer));
    firm_names = is.named.firm_names;
    trade_names = is.named.trade_names;
  }
