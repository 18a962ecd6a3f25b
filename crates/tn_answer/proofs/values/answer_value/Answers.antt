-- What shows the clauses of `answer_value` of `src/values.rt`.
use Rattle.std.proofs.Common.{◌≡◌, sym, subst, IfOk, Result}
use Rattle.serde_json.specs.Data.{Data}
use Rattle.tn_names.specs.Names.{NameLists}
use Rattle.tn_said.specs.declared.said.Said.{Said}
use Rattle.tn_answer.specs.AnswerText.{answer_data}
use Rattle.tn_answer.specs.Sayable.{IsSayable}
use Rattle.tn_answer.proofs.values.answer_value.Goals as goal

-- what was made for an answer is made for one that is equal to it
made : {V E : Type 0} (v : V → Data) (names : NameLists) (said other : Said) (r : Result V E) → said ≡ other
    → IfOk r (λ value. v value ≡ answer_data names other) → IfOk r (λ value. v value ≡ answer_data names said)
made v names said other r is there = subst (λ s. IfOk r (λ value. v value ≡ answer_data names s)) (sym is) there

pub supported_value-requires : goal.supported_value-requires
supported_value-requires c = subst IsSayable c.in-Supported.is c.requires

pub ranged_value-requires : goal.ranged_value-requires
ranged_value-requires c = subst IsSayable c.in-Ranges.is c.requires

pub session_value-requires : goal.session_value-requires
session_value-requires c = subst IsSayable c.in-Session.is c.requires

pub session_by_counts_value-requires : goal.session_by_counts_value-requires
session_by_counts_value-requires c = subst IsSayable c.in-SessionByCounts.is c.requires

pub invalid_value-requires : goal.invalid_value-requires
invalid_value-requires c = subst IsSayable c.in-Invalid.is c.requires

pub returns-in-Usage : goal.returns-in-Usage
returns-in-Usage c = made _ c.args.names.now _ _ _ c.in-Usage.is c.plain_value.ensures

pub returns-in-ReadFault : goal.returns-in-ReadFault
returns-in-ReadFault c = made _ c.args.names.now _ _ _ c.in-ReadFault.is c.plain_value-in-ReadFault.ensures

pub returns-in-NoMemory : goal.returns-in-NoMemory
returns-in-NoMemory c = made _ c.args.names.now _ _ _ c.in-NoMemory.is c.plain_value-in-NoMemory.ensures

pub returns-in-Fault : goal.returns-in-Fault
returns-in-Fault c = made _ c.args.names.now _ _ _ c.in-Fault.is c.fault_value.ensures

pub returns-in-Impossible : goal.returns-in-Impossible
returns-in-Impossible c = made _ c.args.names.now _ _ _ c.in-Impossible.is c.impossible_value.ensures

pub returns-in-Accepted : goal.returns-in-Accepted
returns-in-Accepted c = made _ c.args.names.now _ _ _ c.in-Accepted.is c.plain_value-in-Accepted.ensures

pub returns-in-ExchangeFails : goal.returns-in-ExchangeFails
returns-in-ExchangeFails c = made _ c.args.names.now _ _ _ c.in-ExchangeFails.is c.exchange_fails_value.ensures

pub returns-in-Supported : goal.returns-in-Supported
returns-in-Supported c = made _ c.args.names.now _ _ _ c.in-Supported.is c.supported_value.ensures

pub returns-in-Ranges : goal.returns-in-Ranges
returns-in-Ranges c = made _ c.args.names.now _ _ _ c.in-Ranges.is c.ranged_value.ensures

pub returns-in-Session : goal.returns-in-Session
returns-in-Session c = made _ c.args.names.now _ _ _ c.in-Session.is c.session_value.ensures

pub returns-in-SessionByCounts : goal.returns-in-SessionByCounts
returns-in-SessionByCounts c = made _ c.args.names.now _ _ _ c.in-SessionByCounts.is c.session_by_counts_value.ensures

pub returns-in-Valid : goal.returns-in-Valid
returns-in-Valid c = made _ c.args.names.now _ _ _ c.in-Valid.is c.plain_value-in-Valid.ensures

pub returns-in-Invalid : goal.returns-in-Invalid
returns-in-Invalid c = made _ c.args.names.now _ _ _ c.in-Invalid.is c.invalid_value.ensures

pub returns-in-Cases : goal.returns-in-Cases
returns-in-Cases c = made _ c.args.names.now _ _ _ c.in-Cases.is c.cases_value.ensures

pub returns-in-Firms : goal.returns-in-Firms
returns-in-Firms c = made _ c.args.names.now _ _ _ c.in-Firms.is c.firms_value.ensures
