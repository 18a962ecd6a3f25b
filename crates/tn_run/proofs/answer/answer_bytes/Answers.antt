-- What shows the clauses of `answer_bytes` of `src/answer.rt`.
use Rattle.std.proofs.Common.{subst, sym}
use Rattle.tn_file.specs.declared.command.Command.{Command}
use Rattle.tn_file.specs.Reads.{IsRead}
use Rattle.tn_run.proofs.NamedLemmas.{answered_for, kept_if_ok, stop_kept, stop_read}
use Rattle.tn_run.proofs.answer.answer_bytes.Goals as goal

pub answer_read-requires-clause-document : goal.answer_read-requires-clause-document
answer_read-requires-clause-document c =
    subst (λ (asked : Command). IsRead asked c.in-Ok.doc) (sym c.in-Ok.ensures.needed.0)
    c.in-Ok.ensures.network

pub returns-in-Ok-clause-answer : goal.returns-in-Ok-clause-answer
returns-in-Ok-clause-answer c =
    answered_for c.args.command c.in-Ok.doc c.answer_read.result c.args.bytes.now c.in-Ok.ensures.exact
    c.in-Ok.ensures.needed.0 c.answer_read.ensures.answer c.answer_read.ensures.names

pub returns-in-Ok-clause-kept : goal.returns-in-Ok-clause-kept
returns-in-Ok-clause-kept c =
    kept_if_ok c.args.command c.in-Ok.doc c.answer_read.result c.in-Ok.ensures.network c.in-Ok.ensures.needed.0
    c.answer_read.ensures.answer c.answer_read.ensures.names c.answer_read.ensures.within

pub returns-in-Err-Fault-clause-kept : goal.returns-in-Err-Fault-clause-kept
returns-in-Err-Fault-clause-kept c =
    rw c.in-Err-Fault.field-0-is
    (stop_kept c.in-Err-Fault.fault c.in-Err-Fault.names
    (stop_read c.args.command c.args.bytes.now c.in-Err-Fault.field-0 c.in-Err-Fault.fault c.in-Err-Fault.names
    c.in-Err-Fault.field-0-is c.in-Err-Fault.ensures.exact))
