-- What shows the clauses of `value_of` of `src/read.rt`.
use Rattle.std.proofs.Common.{ap, ◌∙◌, [], sym}
use Rattle.std.proofs.lemmas.Bool.{false≢true}
use Rattle.tn_said.specs.declared.fault.FaultKind.TheVariants.{NotJson}
use Rattle.tn_file.specs.Json.{json_of}
use Rattle.tn_read_shapes.specs.Reading.{wanted}
use Rattle.tn_file.proofs.JsonLemmas.{json_of-text, json_of-none, wanted-fails}
use Rattle.tn_file.proofs.read.value_of.Goals as goal

pub returns-in-Ok : goal.returns-in-Ok
returns-in-Ok c = ap (wanted NotJson []) (json_of-text c.args.bytes.now c.in-Ok.ensures.ok.0 ∙ c.in-Ok.ensures.ok.1)

pub returns-in-Err-2 : goal.returns-in-Err-2
returns-in-Err-2 c =
    wanted-fails NotJson [] c.fault.result (json_of c.args.bytes.now) c.fault.ensures
    (json_of-none c.args.bytes.now (c.in-Err.ensures.err
    (λ memory. false≢true (sym c.if-is_memory.false ∙ c.is_memory.ensures.1 memory))))
