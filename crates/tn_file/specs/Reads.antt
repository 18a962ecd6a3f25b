-- What the reader returned of bytes whatever their version, against the reading.
use Rattle.std.specs.Prelude.{◌≡◌}
use Rattle.tn_file.specs.declared.command.Command.{Command}
use Rattle.tn_file.specs.declared.document.ReadDocument.{ReadDocument}
use Rattle.tn_file.specs.declared.document.ReadDocument.TheVariants.{Network, Units}
use Rattle.tn_file.specs.Asked.{unit_asked_by, unit_part_of}
use Rattle.tn_file.specs.Laws.{IsAnyDocument}
use Rattle.tn_file.specs.Readings.{AnyDocument, network, units}
use Rattle.tn_file.specs.Refusal.{IsMadeAsAccepted, command_of, document_view}

-- what a document that was read stands for
abbrev pub any_view : ReadDocument → AnyDocument
any_view (Network doc) = network (document_view doc)
any_view (Units doc asked) = units doc (unit_part_of asked)

-- the command that a document was read for
abbrev pub read_for : ReadDocument → Command
read_for (Network doc) = command_of doc.content
read_for (Units doc asked) = unit_asked_by asked

-- a market was made exactly where each firm has met exchange
abbrev pub IsMade : ReadDocument → Type 0
IsMade (Network doc) = IsMadeAsAccepted doc.content
IsMade (Units doc asked) = Unit {0}

-- the document was read for the command
abbrev pub IsReadFor : Command → ReadDocument → Type 0
IsReadFor command doc = (read_for doc ≡ command) × IsMade doc

-- it is one of its kind
abbrev pub IsRead : Command → ReadDocument → Type 0
IsRead command doc = IsAnyDocument command (any_view doc)
