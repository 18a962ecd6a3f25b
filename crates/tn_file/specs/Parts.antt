-- What stands in a document behind its head, as it was read.
use Rattle.std.specs.Prelude.{◌≡◌, List, [], map, All, true, false, Ok}
use Rattle.serde_json.specs.Data.{Items}
use Rattle.tn_base.specs.Firm.{Firm}
use Rattle.tn_firm.specs.Firms.{firm_of}
use Rattle.tn_firm.specs.Raw.{CanBeTested, raw_firm_of}
use Rattle.tn_read_shapes.specs.Reading.{each}
use Rattle.tn_read_references.specs.Ordered.{Listed}
use Rattle.tn_read_firms.specs.Firms.{one_firm}
use Rattle.tn_file.specs.declared.command.Command.{Command}
use Rattle.tn_file.specs.declared.network.Parts.{Parts}
use Rattle.tn_file.specs.declared.network.Parts.TheVariants.{Market, Raw}
use Rattle.tn_file.specs.Asked.{asked_by, part_of, raw_asked_by, raw_part_of}
use Rattle.tn_file.specs.Document.{ExtraData, is_accepted}

-- the firms, and the part that is spoken of
abbrev pub parts_view : Parts → List Firm × ExtraData
parts_view (Market made asked) = (map firm_of made.items, part_of asked)
parts_view (Raw made asked) = (map raw_firm_of made.items, raw_part_of asked)

-- they were read for the command, as a market exactly where each firm has met exchange; and other firms can be tested
abbrev pub AreFor : Command → Parts → Type 0
AreFor command (Market made asked) = (asked_by asked ≡ command) × (is_accepted command (part_of asked) ≡ true)
AreFor command (Raw made asked) = (raw_asked_by asked ≡ command) × (is_accepted command (raw_part_of asked) ≡ false)
    × All CanBeTested made.items

-- those of a market are the firms of the list, each of which meets exchange
abbrev pub AreTested : Listed → Items → Parts → Type 0
AreTested listed items (Market made asked) = each (one_firm true listed) [] items ≡ Ok (map firm_of made.items)
AreTested listed items (Raw made asked) = Unit {0}
