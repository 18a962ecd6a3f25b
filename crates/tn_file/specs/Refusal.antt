-- What the reader returned, against the reading.
use Rattle.std.specs.Prelude.{◌≡◌, map, Bool, true, false}
use Rattle.tn_firm.specs.Firms.{firm_of}
use Rattle.tn_firm.specs.Raw.{raw_firm_of}
use Rattle.tn_file.specs.declared.command.Command.{Command}
use Rattle.tn_file.specs.declared.document.Document.{Document}
use Rattle.tn_file.specs.declared.document.Content.{Content}
use Rattle.tn_file.specs.declared.document.Content.TheVariants.{Market as MarketIs, Raw as RawIs}
use Rattle.tn_file.specs.Asked.{asked_by, part_of, raw_asked_by, raw_part_of}
use Rattle.tn_file.specs.Document.{ContentData, DocumentData, is_accepted}

-- the firms, the ends of the trades, and what was read beside them
abbrev pub content_view : Content → ContentData
content_view (MarketIs market asked) = record {
  firms = map firm_of market.firms;
  ends = market.trades;
  extra =
      part_of asked;
}
content_view (RawIs net asked) = record {
  firms = map raw_firm_of net.firms;
  ends = net.ends;
  extra =
      raw_part_of asked;
}

-- what a document that was read stands for
abbrev pub document_view : Document → DocumentData
document_view doc = record {
  names = doc.names;
  firms = (content_view doc.content).firms;
  ends =
      (content_view doc.content).ends;
  extra = (content_view doc.content).extra;
}

-- the command that a document was read for
abbrev pub command_of : Content → Command
command_of (MarketIs market asked) = asked_by asked
command_of (RawIs net asked) = raw_asked_by asked

abbrev pub is_market : Content → Bool
is_market (MarketIs market asked) = true
is_market (RawIs net asked) = false

-- a market was made exactly where each firm has met exchange
abbrev pub IsMadeAsAccepted : Content → Type 0
IsMadeAsAccepted content = is_accepted (command_of content) (content_view content).extra ≡ is_market content

-- the document was read for the command; and it has a market, unless it is read raw, as it is for a claim on exchange
-- and for the one that there are no prices
abbrev pub IsFor : Command → Content → Type 0
IsFor command content = (command_of content ≡ command) × IsMadeAsAccepted content
