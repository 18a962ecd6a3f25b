-- The head of a document: the limits of its version, the names, and the ends of the trades.
use Rattle.std.specs.Prelude.{[], ◌∷◌, codes, Some, option_and_then, Result, Ok}
use Rattle.serde_json.specs.Data.{Data, Items}
use Rattle.serde_json.specs.Find.{get, as_number, as_u64}
use Rattle.tn_said.specs.declared.fault.FaultKind.TheVariants.{Shape}
use Rattle.tn_model.specs.Limits.{limits_of}
use Rattle.tn_model.specs.declared.limits.Limits.{Limits}
use Rattle.tn_said.specs.declared.place.PlaceStep.TheVariants.{Key}
use Rattle.tn_said.specs.declared.place.Word.TheVariants.{Version, Firms, Trades}
use Rattle.tn_said.specs.declared.said.Fault.{Fault}
use Rattle.tn_names.specs.Names.{no_names}
use Rattle.tn_read_shapes.specs.declared.members.ObjectKind.TheVariants.{Top}
use Rattle.tn_read_head.specs.Beside.{Stop, with_names}
use Rattle.tn_read_shapes.specs.Reading.{◌>>=◌, each, wanted}
use Rattle.tn_read_shapes.specs.Shapes.{few_at, object_of}
use Rattle.tn_read_references.specs.Ordered.{Listed}
use Rattle.tn_read_head.specs.Naming.{one_firm_name, one_trade}

-- the limits of the document's version
unfoldable pub limits_at : Data → Result Limits Fault
limits_at top = do
  version ← wanted Shape (Key Version ∷ []) (option_and_then as_u64
      (option_and_then as_number (get (codes "version") top)))
  wanted Shape (Key Version ∷ []) (limits_of version)

-- the head, and the list of the firms
unfoldable pub listed_of : Data → Result (Listed × Items) Stop
listed_of top = do
  object ← with_names no_names (object_of Top [] (Some top))
  limits ← with_names no_names (limits_at top)
  firms ← with_names no_names (few_at limits.firms (Key Firms ∷ []) (get (codes "firms") top))
  names ← each one_firm_name no_names firms
  trades ← with_names names (few_at limits.trades (Key Trades ∷ []) (get (codes "trades") top))
  named ← each one_trade (record { names = names; ends = [] }) trades
  Ok (record { limits = limits; names = named.names; ends = named.ends }, firms)
