-- The members that an object may have.
use Rattle.std.specs.Prelude.{ℕ, ◌&&◌, ◌||◌, List, codes, Bool, true}
use Rattle.std.specs.Str.{bytes_eq}
use Rattle.serde_json.specs.Data.{Members, no_members, member}
use Rattle.tn_read_shapes.specs.declared.members.ObjectKind.{ObjectKind}
use Rattle.tn_read_shapes.specs.declared.members.FirmKind.TheVariants.{Table, Laminar, Middleman, Dealer}
use Rattle.tn_read_shapes.specs.declared.members.ObjectKind.TheVariants.{Top, Trade, Firm, LaminarSet, UnitTrade, CountSet, Arrangement, Outcome, Claim}
use Rattle.tn_read_shapes.specs.Claims.{allows_in_claim}

-- the members that an object may have; a note is never read
unfoldable pub allows : ObjectKind → List ℕ → Bool
allows Top k = bytes_eq k (codes "version") || bytes_eq k (codes "firms") || bytes_eq k (codes "trades")
    || bytes_eq k (codes "arrangement") || bytes_eq k (codes "outcome") || bytes_eq k (codes "claim")
    || bytes_eq k (codes "edits") || bytes_eq k (codes "note")
allows Trade k = bytes_eq k (codes "name") || bytes_eq k (codes "seller") || bytes_eq k (codes "buyer")
    || bytes_eq k (codes "note")
allows (Firm Table) k = bytes_eq k (codes "name") || bytes_eq k (codes "kind") || bytes_eq k (codes "rows")
    || bytes_eq k (codes "note")
allows (Firm Laminar) k = bytes_eq k (codes "name") || bytes_eq k (codes "kind") || bytes_eq k (codes "amounts")
    || bytes_eq k (codes "sets") || bytes_eq k (codes "note")
allows (Firm Middleman) k = bytes_eq k (codes "name") || bytes_eq k (codes "kind") || bytes_eq k (codes "costs")
    || bytes_eq k (codes "gains") || bytes_eq k (codes "keep") || bytes_eq k (codes "note")
allows (Firm Dealer) k = bytes_eq k (codes "name") || bytes_eq k (codes "kind") || bytes_eq k (codes "pairs")
    || bytes_eq k (codes "note")
allows LaminarSet k = bytes_eq k (codes "trades") || bytes_eq k (codes "from") || bytes_eq k (codes "values")
allows UnitTrade k = bytes_eq k (codes "name") || bytes_eq k (codes "seller") || bytes_eq k (codes "buyer")
    || bytes_eq k (codes "units") || bytes_eq k (codes "note")
allows CountSet k = bytes_eq k (codes "trades") || bytes_eq k (codes "bought") || bytes_eq k (codes "sold")
    || bytes_eq k (codes "from") || bytes_eq k (codes "values")
allows Arrangement k = bytes_eq k (codes "on") || bytes_eq k (codes "prices")
allows Outcome k = bytes_eq k (codes "over") || bytes_eq k (codes "contracts")
allows (Claim kind) k = allows_in_claim kind k

abbrev pub allows_all : ObjectKind → Members → Bool
allows_all kind no_members = true
allows_all kind (member k d ms) = allows kind k && allows_all kind ms
