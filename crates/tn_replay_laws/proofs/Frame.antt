-- A document with another claim: all that is read beside the claim stays.
use Rattle.std.proofs.Common.{◌≡◌, ℕ, true, false, List, [], Some, Ok, refl, sym, ap, ◌∙◌, true≢false, Ordering, Less, Equal, Greater, nat_cmp}
use Rattle.std.specs.Prelude.{codes, ◌&&◌}
use Rattle.std.specs.Ordering.{match_ordering}
use Rattle.std.specs.Cmp.Lexicographic.{slice_cmp}
use Rattle.std.specs.Str.{bytes_eq}
use Rattle.std.proofs.lemmas.Slice.Eq.{bytes_eq-Decides}
use Rattle.serde_json.specs.Data.{Data, null, boolean, number, string, array, object, put, Items, Members, no_members, member}
use Rattle.serde_json.specs.Find.{get}
use Rattle.serde_json.proofs.Views.{get_member-put, get_member-put_other}
use Rattle.tn_read_shapes.specs.declared.members.ObjectKind.{ObjectKind}
use Rattle.tn_read_shapes.specs.declared.members.ObjectKind.TheVariants.{Top}
use Rattle.tn_read_shapes.specs.Members.{allows, allows_all}
use Rattle.tn_read_shapes.specs.Reading.{holds}
use Rattle.tn_read_shapes.specs.Shapes.{object_of}
use Rattle.tn_said.specs.declared.fault.FaultKind.TheVariants.{Shape}
use Rattle.tn_read_references.specs.Ordered.{Listed}
use Rattle.tn_read_head.specs.Listing.{limits_at, listed_of}
use Rattle.tn_read_parts.specs.Arranged.{arrangement_of, on_of, trades_on_of}
use Rattle.tn_read_parts.specs.Signed.{outcome_of}
use Rattle.tn_replay_laws.specs.Replayed.{with_claim}

-- ---- members

pub apart : (q k : List ℕ) → bytes_eq q k ≡ false → q ≡ k → ⊥
apart q k other same = true≢false (sym ((bytes_eq-Decides q k).1 same) ∙ other)

pub claim_there : (value : Data) (members : Members)
    → get (codes "claim") (with_claim value (object members)) ≡ Some value
unfolding with_claim
claim_there value members = get_member-put (codes "claim") value members

-- each other member is the same
pub get_other : (q : List ℕ) (value top : Data) → bytes_eq q (codes "claim") ≡ false
    → get q (with_claim value top) ≡ get q top
unfolding with_claim
get_other q value null other = refl
get_other q value (boolean b) other = refl
get_other q value (number n) other = refl
get_other q value (string s) other = refl
get_other q value (array ds) other = refl
get_other q value (object ms) other = get_member-put_other q (codes "claim") value ms (apart q (codes "claim") other)

module _ (kind : ObjectKind) where
  allows_at : (o : Ordering) (k l : List ℕ) (d e : Data) (ms : Members) → allows kind k ≡ true
      → allows_all kind (put k d ms) ≡ allows_all kind ms
      → allows_all kind (match_ordering o (member k d (member l e ms)) (member l d ms) (member l e (put k d ms)))
      ≡ allows_all kind (member l e ms)
  allows_at Less k l d e ms allowed later = ap (λ b. b && (allows kind l && allows_all kind ms)) allowed
  allows_at Equal k l d e ms allowed later = refl
  allows_at Greater k l d e ms allowed later = ap (λ b. allows kind l && b) later

  -- one more allowed member changes nothing
  pub allows_put : (k : List ℕ) (d : Data) (ms : Members) → allows kind k ≡ true
      → allows_all kind (put k d ms) ≡ allows_all kind ms
  allows_put k d no_members allowed = ap (λ b. b && true) allowed
  allows_put k d (member l e ms) allowed =
      allows_at (slice_cmp nat_cmp k l) k l d e ms allowed (allows_put k d ms allowed)

claim_allowed : allows Top (codes "claim") ≡ true
unfolding allows
claim_allowed = refl

-- ---- the head of the document

top_other : (value top : Data) → object_of Top [] (Some (with_claim value top)) ≡ object_of Top [] (Some top)
unfolding with_claim object_of
top_other value null = refl
top_other value (boolean b) = refl
top_other value (number n) = refl
top_other value (string s) = refl
top_other value (array ds) = refl
top_other value (object ms) = ap (holds Shape []) (allows_put Top (codes "claim") value ms claim_allowed)

limits_other : (value top : Data) → limits_at (with_claim value top) ≡ limits_at top
unfolding limits_at
limits_other value top = rw (get_other (codes "version") value top refl)

pub listed_other : (value top : Data) → listed_of (with_claim value top) ≡ listed_of top
unfolding listed_of
listed_other value top = rw (
  top_other value top,
  limits_other value top,
  get_other (codes "firms") value top refl,
  get_other (codes "trades") value top refl,
)

-- a document that is listed is an object, so the claim is there
pub claim_is_there : (value top : Data) (found : Listed × Items) → listed_of top ≡ Ok found
    → get (codes "claim") (with_claim value top) ≡ Some value
unfolding listed_of object_of
claim_is_there value null found listed = absurd (cc)
claim_is_there value (boolean b) found listed = absurd (cc)
claim_is_there value (number n) found listed = absurd (cc)
claim_is_there value (string s) found listed = absurd (cc)
claim_is_there value (array ds) found listed = absurd (cc)
claim_is_there value (object ms) found listed = claim_there value ms

-- ---- the part that a claim speaks of

on_other : (trades : List (List ℕ)) (value top : Data) → on_of trades (with_claim value top) ≡ on_of trades top
unfolding on_of
on_other trades value top = rw (get_other (codes "arrangement") value top refl)

pub arrangement_other : (listed : Listed) (value top : Data)
    → arrangement_of listed (with_claim value top) ≡ arrangement_of listed top
unfolding arrangement_of
arrangement_other listed value top = rw (on_other listed.names.trades value top)

pub trades_on_other : (trades : List (List ℕ)) (value top : Data)
    → trades_on_of trades (with_claim value top) ≡ trades_on_of trades top
unfolding trades_on_of
trades_on_other trades value top = rw (on_other trades value top)

pub outcome_other : (listed : Listed) (value top : Data)
    → outcome_of listed (with_claim value top) ≡ outcome_of listed top
unfolding outcome_of
outcome_other listed value top = rw (get_other (codes "outcome") value top refl)
