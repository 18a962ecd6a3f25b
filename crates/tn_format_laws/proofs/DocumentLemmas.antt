-- Documents read of two values that are the same but for the version.
use Rattle.std.proofs.Common.{◌≡◌, ℕ, ◌⊎◌, inl, inr, List, [], ◌∷◌, false, true, Result, Ok, Err, Some, refl, sym, ap, subst}
use Rattle.std.specs.Prelude.{codes}
use Rattle.std.specs.Str.{bytes_eq}
use Rattle.serde_json.specs.Data.{Data, Items, array, boolean, null, number, object, string, unsigned}
use Rattle.serde_json.specs.Find.{get}
use Rattle.serde_json.proofs.Views.{get_member-put, get_member-put_other}
use Rattle.tn_model.specs.declared.ends.Ends.{Ends}
use Rattle.tn_model.specs.declared.limits.Limits.{Limits}
use Rattle.tn_model.specs.Limits.{limits_of}
use Rattle.tn_names.specs.Names.{NameLists, no_names}
use Rattle.tn_said.specs.declared.place.PlaceStep.TheVariants.{Key}
use Rattle.tn_said.specs.declared.place.Word.TheVariants.{Firms, Trades}
use Rattle.tn_read_shapes.specs.declared.members.ObjectKind.TheVariants.{Top}
use Rattle.tn_read_shapes.specs.Members.{allows}
use Rattle.tn_read_shapes.specs.Reading.{each, holds}
use Rattle.tn_read_shapes.specs.Shapes.{object_of}
use Rattle.tn_said.specs.declared.fault.FaultKind.TheVariants.{Shape}
use Rattle.tn_read_references.specs.Ordered.{Listed}
use Rattle.tn_read_head.specs.Beside.{Stop, with_names}
use Rattle.tn_read_head.specs.Listing.{limits_at, listed_of}
use Rattle.tn_read_head.specs.Naming.{one_firm_name, one_trade}
use Rattle.tn_read_firms.specs.Firms.{one_firm}
use Rattle.tn_read_claims.specs.Claimed.{named_claim}
use Rattle.tn_file.specs.declared.command.Command.{Command}
use Rattle.tn_file.specs.declared.command.Command.TheVariants.{Check, Firms, Judge, Range, Replay, Session, Solve, Support, Test}
use Rattle.tn_file.specs.Document.{DocumentData, content_of, document_in, document_of, extra_of, is_tested}
use Rattle.tn_replay_laws.proofs.Frame.{allows_put, apart}
use Rattle.tn_format_laws.specs.Versions.{MeetButForLimits, ReadingsMeetButForLimits, with_version}
use Rattle.tn_format_laws.proofs.FirmLemmas.{firms_agree}
use Rattle.tn_format_laws.proofs.MeetLemmas.{Agree, Meet, StopOfLimit, beside, equal, few_agree, meet_bind, meet_next, meet_ok, meet_same, next, same}
use Rattle.tn_format_laws.proofs.PartLemmas.{arrangement_agrees, claim_agrees, edits_agree, on_agrees, outcome_agrees}
use Rattle.tn_format_laws.proofs.ReferenceLemmas.{here, there}

-- the two heads have the same names and ends, and the same list of firms
record IsSameHead (x y : Listed × Items) : Type 0 where
  names : x.0.names ≡ y.0.names
  ends : x.0.ends ≡ y.0.ends
  items : x.1 ≡ y.1

module _ (top other : Data) (alike : (key : List ℕ) → bytes_eq key (codes "version") ≡ false
    → get key top ≡ get key other) where
  module _ (names : NameLists) (ends : List Ends) (a b : Limits) where
    extra_agrees : (command : Command)
        → Agree (extra_of command (here names ends a b) top) (extra_of command (there names ends a b) other)
    unfolding extra_of
    extra_agrees Check = next _ _ _ _ (arrangement_agrees names ends a b top other alike) (λ part. same _)
    extra_agrees Firms = next _ _ _ _ (arrangement_agrees names ends a b top other alike) (λ part. same _)
    extra_agrees Judge = next _ _ _ _ (outcome_agrees names ends a b top other alike) (λ signed. same _)
    extra_agrees Range = same _
    extra_agrees Replay = next _ _ _ _ (claim_agrees names ends a b top other alike) (λ read. same _)
    extra_agrees Session = next _ _ _ _ (edits_agree names ends a b top other alike) (λ changes. same _)
    extra_agrees Solve = same _
    extra_agrees Support = next _ _ _ _ (on_agrees names ends a b top other alike) (λ on. same _)
    extra_agrees Test = same _

    tested_alike : (command : Command) → is_tested command top ≡ is_tested command other
    unfolding named_claim
    tested_alike Check = refl
    tested_alike Firms = refl
    tested_alike Judge = refl
    tested_alike Range = refl
    tested_alike Replay = rw (alike (codes "claim") refl)
    tested_alike Session = refl
    tested_alike Solve = refl
    tested_alike Support = refl
    tested_alike Test = refl

    content_agrees : (command : Command) (items : Items)
        → Agree (content_of command (here names ends a b) items top)
        (content_of command (there names ends a b) items other)
    unfolding content_of
    content_agrees command items =
        next _ _ _ _ (subst (λ tested. Agree (each (one_firm (is_tested command top) (here names ends a b)) [] items)
        (each (one_firm tested (there names ends a b)) [] items)) (tested_alike command)
        (firms_agree names ends a b (is_tested command top) items)) (λ firms.
        next _ _ _ _ (extra_agrees command) (λ extra. same _))

    document_meets : (command : Command) (items : Items)
        → Meet StopOfLimit (λ x y. x ≡ y) (document_in command (here names ends a b) items top)
        (document_in command (there names ends a b) items other)
    document_meets command items =
        meet_next StopOfLimit (λ x y. x ≡ y) _ _ _ _ (beside names _ _ (content_agrees command items))
        (λ content. meet_same StopOfLimit _)

  heads_meet : (command : Command) (x y : Listed × Items) → IsSameHead x y
      → Meet StopOfLimit (λ doc other_doc. doc ≡ other_doc) (document_in command x.0 x.1 top)
      (document_in command y.0 y.1 other)
  heads_meet command x y head =
      subst (λ items. Meet StopOfLimit (λ doc other_doc. doc ≡ other_doc) (document_in command x.0 x.1 top)
      (document_in command y.0 items other)) head.items
      (subst (λ (ends : List Ends). Meet StopOfLimit (λ doc other_doc. doc ≡ other_doc)
      (document_in command x.0 x.1 top)
      (document_in command (record { limits = y.0.limits; names = y.0.names; ends = ends }) x.1 other)) head.ends
      (subst (λ (names : NameLists). Meet StopOfLimit (λ doc other_doc. doc ≡ other_doc)
      (document_in command x.0 x.1 top)
      (document_in command (record { limits = y.0.limits; names = names; ends = x.0.ends }) x.1 other)) head.names
      (document_meets x.0.names x.0.ends x.0.limits y.0.limits command x.1)))

  module _ (object_alike : object_of Top [] (Some top) ≡ object_of Top [] (Some other)) (a b : Limits)
      (says : limits_at top ≡ Ok a) (other_says : limits_at other ≡ Ok b) where
    limits_meet : Meet StopOfLimit (λ (x y : Limits). Unit {0}) (with_names no_names (limits_at top))
        (with_names no_names (limits_at other))
    limits_meet =
        subst (λ r. Meet StopOfLimit (λ (x y : Limits). Unit {0}) (with_names no_names r)
        (with_names no_names (limits_at other))) (sym says)
        (subst (λ r. Meet StopOfLimit (λ (x y : Limits). Unit {0}) (with_names no_names (Ok a)) (with_names no_names r))
        (sym other_says) (meet_ok StopOfLimit (λ (x y : Limits). Unit {0}) a b tt))

    listed_meet : Meet StopOfLimit IsSameHead (listed_of top) (listed_of other)
    unfolding listed_of
    listed_meet =
        meet_next StopOfLimit IsSameHead _ _ _ _ (beside no_names _ _ (equal _ _ object_alike)) (λ object.
        meet_bind StopOfLimit (λ (x y : Limits). Unit {0}) IsSameHead _ _ _ _ limits_meet (λ x y u.
        meet_next StopOfLimit IsSameHead _ _ _ _ (beside no_names _ _
        (few_agree x.firms y.firms (Key Firms ∷ []) (get (codes "firms") top) (get (codes "firms") other)
        (alike (codes "firms") refl))) (λ firms.
        meet_next StopOfLimit IsSameHead (each one_firm_name no_names firms) _ _ _ (meet_same StopOfLimit _) (λ names.
        meet_next StopOfLimit IsSameHead _ _ _ _ (beside names _ _
        (few_agree x.trades y.trades (Key Trades ∷ []) (get (codes "trades") top) (get (codes "trades") other)
        (alike (codes "trades") refl))) (λ trades.
        meet_next StopOfLimit IsSameHead (each one_trade (record { names = names; ends = [] }) trades) _ _ _
        (meet_same StopOfLimit _) (λ named.
        meet_ok StopOfLimit IsSameHead _ _ (record { names = refl; ends = refl; items = refl })))))))

    pub documents_meet : (command : Command) → Meet StopOfLimit (λ doc other_doc. doc ≡ other_doc)
        (document_of command top) (document_of command other)
    unfolding document_of
    documents_meet command =
        meet_bind StopOfLimit IsSameHead (λ doc other_doc. doc ≡ other_doc) (listed_of top) (listed_of other) _ _
        listed_meet (λ x y head. heads_meet command x y head)

-- ---- a value with another version

module _ (second : ℕ) where
  get_other : (top : Data) (key : List ℕ) → bytes_eq key (codes "version") ≡ false
      → get key top ≡ get key (with_version second top)
  unfolding with_version
  get_other null key other = refl
  get_other (boolean t) key other = refl
  get_other (number n) key other = refl
  get_other (string s) key other = refl
  get_other (array ds) key other = refl
  get_other (object ms) key other =
      sym (get_member-put_other key (codes "version") (number (unsigned second)) ms (apart key (codes "version") other))

  version_allowed : allows Top (codes "version") ≡ true
  unfolding allows
  version_allowed = refl

  object_other : (top : Data) → object_of Top [] (Some top) ≡ object_of Top [] (Some (with_version second top))
  unfolding with_version object_of
  object_other null = refl
  object_other (boolean t) = refl
  object_other (number n) = refl
  object_other (string s) = refl
  object_other (array ds) = refl
  object_other (object ms) =
      ap (holds Shape []) (sym (allows_put Top (codes "version") (number (unsigned second)) ms version_allowed))

  -- a value that says a version is an object, and says the other one then
  pub second_said : (top : Data) (a b : Limits) → limits_at top ≡ Ok a → limits_of second ≡ Some b
      → limits_at (with_version second top) ≡ Ok b
  unfolding with_version limits_at
  second_said null a b says is = absurd (cc)
  second_said (boolean t) a b says is = absurd (cc)
  second_said (number n) a b says is = absurd (cc)
  second_said (string s) a b says is = absurd (cc)
  second_said (array ds) a b says is = absurd (cc)
  second_said (object ms) a b says is = rw (get_member-put (codes "version") (number (unsigned second)) ms, is)

met_apart : (r s : Result DocumentData Stop) → Meet StopOfLimit (λ doc other. doc ≡ other) r s → MeetButForLimits r s
met_apart (Ok doc) (Ok other) met = inl (ap Ok met.at)
met_apart (Ok doc) (Err stop) met = inr (inr met.at)
met_apart (Err stop) (Ok doc) met = inr (inl met.at)
met_apart (Err stop) (Err other) met = by met.at
  where
    by : (stop ≡ other) ⊎ StopOfLimit stop ⊎ StopOfLimit other → MeetButForLimits (Err stop) (Err other)
    by (inl one) = inl (ap Err one)
    by (inr stops) = inr stops

pub readings_meet : ReadingsMeetButForLimits
readings_meet command top other versions =
    subst (λ (value : Data). MeetButForLimits (document_of command top) (document_of command value)) (sym versions.same)
    (met_apart _ _ (documents_meet top (with_version versions.second top) (get_other versions.second top)
    (object_other versions.second top) versions.limits versions.second_limits versions.says
    (second_said versions.second top versions.limits versions.second_limits versions.says versions.there_is) command))
