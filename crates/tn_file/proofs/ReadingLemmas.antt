-- Readings of bytes whatever their version: what they lead to, where they stop, and that a network is read as one.
use Rattle.std.proofs.Common.{◌≡◌, ℕ, List, length, Bool, true, false, inl, inr, refl, sym, ap, subst, ◌∙◌, Result, Ok, Err}
use Rattle.std.specs.Prelude.{codes, Option, None, Some, option_and_then, option_map, unwrap_or, ◌==◌, ◌&&◌, IfOk}
use Rattle.std.proofs.lemmas.Bool.{and_from, and_left, and_right, cases_Bool, eqb-true, false≢true}
use Rattle.serde_json.specs.Data.{Data}
use Rattle.serde_json.specs.Find.{get, as_number, as_u64}
use Rattle.tn_model.specs.Limits.{limits_of}
use Rattle.tn_model.specs.declared.limits.Limits.{Limits}
use Rattle.tn_read_head.specs.Beside.{IsStop, Stop, with_names}
use Rattle.tn_said.specs.declared.fault.FaultKind.TheVariants.{Shape}
use Rattle.tn_said.specs.declared.place.PlaceStep.{PlaceStep}
use Rattle.tn_read_shapes.specs.Reading.{◌>>=◌, wanted}
use Rattle.tn_read_head.specs.Listing.{limits_at, listed_of}
use Rattle.tn_read_head.specs.Refused.{Reads}
use Rattle.tn_read_head.specs.declared.refusal.DocRefusal.{DocRefusal}
use Rattle.tn_read_units.specs.Firms.{UnitDocument, document_of as unit_document_of}
use Rattle.tn_read_units.specs.Limits.{unit_version}
use Rattle.tn_read_units.specs.Documents.{IsUnitDocument}
use Rattle.tn_read_units.specs.Heads.{AreUnitTrades}
use Rattle.tn_read_units.specs.Stops.{IsNamedDocument}
use Rattle.tn_read_units.specs.Trades.{UnitTrades}
use Rattle.tn_read_units.proofs.LawLemmas.{document_leads, documents_named, unit_document_stops}
use Rattle.tn_read_unit_parts.specs.Arranged.{AreCountsOf, IsUnitArrangement, counts_on_of, unit_arrangement_of}
use Rattle.tn_read_unit_parts.specs.Edited.{AreUnitEdits, unit_edits_of}
use Rattle.tn_read_unit_parts.proofs.EditLemmas.{unit_edits_lead, unit_edits_stop}
use Rattle.tn_read_unit_parts.proofs.ArrangementLemmas.{counts_on_leads, counts_on_stop, unit_arrangement_leads, unit_arrangement_stops}
use Rattle.tn_read_head.proofs.BesideLemmas.{leads_beside, stops_beside}
use Rattle.tn_read_head.proofs.ListingStops.{AreNames, told_stop}
use Rattle.tn_read_references.proofs.ToldLemmas.{IsTold, told_from_plain}
use Rattle.tn_read_shapes.proofs.LeadLemmas.{Leads, leads_bind, leads_both, leads_ok}
use Rattle.tn_read_shapes.proofs.StopLemmas.{Stops, stops_after, stops_bind, stops_ok}
use Rattle.tn_said.specs.declared.said.Fault.{Fault}
use Rattle.tn_file.specs.declared.command.UnitCommand.{UnitCommand}
use Rattle.tn_file.specs.declared.command.Command.{Command}
use Rattle.tn_file.specs.declared.command.Command.TheVariants.{Check, Firms, Judge, Range, Replay, Session, Solve, Support, Test}
use Rattle.tn_file.specs.declared.command.Command.TheVariants.{Solve, Test}
use Rattle.tn_file.specs.declared.document.ReadDocument.{ReadDocument}
use Rattle.tn_file.specs.Asked.{command_for, unit_command}
use Rattle.tn_file.specs.Document.{DocumentData, document_of, reading_of}
use Rattle.tn_file.specs.Json.{json_of}
use Rattle.tn_file.specs.Laws.{DocumentsAreNetworks, FaultsAreSayable, IsAnyDocument, IsAnyDocumentOf, IsUnitExtra, IsUnitsWith, ReadingsAreNeverTooLong, SaysVersion, UnitsAreAVersionOfSome}
use Rattle.tn_file.specs.Readings.{AnyDocument, UnitExtra, network, units, no_part, arranged, counts_on, unit_edits, answers_units, any_document_by, any_document_of, any_reading_of, as_network, says_units, unit_extra_of, units_of}
use Rattle.tn_file.specs.Reads.{IsRead, any_view}
use Rattle.tn_file.proofs.DocumentLeads.{networks_are_of_their_version}
use Rattle.tn_file.proofs.DocumentStops.{network_faults_are_sayable}

-- what bytes are read as, by their JSON value
pub reading_as : (command : Command) (bytes : List ℕ) (top : Data) → json_of bytes ≡ Some top
    → reading_of command bytes ≡ document_of command top
unfolding reading_of
reading_as command bytes top is = rw is

pub any_reading_as : (command : Command) (bytes : List ℕ) (top : Data) → json_of bytes ≡ Some top
    → any_reading_of command bytes ≡ any_document_of command top
unfolding any_reading_of
any_reading_as command bytes top is = rw is

-- bytes that are no JSON are read alike as a network and as any document
both_no_json : (command : Command) (bytes : List ℕ) → json_of bytes ≡ None
    → any_reading_of command bytes ≡ as_network (reading_of command bytes)
unfolding reading_of any_reading_of
both_no_json command bytes is = rw is

-- how a value is read, by what it says and what is asked
read_by : (command : Command) (top : Data) (b : Bool) → (answers_units command && says_units top) ≡ b
    → any_document_of command top ≡ any_document_by b command top
read_by command top b is = ap (λ (b : Bool). any_document_by b command top) is

pub network_read : (command : Command) (top : Data) → says_units top ≡ false
    → any_document_of command top ≡ as_network (document_of command top)
network_read command top none = read_by command top false (and_right (answers_units command) (says_units top) none)

pub network_read_for : (command : Command) (top : Data) → answers_units command ≡ false
    → any_document_of command top ≡ as_network (document_of command top)
network_read_for command top none = read_by command top false (and_left (answers_units command) (says_units top) none)

pub units_read : (command : Command) (top : Data) → answers_units command ≡ true → says_units top ≡ true
    → any_document_of command top ≡ units_of command top
units_read command top answers says =
    read_by command top true (and_from (answers_units command) (says_units top) answers says)

-- a version is that of units where it is said
says_it : (version : Option ℕ) → unwrap_or (option_map (λ v. v == unit_version) version) false ≡ true
    → version ≡ Some unit_version
says_it None e = absurd (false≢true e)
says_it (Some v) e = ap (λ (n : ℕ). Some n) (eqb-true v unit_version e)

no_limits_of_units : limits_of unit_version ≡ None
unfolding limits_of
no_limits_of_units = refl

says_another : (version : Option ℕ) (other : ℕ) (limits : Limits) → version ≡ Some other
    → limits_of other ≡ Some limits → unwrap_or (option_map (λ v. v == unit_version) version) false ≡ false
says_another version other limits is there_is = elim (cases_Bool (other == unit_version)) [
  | inl four ↦ absurd (none_of_units (ap limits_of (sym (eqb-true other unit_version four)) ∙ there_is))
  | inr differs ↦ ap (λ (o : Option ℕ). unwrap_or (option_map (λ v. v == unit_version) o) false) is ∙ differs
]
  where
    none_of_units : limits_of unit_version ≡ Some limits → ⊥
    none_of_units e = let none = no_limits_of_units in cc

-- no limits of networks are those of units
limits_by : (version : Option ℕ) (place : List PlaceStep) (limits : Limits)
    → (wanted Shape place version >>= λ v. wanted Shape place (limits_of v)) ≡ Ok limits
    → unwrap_or (option_map (λ v. v == unit_version) version) false ≡ false
limits_by None place limits e = refl
limits_by (Some v) place limits e = elim (cases_Bool (v == unit_version)) [
  | inl four ↦ absurd (none (subst (λ (n : ℕ). wanted Shape place (limits_of n) ≡ Ok limits)
      (eqb-true v unit_version four) e))
  | inr differs ↦ differs
]
  where
    none : wanted Shape place (limits_of unit_version) ≡ Ok limits → ⊥
    none same =
        let stops = sym (ap (λ (found : Option Limits). wanted Shape place found) no_limits_of_units) ∙ same in cc

pub limits_say : (top : Data) (limits : Limits) → limits_at top ≡ Ok limits → says_units top ≡ false
unfolding limits_at
limits_say top limits e = limits_by _ _ limits e

-- a network is read as one
pub networks_read : (command : Command) (bytes : List ℕ) (doc : DocumentData) → reading_of command bytes ≡ Ok doc
    → any_reading_of command bytes ≡ Ok (network doc)
networks_read command bytes doc reads =
    let of = networks_are_of_their_version command bytes doc reads in
    let says = of.version in
    any_reading_as command bytes says.top says.stands
    ∙ network_read command says.top (says_another _ of.document.version of.document.limits says.says of.document.limits_are)
    ∙ ap as_network (sym (reading_as command bytes says.top says.stands) ∙ reads)

-- ---- where trades have units

-- one of these documents, with what is read beside it
abbrev IsOfUnits : AnyDocument → Type 0
IsOfUnits (network doc) = ⊥
IsOfUnits (units doc extra) = IsUnitsWith doc extra

abbrev IsNamedNetwork : UnitDocument → Type 0
IsNamedNetwork doc = IsUnitDocument doc × IsNamedDocument doc

named_lead : (top : Data) → Leads IsNamedNetwork (unit_document_of top)
named_lead top =
    leads_both IsUnitDocument IsNamedDocument (unit_document_of top) (document_leads top)
    (record { at = documents_named top })

module _ (head : UnitTrades) (kept : AreUnitTrades head) (top : Data) where
  abbrev IsExtra : UnitExtra → Type 0
  IsExtra = IsUnitExtra (length head.names.firms) head.trades

  extra_leads : (command : Command) → Leads IsExtra (unit_extra_of command head top)
  unfolding unit_extra_of
  extra_leads Check =
      leads_bind (IsUnitArrangement head.trades) IsExtra (unit_arrangement_of head top) _
      (unit_arrangement_leads head kept.named kept.few top) (λ part is.
      leads_ok IsExtra (arranged part) is)
  extra_leads Firms =
      leads_bind (IsUnitArrangement head.trades) IsExtra (unit_arrangement_of head top) _
      (unit_arrangement_leads head kept.named kept.few top) (λ part is.
      leads_ok IsExtra (arranged part) is)
  extra_leads Support =
      leads_bind (AreCountsOf head.trades) IsExtra (counts_on_of head top) _
      (counts_on_leads head kept.named kept.few top) (λ counts are.
      leads_ok IsExtra (counts_on counts) are)
  extra_leads Judge = leads_ok IsExtra no_part tt
  extra_leads Range = leads_ok IsExtra no_part tt
  extra_leads Replay = leads_ok IsExtra no_part tt
  extra_leads Session =
      leads_bind (AreUnitEdits (length head.names.firms) head.trades) IsExtra (unit_edits_of head top) _
      (unit_edits_lead head kept.named top) (λ listed are.
      leads_ok IsExtra (unit_edits listed) are)
  extra_leads Solve = leads_ok IsExtra no_part tt
  extra_leads Test = leads_ok IsExtra no_part tt

  abbrev Told : Fault → Type 0
  Told = IsTold head.names.trades

  extra_stops : (command : Command) → Stops Told (unit_extra_of command head top)
  unfolding unit_extra_of
  extra_stops Check =
      stops_bind Told (unit_arrangement_of head top) _ (unit_arrangement_stops head kept.named kept.few top) (λ part.
      stops_ok Told (arranged part))
  extra_stops Firms =
      stops_bind Told (unit_arrangement_of head top) _ (unit_arrangement_stops head kept.named kept.few top) (λ part.
      stops_ok Told (arranged part))
  extra_stops Support =
      stops_bind Told (counts_on_of head top) _
      (told_from_plain head.names.trades _ (counts_on_stop head kept.named kept.few top)) (λ counts.
      stops_ok Told (counts_on counts))
  extra_stops Judge = stops_ok Told no_part
  extra_stops Range = stops_ok Told no_part
  extra_stops Replay = stops_ok Told no_part
  extra_stops Session =
      stops_bind Told (unit_edits_of head top) _
      (told_from_plain head.names.trades _ (unit_edits_stop head kept.named top)) (λ listed.
      stops_ok Told (unit_edits listed))
  extra_stops Solve = stops_ok Told no_part
  extra_stops Test = stops_ok Told no_part

units_lead : (command : Command) (top : Data) → Leads IsOfUnits (units_of command top)
unfolding units_of
units_lead command top =
    leads_bind IsNamedNetwork IsOfUnits (unit_document_of top) _ (named_lead top) (λ doc are.
    let is_extra = IsUnitExtra (length doc.head.names.firms) doc.head.trades in
    leads_bind is_extra IsOfUnits (with_names doc.head.names (unit_extra_of command doc.head top)) _
    (leads_beside is_extra doc.head.names _ (extra_leads doc.head are.0.head top command)) (λ extra is.
    leads_ok IsOfUnits (units doc extra) (record { network = are.0; named = are.1; beside = is })))

units_stop : (command : Command) (top : Data) → Stops IsStop (units_of command top)
unfolding units_of
units_stop command top =
    stops_after IsStop IsNamedNetwork (unit_document_of top) _ (named_lead top) (unit_document_stops top) (λ doc are.
    let names = doc.head.names in
    let named : AreNames names = record { firms = are.1.firm_names; trades = are.1.trade_names } in
    stops_bind IsStop (with_names names (unit_extra_of command doc.head top)) _
    (stops_beside IsStop (IsTold names.trades) names _ (told_stop names named)
    (extra_stops doc.head are.0.head top command)) (λ extra.
    stops_ok IsStop (units doc extra)))

module _ (command : Command) (bytes : List ℕ) (top : Data) (stands : json_of bytes ≡ Some top) where
  from_network : (r : Result DocumentData Stop) → document_of command top ≡ r → (doc : AnyDocument)
      → as_network r ≡ Ok doc → IsAnyDocumentOf command bytes doc
  from_network (Ok read) is doc same =
      let one : network read ≡ doc = cc in
      subst (IsAnyDocumentOf command bytes) one
      (networks_are_of_their_version command bytes read (reading_as command bytes top stands ∙ is))
  from_network (Err stop) is doc same = absurd cc

  of_units : says_units top ≡ true → (doc : AnyDocument) → IsOfUnits doc → IsAnyDocumentOf command bytes doc
  of_units says (network doc) is = absurd is
  of_units says (units doc extra) is = (is, record { top = top; stands = stands; says = says_it _ says })

  value_leads : (doc : AnyDocument) → any_document_of command top ≡ Ok doc → IsAnyDocumentOf command bytes doc
  value_leads doc reads = elim (cases_Bool (says_units top)) [
    | inl says ↦ elim (cases_Bool (answers_units command)) [
      | inl answers ↦ of_units says doc ((units_lead command top).at doc (sym (units_read command top answers says) ∙ reads))
      | inr silent ↦ from_network (document_of command top) refl doc (sym (network_read_for command top silent) ∙ reads)
    ]
    | inr none ↦ from_network (document_of command top) refl doc (sym (network_read command top none) ∙ reads)
  ]

  stop_of_network : (r : Result DocumentData Stop) → document_of command top ≡ r → (stop : Stop) → as_network r ≡ Err stop
      → IsStop stop
  stop_of_network (Ok read) is stop same = absurd cc
  stop_of_network (Err first) is stop same =
      let one : first ≡ stop = cc in
      subst IsStop one (network_faults_are_sayable command bytes first (reading_as command bytes top stands ∙ is))

  value_stops : (stop : Stop) → any_document_of command top ≡ Err stop → IsStop stop
  value_stops stop reads = elim (cases_Bool (says_units top)) [
    | inl says ↦ elim (cases_Bool (answers_units command)) [
      | inl answers ↦ (units_stop command top).at stop (sym (units_read command top answers says) ∙ reads)
      | inr silent ↦ stop_of_network (document_of command top) refl stop
          (sym (network_read_for command top silent) ∙ reads)
    ]
    | inr none ↦ stop_of_network (document_of command top) refl stop (sym (network_read command top none) ∙ reads)
  ]

module _ (command : Command) (bytes : List ℕ) where
  no_json_leads : (r : Result DocumentData Stop) → reading_of command bytes ≡ r → json_of bytes ≡ None
      → (doc : AnyDocument) → as_network r ≡ Ok doc → IsAnyDocumentOf command bytes doc
  no_json_leads (Ok read) is none doc same =
      absurd (none_stands (networks_are_of_their_version command bytes read is).version)
    where
      none_stands : {version : ℕ} → SaysVersion bytes version → ⊥
      none_stands says = let stands = says.stands in absurd cc
  no_json_leads (Err stop) is none doc same = absurd cc

  no_json_stops : (r : Result DocumentData Stop) → reading_of command bytes ≡ r → (stop : Stop) → as_network r ≡ Err stop
      → IsStop stop
  no_json_stops (Ok read) is stop same = absurd cc
  no_json_stops (Err first) is stop same =
      let one : first ≡ stop = cc in subst IsStop one (network_faults_are_sayable command bytes first is)

  leads_by : (found : Option Data) → json_of bytes ≡ found → (doc : AnyDocument) → any_reading_of command bytes ≡ Ok doc
      → IsAnyDocumentOf command bytes doc
  leads_by None is doc reads =
      no_json_leads (reading_of command bytes) refl is doc (sym (both_no_json command bytes is) ∙ reads)
  leads_by (Some top) is doc reads =
      value_leads command bytes top is doc (sym (any_reading_as command bytes top is) ∙ reads)

  stops_by : (found : Option Data) → json_of bytes ≡ found → (stop : Stop) → any_reading_of command bytes ≡ Err stop
      → IsStop stop
  stops_by None is stop reads =
      no_json_stops (reading_of command bytes) refl stop (sym (both_no_json command bytes is) ∙ reads)
  stops_by (Some top) is stop reads =
      value_stops command bytes top is stop (sym (any_reading_as command bytes top is) ∙ reads)

pub documents_are : DocumentsAreNetworks
documents_are command bytes doc reads = leads_by command bytes (json_of bytes) refl doc reads

pub faults_are_sayable : FaultsAreSayable
faults_are_sayable command bytes stop reads = stops_by command bytes (json_of bytes) refl stop reads

pub readings_are_never_too_long : ReadingsAreNeverTooLong
readings_are_never_too_long command bytes stop reads = (faults_are_sayable command bytes stop reads).read

-- and so is every document that was returned
any_document_is : (command : Command) (bytes : List ℕ) (doc : AnyDocument) → IsAnyDocumentOf command bytes doc
    → IsAnyDocument command doc
any_document_is command bytes (network doc) is = is.document
any_document_is command bytes (units doc extra) is = is.0

pub reads_from : (command : Command) (bytes : List ℕ) (r : Result ReadDocument DocRefusal)
    → Reads any_view r (any_reading_of command bytes) → IfOk r (IsRead command)
reads_from command bytes (Ok doc) reads =
    any_document_is command bytes (any_view doc) (documents_are command bytes (any_view doc) reads)
reads_from command bytes (Err refusal) reads = tt

-- what a command asks about units
pub asked_for : (command : Command) (asked : UnitCommand) → unit_command command ≡ Some asked → command_for asked ≡ command
asked_for Judge asked is = absurd cc
asked_for Replay asked is = absurd cc
asked_for Session asked is = let one : UnitCommand.Session ≡ asked = cc in ap command_for (sym one)
asked_for Check asked is = let one : UnitCommand.Check ≡ asked = cc in ap command_for (sym one)
asked_for Firms asked is = let one : UnitCommand.Firms ≡ asked = cc in ap command_for (sym one)
asked_for Range asked is = let one : UnitCommand.Range ≡ asked = cc in ap command_for (sym one)
asked_for Solve asked is = let one : UnitCommand.Solve ≡ asked = cc in ap command_for (sym one)
asked_for Support asked is = let one : UnitCommand.Support ≡ asked = cc in ap command_for (sym one)
asked_for Test asked is = let one : UnitCommand.Test ≡ asked = cc in ap command_for (sym one)

pub asked_answers : (command : Command) (asked : UnitCommand) → unit_command command ≡ Some asked
    → answers_units command ≡ true
asked_answers Judge asked is = absurd cc
asked_answers Replay asked is = absurd cc
asked_answers Session asked is = refl
asked_answers Check asked is = refl
asked_answers Firms asked is = refl
asked_answers Range asked is = refl
asked_answers Solve asked is = refl
asked_answers Support asked is = refl
asked_answers Test asked is = refl

pub none_asked : (command : Command) → unit_command command ≡ None → answers_units command ≡ false
none_asked Judge is = refl
none_asked Replay is = refl
none_asked command is = absurd cc

-- to other commands the version of units is none
pub units_refused : UnitsAreAVersionOfSome
unfolding document_of listed_of limits_at limits_of
units_refused command bytes top stands silent says members =
    let version = option_and_then as_u64 (option_and_then as_number (get (codes "version") top)) in
    any_reading_as command bytes top stands ∙ network_read_for command top silent
    ∙ rw (members, says_it version says) refl
