-- Edits that are read are what the entries say, in their order.
use Rattle.std.proofs.Common.{◌≡◌, ℕ, suc, ◌+◌, Bool, true, false, cond, List, [], ◌∷◌, ◌++◌, length, Option, Some, None, Ok, inl, inr, ◌⊎◌, bytes_eq, refl, sym, ap, subst, ◌∙◌, arith}
use Rattle.std.specs.Prelude.{codes, nat_le, option_and_then, slice_get}
use Rattle.std.proofs.lemmas.List.{length-append}
use Rattle.std.proofs.lemmas.Option.{none-some, same_Some}
use Rattle.std.proofs.lemmas.Slice.Eq.{bytes_eq-Decides}
use Rattle.serde_json.specs.Data.{Data, array, Items, no_items, item}
use Rattle.serde_json.specs.Events.{items_len}
use Rattle.serde_json.specs.Find.{as_array, as_str, get}
use Rattle.tn_said.specs.declared.fault.FaultKind.TheVariants.{Limit, Shape, UnknownFirm}
use Rattle.tn_said.specs.declared.place.PlaceStep.{PlaceStep}
use Rattle.tn_said.specs.declared.place.PlaceStep.TheVariants.{Index, Key}
use Rattle.tn_said.specs.declared.place.Word.TheVariants.{Edits}
use Rattle.tn_said.specs.declared.session.Edit.{Edit}
use Rattle.tn_said.specs.declared.session.Edit.TheVariants.{Join as JoinOf, Leave as LeaveOf}
use Rattle.tn_names.specs.Names.{NameLists, number_of}
use Rattle.tn_names.proofs.NameLemmas.{push_cases}
use Rattle.tn_read_shapes.specs.Reading.{◌>>=◌, each, holds, wanted}
use Rattle.tn_read_shapes.specs.Shapes.{few_at, list_at, text_at, two_at}
use Rattle.tn_read_shapes.proofs.LeadLemmas.{Leads, leads_after, leads_as, leads_bind, leads_both, leads_count, leads_ok, leads_wanted}
use Rattle.tn_read_references.specs.Ordered.{Listed}
use Rattle.tn_read_references.specs.References.{firm_at, trade_at}
use Rattle.tn_read_parts.specs.declared.edits.Change.{Change}
use Rattle.tn_read_parts.specs.declared.edits.Change.TheVariants.{Admit, Bar, Join, Leave}
use Rattle.tn_read_parts.specs.Edited.{admit_of, all_trades, bar_of, change_named, edit_at, edit_of, edit_place, edits_of, one_edit, trade_or_all}
use Rattle.tn_read_parts.specs.Laws.{SaysEdits, EditsHaveTheirEntries, IsEditAt, IsNameOf, NamesEdited, SaysEdit, edit_text}
use Rattle.tn_read_parts.proofs.EditLeads.{one_edit_counts}
use Rattle.tn_read_parts.proofs.EntryLemmas.{trade_says, two_says}

-- the text that names a change
abbrev change_text : Change → List ℕ
change_text Admit = codes "admit"
change_text Bar = codes "bar"
change_text Leave = codes "leave"
change_text Join = codes "join"

-- a text that names a change is its text
text_is : (text : List ℕ) (change : Change) → change_named text ≡ Some change → text ≡ change_text change
text_is text change e =
    by_tests (bytes_eq text (codes "admit")) (bytes_eq text (codes "bar")) (bytes_eq text (codes "leave"))
    (bytes_eq text (codes "join")) refl refl refl refl e
  where
    named : (one : Change) → bytes_eq text (change_text one) ≡ true → Some one ≡ Some change → text ≡ change_text change
    named one is same =
        subst (λ (c : Change). text ≡ change_text c) (same_Some one change same)
        ((bytes_eq-Decides text (change_text one)).0 is)

    by_tests : (admits bars leaves joins : Bool) → bytes_eq text (codes "admit") ≡ admits
        → bytes_eq text (codes "bar") ≡ bars → bytes_eq text (codes "leave") ≡ leaves
        → bytes_eq text (codes "join") ≡ joins
        → cond admits (Some Admit) (cond bars (Some Bar) (cond leaves (Some Leave) (cond joins (Some Join) None)))
        ≡ Some change → text ≡ change_text change
    by_tests true bars leaves joins admits_is bars_is leaves_is joins_is same = named Admit admits_is same
    by_tests false true leaves joins admits_is bars_is leaves_is joins_is same = named Bar bars_is same
    by_tests false false true joins admits_is bars_is leaves_is joins_is same = named Leave leaves_is same
    by_tests false false false true admits_is bars_is leaves_is joins_is same = named Join joins_is same
    by_tests false false false false admits_is bars_is leaves_is joins_is same = absurd (none-some change same)

-- what a reference says is admitted or barred
abbrev NamesTrades : List (List ℕ) → Data → Option ℕ → Type 0
NamesTrades trades reference None = as_str reference ≡ Some all_trades
NamesTrades trades reference (Some t) = IsNameOf trades reference t

all_says : (trades : List (List ℕ)) (place : List PlaceStep) (value : Data)
    → Leads (NamesTrades trades value) (trade_or_all trades place value)
unfolding trade_or_all
all_says trades place value =
    leads_bind (λ text. as_str value ≡ Some text) (NamesTrades trades value) (text_at place (Some value)) _
    (leads_wanted Shape place (option_and_then as_str (Some value))) (λ text is.
    by_test text is (bytes_eq text all_trades) refl)
  where
    by_test : (text : List ℕ) → as_str value ≡ Some text → (stands_for_all : Bool)
        → bytes_eq text all_trades ≡ stands_for_all
        → Leads (NamesTrades trades value) (cond stands_for_all (Ok None)
        (trade_at trades place value >>= (λ t. Ok (Some t))))
    by_test text is true same =
        leads_ok (NamesTrades trades value) None (is ∙ ap Some ((bytes_eq-Decides text all_trades).0 same))
    by_test text is false same =
        leads_bind (IsNameOf trades value) (NamesTrades trades value) (trade_at trades place value) _
        (trade_says trades place value) (λ t names. leads_ok (NamesTrades trades value) (Some t) names)

firm_says : (firms : List (List ℕ)) (place : List PlaceStep) (value : Data)
    → Leads (IsNameOf firms value) (firm_at firms place (Some value))
unfolding firm_at
firm_says firms place value =
    leads_bind (λ name. as_str value ≡ Some name) (IsNameOf firms value) (text_at place (Some value)) _
    (leads_wanted Shape place (option_and_then as_str (Some value))) (λ name is.
    leads_as (λ f. number_of firms name ≡ Some f) (IsNameOf firms value)
    (wanted UnknownFirm place (number_of firms name)) (λ f known. record { name = name; is = is; known = known })
    (leads_wanted UnknownFirm place (number_of firms name)))

-- the edit of a change has its text, and is of what the reference names
abbrev IsEditOf : NameLists → Change → Data → Edit → Type 0
IsEditOf names change value edit = (edit_text edit ≡ change_text change) × NamesEdited names value edit

admit_says : (names : NameLists) (value : Data) (t : Option ℕ) → NamesTrades names.trades value t
    → IsEditOf names Admit value (admit_of t)
admit_says names value None said = (refl, said)
admit_says names value (Some t) said = (refl, said)

bar_says : (names : NameLists) (value : Data) (t : Option ℕ) → NamesTrades names.trades value t
    → IsEditOf names Bar value (bar_of t)
bar_says names value None said = (refl, said)
bar_says names value (Some t) said = (refl, said)

change_says : (names : NameLists) (change : Change) (place : List PlaceStep) (value : Data)
    → Leads (IsEditOf names change value) (edit_of names change place value)
unfolding edit_of
change_says names Admit place value =
    leads_bind (NamesTrades names.trades value) (IsEditOf names Admit value) (trade_or_all names.trades place value) _
    (all_says names.trades place value) (λ t said. leads_ok (IsEditOf names Admit value) (admit_of t)
    (admit_says names value t said))
change_says names Bar place value =
    leads_bind (NamesTrades names.trades value) (IsEditOf names Bar value) (trade_or_all names.trades place value) _
    (all_says names.trades place value) (λ t said. leads_ok (IsEditOf names Bar value) (bar_of t)
    (bar_says names value t said))
change_says names Leave place value =
    leads_bind (IsNameOf names.firms value) (IsEditOf names Leave value) (firm_at names.firms place (Some value)) _
    (firm_says names.firms place value) (λ f said. leads_ok (IsEditOf names Leave value) (LeaveOf f) (refl, said))
change_says names Join place value =
    leads_bind (IsNameOf names.firms value) (IsEditOf names Join value) (firm_at names.firms place (Some value)) _
    (firm_says names.firms place value) (λ f said. leads_ok (IsEditOf names Join value) (JoinOf f) (refl, said))

edit_says : (names : NameLists) (k : ℕ) (entry : Data) → Leads (SaysEdit names entry) (edit_at names k entry)
unfolding edit_at
edit_says names k entry =
    leads_bind (λ two. entry ≡ array (item two.0 (item two.1 no_items))) (SaysEdit names entry)
    (two_at (edit_place k) entry) _ (two_says (edit_place k) entry) (λ two is.
    leads_bind (λ text. as_str two.0 ≡ Some text) (SaysEdit names entry)
    (text_at (edit_place k ++ Index 0 ∷ []) (Some two.0)) _
    (leads_wanted Shape (edit_place k ++ Index 0 ∷ []) (option_and_then as_str (Some two.0))) (λ text text_of.
    leads_bind (λ change. change_named text ≡ Some change) (SaysEdit names entry)
    (wanted Shape (edit_place k ++ Index 0 ∷ []) (change_named text)) _
    (leads_wanted Shape (edit_place k ++ Index 0 ∷ []) (change_named text)) (λ change named.
    leads_as (IsEditOf names change two.1) (SaysEdit names entry)
    (edit_of names change (edit_place k ++ Index 1 ∷ []) two.1) (λ edit said. record {
      word = two.0;
      reference = two.1;
      is = is;
      text = text_of ∙ ap Some (text_is text change named ∙ sym said.0);
      named = said.1;
    }) (change_says names change (edit_place k ++ Index 1 ∷ []) two.1))))

-- an edit of a list that reading has lengthened was there before, or is what an entry after those before it says
record IsLater (names : NameLists) (edits : List Edit) (entries : Items) (k : ℕ) (edit : Edit) : Type 0 where
  at : ℕ
  is : k ≡ length edits + at
  said : IsEditAt names entries at edit

abbrev IsLonger : NameLists → List Edit → Items → List Edit → Type 0
IsLonger names edits entries end = (k : ℕ) (edit : Edit) → slice_get end k ≡ Some edit → (slice_get edits k ≡ Some edit)
    ⊎ IsLater names edits entries k edit

one_more : (names : NameLists) (edits : List Edit) (last : Edit) (entry : Data) (entries : Items) (end : List Edit)
    → SaysEdit names entry last
    → IsLonger names (edits ++ last ∷ []) entries end → IsLonger names edits (item entry entries) end
one_more names edits last entry entries end says longer k edit there = elim (longer k edit there) [
  | inl now ↦ elim (push_cases edits last edit k now) [
    | inl before ↦ inl before
    | inr here ↦
        inr (record {
          at = 0;
          is = omega (arith, here.0);
          said =
              record { entry = entry; there = refl; says = subst (SaysEdit names entry) here.1 says };
        })
  ]
  | inr later ↦
      let more = length-append edits (last ∷ []) in
      let after = later.is in
      inr (record {
        at = suc later.at;
        is = omega (arith, after, more);
        said =
            record { entry = later.said.entry; there = later.said.there; says = later.said.says };
      })
]

edits_longer : (names : NameLists) (edits : List Edit) (entries : Items)
    → Leads (IsLonger names edits entries) (each (one_edit names) edits entries)
unfolding each one_edit
edits_longer names edits no_items = leads_ok (IsLonger names edits no_items) edits (λ k edit there. inl there)
edits_longer names edits (item entry entries) =
    leads_bind (λ next. (last : Edit) × SaysEdit names entry last
    × (next ≡ edits ++ last ∷ [])) (IsLonger names edits (item entry entries)) (one_edit names edits entry) _
    (leads_bind (SaysEdit names entry) (λ next. (last : Edit) × SaysEdit names entry last
    × (next ≡ edits ++ last ∷ [])) (edit_at names (length edits) entry) _ (edit_says names (length edits) entry)
    (λ last says.
    leads_ok (λ next. (last : Edit) × SaysEdit names entry last
    × (next ≡ edits ++ last ∷ [])) (edits ++ last ∷ []) (last, says, refl))) (λ next more.
    leads_as (IsLonger names next entries) (IsLonger names edits (item entry entries))
    (each (one_edit names) next entries)
    (λ end longer. one_more names edits more.0 entry entries end more.1
    (subst (λ (n : List Edit). IsLonger names n entries end) more.2 longer)) (edits_longer names next entries))

from_start : (names : NameLists) (entries : Items) (end : List Edit) → IsLonger names [] entries end
    → (k : ℕ) (edit : Edit) → slice_get end k ≡ Some edit → IsEditAt names entries k edit
from_start names entries end longer k edit there = elim (longer k edit there) [
  | inl before ↦ absurd (none-some edit before)
  | inr later ↦
      let is = later.is in
      let first : later.at ≡ k = omega (arith, is) in
      subst (λ n. IsEditAt names entries n edit) first later.said
]

edits_say : (listed : Listed) (top : Data) → Leads (SaysEdits listed.names top) (edits_of listed top)
unfolding edits_of few_at
edits_say listed top =
    let names = listed.names in
    let limit = listed.limits.edits in
    leads_bind (λ entries. option_and_then as_array (get (codes "edits") top) ≡ Some entries) (SaysEdits names top)
    (few_at limit (Key Edits ∷ []) (get (codes "edits") top)) _
    (leads_bind (λ entries. option_and_then as_array (get (codes "edits") top) ≡ Some entries)
    (λ entries. option_and_then as_array (get (codes "edits") top) ≡ Some entries)
    (list_at (Key Edits ∷ []) (get (codes "edits") top)) _
    (leads_wanted Shape (Key Edits ∷ []) (option_and_then as_array (get (codes "edits") top))) (λ entries are.
    leads_after (λ entries. option_and_then as_array (get (codes "edits") top) ≡ Some entries)
    (holds Limit (Key Edits ∷ []) (nat_le (items_len entries) limit)) _ (λ few.
    leads_ok (λ entries. option_and_then as_array (get (codes "edits") top) ≡ Some entries) entries are)))
    (λ entries are.
    leads_as (λ end. IsLonger names [] entries end × (length end ≡ 0 + items_len entries)) (SaysEdits names top)
    (each (one_edit names) [] entries)
    (λ end both. record {
      entries = entries;
      entries_are = are;
      count = both.1 ∙ omega arith;
      each =
          from_start names entries end both.0;
    })
    (leads_both (IsLonger names [] entries) (λ end. length end ≡ 0 + items_len entries)
    (each (one_edit names) [] entries) (edits_longer names [] entries)
    (leads_count length (one_edit names) (one_edit_counts names) [] entries)))

pub edits_have_their_entries : EditsHaveTheirEntries
edits_have_their_entries listed top edits e = (edits_say listed top).at edits e
