-- What the entries of a list say, against the prices that reading puts to their trades.
use Rattle.std.proofs.Common.{◌≡◌, ℕ, zero, suc, ◌<◌, ℤ, pos, true, false, List, [], ◌∷◌, ◌++◌, length, Option, Some, inl, inr, ◌⊎◌, refl, sym, ap, subst, ◌∙◌, arith, true≢false}
use Rattle.std.specs.Prelude.{◌↔◌, Contains, not, nat_le, option_and_then, replicate, slice_set, unsigned_abs}
use Rattle.std.proofs.lemmas.Bool.{cases_eq}
use Rattle.std.proofs.lemmas.List.{get_or-set_other, get_or-set_same, length-replicate, length-set}
use Rattle.std.proofs.lemmas.List.Elements.{All-contains}
use Rattle.std.proofs.lemmas.Option.{none-some, same_Some, slice_get_within}
use Rattle.serde_json.specs.Data.{Data, null, boolean, number, string, array, object, Items, no_items, item}
use Rattle.serde_json.specs.Find.{as_array, as_i64, as_number, as_str, get_item}
use Rattle.tn_base.specs.Sets.{has, size, toggle}
use Rattle.tn_base.proofs.SetLemmas.{has-toggle_other, has-toggle_same, has-zero}
use Rattle.tn_said.specs.declared.fault.FaultKind.TheVariants.{AmountRange, SameTrade, Shape, UnknownTrade}
use Rattle.tn_model.specs.declared.contract.Contract.{Contract}
use Rattle.tn_said.specs.declared.place.PlaceStep.{PlaceStep}
use Rattle.tn_said.specs.declared.place.PlaceStep.TheVariants.{Index}
use Rattle.tn_model.specs.Prices.{price_at}
use Rattle.tn_model.specs.Choices.{contracts_of}
use Rattle.tn_model.proofs.ContractLemmas.{contracts_are, contracts_have}
use Rattle.tn_names.specs.Names.{number_of}
use Rattle.tn_names.proofs.NameLemmas.{name_at_number}
use Rattle.tn_read_shapes.specs.Reading.{each, holds, wanted}
use Rattle.tn_read_shapes.specs.Shapes.{list_at, number_at, number_in, text_at, two_at, two_of, whole_at}
use Rattle.tn_read_shapes.proofs.LeadLemmas.{Leads, is_true_not, leads_after, leads_as, leads_bind, leads_holds, leads_ok, leads_wanted}
use Rattle.tn_read_references.specs.References.{new_trade, trade_at}
use Rattle.tn_read_references.specs.Entries.{Numbered, entry_of, one_entry}
use Rattle.tn_read_parts.specs.Laws.{IsSaid, IsNameOf, SaysContract}
use Rattle.tn_read_parts.specs.Lists.{contracts_at, named_prices, one_price}

-- ---- the shapes

array_is : (value : Data) (items : Items) → as_array value ≡ Some items → value ≡ array items
array_is (array found) items e = ap array (same_Some found items e)
array_is null items e = absurd (none-some items e)
array_is (boolean b) items e = absurd (none-some items e)
array_is (number n) items e = absurd (none-some items e)
array_is (string s) items e = absurd (none-some items e)
array_is (object ms) items e = absurd (none-some items e)

two_is : (items : Items) (two : Data × Data) → two_of items ≡ Some two → items ≡ item two.0 (item two.1 no_items)
two_is no_items two e = absurd (none-some two e)
two_is (item d no_items) two e = absurd (none-some two e)
two_is (item d (item f no_items)) two e = let same = same_Some {A = Data × Data} (d, f) two e in
    ap (λ (p : Data × Data). item p.0 (item p.1 no_items)) same
two_is (item d (item f (item g more))) two e = absurd (none-some two e)

pub two_says : (place : List PlaceStep) (value : Data)
    → Leads (λ two. value ≡ array (item two.0 (item two.1 no_items))) (two_at place value)
unfolding two_at
two_says place value =
    leads_bind (λ items. as_array value ≡ Some items) (λ two. value ≡ array (item two.0 (item two.1 no_items)))
    (list_at place (Some value)) _ (leads_wanted Shape place (option_and_then as_array (Some value))) (λ items is.
    leads_as (λ two. two_of items ≡ Some two) (λ two. value ≡ array (item two.0 (item two.1 no_items)))
    (wanted Shape place (two_of items)) (λ two e. array_is value items is ∙ ap array (two_is items two e))
    (leads_wanted Shape place (two_of items)))

number_says : (limit : ℕ) (place : List PlaceStep) (value : Data)
    → Leads (λ z. option_and_then as_i64 (as_number value) ≡ Some z) (number_at limit place value)
unfolding number_in
number_says limit place value =
    leads_bind (λ z. option_and_then as_i64 (as_number value) ≡ Some z) (λ z. option_and_then as_i64 (as_number value)
    ≡ Some z) (whole_at place (Some value)) _ (leads_wanted Shape place (option_and_then as_i64 (as_number value)))
    (λ z is.
    leads_after (λ z. option_and_then as_i64 (as_number value) ≡ Some z)
    (holds AmountRange place (nat_le (unsigned_abs z) limit)) _ (λ small.
    leads_ok (λ z. option_and_then as_i64 (as_number value) ≡ Some z) z is))

pub trade_says : (trades : List (List ℕ)) (place : List PlaceStep) (value : Data)
    → Leads (IsNameOf trades value) (trade_at trades place value)
unfolding trade_at
trade_says trades place value =
    leads_bind (λ name. as_str value ≡ Some name) (IsNameOf trades value) (text_at place (Some value)) _
    (leads_wanted Shape place (option_and_then as_str (Some value))) (λ name is.
    leads_as (λ t. number_of trades name ≡ Some t) (IsNameOf trades value)
    (wanted UnknownTrade place (number_of trades name)) (λ t known. record { name = name; is = is; known = known })
    (leads_wanted UnknownTrade place (number_of trades name)))

-- ---- one entry

-- what an entry says that reading gives after the trades of a set
record IsNext (trades : List (List ℕ)) (named : ℕ) (entry : Data) (next : ℕ × ℤ) : Type 0 where
  says : SaysContract trades entry (record { trade = next.0; price = next.1 })
  new : has named next.0 ≡ false

pub record IsNewTrade (trades : List (List ℕ)) (named : ℕ) (value : Data) (t : ℕ) : Type 0 where
  pub names : IsNameOf trades value t
  pub new : has named t ≡ false

pub new_trade_says : (trades : List (List ℕ)) (place : List PlaceStep) (named : ℕ) (value : Data)
    → Leads (IsNewTrade trades named value) (new_trade trades place named value)
unfolding new_trade
new_trade_says trades place named value =
    leads_bind (IsNameOf trades value) (IsNewTrade trades named value) (trade_at trades place value) _
    (trade_says trades place value) (λ t names.
    leads_bind (λ _. not (has named t) ≡ true) (IsNewTrade trades named value)
    (holds SameTrade place (not (has named t))) _ (leads_holds SameTrade place (not (has named t))) (λ u new.
    leads_ok (IsNewTrade trades named value) t (record { names = names; new = is_true_not (has named t) new })))

entry_says : (trades : List (List ℕ)) (place : List PlaceStep) (limit named : ℕ) (entry : Data)
    → Leads (IsNext trades named entry) (entry_of (new_trade trades) place limit named entry)
unfolding entry_of
entry_says trades place limit named entry =
    leads_bind (λ two. entry ≡ array (item two.0 (item two.1 no_items))) (IsNext trades named entry)
    (two_at (place ++ Index (size named) ∷ []) entry) _ (two_says (place ++ Index (size named) ∷ []) entry)
    (λ two is.
    leads_bind (IsNewTrade trades named two.0) (IsNext trades named entry)
    (new_trade trades (place ++ Index (size named) ∷ Index 0 ∷ []) named two.0) _
    (new_trade_says trades (place ++ Index (size named) ∷ Index 0 ∷ []) named two.0) (λ t trade.
    leads_bind (λ z. option_and_then as_i64 (as_number two.1) ≡ Some z) (IsNext trades named entry)
    (number_at limit (place ++ Index (size named) ∷ Index 1 ∷ []) two.1) _
    (number_says limit (place ++ Index (size named) ∷ Index 1 ∷ []) two.1) (λ z price.
    leads_ok (IsNext trades named entry) (t, z) (record {
      says = record { reference = two.0; numerator = two.1; is = is; trade = trade.names; price = price };
      new = trade.new;
    }))))

-- reading puts the contract of an entry to the prices, on a trade that has none yet
record Adds (trades : List (List ℕ)) (priced : Numbered) (entry : Data) (next : Numbered) : Type 0 where
  contract : Contract
  says : SaysContract trades entry contract
  new : has priced.named contract.trade ≡ false
  is : next ≡ record {
    named = toggle priced.named contract.trade;
    numbers =
        slice_set priced.numbers contract.trade contract.price;
  }

step_adds : (trades : List (List ℕ)) (place : List PlaceStep) (limit : ℕ) (priced : Numbered) (entry : Data)
    → Leads (Adds trades priced entry) (one_price trades place limit priced entry)
unfolding one_entry
step_adds trades place limit priced entry =
    leads_bind (IsNext trades priced.named entry) (Adds trades priced entry)
    (entry_of (new_trade trades) place limit priced.named entry) _
    (entry_says trades place limit priced.named entry) (λ next is.
    leads_ok (Adds trades priced entry) (record {
      named = toggle priced.named next.0;
      numbers =
          slice_set priced.numbers next.0 next.1;
    }) (record {
      contract = record { trade = next.0; price = next.1 };
      says = is.says;
      new = is.new;
      is = refl;
    }))

-- an entry says one contract alone
said_once : (trades : List (List ℕ)) (entry : Data) (one other : Contract) → SaysContract trades entry one
    → SaysContract trades entry other → one ≡ other
said_once trades entry one other first second =
    let parts : ◌≡◌ {A = Option (Data × Data)} (Some (first.reference, first.numerator))
    (Some (second.reference, second.numerator)) =
    ap (λ d. option_and_then two_of (as_array d)) (sym first.is ∙ second.is) in
    let same = same_Some {A = Data × Data} (first.reference, first.numerator) (second.reference, second.numerator) parts
    in
    let name : first.trade.name ≡ second.trade.name =
    same_Some first.trade.name second.trade.name (sym first.trade.is ∙ ap (λ (p : Data × Data). as_str p.0) same
    ∙ second.trade.is) in
    let trade : one.trade ≡ other.trade =
    same_Some one.trade other.trade (sym first.trade.known ∙ ap (number_of trades) name ∙ second.trade.known) in
    let price : one.price ≡ other.price =
    same_Some one.price other.price (sym first.price ∙ ap (λ (p : Data
    × Data). option_and_then as_i64 (as_number p.1)) same ∙ second.price) in
    λ i. record { trade = trade i; price = price i }

-- ---- all entries

-- the prices have this contract
pub record IsPriced (priced : Numbered) (contract : Contract) : Type 0 where
  pub there : has priced.named contract.trade ≡ true
  pub price : price_at priced.numbers contract.trade ≡ contract.price

pub said_below : (trades : List (List ℕ)) (entry : Data) (contract : Contract) → SaysContract trades entry contract
    → contract.trade < length trades
said_below trades entry contract says =
    slice_get_within trades contract.trade says.trade.name
    (name_at_number trades says.trade.name contract.trade says.trade.known)

module _ (trades : List (List ℕ)) (priced : Numbered) (entry : Data) (counted : length priced.numbers
    ≡ length trades) where
  -- the prices with one more contract
  abbrev with_one : Contract → Numbered
  with_one added = record {
    named = toggle priced.named added.trade;
    numbers =
        slice_set priced.numbers added.trade added.price;
  }

  one_priced : (added contract : Contract) → SaysContract trades entry added → IsPriced (with_one added) contract
      → IsPriced priced contract ⊎ SaysContract trades entry contract
  one_priced added contract says is = elim (cases_eq contract.trade added.trade) [
    | inl same ↦
        let below = said_below trades entry added says in
        let price : added.price ≡ contract.price =
        sym (get_or-set_same priced.numbers added.trade added.price (pos 0) (omega (arith, counted, below)))
        ∙ ap (price_at (slice_set priced.numbers added.trade added.price)) (sym same) ∙ is.price in
        let one : added ≡ contract = λ i. record { trade = sym same i; price = price i } in
        inr (subst (SaysContract trades entry) one says)
    | inr other ↦ inl (record {
      there = sym (has-toggle_other priced.named added.trade contract.trade other) ∙ is.there;
      price = sym (get_or-set_other priced.numbers added.trade contract.trade added.price (pos 0) other) ∙ is.price;
    })
  ]

  still_priced : (added contract : Contract) → has priced.named added.trade ≡ false → IsPriced priced contract
      → IsPriced (with_one added) contract
  still_priced added contract new is =
      let other = λ (same : contract.trade ≡ added.trade). true≢false (sym is.there ∙ ap (has priced.named) same ∙ new)
      in record {
        there = has-toggle_other priced.named added.trade contract.trade other ∙ is.there;
        price = get_or-set_other priced.numbers added.trade contract.trade added.price (pos 0) other ∙ is.price;
      }

  now_priced : (added : Contract) → has priced.named added.trade ≡ false → SaysContract trades entry added
      → IsPriced (with_one added) added
  now_priced added new says =
      let below = said_below trades entry added says in record {
        there = has-toggle_same priced.named added.trade ∙ ap not new;
        price = get_or-set_same priced.numbers added.trade added.price (pos 0) (omega (arith, counted, below));
      }

  adds_priced : (next : Numbered) (contract : Contract) → Adds trades priced entry next → IsPriced next contract
      ↔ (IsPriced priced contract ⊎ SaysContract trades entry contract)
  adds_priced next contract adds = (
    λ is. one_priced adds.contract contract adds.says (subst (λ (n : Numbered). IsPriced n contract) adds.is is),
    λ from. subst (λ (n : Numbered). IsPriced n contract) (sym adds.is) (elim from [
      | inl before ↦ still_priced adds.contract contract adds.new before
      | inr says ↦
          subst (IsPriced (with_one adds.contract)) (said_once trades entry adds.contract contract adds.says says)
          (now_priced adds.contract adds.new adds.says)
    ]),
  )

-- what is said by the first of some entries or by those after it
said_cases : (trades : List (List ℕ)) (entry : Data) (entries : Items) (contract : Contract)
    → IsSaid trades (item entry entries) contract → SaysContract trades entry contract ⊎ IsSaid trades entries contract
said_cases trades entry entries contract said = by_index said.at said.there
  where
    by_index : (at : ℕ) → get_item at (item entry entries) ≡ Some said.entry → SaysContract trades entry contract
        ⊎ IsSaid trades entries contract
    by_index zero there =
        inl (subst (λ d. SaysContract trades d contract) (sym (same_Some entry said.entry there)) said.says)
    by_index (suc at) there = inr (record { at = at; entry = said.entry; there = there; says = said.says })

none_said : (trades : List (List ℕ)) (contract : Contract) → IsSaid trades no_items contract → ⊥
none_said trades contract said = none-some said.entry said.there

-- the prices at the end have the contracts that they had before and those that the entries say
priced_by : (trades : List (List ℕ)) (place : List PlaceStep) (limit : ℕ) (priced : Numbered) (entries : Items)
    → length priced.numbers ≡ length trades
    → Leads (λ end. (contract : Contract) → IsPriced end contract
    ↔ (IsPriced priced contract ⊎ IsSaid trades entries contract))
    (each (one_price trades place limit) priced entries)
unfolding each
priced_by trades place limit priced no_items counted =
    leads_ok (λ end. (contract : Contract) → IsPriced end contract
    ↔ (IsPriced priced contract ⊎ IsSaid trades no_items contract)) priced (λ contract. (
      λ is. inl is,
      λ from. elim from [ inl is ↦ is | inr said ↦ absurd (none_said trades contract said) ],
    ))
priced_by trades place limit priced (item entry entries) counted =
    leads_bind (Adds trades priced entry) (λ end. (contract : Contract) → IsPriced end contract
    ↔ (IsPriced priced contract ⊎ IsSaid trades (item entry entries) contract))
    (one_price trades place limit priced entry) _ (step_adds trades place limit priced entry) (λ next adds.
    leads_as (λ end. (contract : Contract) → IsPriced end contract
    ↔ (IsPriced next contract ⊎ IsSaid trades entries contract)) _
    (each (one_price trades place limit) next entries) (λ end later contract. (
      λ is. elim ((later contract).0 is) [
        | inl now ↦ elim ((adds_priced trades priced entry counted next contract adds).0 now) [
          | inl before ↦ inl before
          | inr says ↦ inr (record { at = 0; entry = entry; there = refl; says = says })
        ]
        | inr said ↦ inr (record { at = suc said.at; entry = said.entry; there = said.there; says = said.says })
      ],
      λ from. (later contract).1 (elim from [
        | inl before ↦ inl ((adds_priced trades priced entry counted next contract adds).1 (inl before))
        | inr said ↦ elim (said_cases trades entry entries contract said) [
          | inl says ↦ inl ((adds_priced trades priced entry counted next contract adds).1 (inr says))
          | inr after ↦ inr after
        ]
      ]),
    )) (priced_by trades place limit next entries (ap (λ (n : Numbered). length n.numbers) adds.is
    ∙ length-set priced.numbers adds.contract.trade adds.contract.price ∙ counted)))

-- ---- the contracts

-- exactly what the entries say
abbrev pub AreSaid : List (List ℕ) → Items → List Contract → Type 0
AreSaid trades entries contracts = (contract : Contract) → Contains contracts contract ↔ IsSaid trades entries contract

nothing_priced : (numbers : List ℤ) (contract : Contract) → IsPriced (record { named = 0; numbers = numbers }) contract
    → ⊥
nothing_priced numbers contract is = true≢false (sym is.there ∙ has-zero contract.trade)

-- the prices that the entries of a list give are exactly what they say
pub named_said : (trades : List (List ℕ)) (place : List PlaceStep) (limit : ℕ) (entries : Items)
    → Leads (λ end. (contract : Contract) → IsPriced end contract
    ↔ IsSaid trades entries contract) (named_prices trades place limit entries)
unfolding named_prices
named_said trades place limit entries =
    let start : Numbered = record { named = 0; numbers = replicate (length trades) (pos 0) } in
    leads_as (λ end. (contract : Contract) → IsPriced end contract
    ↔ (IsPriced start contract ⊎ IsSaid trades entries contract)) (λ end. (contract : Contract)
    → IsPriced end contract ↔ IsSaid trades entries contract) (each (one_price trades place limit) start entries)
    (λ end priced contract. (
      λ is. elim ((priced contract).0 is) [
        | inl before ↦
            absurd (nothing_priced start.numbers contract before)
        | inr said ↦ said
      ],
      λ said. (priced contract).1 (inr said),
    )) (priced_by trades place limit start entries (length-replicate (length trades) (pos 0)))

pub contracts_said : (trades : List (List ℕ)) (place : List PlaceStep) (limit : ℕ) (entries : Items)
    → Leads (AreSaid trades entries) (contracts_at trades place limit entries)
unfolding contracts_at
contracts_said trades place limit entries =
    leads_bind (λ end. (contract : Contract) → IsPriced end contract
    ↔ IsSaid trades entries contract) (AreSaid trades entries) (named_prices trades place limit entries) _
    (named_said trades place limit entries) (λ end priced.
    leads_ok (AreSaid trades entries) (contracts_of end.named (price_at end.numbers) (length trades)) (λ contract. (
      λ listed. (priced contract).0 (All-contains (IsPriced end)
          (contracts_of end.named (price_at end.numbers) (length trades)) contract
          (contracts_are end.named (price_at end.numbers) (IsPriced end) (length trades)
          (λ t below there. record { there = there; price = refl })) listed),
      λ said.
          let is = (priced contract).1 said in
          let same : record { trade = contract.trade; price = price_at end.numbers contract.trade } ≡ contract =
          λ i. record { trade = contract.trade; price = is.price i } in
          subst (Contains (contracts_of end.named (price_at end.numbers) (length trades))) same
          (contracts_have end.named (price_at end.numbers) (length trades) contract.trade
          (said_below trades said.entry contract said.says) is.there),
    )))
