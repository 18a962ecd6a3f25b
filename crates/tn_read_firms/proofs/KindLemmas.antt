-- What holds of a firm that was read, whatever its kind.
use Rattle.std.proofs.Common.{◌≡◌, ℕ, ◌+◌, ◌*◌, ◌^◌, ◌≤◌, Bool, true, false, List, [], ◌∷◌, length, Option, Some, None, refl, sym, ◌∙◌, subst, arith, ◌<◌, cond, mul-le-mul_right}
use Rattle.std.specs.Prelude.{map, ℤ, pos, nat_eq, All}
use Rattle.std.proofs.lemmas.Int.{ints}
use Rattle.std.proofs.lemmas.List.Elements.{All-head, All-tail}
use Rattle.std.proofs.lemmas.Option.{none-some, same_Some}
use Rattle.tn_base.specs.Arcs.{IsAtMost}
use Rattle.tn_base.specs.Widths.{most_amount}
use Rattle.tn_base.specs.Firm.{Firm, HasOwnBundles, MayAbstain}
use Rattle.tn_base.specs.Table.{buys_of, row_of, table_firm, worth_by_row}
use Rattle.tn_base.proofs.TableLemmas.{buys_of_within}
use Rattle.tn_base.specs.declared.side.Side.{Side}
use Rattle.tn_laminar.specs.declared.set.LaminarSet.{LaminarSet}
use Rattle.tn_laminar.specs.Masked.{masks_of}
use Rattle.tn_laminar.specs.Sum.{laminar_firm}
use Rattle.tn_laminar.specs.LawLemmas.{laminar_sum_laws}
use Rattle.tn_laminar.specs.WithinLemmas.{laminar_within}
use Rattle.tn_middle.specs.SetLemmas.{meets}
use Rattle.tn_middle.specs.LawLemmas.{pairing-empty}
use Rattle.tn_middle.specs.WithinLemmas.{middle_within}
use Rattle.tn_market.specs.Lawful.{IsLawful}
use Rattle.tn_market.specs.Valued.{IsWorthAtMost}
use Rattle.tn_base.specs.Exchange.{MeetsExchange}
use Rattle.tn_model.specs.Limits.{AreLimits, most_own_trades, most_worth_of_any, worth_limit}
use Rattle.tn_model.specs.declared.ends.Ends.{Ends}
use Rattle.tn_model.specs.declared.limits.Limits.{Limits}
use Rattle.tn_read_references.proofs.EntryLeads.{all_within, within_more}
use Rattle.tn_read_references.specs.Ordered.{sides_of}
use Rattle.tn_dealer.specs.Pairs.{dealer_firm}
use Rattle.tn_dealer.specs.WithinLemmas.{dealer_within}
use Rattle.tn_dealer.specs.WorthLemmas.{own_pairs, matched_exchange, matched_empty}
use Rattle.tn_read_firms.specs.Laws.{IsDealerFirm, IsLaminarFirm, IsMiddlemanFirm, IsListedFirm, dealer, laminar, middleman, table}
use Rattle.std.proofs.lemmas.Bool.{eqb-true}
use Rattle.std.proofs.lemmas.Nat.{pow_pos}
use Rattle.tn_exchange.specs.RowsLaw.{AreApart}
use Rattle.tn_read_firms.proofs.RoomLemmas.{sets_room}

-- laminar firms, middlemen and dealers meet exchange by what they are
pub laminar_is_lawful : (limits : Limits) → AreLimits limits → (trades : List Ends) (f : ℕ) (firm : Firm)
    (is : IsLaminarFirm limits trades f firm)
    → IsLawful most_worth_of_any (laminar_firm (sides_of trades f) is.amounts is.sets)
laminar_is_lawful limits are trades f firm is =
    let sides = sides_of trades f in
    laminar_sum_laws (length sides) (buys_of sides) is.amounts is.sets
    (map (λ (set : LaminarSet). masks_of (buys_of sides) set.members) is.sets) (record {
      few = omega (arith, is.few, are.own);
      bought = buys_of_within sides;
      as_many = is.as_many;
      small = all_within limits.amount most_amount is.amounts are.amount is.small;
      few_sets = omega (arith, is.few_sets, are.sets);
      own = is.own;
      numbered = sets_room limits are is.sets is.numbered;
      sound = is.sound;
      masked = refl;
    })

pub laminar_meets : (limits : Limits) → AreLimits limits → (trades : List Ends) (f : ℕ) (firm : Firm)
    → IsLaminarFirm limits trades f firm → MeetsExchange firm
laminar_meets limits are trades f firm is =
    let laws = laminar_is_lawful limits are trades f firm is in
    subst MeetsExchange (sym is.is) (record { one = laws.exchange_one; net_count = laws.exchange_net })

pub middleman_meets : (limits : Limits) (trades : List Ends) (f : ℕ) (firm : Firm)
    → IsMiddlemanFirm limits trades f firm → MeetsExchange firm
middleman_meets limits trades f firm is =
    let sides = sides_of trades f in
    subst MeetsExchange (sym is.is) (meets (length sides) (buys_of sides) is.numbers is.keep (buys_of_within sides)).1

dealer_keeps : (limits : Limits) (trades : List Ends) (f : ℕ) (firm : Firm) (is : IsDealerFirm limits trades f firm)
    → HasOwnBundles (dealer_firm (sides_of trades f) is.pairs)
    × MeetsExchange (dealer_firm (sides_of trades f) is.pairs)
dealer_keeps limits trades f firm is =
    let sides = sides_of trades f in
    matched_exchange (length sides) (buys_of sides) is.pairs (own_pairs (length sides) (buys_of sides) is.pairs is.own)

pub dealer_meets : (limits : Limits) (trades : List Ends) (f : ℕ) (firm : Firm) → IsDealerFirm limits trades f firm
    → MeetsExchange firm
dealer_meets limits trades f firm is = subst MeetsExchange (sym is.is) (dealer_keeps limits trades f firm is).1

-- only bundles of own positions have a row
row_own : (n : ℕ) (rows : List (ℕ × ℤ)) → AreApart n rows → (x : ℕ) (a : ℤ) → row_of rows x ≡ Some a → x < 2 ^ n
row_own n [] apart x a is = absurd (none-some a is)
row_own n (row ∷ rows) apart x a is = by_test (nat_eq row.0 x) refl is (row_own n rows apart.2 x a)
  where
    by_test : (b : Bool) → nat_eq row.0 x ≡ b → cond b (Some row.1) (row_of rows x) ≡ Some a
        → (row_of rows x ≡ Some a → x < 2 ^ n) → x < 2 ^ n
    by_test true same found rest = subst (λ k. k < 2 ^ n) (eqb-true row.0 x same) apart.0
    by_test false differ found rest = rest found

table_own_bundles : (sides : List Side) (rows : List (ℕ × ℤ)) → AreApart (length sides) rows
    → HasOwnBundles (table_firm sides rows)
table_own_bundles sides rows apart x a is = by_row (row_of rows x) refl is
  where
    by_row : (row : Option ℤ) → row_of rows x ≡ row → worth_by_row row x ≡ Some a → x < 2 ^ length sides
    by_row (Some amount) there found = row_own (length sides) rows apart x amount there
    by_row None there found = by_test (nat_eq x 0) refl found
      where
        by_test : (b : Bool) → nat_eq x 0 ≡ b → cond b (Some (pos 0)) None ≡ Some a → x < 2 ^ length sides
        by_test true empty found = subst (λ k. k < 2 ^ length sides) (sym (eqb-true x 0 empty)) (pow_pos (length sides))
        by_test false full found = absurd (none-some a found)

-- no worth of a table is above what bounds its rows
row_within : (amount : ℕ) (rows : List (ℕ × ℤ)) → All (λ row. IsAtMost row.1 amount) rows → (x : ℕ) (a : ℤ)
    → row_of rows x ≡ Some a → IsAtMost a amount
row_within amount [] small x a is = absurd (none-some a is)
row_within amount (row ∷ rows) small x a is =
    by_test (nat_eq row.0 x) is (row_within amount rows (All-tail (λ r. IsAtMost r.1 amount) row rows small) x a)
  where
    by_test : (b : Bool) → cond b (Some row.1) (row_of rows x) ≡ Some a
        → (row_of rows x ≡ Some a → IsAtMost a amount) → IsAtMost a amount
    by_test true found rest =
        subst (λ z. IsAtMost z amount) (same_Some row.1 a found) (All-head (λ r. IsAtMost r.1 amount) row rows small)
    by_test false found rest = rest found

pub table_within : (amount : ℕ) (sides : List Side) (rows : List (ℕ × ℤ)) → All (λ row. IsAtMost row.1 amount) rows
    → IsWorthAtMost amount (table_firm sides rows)
table_within amount sides rows small x a is = by_row (row_of rows x) refl is
  where
    by_row : (row : Option ℤ) → row_of rows x ≡ row → worth_by_row row x ≡ Some a → IsAtMost a amount
    by_row (Some number) there found = row_within amount rows small x a (there ∙ found)
    by_row None there found = by_test (nat_eq x 0) found
      where
        by_test : (b : Bool) → cond b (Some (pos 0)) None ≡ Some a → IsAtMost a amount
        by_test true found = subst (λ z. IsAtMost z amount) (same_Some (pos 0) a found)
            (record { low = omega (arith, ints); high = omega (arith, ints) })
        by_test false found = absurd (none-some a found)

-- the empty bundle is possible
table_may_abstain : (sides : List Side) (rows : List (ℕ × ℤ)) → MayAbstain (table_firm sides rows)
table_may_abstain sides rows = by_row (row_of rows 0)
  where
    by_row : (row : Option ℤ) → (a : ℤ) × (worth_by_row row 0 ≡ Some a)
    by_row (Some amount) = (amount, refl)
    by_row None = (pos 0, refl)

-- what holds whatever the kind
module _ (limits : Limits) (are : AreLimits limits) (trades : List Ends) (f : ℕ) (firm : Firm) where
  -- only bundles of own positions have a worth
  pub listed_own_bundles : IsListedFirm limits trades f firm → HasOwnBundles firm
  listed_own_bundles (table is) =
      subst HasOwnBundles (sym is.is) (table_own_bundles (sides_of trades f) is.rows is.apart)
  listed_own_bundles (laminar is) =
      subst HasOwnBundles (sym is.is) (laminar_is_lawful limits are trades f firm is).own_bundles
  listed_own_bundles (middleman is) =
      subst HasOwnBundles (sym is.is) (meets (length (sides_of trades f)) (buys_of (sides_of trades f)) is.numbers
      is.keep (buys_of_within (sides_of trades f))).0
  listed_own_bundles (dealer is) = subst HasOwnBundles (sym is.is) (dealer_keeps limits trades f firm is).0

  pub listed_may_abstain : IsListedFirm limits trades f firm → MayAbstain firm
  listed_may_abstain (table is) = subst MayAbstain (sym is.is) (table_may_abstain (sides_of trades f) is.rows)
  listed_may_abstain (laminar is) =
      subst MayAbstain (sym is.is) (laminar_is_lawful limits are trades f firm is).empty_is_possible
  listed_may_abstain (middleman is) =
      subst MayAbstain (sym is.is) (
        pos 0,
        pairing-empty (length (sides_of trades f)) (buys_of (sides_of trades f))
            is.numbers is.keep,
      )
  listed_may_abstain (dealer is) = subst MayAbstain (sym is.is) (pos 0, matched_empty is.pairs)

  -- there are few own trades
  pub listed_few_own : IsListedFirm limits trades f firm → length (sides_of trades f) ≤ most_own_trades
  listed_few_own (table is) = omega (arith, is.few, are.own_of_table)
  listed_few_own (laminar is) = omega (arith, is.few, are.own)
  listed_few_own (middleman is) = omega (arith, is.few, are.own)
  listed_few_own (dealer is) = omega (arith, is.few, are.own)

  product : (n : ℕ) → n ≤ limits.own + limits.sets → n * limits.amount ≤ worth_limit limits
  product n few = mul-le-mul_right limits.amount few

  worth_within : (worth : ℕ) → worth ≤ worth_limit limits → IsWorthAtMost worth firm
      → IsWorthAtMost (worth_limit limits) firm
  worth_within worth less small = λ x a e. within_more a worth (worth_limit limits) less (small x a e)

  -- no worth is above the limit of the version
  pub listed_worths : 1 ≤ limits.sets → IsListedFirm limits trades f firm → IsWorthAtMost (worth_limit limits) firm
  listed_worths some (table is) =
      worth_within limits.amount (omega (arith, product 1 (omega (arith, some)))) is.small
  listed_worths some (laminar is) =
      let n = length (sides_of trades f) + length is.sets in
      worth_within (n * limits.amount) (product n (omega (arith, is.few, is.few_sets)))
      (subst (IsWorthAtMost (n * limits.amount)) (sym is.is) (laminar_within (sides_of trades f) is.amounts is.sets
      limits.amount is.as_many is.small (λ k d below. (is.numbered k d below).small)))
  listed_worths some (middleman is) =
      let n = length (sides_of trades f) + 1 in
      worth_within (n * limits.amount) (product n (omega (arith, is.few, some)))
      (subst (IsWorthAtMost (n * limits.amount)) (sym is.is) (middle_within (sides_of trades f) is.numbers is.keep
      limits.amount is.as_many is.small is.small_keep))
  listed_worths some (dealer is) =
      let n = length (sides_of trades f) in
      worth_within (n * limits.amount) (product n (omega (arith, is.few)))
      (subst (IsWorthAtMost (n * limits.amount)) (sym is.is) (dealer_within (sides_of trades f) is.pairs limits.amount
      is.own is.small))
