-- What the best counts of the signed units say of drops.
use Rattle.std.proofs.Common.{◌≡◌, ℕ, zero, suc, ◌+◌, ◌-◌, ◌<◌, ◌≤◌, ◌⊎◌, inl, inr, Bool, ◌==◌, if◌then◌else◌, List, [], ◌∷◌, ◌++◌, length, map, get_or, Option, Some, None, option_map, slice_get, refl, sym, ap, ap₂, ◌∙◌, subst, arith, ℤ, pos, ◌+ℤ◌, ◌-ℤ◌, ◌*ℤ◌}
use Rattle.std.specs.List.{range_with_len}
use Rattle.std.proofs.lemmas.Int.{ints}
use Rattle.std.proofs.lemmas.Bool.{cases_eq, cases_lt, eq-eqb, le-ltb, lt-ltb, ne_eqb}
use Rattle.std.proofs.lemmas.List.{get_or-append-add, get_or-map, get_or_append_left, get_or_past, length-append, length-map}
use Rattle.std.proofs.lemmas.List.FromFn.{get_or-map-range_with_len, length-map-range_with_len}
use Rattle.std.proofs.lemmas.Option.{get_or_from_slice_get, none-some, same_Some, slice_get-get_or}
use Rattle.std.proofs.Math.IntN.{*ℤ-one, *ℤ_comm}
use Rattle.tn_base.specs.Arcs.{IsAtMost}
use Rattle.tn_links.proofs.TotalLemmas.{total-same}
use Rattle.tn_counts.specs.Counts.{AreCounts, CountFirm, IsBestCount, count_utility, paid_to, trade_at}
use Rattle.tn_counts.specs.Laminar.{firm_of, firms_of}
use Rattle.tn_counts.specs.Outcomes.{HasEnd, IsRationalByCounts, all_signed, contract_at, joined, prices_beside, split_firms, split_trades, units_of}
use Rattle.tn_counts.specs.Widths.{most_unit_price}
use Rattle.tn_counts.specs.declared.contract.UnitContract.{UnitContract}
use Rattle.tn_counts.specs.declared.market.UnitMarket.{UnitMarket}
use Rattle.tn_counts.specs.declared.trade.UnitTrade.{UnitTrade}
use Rattle.tn_counts.proofs.BoundLemmas.{firm_there}
use Rattle.tn_counts.proofs.SurplusLemmas.{best_same, firm_at}
use Rattle.tn_tree.specs.declared.held.FirmCount.{FirmCount}
use Rattle.tn_tree.specs.Held.{IsHeldAt, gain_at, utility_at}
use Rattle.tn_tree.specs.Lists.{count_in, own_counts, price_in}
use Rattle.tn_tree.proofs.FirmLemmas.{AreSameFor, utility_own}
use Rattle.tn_unit_judge.specs.Split.{IsSplitMarket, signed_counts, signed_prices}
use Rattle.tn_unit_judge.specs.Verdict.{FindsGain, IsBestChoice, IsFirstDropByCounts, WouldDropUnits, choice_utility, kept_at}
use Rattle.tn_unit_judge.proofs.JoinLemmas.{AreKnown}
use Rattle.tn_unit_judge.proofs.SplitLemmas.{split_firm, split_free, split_signed, split_sized, utility_split}
use Rattle.tn_unit_judge.proofs.WideLemmas.{map_item}

-- ---- nothing is free

range_same : {A : Type 0} (f g : ℕ → A) (a n : ℕ) → ((t : ℕ) → a ≤ t → t < a + n → f t ≡ g t)
    → map f (range_with_len a n) ≡ map g (range_with_len a n)
range_same f g a zero same = refl
range_same f g a (suc n) same =
    ap₂ (λ x xs. x ∷ xs) (same a (omega arith) (omega arith))
    (range_same f g (a + 1) n (λ t least below. same t (omega (arith, least)) (omega (arith, below))))

pub split_same : (trades : List UnitTrade) (contracts : List UnitContract) (free others : ℕ → ℕ)
    → ((t : ℕ) → t < length trades → free t ≡ others t)
    → split_trades trades contracts free ≡ split_trades trades contracts others
split_same trades contracts free others same =
    ap (λ xs. map (λ contract. units_of trades contract.trade contract.units) contracts ++ xs)
    (range_same (λ t. units_of trades t (free t)) (λ t. units_of trades t (others t)) 0 (length trades)
    (λ t least below. ap (units_of trades t) (same t (omega (arith, below)))))

pub split_by : (market : UnitMarket) (over : ℕ) (contracts : List UnitContract) (free others : ℕ → ℕ) (split : UnitMarket)
    → ((t : ℕ) → t < length market.trades.items → free t ≡ others t) → IsSplitMarket market over contracts free split
    → IsSplitMarket market over contracts others split
split_by market over contracts free others split same is = record {
  firms = is.firms;
  trades = is.trades ∙ split_same market.trades.items contracts free others same;
  amounts = is.amounts;
  sets = is.sets;
}

-- ---- what is signed

pub count_at : (n : ℕ) (contracts : List UnitContract) (k : ℕ)
    → count_in (signed_counts n contracts) k ≡ all_signed contracts k
count_at n contracts k = elim (cases_lt k (length contracts)) [
  | inl signed ↦
      get_or_append_left (map (λ contract. contract.units) contracts) (map (λ t. 0) (range_with_len 0 n)) 0 k
      (omega (arith, signed, sized))
      ∙ get_or-map (λ contract. contract.units) contracts k (record { trade = 0; units = 0; price = pos 0 }) 0 signed
  | inr past ↦
      let none = ap (λ (c : UnitContract). c.units)
      (get_or_past contracts k (record { trade = 0; units = 0; price = pos 0 }) past) in
      rest past (cases_lt k (length contracts + n)) ∙ sym none
]
  where
    sized : length (map (λ (contract : UnitContract). contract.units) contracts) ≡ length contracts
    sized = length-map contracts (λ contract. contract.units)

    rest : length contracts ≤ k → (k < length contracts + n) ⊎ (length contracts + n ≤ k)
        → count_in (signed_counts n contracts) k ≡ 0
    rest past (inl below) =
        let j : ℕ = k - length contracts in
        let place : k ≡ length (map (λ (contract : UnitContract). contract.units) contracts) + j = omega (arith, past, sized) in
        ap (count_in (signed_counts n contracts)) place
        ∙ get_or-append-add (map (λ contract. contract.units) contracts) (map (λ t. 0) (range_with_len 0 n)) j 0
        ∙ get_or-map-range_with_len (λ t. 0) 0 n j j 0 (omega (arith, past, below)) (omega arith)
    rest past (inr beyond) =
        let sum = length-append (map (λ (contract : UnitContract). contract.units) contracts)
        (map (λ t. 0) (range_with_len 0 n)) in
        let more = length-map-range_with_len {X = ℕ} (λ t. 0) 0 n in
        get_or_past (signed_counts n contracts) k 0 (omega (arith, beyond, sum, more, sized))

pub price_at : (n : ℕ) (contracts : List UnitContract) (k : ℕ)
    → price_in (signed_prices n contracts) k ≡ prices_beside contracts (λ t. pos 0) k
price_at n contracts k = elim (cases_lt k (length contracts)) [
  | inl signed ↦
      get_or_append_left (map (λ contract. contract.price) contracts) (map (λ t. pos 0) (range_with_len 0 n)) (pos 0) k
      (omega (arith, signed, sized))
      ∙ get_or-map (λ contract. contract.price) contracts k (record { trade = 0; units = 0; price = pos 0 }) (pos 0) signed
      ∙ sym (ap (λ (b : Bool). if b then (contract_at contracts k).price else pos 0) (lt-ltb k (length contracts) signed))
  | inr past ↦
      rest past (cases_lt k (length contracts + n))
      ∙ sym (ap (λ (b : Bool). if b then (contract_at contracts k).price else pos 0) (le-ltb k (length contracts) past))
]
  where
    sized : length (map (λ (contract : UnitContract). contract.price) contracts) ≡ length contracts
    sized = length-map contracts (λ contract. contract.price)

    rest : length contracts ≤ k → (k < length contracts + n) ⊎ (length contracts + n ≤ k)
        → price_in (signed_prices n contracts) k ≡ pos 0
    rest past (inl below) =
        let j : ℕ = k - length contracts in
        let place : k ≡ length (map (λ (contract : UnitContract). contract.price) contracts) + j = omega (arith, past, sized) in
        ap (price_in (signed_prices n contracts)) place
        ∙ get_or-append-add (map (λ contract. contract.price) contracts) (map (λ t. pos 0) (range_with_len 0 n)) j (pos 0)
        ∙ get_or-map-range_with_len (λ t. pos 0) 0 n j j (pos 0) (omega (arith, past, below)) (omega arith)
    rest past (inr beyond) =
        let sum = length-append (map (λ (contract : UnitContract). contract.price) contracts)
        (map (λ t. pos 0) (range_with_len 0 n)) in
        let more = length-map-range_with_len {X = ℤ} (λ t. pos 0) 0 n in
        get_or_past (signed_prices n contracts) k (pos 0) (omega (arith, beyond, sum, more, sized))

same_most : (utility : Option ℤ) (most : ℤ) → option_map (λ value. most -ℤ value) utility ≡ Some (pos 0)
    → utility ≡ Some most
same_most None most is = absurd (none-some (pos 0) is)
same_most (Some value) most is =
    let none = same_Some (most -ℤ value) (pos 0) is in
    let same : value ≡ most = omega (arith, ints, none) in
    ap (λ (z : ℤ). Some z) same

module _ (market : UnitMarket) (over : ℕ) (contracts : List UnitContract) (split : UnitMarket)
    (known : AreKnown (length market.trades.items) contracts)
    (is : IsSplitMarket market over contracts (λ t. 0) split) where
  abbrev Choice : ℕ → (ℕ → ℕ) → ℤ → Type 0
  Choice f counts value =
      IsBestChoice market.trades.items (pos over) contracts f (split_firm market contracts f) counts value

  utility_to : (f : ℕ) (counts : ℕ → ℕ)
      → utility_at split.trades.items (signed_prices (length market.trades.items) contracts) f (firm_of split f) counts
      ≡ choice_utility market.trades.items (pos over) contracts f (split_firm market contracts f) counts
  utility_to f counts =
      let parts = split_trades market.trades.items contracts (λ t. 0) in
      let prices = signed_prices (length market.trades.items) contracts in
      let turned = *ℤ_comm (pos 1) (pos over) in
      let unit = *ℤ-one (pos over) in
      let one : pos 1 *ℤ pos over ≡ pos over = omega (arith, ints, turned, unit) in
      utility_split market over contracts (λ t. 0) split f (pos 1) (price_in prices) counts known is
      ∙ ap (λ (s : ℤ). count_utility parts s (price_in prices) f (split_firm market contracts f) counts) one
      ∙ ap (λ (z : ℤ). option_map (λ worth. pos over *ℤ worth +ℤ z) ((split_firm market contracts f).worth counts))
      (total-same (λ t. paid_to f (price_in prices t) (trade_at parts t) *ℤ pos (counts t))
      (λ t. paid_to f (prices_beside contracts (λ k. pos 0) t) (trade_at parts t) *ℤ pos (counts t)) (length parts)
      (λ t below. ap (λ (z : ℤ). paid_to f z (trade_at parts t) *ℤ pos (counts t))
      (price_at (length market.trades.items) contracts t)))

  choice_to : (f : ℕ) (counts : ℕ → ℕ) (value : ℤ)
      → IsBestCount split.trades.items (utility_at split.trades.items (signed_prices (length market.trades.items) contracts) f
      (firm_of split f)) counts value
      → Choice f counts value
  choice_to f counts value best = record {
    within = subst (λ ts. AreCounts ts counts) is.trades best.within;
    is = sym (utility_to f counts) ∙ best.is;
    most = λ others other inside has.
        best.most others other (subst (λ ts. AreCounts ts others) (sym is.trades) inside) (utility_to f others ∙ has);
  }

  pub content_best : (f : ℕ) (sold bought : List ℕ) (said : FirmCount)
      → AreCounts split.trades.items (count_in (signed_counts (length market.trades.items) contracts))
      → IsHeldAt split.trades.items f (firm_of split f) (signed_counts (length market.trades.items) contracts)
      (signed_prices (length market.trades.items) contracts) sold bought said
      → said.gain ≡ Some (pos 0) → (value : ℤ) × Choice f (all_signed contracts) value
  content_best f sold bought said within held content = (
    said.best,
    choice_to f (all_signed contracts) said.best
        (best_same split (pos 1) (price_in (signed_prices (length market.trades.items) contracts)) f
        (count_in (signed_counts (length market.trades.items) contracts)) (all_signed contracts) said.best
        (λ t below. count_at (length market.trades.items) contracts t) (record {
          within = within;
          is = sym held.utility_is ∙ same_most said.utility said.best (sym held.gain_is ∙ content);
          most = held.best_is.most;
        })),
  )

  module _ (f : ℕ) (sold bought keeps : List ℕ) (said : FirmCount)
      (held : IsHeldAt split.trades.items f (firm_of split f) (signed_counts (length market.trades.items) contracts)
      (signed_prices (length market.trades.items) contracts) sold bought said)
      (made : keeps ≡ map (kept_at split.trades.items sold bought f) (range_with_len 0 (length contracts))) where
    kept_long : length keeps ≡ length contracts
    kept_long = ap length made
        ∙ length-map-range_with_len (kept_at split.trades.items sold bought f) 0 (length contracts)

    kept_is : (k : ℕ) → k < length contracts → count_in keeps k ≡ kept_at split.trades.items sold bought f k
    kept_is k below =
        ap (λ xs. count_in xs k) made
        ∙ get_or-map-range_with_len (kept_at split.trades.items sold bought f) 0 (length contracts) k k 0 below (omega arith)

    kept_none : (k : ℕ) → length contracts ≤ k → count_in keeps k ≡ 0
    kept_none k past = get_or_past keeps k 0 (omega (arith, past, kept_long))

    -- what the firm keeps of an own trade is its best count, and nothing of another
    own_kept : (k : ℕ) → HasEnd f (trade_at split.trades.items k)
        → kept_at split.trades.items sold bought f k ≡ own_counts split.trades.items sold bought f k
    own_kept k ends = elim (cases_eq f (trade_at split.trades.items k).seller) [
      | inl same ↦
          let test = eq-eqb f (trade_at split.trades.items k).seller same in
          ap (λ (b : Bool). if b then count_in sold k else if f == (trade_at split.trades.items k).buyer
          then count_in bought k else 0) test
          ∙ sym (ap (λ (b : Bool). if b then count_in sold k else count_in bought k) test)
      | inr other ↦
          let test = ne_eqb f (trade_at split.trades.items k).seller other in
          let buys : f ≡ (trade_at split.trades.items k).buyer = elim ends [
            | inl sells ↦ absurd (other (sym sells))
            | inr buyer ↦ sym buyer
          ] in
          ap (λ (b : Bool). if b then count_in sold k else if f == (trade_at split.trades.items k).buyer
          then count_in bought k else 0) test
          ∙ ap (λ (b : Bool). if b then count_in bought k else 0)
          (eq-eqb f (trade_at split.trades.items k).buyer buys)
          ∙ sym (ap (λ (b : Bool). if b then count_in sold k else count_in bought k) test)
    ]

    other_kept : (k : ℕ) → (HasEnd f (trade_at split.trades.items k) → ⊥)
        → kept_at split.trades.items sold bought f k ≡ 0
    other_kept k none =
        ap₂ (λ (s : Bool) (b : Bool). if s then count_in sold k else if b then count_in bought k else 0)
        (ne_eqb f (trade_at split.trades.items k).seller (λ e. none (inl (sym e))))
        (ne_eqb f (trade_at split.trades.items k).buyer (λ e. none (inr (sym e))))

    own_none : (k : ℕ) → length contracts ≤ k → k < length split.trades.items
        → own_counts split.trades.items sold bought f k ≡ 0
    own_none k past below =
        let j : ℕ = k - length contracts in
        let long = ap length is.trades ∙ split_sized market.trades.items contracts (λ t. 0) in
        let place : k ≡ length contracts + j = omega (arith, past) in
        let units = ap (λ (ts : List UnitTrade). (trade_at ts k).units) is.trades
        ∙ ap (λ (i : ℕ). (trade_at (split_trades market.trades.items contracts (λ t. 0)) i).units) place
        ∙ ap (λ (p : UnitTrade). p.units) (split_free market.trades.items contracts (λ t. 0) j
        (omega (arith, past, below, long))) in
        let most = held.best_is.within k below in
        omega (arith, most, units)

    keeps_own : AreSameFor split.trades.items f (own_counts split.trades.items sold bought f) (count_in keeps)
    keeps_own k below ends = elim (cases_lt k (length contracts)) [
      | inl signed ↦ sym (own_kept k ends) ∙ sym (kept_is k signed)
      | inr past ↦ own_none k past below ∙ sym (kept_none k past)
    ]

    has_end : (g : ℕ) (trade : UnitTrade) → HasEnd g trade ⊎ (HasEnd g trade → ⊥)
    has_end g trade = elim (cases_eq trade.seller g) [
      | inl sells ↦ inl (inl sells)
      | inr other ↦ elim (cases_eq trade.buyer g) [
        | inl buys ↦ inl (inr buys)
        | inr none ↦ inr (λ ends. elim ends [
          | inl sells ↦ other sells
          | inr buys ↦ none buys
        ])
      ]
    ]

    keeps_within : AreCounts split.trades.items (count_in keeps)
    keeps_within k below = elim (has_end f (trade_at split.trades.items k)) [
      | inl ends ↦
          let same = keeps_own k below ends in
          let most = held.best_is.within k below in
          omega (arith, same, most)
      | inr none ↦ elim (cases_lt k (length contracts)) [
        | inl signed ↦ let zero_is = kept_is k signed ∙ other_kept k none in omega (arith, zero_is)
        | inr past ↦ let zero_is = kept_none k past in omega (arith, zero_is)
      ]
    ]

    own_utility : said.utility ≡ choice_utility market.trades.items (pos over) contracts f (split_firm market contracts f)
        (all_signed contracts)
    own_utility =
        held.utility_is
        ∙ utility_own split (pos 1) (price_in (signed_prices (length market.trades.items) contracts)) f
        (count_in (signed_counts (length market.trades.items) contracts)) (all_signed contracts)
        (λ t below ends. count_at (length market.trades.items) contracts t)
        ∙ utility_to f (all_signed contracts)

    pub would_drop : (said.gain ≡ Some (pos 0) → ⊥)
        → WouldDropUnits market.trades.items (pos over) contracts f (split_firm market contracts f) keeps said.gain
    would_drop gains = record {
      fails = λ value best.
          let own = choice_to f (own_counts split.trades.items sold bought f) said.best held.best_is in
          let first = best.most (own_counts split.trades.items sold bought f) said.best own.within own.is in
          let second = own.most (all_signed contracts) value best.within best.is in
          let none : said.best -ℤ value ≡ pos 0 = omega (arith, ints, first, second) in
          gains (held.gain_is ∙ ap (option_map (λ utility. said.best -ℤ utility)) (own_utility ∙ best.is)
          ∙ ap (λ (z : ℤ). Some z) none);
      one_each = kept_long;
      value = said.best;
      choice = choice_to f (count_in keeps) said.best (record {
        within = keeps_within;
        is = sym (utility_own split (pos 1) (price_in (signed_prices (length market.trades.items) contracts)) f
            (own_counts split.trades.items sold bought f) (count_in keeps) keeps_own) ∙ held.best_is.is;
        most = held.best_is.most;
      });
      gains = held.gain_is ∙ ap (option_map (λ utility. said.best -ℤ utility)) own_utility;
      others = λ k below none. kept_is k below
          ∙ other_kept k (λ ends. none (subst (λ (ts : List UnitTrade). HasEnd f (trade_at ts k)) is.trades ends));
    }

-- ---- the firms of the definitions

pub firm_split : (market : UnitMarket) (contracts : List UnitContract) (f : ℕ) (firm : CountFirm)
    → slice_get (split_firms contracts (firms_of market)) f ≡ Some firm
    → (f < market.firms) × (firm ≡ split_firm market contracts f)
firm_split market contracts f firm at =
    let found = map_item (λ (one : CountFirm). record { worth = λ counts. one.worth (joined contracts counts) })
    (firms_of market) f firm at in
    let own = firm_at market f found.0 found.1 in (
      own.0,
      sym found.2
          ∙ ap (λ (one : CountFirm). record { worth = λ counts. one.worth (joined contracts counts) }) own.1,
    )

map_there : {A B : Type 0} (f : A → B) (xs : List A) (k : ℕ) (x : A) → slice_get xs k ≡ Some x
    → slice_get (map f xs) k ≡ Some (f x)
map_there f [] k x at = absurd (none-some x at)
map_there f (y ∷ xs) zero x at = ap (λ z. Some (f z)) (same_Some y x at)
map_there f (y ∷ xs) (suc k) x at = map_there f xs k x at

pub split_there : (market : UnitMarket) (contracts : List UnitContract) (f : ℕ) → f < market.firms
    → slice_get (split_firms contracts (firms_of market)) f ≡ Some (split_firm market contracts f)
split_there market contracts f below =
    map_there (λ (one : CountFirm). record { worth = λ counts. one.worth (joined contracts counts) }) (firms_of market) f
    (firm_of market f) (firm_there market f below)

-- ---- what is found

pub prices_small : (n : ℕ) (contracts : List UnitContract)
    → ((k : ℕ) (contract : UnitContract) → slice_get contracts k ≡ Some contract → IsAtMost contract.price most_unit_price)
    → (k : ℕ) → IsAtMost (price_in (signed_prices n contracts) k) most_unit_price
prices_small n contracts small k = elim (cases_lt k (length contracts)) [
  | inl signed ↦
      let own = small k (contract_at contracts k)
      (slice_get-get_or contracts k (record { trade = 0; units = 0; price = pos 0 }) signed) in
      let same = price_at n contracts k
      ∙ ap (λ (b : Bool). if b then (contract_at contracts k).price else pos 0) (lt-ltb k (length contracts) signed) in
      record { low = omega (arith, ints, own.low, same); high = omega (arith, ints, own.high, same) }
  | inr past ↦
      let same = price_at n contracts k
      ∙ ap (λ (b : Bool). if b then (contract_at contracts k).price else pos 0) (le-ltb k (length contracts) past) in
      record { low = omega (arith, ints, same); high = omega (arith, ints, same) }
]

-- what is signed is within the split network, whatever is free
pub signed_fit : (market : UnitMarket) (over : ℕ) (contracts : List UnitContract) (free : ℕ → ℕ) (split : UnitMarket)
    → IsSplitMarket market over contracts free split
    → AreCounts split.trades.items (count_in (signed_counts (length market.trades.items) contracts))
signed_fit market over contracts free split is k below =
    let count = count_at (length market.trades.items) contracts k in
    elim (cases_lt k (length contracts)) [
      | inl signed ↦
          let units = ap (λ (ts : List UnitTrade). (trade_at ts k).units) is.trades
          ∙ ap (λ (p : UnitTrade). p.units) (split_signed market.trades.items contracts free k signed) in
          omega (arith, count, units)
      | inr past ↦
          let none = ap (λ (c : UnitContract). c.units)
          (get_or_past contracts k (record { trade = 0; units = 0; price = pos 0 }) past) in
          omega (arith, count, none)
    ]

module _ (market : UnitMarket) (over : ℕ) (contracts : List UnitContract) (split : UnitMarket)
    (known : AreKnown (length market.trades.items) contracts)
    (is : IsSplitMarket market over contracts (λ t. 0) split) where
  pub signed_within : AreCounts split.trades.items (count_in (signed_counts (length market.trades.items) contracts))
  signed_within = signed_fit market over contracts (λ t. 0) split is

  module _ (firms : List FirmCount) (sold bought : List ℕ) (long : length firms ≡ split.firms)
      (held : (f : ℕ) (said : FirmCount) → slice_get firms f ≡ Some said
      → IsHeldAt split.trades.items f (firm_of split f) (signed_counts (length market.trades.items) contracts)
      (signed_prices (length market.trades.items) contracts) sold bought said) where
    said_at : ℕ → FirmCount
    said_at g = get_or firms g (record { worth = None; utility = None; best = pos 0; gain = None })

    content : (g : ℕ) (firm : CountFirm) → slice_get (split_firms contracts (firms_of market)) g ≡ Some firm
        → gain_at firms g ≡ Some (pos 0)
        → (value : ℤ) × IsBestChoice market.trades.items (pos over) contracts g firm (all_signed contracts) value
    unfolding said_at
    content g firm at none =
        let found = firm_split market contracts g firm at in
        let below = found.0 in
        let same = is.firms in
        let there = slice_get-get_or firms g (record { worth = None; utility = None; best = pos 0; gain = None })
        (omega (arith, below, same, long)) in
        let best = content_best market over contracts split known is g sold bought (said_at g) signed_within
        (held g (said_at g) there) none in (
          best.0,
          subst (λ (one : CountFirm). IsBestChoice market.trades.items (pos over) contracts g one (all_signed contracts)
              best.0) (sym found.1) best.1,
        )

    pub drop_is : (f : ℕ) (said : FirmCount) (keeps : List ℕ) → FindsGain firms (Some f) → slice_get firms f ≡ Some said
        → keeps ≡ map (kept_at split.trades.items sold bought f) (range_with_len 0 (length contracts))
        → IsFirstDropByCounts (firms_of market) market.trades.items (pos over) contracts f keeps said.gain
    drop_is f said keeps found at made =
        let inside = found.0 in
        let same = is.firms in
        let read = get_or_from_slice_get firms f said (record { worth = None; utility = None; best = pos 0; gain = None }) at in
        record {
          before = λ g firm earlier there. content g firm there (found.2 g earlier);
          firm = split_firm market contracts f;
          is = split_there market contracts f (omega (arith, inside, same, long));
          drops = would_drop market over contracts split known is f sold bought keeps said (held f said at) made
              (λ none. found.1 (ap (λ (one : FirmCount). one.gain) read ∙ none));
        }

    pub none_is : FindsGain firms None → IsRationalByCounts (firms_of market) market.trades.items (pos over) contracts
    none_is found g firm at =
        let below = (firm_split market contracts g firm at).0 in
        let same = is.firms in
        content g firm at (found g (omega (arith, below, same, long)))
