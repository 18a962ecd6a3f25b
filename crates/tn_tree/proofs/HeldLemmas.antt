-- What is said of firms is so.
use Rattle.std.proofs.Common.{◌≡◌, ◌≢◌, ℕ, zero, suc, ◌*◌, ◌<◌, ◌≤◌, ◌⊎◌, Bool, if◌then◌else◌, List, [], ◌∷◌, length, map, get_or, Option, Some, None, option_map, slice_get, refl, sym, ap, ◌∙◌, arith, inl, inr, ℤ, pos, ◌+ℤ◌, ◌-ℤ◌, ◌*ℤ◌}
use Rattle.std.specs.Prelude.{unwrap_or}
use Rattle.std.specs.List.{range_with_len}
use Rattle.std.proofs.lemmas.Int.{ints}
use Rattle.std.proofs.lemmas.Bool.{cases_eq, cases_lt, eq-eqb, ne_eqb}
use Rattle.std.proofs.lemmas.List.{get_or_past}
use Rattle.std.proofs.lemmas.Option.{get_or_from_slice_get, none-some, same_Some, slice_get-get_or, slice_get_within}
use Rattle.std.proofs.Math.IntN.{negsuc, *ℤ_comm}
use Rattle.tn_base.specs.Arcs.{IsAtMost}
use Rattle.tn_links.specs.declared.link.Link.{Link}
use Rattle.tn_counts.specs.Widths.{most_unit_price}
use Rattle.tn_counts.specs.Counts.{AreCounts, CountFirm, IsBestCount, IsEquilibriumByCounts, trade_at}
use Rattle.tn_counts.specs.Laminar.{amounts_at, firm_of, firms_of}
use Rattle.tn_counts.specs.Markets.{IsWideMarket}
use Rattle.tn_counts.specs.Outcomes.{HasEnd}
use Rattle.tn_counts.specs.Tree.{AreLinksOf}
use Rattle.tn_counts.specs.declared.market.Pin.{Pin}
use Rattle.tn_counts.specs.declared.market.UnitMarket.{UnitMarket}
use Rattle.tn_counts.specs.declared.trade.UnitAmounts.{UnitAmounts}
use Rattle.tn_counts.specs.declared.trade.UnitTrade.{UnitTrade}
use Rattle.tn_counts.proofs.NetLemmas.{between_at}
use Rattle.tn_counts.proofs.SurplusLemmas.{firm_at}
use Rattle.tn_counts.proofs.WelfareLemmas.{has_worth}
use Rattle.tn_tree.specs.declared.held.FirmCount.{FirmCount}
use Rattle.tn_tree.specs.Held.{AreKept, AreSmallValues, AreValues, IsHeldAt, IsKept, firm_count, gain_at, utility_at}
use Rattle.tn_tree.specs.Lists.{count_in, own_counts, price_in, rate_of}
use Rattle.tn_tree.specs.Nets.{HaveTree, most_count_worth, most_paid}
use Rattle.tn_tree.proofs.FirmLemmas.{AreSameFor, paid_amounts, utility_own, worth_own}
use Rattle.tn_tree.proofs.KeptLemmas.{own_all}
use Rattle.tn_tree.proofs.NetLemmas.{times_unit}
use Rattle.tn_tree.proofs.SolveLemmas.{read_at, sized_by}

-- whether a firm gains nothing
decides : (gain : Option ℤ) → (gain ≡ Some (pos 0)) ⊎ (gain ≡ Some (pos 0) → ⊥)
decides None = inr (λ e. none-some (pos 0) e)
decides (Some (pos zero)) = inl refl
decides (Some (pos (suc n))) = inr (λ e. let same = same_Some (pos (suc n)) (pos 0) e in omega (arith, ints, same))
decides (Some (negsuc n)) = inr (λ e. let same = same_Some (negsuc n) (pos 0) e in omega (arith, ints, same))

-- what is read of a firm's own count of a trade
own_sold : (trades : List UnitTrade) (sold bought : List ℕ) (f t : ℕ) → f ≡ (trade_at trades t).seller
    → own_counts trades sold bought f t ≡ count_in sold t
own_sold trades sold bought f t same =
    ap (λ (b : Bool). if b then count_in sold t else count_in bought t) (eq-eqb f (trade_at trades t).seller same)

own_bought : (trades : List UnitTrade) (sold bought : List ℕ) (f t : ℕ) → f ≢ (trade_at trades t).seller
    → own_counts trades sold bought f t ≡ count_in bought t
own_bought trades sold bought f t other =
    ap (λ (b : Bool). if b then count_in sold t else count_in bought t) (ne_eqb f (trade_at trades t).seller other)

-- kept counts of a firm are those of one of two lists at each of its trades
kept_for : (trades : List UnitTrade) (firms : List FirmCount) (counts sold bought kept_sold kept_bought : List ℕ) (f : ℕ)
    → AreKept trades firms counts sold bought kept_sold kept_bought
    → (gain_at firms f ≡ Some (pos 0) → AreSameFor trades f (own_counts trades kept_sold kept_bought f) (count_in counts))
    × ((gain_at firms f ≡ Some (pos 0) → ⊥)
    → AreSameFor trades f (own_counts trades kept_sold kept_bought f) (own_counts trades sold bought f))
kept_for trades firms counts sold bought kept_sold kept_bought f kept = (
  λ content t below ends. elim (cases_eq f (trade_at trades t).seller) [
    | inl same ↦
        own_sold trades kept_sold kept_bought f t same
        ∙ (kept.sellers t below).content (ap (gain_at firms) (sym same) ∙ content)
    | inr other ↦
        own_bought trades kept_sold kept_bought f t other
        ∙ (kept.buyers t below).content (ap (gain_at firms) (buyer f t other ends) ∙ content)
  ],
  λ not_content t below ends. elim (cases_eq f (trade_at trades t).seller) [
    | inl same ↦
        own_sold trades kept_sold kept_bought f t same
        ∙ (kept.sellers t below).other (λ e. not_content (ap (gain_at firms) same ∙ e))
        ∙ sym (own_sold trades sold bought f t same)
    | inr other ↦
        own_bought trades kept_sold kept_bought f t other
        ∙ (kept.buyers t below).other (λ e. not_content (sym (ap (gain_at firms) (buyer f t other ends)) ∙ e))
        ∙ sym (own_bought trades sold bought f t other)
  ],
)
  where
    buyer : (g t : ℕ) → g ≢ (trade_at trades t).seller → HasEnd g (trade_at trades t) → (trade_at trades t).buyer ≡ g
    buyer g t other (inl same) = absurd (other (sym same))
    buyer g t other (inr same) = same

-- and they are within the units
kept_within : (trades : List UnitTrade) (firms : List FirmCount) (counts sold bought kept_sold kept_bought : List ℕ) (f : ℕ)
    → AreKept trades firms counts sold bought kept_sold kept_bought → AreCounts trades (count_in counts)
    → AreCounts trades (count_in sold) → AreCounts trades (count_in bought)
    → AreCounts trades (own_counts trades kept_sold kept_bought f)
kept_within trades firms counts sold bought kept_sold kept_bought f kept within few fewer t below =
    elim (cases_eq f (trade_at trades t).seller) [
      | inl same ↦
          let own = own_sold trades kept_sold kept_bought f t same in
          let most = one (gain_at firms (trade_at trades t).seller) (count_in counts t) (count_in sold t) (count_in kept_sold t)
          (trade_at trades t).units (kept.sellers t below) (within t below) (few t below) in
          omega (arith, own, most)
      | inr other ↦
          let own = own_bought trades kept_sold kept_bought f t other in
          let most = one (gain_at firms (trade_at trades t).buyer) (count_in counts t) (count_in bought t)
          (count_in kept_bought t) (trade_at trades t).units (kept.buyers t below) (within t below) (fewer t below) in
          omega (arith, own, most)
    ]
  where
    one : (gain : Option ℤ) (own best now units : ℕ) → IsKept gain own best now → own ≤ units → best ≤ units → now ≤ units
    one gain own best now units is first second = elim (decides gain) [
      | inl content ↦ let same = is.content content in omega (arith, same, first)
      | inr other ↦ let same = is.other other in omega (arith, same, second)
    ]

abbrev pub ArePaid : List UnitTrade → List UnitAmounts → List ℤ → Type 0
ArePaid trades rates prices = (t : ℕ) → t < length trades
    → ((amounts_at rates t).seller ≡ price_in prices t) × ((amounts_at rates t).buyer ≡ pos 0 -ℤ price_in prices t)

utility_read : (market : UnitMarket) (rates : List UnitAmounts) (prices : List ℤ) (sold bought : List ℕ)
    (worths utilities : List (Option ℤ)) (f : ℕ) → f < market.firms → ArePaid market.trades.items rates prices
    → AreValues market rates sold bought worths utilities
    → get_or utilities f None
    ≡ utility_at market.trades.items prices f (firm_of market f) (own_counts market.trades.items sold bought f)
utility_read market rates prices sold bought worths utilities f below paid values =
    values.utilities_are f below
    ∙ ap (λ (z : ℤ). option_map (λ value. pos 1 *ℤ value +ℤ z)
    ((firm_of market f).worth (own_counts market.trades.items sold bought f)))
    (paid_amounts market.trades.items rates (price_in prices) f (own_counts market.trades.items sold bought f) paid)

-- a firm that gains nothing has the most
no_gain : (utility : Option ℤ) (most : ℤ) → option_map (λ value. most -ℤ value) utility ≡ Some (pos 0)
    → utility ≡ Some most
no_gain None most is = absurd (none-some (pos 0) is)
no_gain (Some value) most is =
    let none = same_Some (most -ℤ value) (pos 0) is in
    let same : value ≡ most = omega (arith, ints, none) in
    ap Some same

pub held_is : (market : UnitMarket) (counts : List ℕ) (prices : List ℤ) (rates : List UnitAmounts) (sold bought : List ℕ)
    (kept_sold kept_bought : List ℕ) (worths utilities bests : List (Option ℤ)) (others : List (Option ℤ))
    (firms : List FirmCount) (f : ℕ) → f < market.firms → AreCounts market.trades.items (count_in counts)
    → AreCounts market.trades.items (count_in sold) → AreCounts market.trades.items (count_in bought)
    → ArePaid market.trades.items rates prices → AreValues market rates counts counts worths utilities
    → AreValues market rates sold bought others bests
    → ((value : ℤ) × IsBestCount market.trades.items (utility_at market.trades.items prices f (firm_of market f))
    (own_counts market.trades.items sold bought f) value)
    → AreKept market.trades.items firms counts sold bought kept_sold kept_bought
    → gain_at firms f ≡ (firm_count (get_or worths f None) (get_or utilities f None) (get_or bests f None)).gain
    → IsHeldAt market.trades.items f (firm_of market f) counts prices kept_sold kept_bought
    (firm_count (get_or worths f None) (get_or utilities f None) (get_or bests f None))
held_is market counts prices rates sold bought kept_sold kept_bought worths utilities bests others firms f below within few fewer
    paid values best_values best kept gain =
    let trades = market.trades.items in
    let firm = firm_of market f in
    let all = own_all market counts f in
    let own_worth : get_or worths f None ≡ firm.worth (count_in counts) =
    values.worths_are f below
    ∙ sym (worth_own market f (count_in counts) (own_counts trades counts counts f) (λ t inside ends. all t)) in
    let own_utility : get_or utilities f None ≡ utility_at trades prices f firm (count_in counts) =
    utility_read market rates prices counts counts worths utilities f below paid values
    ∙ sym (utility_own market (pos 1) (price_in prices) f (count_in counts) (own_counts trades counts counts f)
    (λ t inside ends. all t)) in
    let best_utility = utility_read market rates prices sold bought others bests f below paid best_values in
    let some = best_utility ∙ best.1.is in
    let value_is : unwrap_or (get_or bests f None) (pos 0) ≡ best.0 = ap (λ (o : Option ℤ). unwrap_or o (pos 0)) some in
    let parts = kept_for trades firms counts sold bought kept_sold kept_bought f kept in
    record {
      worth_is = own_worth;
      utility_is = own_utility;
      best_is = record {
        within = kept_within trades firms counts sold bought kept_sold kept_bought f kept within few fewer;
        is = elim (decides (gain_at firms f)) [
          | inl content ↦
              utility_own market (pos 1) (price_in prices) f (own_counts trades kept_sold kept_bought f) (count_in counts)
              (parts.0 content) ∙ sym own_utility
              ∙ no_gain (get_or utilities f None) (unwrap_or (get_or bests f None) (pos 0)) (sym gain ∙ content)
          | inr other ↦
              utility_own market (pos 1) (price_in prices) f (own_counts trades kept_sold kept_bought f)
              (own_counts trades sold bought f) (parts.1 other) ∙ best.1.is ∙ ap Some (sym value_is)
        ];
        most = λ those other inside is.
            let most = best.1.most those other inside is in omega (arith, ints, most, value_is);
      };
      gain_is = refl;
      own = λ content t inside ends. parts.0 (gain ∙ content) t inside ends;
    }

-- ---- where no firm gains

-- counts from which no firm gains are an equilibrium
pub all_content : (market : UnitMarket) (counts : List ℕ) (prices : List ℤ) (sold bought : List ℕ) (firms : List FirmCount)
    → AreCounts market.trades.items (count_in counts) → length firms ≡ market.firms
    → ((f : ℕ) (said : FirmCount) → slice_get firms f ≡ Some said
    → IsHeldAt market.trades.items f (firm_of market f) counts prices sold bought said × (said.gain ≡ Some (pos 0)))
    → IsEquilibriumByCounts (firms_of market) market.trades.items (pos 1) (count_in counts) (price_in prices)
all_content market counts prices sold bought firms within sized all f firm at =
    let found = firm_at market f firm at in
    let below = found.0 in
    let said = get_or firms f (record { worth = None; utility = None; best = pos 0; gain = None }) in
    let there = slice_get-get_or firms f (record { worth = None; utility = None; best = pos 0; gain = None })
    (omega (arith, below, sized)) in
    let held = (all f said there).0 in
    let content = (all f said there).1 in
    let best = held.best_is in (
      said.best,
      record {
        within = within;
        is = ap (λ (one : CountFirm). utility_at market.trades.items prices f one (count_in counts)) found.1
            ∙ sym held.utility_is ∙ no_gain said.utility said.best (sym held.gain_is ∙ content);
        most = λ those other inside is. best.most those other inside
            (sym (ap (λ (one : CountFirm). utility_at market.trades.items prices f one those) found.1) ∙ is);
      },
    )

-- ---- lists

pub ends_read : (end : UnitTrade → ℕ) (trades : List UnitTrade) (t : ℕ)
    → end (record { seller = 0; buyer = 0; units = 0 }) ≡ 0 → get_or (map end trades) t 0 ≡ end (trade_at trades t)
ends_read end [] t none = sym none
ends_read end (trade ∷ trades) zero none = refl
ends_read end (trade ∷ trades) (suc t) none = ends_read end trades t none

-- what values of a list are at most
pub utilities_small : (worths : List (Option ℤ)) (paid : List ℤ) (utilities : List (Option ℤ)) (n : ℕ)
    → utilities ≡ map (λ f. option_map (λ value. pos 1 *ℤ value +ℤ get_or paid f (pos 0)) (get_or worths f None))
    (range_with_len 0 n)
    → ((f : ℕ) (value : ℤ) → get_or worths f None ≡ Some value → IsAtMost value most_count_worth)
    → ((f : ℕ) → IsAtMost (get_or paid f (pos 0)) most_paid) → AreSmallValues utilities
utilities_small worths paid utilities n made small_worths small_paid f value is = elim (cases_lt f n) [
  | inl below ↦
      let read = read_at (λ f. option_map (λ value. pos 1 *ℤ value +ℤ get_or paid f (pos 0)) (get_or worths f None))
      utilities n f None made below in
      let has = has_worth (pos 1) (get_or paid f (pos 0)) (get_or worths f None) value (read ∙ is) in
      let worth = small_worths f has.worth has.is in
      let pays = small_paid f in
      let turned = *ℤ_comm (pos 1) has.worth in
      let unit = times_unit has.worth in
      let sum = has.value_is in
      record {
        low = omega (arith, ints, worth.low, pays.low, turned, unit, sum);
        high = omega (arith, ints, worth.high, pays.high, turned, unit, sum);
      }
  | inr past ↦
      let long = sized_by (λ f. option_map (λ value. pos 1 *ℤ value +ℤ get_or paid f (pos 0)) (get_or worths f None))
      utilities n n made refl in
      absurd (none-some value (sym (get_or_past utilities f None (omega (arith, long, past))) ∙ is))
]

-- prices as amounts
pub rates_slight : (prices : List ℤ) (rates : List UnitAmounts) → rates ≡ map (rate_of prices) (range_with_len 0 (length prices))
    → ((t : ℕ) → t < length prices → IsAtMost (price_in prices t) most_unit_price) → (t : ℕ) (each : UnitAmounts)
    → slice_get rates t ≡ Some each → IsAtMost each.seller most_unit_price × IsAtMost each.buyer most_unit_price
rates_slight prices rates made small t each at =
    let long = sized_by (rate_of prices) rates (length prices) (length prices) made refl in
    let inside = slice_get_within rates t each at in
    let below : t < length prices = omega (arith, inside, long) in
    let read = read_at (rate_of prices) rates (length prices) t each made below in
    let same : rate_of prices t ≡ each = read ∙ get_or_from_slice_get rates t each each at in
    let own = small t below in
    let seller = ap (λ (r : UnitAmounts). r.seller) same in
    let buyer = ap (λ (r : UnitAmounts). r.buyer) same in (
      record { low = omega (arith, ints, own.low, seller); high = omega (arith, ints, own.high, seller) },
      record { low = omega (arith, ints, own.high, buyer); high = omega (arith, ints, own.low, buyer) },
    )

pub rates_paid : (trades : List UnitTrade) (prices : List ℤ) (rates : List UnitAmounts)
    → rates ≡ map (rate_of prices) (range_with_len 0 (length prices)) → length prices ≡ length trades
    → ArePaid trades rates prices
rates_paid trades prices rates made sized t below =
    let read = read_at (rate_of prices) rates (length prices) t (record { seller = pos 0; buyer = pos 0 }) made
    (omega (arith, below, sized)) in
    (sym (ap (λ (r : UnitAmounts). r.seller) read), sym (ap (λ (r : UnitAmounts). r.buyer) read))

-- best counts are within the units
pub best_within : (market : UnitMarket) (prices : List ℤ) (sold bought : List ℕ) → IsWideMarket market
    → ((f : ℕ) → f < market.firms → (value : ℤ)
    × IsBestCount market.trades.items (utility_at market.trades.items prices f (firm_of market f))
    (own_counts market.trades.items sold bought f) value)
    → AreCounts market.trades.items (count_in sold) × AreCounts market.trades.items (count_in bought)
best_within market prices sold bought is best = (
  λ t below.
      let known = between_at market is t below in
      let own = (best (trade_at market.trades.items t).seller known.seller).1.within t below in
      let same = own_sold market.trades.items sold bought (trade_at market.trades.items t).seller t refl in
      omega (arith, own, same),
  λ t below.
      let known = between_at market is t below in
      let own = (best (trade_at market.trades.items t).buyer known.buyer).1.within t below in
      let same = own_bought market.trades.items sold bought (trade_at market.trades.items t).buyer t
      (λ e. known.apart (sym e)) in
      omega (arith, own, same),
)

pub tree_of : (market : UnitMarket) (pins : List Pin) (links : List Link) → AreLinksOf market pins links
    → HaveTree market links
tree_of market pins links of = record { sets = of.sets; sellers = of.sellers; buyers = of.buyers }

-- a firm that was said
pub said_is : (worths utilities bests : List (Option ℤ)) (firms : List FirmCount) (n f : ℕ)
    → firms ≡ map (λ f. firm_count (get_or worths f None) (get_or utilities f None) (get_or bests f None)) (range_with_len 0 n)
    → f < n → (said : FirmCount) → slice_get firms f ≡ Some said
    → firm_count (get_or worths f None) (get_or utilities f None) (get_or bests f None) ≡ said
said_is worths utilities bests firms n f made below said at =
    read_at (λ f. firm_count (get_or worths f None) (get_or utilities f None) (get_or bests f None)) firms n f said made below
    ∙ get_or_from_slice_get firms f said said at

pub gain_is : (worths utilities bests : List (Option ℤ)) (firms : List FirmCount) (n f : ℕ)
    → firms ≡ map (λ f. firm_count (get_or worths f None) (get_or utilities f None) (get_or bests f None)) (range_with_len 0 n)
    → f < n
    → gain_at firms f ≡ (firm_count (get_or worths f None) (get_or utilities f None) (get_or bests f None)).gain
gain_is worths utilities bests firms n f made below =
    sym (ap (λ (said : FirmCount). said.gain)
    (read_at (λ f. firm_count (get_or worths f None) (get_or utilities f None) (get_or bests f None)) firms n f
    (record { worth = None; utility = None; best = pos 0; gain = None }) made below))

-- what is paid is small
pub paid_small : (z read : ℤ) {sum : ℤ} → z ≡ read → read ≡ sum → IsAtMost sum (1048576 * most_unit_price) → IsAtMost z most_paid
paid_small z read first second small = record {
  low = omega (arith, ints, first, second, small.low);
  high = omega (arith, ints, first, second, small.high);
}

-- what is said of firms, by lists that were read
abbrev pub said_by : List (Option ℤ) → List (Option ℤ) → List (Option ℤ) → List FirmCount
said_by worths utilities bests =
    map (λ f. firm_count (get_or worths f None) (get_or utilities f None) (get_or bests f None))
    (range_with_len 0 (length worths))

pub remade : (a b c d e g : List (Option ℤ)) (firms : List FirmCount) → a ≡ d → b ≡ e → c ≡ g → firms ≡ said_by a b c
    → firms ≡ said_by d e g
remade a b c d e g firms first second third made =
    made ∙ ap (λ (x : List (Option ℤ)). said_by x b c) first ∙ ap (λ (y : List (Option ℤ)). said_by d y c) second
    ∙ ap (λ (z : List (Option ℤ)). said_by d e z) third
