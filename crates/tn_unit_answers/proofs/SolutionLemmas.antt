-- An equilibrium of a document's market is one of the firms that the document writes.
use Rattle.std.proofs.Common.{◌≡◌, ℕ, suc, ◌^◌, ◌<◌, List, [], ◌∷◌, length, map, slice_get, Some, refl, sym, ap, subst, ◌∙◌, arith, ℤ, pos}
use Rattle.std.specs.Prelude.{All}
use Rattle.std.proofs.lemmas.Int.{ints}
use Rattle.std.proofs.lemmas.List.Elements.{All-from_get_or, All-get_or}
use Rattle.tn_base.specs.Arcs.{IsAtMost}
use Rattle.tn_model.specs.declared.ends.Ends.{Ends}
use Rattle.tn_answer.specs.Kept.{IsWithinClaim}
use Rattle.tn_counts.specs.Counts.{AreCounts, CountFirm, HaveFirms, IsEquilibriumByCounts, count_surplus, trade_at}
use Rattle.tn_counts.specs.Laminar.{firm_of, firms_of}
use Rattle.tn_counts.specs.Widths.{most_unit_surplus}
use Rattle.tn_counts.specs.declared.market.UnitMarket.{UnitMarket}
use Rattle.tn_counts.specs.declared.trade.UnitTrade.{UnitTrade}
use Rattle.tn_counts.proofs.WelfareLemmas.{equilibria_efficient}
use Rattle.tn_read_units.specs.Documents.{IsUnitDocument}
use Rattle.tn_read_units.specs.Firms.{UnitDocument, WrittenFirm}
use Rattle.tn_read_units.specs.Laws.{HasItsWorths}
use Rattle.tn_read_units.specs.Trades.{IsUnitTrade}
use Rattle.tn_read_units.specs.Worths.{firms_from, written_firms}
use Rattle.tn_read_units.proofs.SameLemmas.{same_market}
use Rattle.tn_tree.specs.Lists.{count_in, price_in}
use Rattle.tn_unit_answers.specs.Solve.{IsSolutionByCounts, unit_ends}

pub firms_count : (trades : List UnitTrade) (f : ℕ) (firms : List WrittenFirm)
    → length (firms_from trades f firms) ≡ length firms
firms_count trades f [] = refl
firms_count trades f (firm ∷ firms) = ap suc (firms_count trades (suc f) firms)

pub trade_is : (document : UnitDocument) → IsUnitDocument document → (t : ℕ) → t < length document.head.trades
    → IsUnitTrade (length document.head.names.firms) (trade_at document.head.trades t)
trade_is document is t below =
    All-get_or (IsUnitTrade (length document.head.names.firms)) document.head.trades t
    (record { seller = 0; buyer = 0; units = 0 }) below is.head.each

-- counts within the units are short numbers
pub counts_short : (document : UnitDocument) (counts : List ℕ) → IsUnitDocument document
    → AreCounts document.head.trades (count_in counts) → length counts ≡ length document.head.trades
    → All (λ n. n < 2 ^ 32) counts
counts_short document counts is within counted =
    All-from_get_or (λ n. n < 2 ^ 32) counts 0 (λ t inside.
    let below : t < length document.head.trades = omega (arith, inside, counted) in
    let units = within t below in
    let few = (trade_is document is t below).few in
    omega (arith, units, few))

-- the ends of the trades are firms of the document
pub ends_are : (document : UnitDocument) → IsUnitDocument document
    → HaveFirms (length (written_firms document)) document.head.trades
ends_are document is =
    let count = firms_count document.head.trades 0 document.firms in
    let named = is.named in
    record {
      sellers = λ t below. let known = (trade_is document is t below).between.seller in omega (arith, known, count, named);
      buyers = λ t below. let known = (trade_is document is t below).between.buyer in omega (arith, known, count, named);
    }

-- a market that was made for a document has its worths
pub has_worths : (document : UnitDocument) (market : UnitMarket) → IsUnitDocument document
    → market.firms ≡ length document.head.names.firms
    → ((f : ℕ) (firm : CountFirm) → slice_get (written_firms document) f ≡ Some firm → (counts : ℕ → ℕ)
    → AreCounts document.head.trades counts → (firm_of market f).worth counts ≡ firm.worth counts)
    → HasItsWorths document market
has_worths document market is firms worths =
    let named = is.named in
    let count = firms_count document.head.trades 0 document.firms in
    let all : market.firms ≡ length (written_firms document) = omega (arith, firms, named, count) in
    record { count = all; worths = worths }

pub surplus_within : (surplus : ℤ) → IsAtMost surplus most_unit_surplus → IsWithinClaim surplus
surplus_within surplus small = record { low = omega (arith, ints, small.low); high = omega (arith, ints, small.high) }

pub solution : (document : UnitDocument) (market : UnitMarket) (counts : List ℕ) (prices : List ℤ) (surplus : ℤ)
    (ends : List Ends) → IsUnitDocument document → market.firms ≡ length document.head.names.firms
    → market.trades.items ≡ document.head.trades
    → ((f : ℕ) (firm : CountFirm) → slice_get (written_firms document) f ≡ Some firm → (counts : ℕ → ℕ)
    → AreCounts document.head.trades counts → (firm_of market f).worth counts ≡ firm.worth counts)
    → IsEquilibriumByCounts (firms_of market) market.trades.items (pos 1) (count_in counts) (price_in prices)
    → count_surplus (firms_of market) (count_in counts) ≡ Some surplus → length counts ≡ length market.trades.items
    → length prices ≡ length market.trades.items → ends ≡ map unit_ends document.head.trades
    → IsSolutionByCounts document counts prices surplus ends
solution document market counts prices surplus ends is firms trades worths equilibrium sum counted priced ended =
    let same = same_market document market (has_worths document market is firms worths) in
    let here = same.equilibria (pos 1) (count_in counts) (price_in prices)
    (subst (λ ts. IsEquilibriumByCounts (firms_of market) ts (pos 1) (count_in counts) (price_in prices)) trades
    equilibrium) in
    let efficient = equilibria_efficient (written_firms document) document.head.trades (pos 1) (count_in counts)
    (price_in prices) (ends_are document is) (omega (arith, ints)) here in
    record {
      equilibrium = here;
      surplus_is = sym (same.surplus (count_in counts) efficient.1.within) ∙ sum;
      efficient = efficient;
      counted = counted ∙ ap length trades;
      priced = priced ∙ ap length trades;
      ended = ended;
    }
