-- What is found of a document's market is so of the firms that the document writes.
use Rattle.std.proofs.Common.{◌≡◌, ℕ, zero, suc, ◌<◌, ◌≤◌, List, length, get_or, Option, Some, None, option_map, slice_get, refl, sym, ap, ap₂, subst, ◌∙◌, arith, ℤ, pos, ◌+ℤ◌, ◌-ℤ◌, ◌≤ℤ◌, ◌*ℤ◌}
use Rattle.std.specs.Prelude.{◌<ℤ◌, unwrap_or}
use Rattle.std.proofs.Math.IntN.{negsuc}
use Rattle.std.proofs.lemmas.Int.{ints}
use Rattle.std.proofs.lemmas.Option.{none-some, same_Some, slice_get-get_or, slice_get_within}
use Rattle.tn_base.specs.Arcs.{IsAtMost}
use Rattle.tn_counts.specs.Counts.{AreCounts, CountFirm, IsBestCount, IsEquilibriumByCounts, count_surplus, payments}
use Rattle.tn_counts.specs.Laminar.{firm_of, firms_of}
use Rattle.tn_counts.specs.Widths.{most_unit_firms, most_unit_surplus}
use Rattle.tn_counts.specs.declared.market.UnitMarket.{UnitMarket}
use Rattle.tn_counts.specs.declared.trade.UnitTrade.{UnitTrade}
use Rattle.tn_counts.proofs.PlaceLemmas.{item_at}
use Rattle.tn_counts.proofs.WelfareLemmas.{equilibria_efficient}
use Rattle.tn_read_units.specs.Documents.{IsUnitDocument}
use Rattle.tn_read_units.specs.Firms.{UnitDocument}
use Rattle.tn_read_units.specs.Worths.{written_firms}
use Rattle.tn_read_units.proofs.SameLemmas.{same_market}
use Rattle.tn_said.specs.declared.units.TradeUnits.{TradeUnits}
use Rattle.tn_tree.specs.Held.{IsHeld, IsSmall, utility_at}
use Rattle.tn_tree.specs.Lists.{count_in, own_counts, price_in}
use Rattle.tn_tree.specs.declared.held.FirmCount.{FirmCount}
use Rattle.tn_unit_answers.specs.Bundles.{unit_bundle}
use Rattle.tn_unit_answers.specs.Check.{AreBestBefore, IsArrangedEquilibrium, IsFirstBettered, IsFirstImpossible}
use Rattle.tn_unit_answers.specs.Judged.{AreContentBefore, IsFirstWith, IsJudged}
use Rattle.tn_unit_answers.proofs.SolutionLemmas.{ends_are, firms_count, has_worths}

-- counts that are best by one value are best by another that is the same
best_by : (trades : List UnitTrade) (one other : (ℕ → ℕ) → Option ℤ) (counts : ℕ → ℕ) (value : ℤ)
    → ((others : ℕ → ℕ) → AreCounts trades others → one others ≡ other others) → IsBestCount trades one counts value
    → IsBestCount trades other counts value
best_by trades one other counts value same best = record {
  within = best.within;
  is = sym (same counts best.within) ∙ best.is;
  most = λ others found within is. best.most others found within (same others within ∙ is);
}

-- what is found of a firm is so of one that has the same worths
held_by : (trades : List UnitTrade) (f : ℕ) (one other : CountFirm) (counts : List ℕ) (prices : List ℤ)
    (sold bought : List ℕ) (said : FirmCount) → AreCounts trades (count_in counts)
    → ((others : ℕ → ℕ) → AreCounts trades others → one.worth others ≡ other.worth others)
    → IsHeld trades f one counts prices sold bought said → IsHeld trades f other counts prices sold bought said
held_by trades f one other counts prices sold bought said within same held = record {
  worth_is = held.worth_is ∙ same (count_in counts) within;
  utility_is = held.utility_is ∙ utility (count_in counts) within;
  best_is = best_by trades (utility_at trades prices f one) (utility_at trades prices f other)
      (own_counts trades sold bought f) said.best utility held.best_is;
  gain_is = held.gain_is;
  own = held.own;
  small_worth = held.small_worth;
  small_utility = held.small_utility;
  small_best = held.small_best;
  small_gain = held.small_gain;
}
  where
    utility : (others : ℕ → ℕ) → AreCounts trades others
        → utility_at trades prices f one others ≡ utility_at trades prices f other others
    utility others inside =
        ap (option_map (λ (worth : ℤ). pos 1 *ℤ worth +ℤ payments trades (price_in prices) f others)) (same others inside)

-- what is found of all firms of a market
pub record IsHeldBy (market : UnitMarket) (counts : List ℕ) (prices : List ℤ) (firms : List FirmCount)
    (sold bought : List ℕ) (surplus : Option ℤ) : Type 0 where
  pub one_each : length firms ≡ market.firms
  pub sold_all : length sold ≡ length market.trades.items
  pub bought_all : length bought ≡ length market.trades.items
  pub each : (f : ℕ) (said : FirmCount) → slice_get firms f ≡ Some said
      → IsHeld market.trades.items f (firm_of market f) counts prices sold bought said
  pub surplus_is : surplus ≡ count_surplus (firms_of market) (count_in counts)
  pub small_surplus : IsSmall surplus

pub judged : (document : UnitDocument) (market : UnitMarket) (counts : List ℕ) (prices : List ℤ) (firms : List FirmCount)
    (sold bought : List ℕ) (surplus : Option ℤ) → IsUnitDocument document
    → market.firms ≡ length document.head.names.firms → market.trades.items ≡ document.head.trades
    → ((f : ℕ) (firm : CountFirm) → slice_get (written_firms document) f ≡ Some firm → (counts : ℕ → ℕ)
    → AreCounts document.head.trades counts → (firm_of market f).worth counts ≡ firm.worth counts)
    → AreCounts document.head.trades (count_in counts) → IsHeldBy market counts prices firms sold bought surplus
    → IsJudged document counts prices firms sold bought surplus
judged document market counts prices firms sold bought surplus is as_many trades worths within held =
    let has = has_worths document market is as_many worths in
    record {
      one_each = held.one_each ∙ has.count;
      sold_all = held.sold_all ∙ ap length trades;
      bought_all = held.bought_all ∙ ap length trades;
      each = λ f firm said at there.
          held_by document.head.trades f (firm_of market f) firm counts prices sold bought said within (worths f firm at)
          (subst (λ (ts : List UnitTrade). IsHeld ts f (firm_of market f) counts prices sold bought said) trades
          (held.each f said there));
      surplus_is = held.surplus_is ∙ (same_market document market has).surplus (count_in counts) within;
      small_surplus = held.small_surplus;
    }

-- there are few firms
pub few_judged : (document : UnitDocument) (counts : List ℕ) (prices : List ℤ) (firms read : List FirmCount)
    (sold bought : List ℕ) (surplus : Option ℤ) → IsUnitDocument document
    → IsJudged document counts prices firms sold bought surplus → read ≡ firms → length read ≤ most_unit_firms
few_judged document counts prices firms read sold bought surplus is found same =
    let long = ap length same in
    let sized = found.one_each in
    let count = firms_count document.head.trades 0 document.firms in
    let named = is.named in
    let few = is.head.few_firms in
    omega (arith, long, sized, count, named, few)

-- a bundle that was made of what was read
pub bundle_read : (read trades : List UnitTrade) (read_sold sold read_bought bought : List ℕ) (f : ℕ)
    (bundle : List TradeUnits) → read ≡ trades → read_sold ≡ sold → read_bought ≡ bought
    → bundle ≡ unit_bundle read f (own_counts read read_sold read_bought f)
    → bundle ≡ unit_bundle trades f (own_counts trades sold bought f)
bundle_read read trades read_sold sold read_bought bought f bundle same same_sold same_bought made =
    made ∙ ap (λ (ts : List UnitTrade). unit_bundle ts f (own_counts ts read_sold read_bought f)) same
    ∙ ap₂ (λ (xs : List ℕ) (ys : List ℕ). unit_bundle trades f (own_counts trades xs ys f)) same_sold same_bought

-- a surplus, 0 where there is none, is small
pub surplus_or_none : (surplus : Option ℤ) → IsSmall surplus → IsAtMost (unwrap_or surplus (pos 0)) most_unit_surplus
surplus_or_none None small = record { low = omega (arith, ints); high = omega (arith, ints) }
surplus_or_none (Some value) small = small value refl

-- ---- a firm that gains nothing, and one that gains something

none_of : (g : ℤ → ℤ) (o : Option ℤ) → option_map g o ≡ None → o ≡ None
none_of g None is = refl
none_of g (Some x) is = absurd (none-some (g x) (sym is))

some_of : (g : ℤ → ℤ) (o : Option ℤ) (y : ℤ) → option_map g o ≡ Some y → (x : ℤ) × (o ≡ Some x) × (y ≡ g x)
some_of g None y is = absurd (none-some y is)
some_of g (Some x) y is = (x, refl, sym (same_Some (g x) y is))

no_gain : (utility : Option ℤ) (most : ℤ) → option_map (λ value. most -ℤ value) utility ≡ Some (pos 0)
    → utility ≡ Some most
no_gain utility most is =
    let own = some_of (λ value. most -ℤ value) utility (pos 0) is in
    let none = own.2 in
    let same : own.0 ≡ most = omega (arith, ints, none) in
    own.1 ∙ ap Some same

positive : (gain : ℤ) → pos 0 ≤ℤ gain → (Some gain ≡ Some (pos 0) → ⊥) → pos 0 <ℤ gain
positive (pos zero) least other = absurd (other refl)
positive (pos (suc n)) least other = omega (arith, ints)
positive (negsuc n) least other = absurd (omega (arith, ints, least))

module _ (document : UnitDocument) (counts : List ℕ) (prices : List ℤ) (firms : List FirmCount) (sold bought : List ℕ)
    (surplus : Option ℤ) (is : IsJudged document counts prices firms sold bought surplus)
    (within : AreCounts document.head.trades (count_in counts)) where
  -- the counts are best for a firm that gains nothing
  pub content_best : (f : ℕ) (firm : CountFirm) (said : FirmCount) → slice_get (written_firms document) f ≡ Some firm
      → slice_get firms f ≡ Some said → said.gain ≡ Some (pos 0)
      → IsBestCount document.head.trades (utility_at document.head.trades prices f firm) (count_in counts) said.best
  content_best f firm said at there content =
      let held = is.each f firm said at there in
      let best = held.best_is in
      record {
        within = within;
        is = sym held.utility_is ∙ no_gain said.utility said.best (sym held.gain_is ∙ content);
        most = best.most;
      }

  abbrev said_at : ℕ → FirmCount
  said_at f = get_or firms f (record { worth = None; utility = None; best = pos 0; gain = None })

  said_there : (f : ℕ) → f < length firms → slice_get firms f ≡ Some (said_at f)
  said_there f inside = slice_get-get_or firms f (record { worth = None; utility = None; best = pos 0; gain = None }) inside

  before_best : (f : ℕ) → AreContentBefore firms f
      → AreBestBefore (written_firms document) document.head.trades counts prices f
  before_best f content g firm less at =
      let inside = slice_get_within (written_firms document) g firm at in
      let sized = is.one_each in
      let there = said_there g (omega (arith, inside, sized)) in
      ((said_at g).best, content_best g firm (said_at g) at there (content g less))

  firm_there : (f : ℕ) → f < length firms → (firm : CountFirm) × (slice_get (written_firms document) f ≡ Some firm)
  firm_there f inside = let sized = is.one_each in item_at (written_firms document) f (omega (arith, inside, sized))

  pub first_impossible : (f : ℕ) → IsFirstWith firms f None
      → IsFirstImpossible (written_firms document) document.head.trades counts prices f
  first_impossible f first =
      let firm = firm_there f first.inside in
      let said = said_at f in
      let held = is.each f firm.0 said firm.1 (said_there f first.inside) in
      record {
        before = before_best f first.before;
        firm = firm.0;
        is = firm.1;
        impossible =
            none_of (λ worth. pos 1 *ℤ worth +ℤ payments document.head.trades (price_in prices) f (count_in counts))
            (firm.0.worth (count_in counts))
            (sym held.utility_is
            ∙ none_of (λ utility. said.best -ℤ utility) said.utility (sym held.gain_is ∙ first.is));
      }

  pub gain_small : (f : ℕ) (gain : ℤ) → IsFirstWith firms f (Some gain) → IsAtMost gain most_unit_surplus
  gain_small f gain first =
      let firm = firm_there f first.inside in
      (is.each f firm.0 (said_at f) firm.1 (said_there f first.inside)).small_gain gain first.is

  pub first_bettered : (f : ℕ) (gain : ℤ) (bundle : List TradeUnits) → IsFirstWith firms f (Some gain)
      → bundle ≡ unit_bundle document.head.trades f (own_counts document.head.trades sold bought f)
      → IsFirstBettered (written_firms document) document.head.trades counts prices f bundle gain
  first_bettered f gain bundle first made =
      let firm = firm_there f first.inside in
      let said = said_at f in
      let held = is.each f firm.0 said firm.1 (said_there f first.inside) in
      let best = held.best_is in
      let own = some_of (λ utility. said.best -ℤ utility) said.utility gain (sym held.gain_is ∙ first.is) in
      let value = sym held.utility_is ∙ own.1 in
      let most = best.most (count_in counts) own.0 within value in
      let more = own.2 in
      record {
        before = before_best f first.before;
        firm = firm.0;
        is = firm.1;
        own_value = own.0;
        own_is = value;
        best_counts = own_counts document.head.trades sold bought f;
        best_value = said.best;
        best = best;
        bundle_is = made;
        gain_is = more;
        gains = positive gain (omega (arith, ints, most, more)) first.not_content;
      }

  pub all_best : IsUnitDocument document → AreContentBefore firms (length firms) → (value : ℤ)
      → value ≡ unwrap_or surplus (pos 0)
      → IsArrangedEquilibrium (written_firms document) document.head.trades counts prices value
  all_best doc content value value_is =
      let best = before_best (length firms) content in
      let sized = is.one_each in
      let equilibrium : IsEquilibriumByCounts (written_firms document) document.head.trades (pos 1) (count_in counts)
      (price_in prices) = λ f firm at. best f firm
      (let inside = slice_get_within (written_firms document) f firm at in omega (arith, inside, sized)) at in
      let efficient = equilibria_efficient (written_firms document) document.head.trades (pos 1) (count_in counts)
      (price_in prices) (ends_are document doc) (omega (arith, ints)) equilibrium in
      let has = efficient.1.is in
      let same = ap (λ (o : Option ℤ). unwrap_or o (pos 0)) (is.surplus_is ∙ has) in
      record {
        equilibrium = equilibrium;
        surplus_is = has ∙ ap Some (sym (value_is ∙ same));
        efficient = efficient;
      }
