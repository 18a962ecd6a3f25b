-- Firms with the same worths have the same equilibria and surpluses.
use Rattle.std.proofs.Common.{◌≡◌, ℕ, suc, ◌<◌, refl, sym, ap, ◌∙◌, arith, List, [], ◌∷◌, length, ℤ, ◌+ℤ◌, Option, Some}
use Rattle.std.specs.Prelude.{◌*ℤ◌, slice_get, option_map}
use Rattle.std.specs.List.{range_with_len}
use Rattle.std.proofs.lemmas.List.{length-map}
use Rattle.std.proofs.lemmas.List.FromFn.{length-range_with_len}
use Rattle.std.proofs.lemmas.Option.{slice_get_within}
use Rattle.tn_base.specs.Options.{both}
use Rattle.tn_counts.specs.Counts.{AreCounts, CountFirm, IsBestCount, IsEquilibriumByCounts, count_surplus, count_utility, payments}
use Rattle.tn_counts.specs.Laminar.{firm_of, firms_of}
use Rattle.tn_counts.specs.declared.market.UnitMarket.{UnitMarket}
use Rattle.tn_counts.specs.declared.trade.UnitTrade.{UnitTrade}
use Rattle.tn_counts.proofs.PlaceLemmas.{item_at}
use Rattle.tn_counts.proofs.SurplusLemmas.{firm_at}
use Rattle.tn_read_units.specs.Firms.{UnitDocument}
use Rattle.tn_read_units.specs.Laws.{HasItsWorths, MarketsSayTheirDocuments}
use Rattle.tn_read_units.specs.Worths.{written_firms}

-- as many firms, and each has the same worths as its counterpart
pub record AreAlike (trades : List UnitTrade) (xs ys : List CountFirm) : Type 0 where
  pub count : length xs ≡ length ys
  pub worths : (f : ℕ) (one other : CountFirm) → slice_get xs f ≡ Some one → slice_get ys f ≡ Some other
      → (counts : ℕ → ℕ) → AreCounts trades counts → one.worth counts ≡ other.worth counts

alike_back : (trades : List UnitTrade) (xs ys : List CountFirm) → AreAlike trades xs ys → AreAlike trades ys xs
alike_back trades xs ys alike = record {
  count = sym alike.count;
  worths = λ f one other first second counts within. sym (alike.worths f other one second first counts within);
}

-- counts that are best by one worth are best by the other
best_alike : (trades : List UnitTrade) (scale : ℤ) (prices : ℕ → ℤ) (f : ℕ) (one other : CountFirm) (counts : ℕ → ℕ)
    (value : ℤ) → ((others : ℕ → ℕ) → AreCounts trades others → one.worth others ≡ other.worth others)
    → IsBestCount trades (count_utility trades scale prices f one) counts value
    → IsBestCount trades (count_utility trades scale prices f other) counts value
best_alike trades scale prices f one other counts value same best = record {
  within = best.within;
  is = sym (utility counts best.within) ∙ best.is;
  most = λ others found within is. best.most others found within (utility others within ∙ is);
}
  where
    utility : (others : ℕ → ℕ) → AreCounts trades others
        → count_utility trades scale prices f one others ≡ count_utility trades scale prices f other others
    utility others within =
        ap (option_map (λ (worth : ℤ). scale *ℤ worth +ℤ payments trades prices f others)) (same others within)

pub equilibria_alike : (xs ys : List CountFirm) (trades : List UnitTrade) → AreAlike trades xs ys → (scale : ℤ) (counts : ℕ
    → ℕ)
    (prices : ℕ → ℤ) → IsEquilibriumByCounts xs trades scale counts prices
    → IsEquilibriumByCounts ys trades scale counts prices
equilibria_alike xs ys trades alike scale counts prices holds f firm is =
    let inside : f < length xs = omega (arith, alike.count, slice_get_within ys f firm is) in
    let one = item_at xs f inside in
    let best = holds f one.0 one.1 in
    (best.0, best_alike trades scale prices f one.0 firm counts best.0 (alike.worths f one.0 firm one.1 is) best.1)

pub surplus_alike : (trades : List UnitTrade) (xs ys : List CountFirm) → AreAlike trades xs ys → (counts : ℕ → ℕ)
    → AreCounts trades counts → count_surplus xs counts ≡ count_surplus ys counts
surplus_alike trades [] [] alike counts within = refl
surplus_alike trades [] (y ∷ ys) alike counts within = absurd (omega (arith, alike.count))
surplus_alike trades (x ∷ xs) [] alike counts within = absurd (omega (arith, alike.count))
surplus_alike trades (x ∷ xs) (y ∷ ys) alike counts within =
    ap (λ (z : Option ℤ). both z (count_surplus xs counts)) (alike.worths 0 x y refl refl counts within)
    ∙ ap (both (y.worth counts)) (surplus_alike trades xs ys (record {
      count = omega (arith, alike.count);
      worths = λ f one other first second. alike.worths (suc f) one other first second;
    }) counts within)

same_firms : (document : UnitDocument) (market : UnitMarket) → HasItsWorths document market
    → AreAlike document.head.trades (firms_of market) (written_firms document)
same_firms document market has = record {
  count = length-map (range_with_len 0 market.firms) (firm_of market) ∙ length-range_with_len 0 market.firms
      ∙ has.count;
  worths = λ f one other first second counts within.
      ap (λ (firm : CountFirm). firm.worth counts) (firm_at market f one first).1
      ∙ has.worths f other second counts within;
}

pub same_market : MarketsSayTheirDocuments
same_market document market has =
    let alike = same_firms document market has in
    let trades = document.head.trades in
    record {
      count = alike.count;
      equilibria = equilibria_alike (firms_of market) (written_firms document) trades alike;
      back = equilibria_alike (written_firms document) (firms_of market) trades
          (alike_back trades (firms_of market) (written_firms document) alike);
      surplus = surplus_alike trades (firms_of market) (written_firms document) alike;
    }
