-- The surplus of counts that are possible for all firms is what their flow gains and all constants, and there is none where
-- they are impossible for one.
use Rattle.std.proofs.Common.{◌≡◌, ℕ, zero, suc, ◌+◌, ◌<◌, List, [], length, map, get_or, Option, Some, None, refl, sym, ap, ◌∙◌, arith, ℤ, ◌+ℤ◌}
use Rattle.std.specs.List.{range_with_len}
use Rattle.tn_base.specs.Options.{both}
use Rattle.tn_links.specs.declared.link.Link.{Link}
use Rattle.tn_links.specs.Flows.{IsKeptFlow, total_gain}
use Rattle.tn_counts.specs.Counts.{count_surplus}
use Rattle.tn_counts.specs.Laminar.{constants, firm_of, firms_of}
use Rattle.tn_counts.specs.Markets.{IsUnitMarket}
use Rattle.tn_counts.specs.Tree.{AreLinksOf, sold_at}
use Rattle.tn_counts.specs.declared.market.UnitMarket.{UnitMarket}
use Rattle.tn_counts.proofs.SurplusLemmas.{flows_counts, surplus_same}
use Rattle.tn_counts.proofs.WideLemmas.{wide_market}
use Rattle.tn_tree.specs.Levels.{ArePossible}
use Rattle.tn_tree.specs.Lists.{count_in, own_counts}
use Rattle.tn_tree.proofs.FirmLemmas.{worth_own}
use Rattle.tn_tree.proofs.KeptLemmas.{own_all}

-- the worths of a list are those of counts that all have
abbrev pub AreWorths : UnitMarket → List ℕ → List (Option ℤ) → Type 0
AreWorths market counts worths = (f : ℕ) → f < market.firms
    → get_or worths f None ≡ (firm_of market f).worth (own_counts market.trades.items counts counts f)

worth_is : (market : UnitMarket) (counts : List ℕ) (worths : List (Option ℤ)) (f : ℕ) → f < market.firms
    → AreWorths market counts worths → (firm_of market f).worth (count_in counts) ≡ get_or worths f None
worth_is market counts worths f below are =
    worth_own market f (count_in counts) (own_counts market.trades.items counts counts f)
    (λ t inside ends. own_all market counts f t)
    ∙ sym (are f below)

pub possible_by : (market : UnitMarket) (counts : List ℕ) (worths : List (Option ℤ)) → length worths ≡ market.firms
    → AreWorths market counts worths
    → ((f : ℕ) → f < length worths → (worth : ℤ) × (get_or worths f None ≡ Some worth))
    → ArePossible market (λ f. count_in counts)
possible_by market counts worths sized are there f below =
    let has = there f (omega (arith, below, sized)) in
    (has.0, worth_is market counts worths f below are ∙ has.1)

none_from : (market : UnitMarket) (counts : ℕ → ℕ) (a n k : ℕ) → k < n → (firm_of market (a + k)).worth counts ≡ None
    → count_surplus (map (firm_of market) (range_with_len a n)) counts ≡ None
none_from market counts a zero k below none = absurd (omega (arith, below))
none_from market counts a (suc n) zero below none =
    let place : a ≡ a + 0 = omega arith in
    ap (λ (o : Option ℤ). both o (count_surplus (map (firm_of market) (range_with_len (a + 1) n)) counts))
    (ap (λ (f : ℕ). (firm_of market f).worth counts) place ∙ none)
none_from market counts a (suc n) (suc k) below none =
    let place : a + 1 + k ≡ a + suc k = omega arith in
    ap (both ((firm_of market a).worth counts))
    (none_from market counts (a + 1) n k (omega (arith, below))
    (ap (λ (f : ℕ). (firm_of market f).worth counts) place ∙ none))
    ∙ nothing ((firm_of market a).worth counts)
  where
    nothing : (o : Option ℤ) → both o None ≡ None
    nothing None = refl
    nothing (Some a) = refl

pub no_surplus : (market : UnitMarket) (counts : List ℕ) (worths : List (Option ℤ)) → length worths ≡ market.firms
    → AreWorths market counts worths → ((f : ℕ) × (f < length worths) × (get_or worths f None ≡ None))
    → None ≡ count_surplus (firms_of market) (count_in counts)
no_surplus market counts worths sized are none =
    let inside = none.1 in
    let below : none.0 < market.firms = omega (arith, inside, sized) in
    let place : 0 + none.0 ≡ none.0 = omega arith in
    sym (none_from market (count_in counts) 0 market.firms none.0 below
    (ap (λ (f : ℕ). (firm_of market f).worth (count_in counts)) place
    ∙ worth_is market counts worths none.0 below are ∙ none.2))

pub surplus_by_flow : (market : UnitMarket) (links : List Link) (levels counts : List ℕ) → IsUnitMarket market
    → AreLinksOf market [] links → IsKeptFlow links levels
    → ((t : ℕ) → t < length market.trades.items → sold_at market levels t ≡ count_in counts t)
    → count_surplus (firms_of market) (count_in counts) ≡ Some (total_gain links levels +ℤ constants market.sets.items)
surplus_by_flow market links levels counts is of kept same =
    sym (surplus_same market (sold_at market levels) (count_in counts) same)
    ∙ (flows_counts market links levels (wide_market market is) of kept).surplus
