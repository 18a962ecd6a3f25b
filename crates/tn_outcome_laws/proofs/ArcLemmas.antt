-- Arcs of the reduced graph lead among unsigned trades and null.
use Rattle.std.proofs.Common.{◌≡◌, ◌≢◌, ℕ, ◌<◌, ◌≤◌, Bool, true, false, not, ◌&&◌, List, length, slice_get, Some, refl, sym, ap, ◌∙◌, subst, arith, inl, inr, ℤ}
use Rattle.std.proofs.lemmas.Bool.{cases_lt}
use Rattle.tn_base.specs.Sets.{has}
use Rattle.tn_base.specs.Firm.{Firm, plus_sum, payments}
use Rattle.tn_base.proofs.SetLemmas.{has-minus, has-zero, has-toggle_same}
use Rattle.tn_firm_laws.specs.Places.{toggle_at, move}
use Rattle.tn_firm_laws.proofs.PlaceLemmas.{toggle_at-trade}
use Rattle.tn_firm_laws.proofs.KeepLemmas.{has-toggle_at}
use Rattle.tn_model.specs.declared.ends.Ends.{Ends}
use Rattle.tn_model.specs.declared.contract.Contract.{Contract}
use Rattle.tn_model.specs.Network.{own, part, IsNetwork}
use Rattle.tn_market.specs.ArcPlaces.{node_at}
use Rattle.tn_market.specs.Equilibrium.{prices_at}
use Rattle.tn_market.specs.Signed.{is_signed, signed_price, signed_bundle}
use Rattle.tn_market.specs.Reduced.{reduced, reduced_firms}
use Rattle.tn_market.proofs.GraphLemmas.{node_at-trade, node_at-null, ArcAt, arc_from, arc_within}
use Rattle.tn_network_laws.proofs.SupportLemmas.{loss_parts}
use Rattle.tn_outcome_laws.specs.Laws.{ReducedArcsAreUnsigned}
use Rattle.tn_outcome_laws.proofs.AddingLemmas.{adding_one}
use Rattle.tn_outcome_laws.proofs.SignedLemmas.{has-signed_bundle}
use Rattle.tn_outcome_laws.proofs.CompletionLemmas.{reduced_from_firm, reduced_network, no_part}

-- a place that is moved from nothing is on
moved_first : (n i j : ℕ) → i < n → i ≢ j → has (move n 0 i j) i ≡ true
unfolding move
moved_first n i j below apart =
    has-toggle_at n (toggle_at n 0 i) j i apart ∙ ap (λ (y : ℕ). has y i) (toggle_at-trade n 0 i below)
    ∙ has-toggle_same 0 i ∙ ap not (has-zero i)

moved_second : (n i j : ℕ) → j < n → i ≢ j → has (move n 0 i j) j ≡ true
unfolding move
moved_second n i j below apart =
    ap (λ (y : ℕ). has y j) (toggle_at-trade n (toggle_at n 0 i) j below) ∙ has-toggle_same (toggle_at n 0 i) j
    ∙ ap not (has-toggle_at n 0 i j (λ e. apart (sym e)) ∙ has-zero j)

-- a position of a bundle with a reduced worth is unsigned
free_position : (firms : List Firm) (trades : List Ends) (over : ℤ) (contracts : List Contract) → IsNetwork firms trades
    → (f k x : ℕ) (firm : Firm) → slice_get firms f ≡ Some firm
    → k < firm.count → (worth : ℤ) → (reduced trades over contracts f firm).worth x ≡ Some worth → has x k ≡ true
    → is_signed contracts (own trades f k) ≡ false
free_position firms trades over contracts network f k x firm is below worth worth_is there =
    let found = adding_one (signed_bundle trades contracts f firm)
    (plus_sum over (payments firm.buys (prices_at trades (signed_price contracts) f)) firm) x worth worth_is in
    sym (has-signed_bundle firms trades network contracts f k firm is below)
    ∙ by_case (has found.0 k) (has (signed_bundle trades contracts f firm) k)
    (sym (has-minus found.0 (signed_bundle trades contracts f firm) k) ∙ ap (λ (y : ℕ). has y k) found.1 ∙ there)
  where
    by_case : (h g : Bool) → (h && not g) ≡ true → g ≡ false
    by_case true true e = absurd (cc e)
    by_case true false e = refl
    by_case false g e = absurd (cc e)

pub reduced_arcs_are_unsigned : ReducedArcsAreUnsigned
reduced_arcs_are_unsigned firms trades over contracts u v cost network is = (
  record {
    within = ends.0;
    unsigned =
        λ below. node at.from at.begin at.places.from_within below
        (λ inside. moved_first at.firm.count at.from at.to inside at.places.apart);
  },
  record {
    within = ends.1;
    unsigned =
        λ below. node at.to at.end at.places.to_within below
        (λ inside. moved_second at.firm.count at.from at.to inside at.places.apart);
  },
)
  where
    ends : (u ≤ length trades) × (v ≤ length trades)
    ends = arc_within (reduced_firms trades over contracts firms) trades 0 u v cost is

    at : ArcAt (reduced_firms trades over contracts firms) trades 0 u v cost
    at = arc_from (reduced_firms trades over contracts firms) trades
        (reduced_network firms trades over contracts network) 0 u v cost is

    node : (i : ℕ) {w : ℕ} → node_at trades at.f at.firm.count i ≡ w → i ≤ at.firm.count → w < length trades
        → (i < at.firm.count → has (move at.firm.count 0 at.from at.to) i ≡ true)
        → is_signed contracts w ≡ false
    node i {w} begin within below there = elim (cases_lt i at.firm.count) [
      | inr null ↦ absurd (let same = node_at-null trades at.f at.firm.count i null in
          omega (arith, same, begin, below))
      | inl inside ↦
          let firm = reduced_from_firm trades over contracts firms at.f at.firm at.is in
          let loses = loss_parts at.firm (part trades at.f at.firm.count 0)
          (move at.firm.count (part trades at.f at.firm.count 0) at.from at.to) cost at.costs in
          let worth = ap (λ (x : ℕ). at.firm.worth (move at.firm.count x at.from at.to))
          (sym (no_part trades at.f at.firm.count)) ∙ loses.second_is in
          let mine = subst (λ (z : Firm). z.worth (move z.count 0 at.from at.to) ≡ Some loses.second) firm.2 worth in
          let member = subst (λ (z : Firm). has (move z.count 0 at.from at.to) i ≡ true) firm.2 (there inside) in
          let low : i < firm.0.count = subst (λ (z : Firm). i < z.count) firm.2 inside in
          ap (is_signed contracts) (sym begin ∙ node_at-trade trades at.f at.firm.count i inside)
          ∙ free_position firms trades over contracts network at.f i (move firm.0.count 0 at.from at.to) firm.0 firm.1
          low loses.second mine member
    ]
