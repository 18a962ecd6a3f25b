-- What `support` says of the deal with its trade on where it can't be sold, and off where it should be on.
use Rattle.std.proofs.Common.{◌≡◌, ℕ, zero, suc, ◌<◌, ◌≤◌, refl, sym, ap, ◌∙◌, subst, arith, ◌⊎◌, inl, inr, List, [], ◌∷◌, slice_get}
use Rattle.std.specs.Prelude.{ℤ, pos, negsuc, map, All, IsSome, Option, Some, None}
use Rattle.std.proofs.lemmas.Int.{ints}
use Rattle.std.proofs.lemmas.Bool.{false≢true, cases_eq}
use Rattle.std.proofs.lemmas.Option.{same_Some, none-some}
use Rattle.std.proofs.lemmas.List.Elements.{All-head, All-tail}
use Rattle.tn_base.specs.Sets.{has, sum_over, toggle, set_of}
use Rattle.tn_base.specs.Options.{both}
use Rattle.tn_base.specs.Walks.{walk_cost, AreDifferent}
use Rattle.tn_exchange.specs.Rows.{worth_in}
use Rattle.tn_said.specs.declared.said.Said.{Said}
use Rattle.tn_said.specs.declared.said.Said.TheVariants.{Impossible, Supported, Cycle}
use Rattle.tn_model.specs.Prices.{price_at}
use Rattle.tn_model.specs.Network.{part}
use Rattle.tn_market.specs.Graph.{exchange_arc, ArePossible}
use Rattle.tn_market.proofs.GraphLemmas.{arc_within}
use Rattle.tn_market.specs.Supported.{IsFirstUnable, IsNegativeCycle, said_node}
use Rattle.tn_commands.specs.Support.{SupportsSet}
use Rattle.tn_price.specs.Supports.{IsUnsupported}
use Rattle.tn_case_laws.proofs.Finite.{two_firms}
use Rattle.tn_case_laws.proofs.Deal.{asks_3, buyer, seller, deal_firms, deal_trades, off_at_least_5, off_at_most_3}

-- ---- a seller that can't sell, with the trade on

unable_is_none : (seller None).worth (part deal_trades 0 1 1) ≡ None
unfolding has set_of worth_in toggle
unable_is_none = refl

first_unable : IsFirstUnable (deal_firms None) deal_trades 1 0
first_unable = record {
  before = λ g firm below is. absurd (omega (arith, below));
  firm = seller None;
  is =
      refl;
  impossible = unable_is_none;
}

unable_unsupported : IsUnsupported (deal_firms None) deal_trades 1
unfolding has set_of worth_in toggle sum_over
unable_unsupported prices equilibrium = let best = equilibrium 0 (seller None) refl in none-some best.0 best.1.is

not_some : (o : Option ℤ) → o ≡ None → IsSome o → ⊥
not_some None e some = false≢true some
not_some (Some a) e some = none-some a (sym e)

only_unable : (f : ℕ) → IsFirstUnable (deal_firms None) deal_trades 1 f → f ≡ 0
only_unable zero first = refl
only_unable (suc f) first = absurd (not_some _ unable_is_none (first.before 0 (seller None) (omega arith) refl))

unable_has_no_cycle : (nodes : List (Option ℕ)) (cost : ℤ) → IsNegativeCycle (deal_firms None) deal_trades 1 nodes cost
    → ⊥
unable_has_no_cycle nodes cost cycle = not_some _ unable_is_none (cycle.possible 0 (seller None) refl)

-- ---- a trade that should be on

off_unsupported : IsUnsupported (deal_firms asks_3) deal_trades 0
off_unsupported prices equilibrium =
    let low = off_at_least_5 asks_3 prices equilibrium in
    let high = off_at_most_3 prices equilibrium in
    absurd (omega (arith, ints, low, high))

arc : ℕ → ℕ → Option ℤ
arc = exchange_arc (deal_firms asks_3) deal_trades 0

to_trade : arc 1 0 ≡ Some (pos 3)
unfolding arc exchange_arc has set_of worth_in toggle
to_trade = refl

to_null : arc 0 1 ≡ Some (negsuc 4)
unfolding arc exchange_arc has set_of worth_in toggle
to_null = refl

at_trade : arc 0 0 ≡ None
unfolding arc exchange_arc has set_of worth_in toggle
at_trade = refl

at_null : arc 1 1 ≡ None
unfolding arc exchange_arc has set_of worth_in toggle
at_null = refl

-- an arc leads to the trade or to null
leads_within : (u v : ℕ) (cost : ℤ) → arc u v ≡ Some cost → (v ≡ 0) ⊎ (v ≡ 1)
unfolding arc
leads_within u v cost e =
    let within = (arc_within (deal_firms asks_3) deal_trades 0 u v cost e).1 in
    elim (cases_eq v 0) [ inl here ↦ inl here | inr other ↦ inr (omega (arith, within, other)) ]

first_of_both : (a b : Option ℤ) (cost : ℤ) → both a b ≡ Some cost → (x : ℤ) × (y : ℤ) × (a ≡ Some x) × (b ≡ Some y)
first_of_both (Some x) (Some y) cost e = (x, y, refl, refl)
first_of_both (Some x) None cost e = absurd (none-some cost e)
first_of_both None b cost e = absurd (none-some cost e)

-- two places with one node are one
twice : (nodes : List ℕ) → AreDifferent nodes → (j k v : ℕ) → slice_get nodes j ≡ Some v → slice_get nodes k ≡ Some v
    → (j ≡ k → ⊥) → ⊥
twice nodes different j k v at_j at_k apart = apart (different j k v at_j at_k)

-- the one cycle that begins with null
from_null : (rest : List ℕ) (cost : ℤ) → walk_cost arc 1 rest 1 ≡ Some cost → AreDifferent (1 ∷ rest) → (rest ≡ 0 ∷ [])
    × (cost ≡ negsuc 1)
from_null [] cost walk different = absurd (none-some cost (sym at_null ∙ walk))
from_null (v ∷ vs) cost walk different = by_first (leads_within 1 v _ parts.2)
  where
    parts : (x : ℤ) × (y : ℤ) × (arc 1 v ≡ Some x) × (walk_cost arc v vs 1 ≡ Some y)
    parts = first_of_both (arc 1 v) (walk_cost arc v vs 1) cost walk

    by_rest : (ws : List ℕ) → walk_cost arc 0 ws 1 ≡ Some parts.1
        → both (Some (pos 3)) (walk_cost arc 0 ws 1) ≡ Some cost → AreDifferent (1 ∷ 0 ∷ ws) → (0 ∷ ws ≡ 0 ∷ [])
        × (cost ≡ negsuc 1)
    by_rest [] e whole apart = (refl, sym (same_Some (negsuc 1) cost (sym (ap (both (Some (pos 3))) to_null) ∙ whole)))
    by_rest (w ∷ ws) e whole apart =
        by_second (leads_within 0 w _ (first_of_both (arc 0 w) (walk_cost arc w ws 1) parts.1 e).2)
      where
        by_second : (w ≡ 0) ⊎ (w ≡ 1) → (0 ∷ w ∷ ws ≡ 0 ∷ []) × (cost ≡ negsuc 1)
        by_second (inl here) =
            absurd (twice (1 ∷ 0 ∷ w ∷ ws) apart 1 2 0 refl (ap (λ (n : ℕ). Some n) here)
            (λ e. absurd (omega (arith, e))))
        by_second (inr here) =
            absurd (twice (1 ∷ 0 ∷ w ∷ ws) apart 0 2 1 refl (ap (λ (n : ℕ). Some n) here)
            (λ e. absurd (omega (arith, e))))

    by_first : (v ≡ 0) ⊎ (v ≡ 1) → (v ∷ vs ≡ 0 ∷ []) × (cost ≡ negsuc 1)
    by_first (inl here) =
        let known = by_rest vs (subst (λ n. walk_cost arc n vs 1 ≡ Some parts.1) here parts.3)
        (ap (λ a. both a (walk_cost arc 0 vs 1)) (sym to_trade)
        ∙ subst (λ n. both (arc 1 n) (walk_cost arc n vs 1) ≡ Some cost) here walk)
        (subst (λ n. AreDifferent (1 ∷ n ∷ vs)) here different) in
        (ap (λ n. n ∷ vs) here ∙ known.0, known.1)
    by_first (inr here) =
        absurd (twice (1 ∷ v ∷ vs) different 0 1 1 refl (ap (λ (n : ℕ). Some n) here) (λ e. absurd (omega (arith, e))))

-- no cycle lacks null
without_null : (first : ℕ) (rest : List ℕ) (cost : ℤ) → walk_cost arc first rest first ≡ Some cost
    → AreDifferent (first ∷ rest) → All (λ v. (first ≤ v) × (v < 1)) (first ∷ rest) → ⊥
without_null first rest cost walk different all =
    by rest (subst (λ n. walk_cost arc n rest n ≡ Some cost) here walk)
    (subst (λ n. AreDifferent (n ∷ rest)) here different) (All-tail (λ v. (first ≤ v) × (v < 1)) first rest all)
  where
    here : first ≡ 0
    here = let head = (All-head (λ v. (first ≤ v) × (v < 1)) first rest all).1 in omega (arith, head)

    by : (list : List ℕ) → walk_cost arc 0 list 0 ≡ Some cost → AreDifferent (0 ∷ list)
        → All (λ v. (first ≤ v) × (v < 1)) list → ⊥
    by [] e apart later = none-some cost (sym at_trade ∙ e)
    by (v ∷ vs) e apart later =
        let head = (All-head (λ v. (first ≤ v) × (v < 1)) v vs later).1 in
        let same : v ≡ 0 = omega (arith, head) in
        twice (0 ∷ v ∷ vs) apart 0 1 0 refl (ap (λ (n : ℕ). Some n) same) (λ e. absurd (omega (arith, e)))

only_cycle : (nodes : List (Option ℕ)) (cost : ℤ) → IsNegativeCycle (deal_firms asks_3) deal_trades 0 nodes cost
    → (nodes ≡ None ∷ Some 0 ∷ []) × (cost ≡ negsuc 1)
unfolding arc
only_cycle nodes cost cycle = by cycle.begins
  where
    by : (cycle.first ≡ 1) ⊎ All (λ v. (cycle.first ≤ v) × (v < 1)) (cycle.first ∷ cycle.rest)
        → (nodes ≡ None ∷ Some 0 ∷ []) × (cost ≡ negsuc 1)
    by (inl null) =
        let known = from_null cycle.rest cost (subst (λ n. walk_cost arc n cycle.rest n ≡ Some cost) null
        cycle.cycle.walk) (subst (λ n. AreDifferent (n ∷ cycle.rest)) null cycle.cycle.different) in (
          cycle.nodes_are ∙ ap (λ n. map (said_node 1) (n ∷ cycle.rest)) null
              ∙ ap (λ rest. map (said_node 1) (1 ∷ rest)) known.0,
          known.1,
        )
    by (inr all) = absurd (without_null cycle.first cycle.rest cost cycle.cycle.walk cycle.cycle.different all)

off_possible : ArePossible (deal_firms asks_3) deal_trades 0
unfolding has set_of worth_in
off_possible =
    two_firms (λ f firm. IsSome (firm.worth (part deal_trades f firm.count 0))) (seller asks_3) buyer refl refl

two_nodes : AreDifferent (1 ∷ 0 ∷ [])
two_nodes zero zero v p q = refl
two_nodes zero (suc zero) v p q = let one = same_Some 1 v p in let other = same_Some 0 v q in
    absurd (omega (arith, one, other))
two_nodes (suc zero) zero v p q = let one = same_Some 0 v p in let other = same_Some 1 v q in
    absurd (omega (arith, one, other))
two_nodes (suc zero) (suc zero) v p q = refl
two_nodes (suc (suc j)) k v p q = absurd (none-some v p)
two_nodes j (suc (suc k)) v p q = absurd (none-some v q)

is_cycle : IsNegativeCycle (deal_firms asks_3) deal_trades 0 (None ∷ Some 0 ∷ []) (negsuc 1)
unfolding arc
is_cycle = record {
  possible = off_possible;
  first = 1;
  rest = 0 ∷ [];
  nodes_are = refl;
  cycle = record {
    walk = ap (λ a. both a (arc 0 1)) to_trade ∙ ap (both (Some (pos 3))) to_null;
    different =
        two_nodes;
  };
  negative = omega (arith, ints);
  begins = inl refl;
}

off_unable : (f : ℕ) → IsFirstUnable (deal_firms asks_3) deal_trades 0 f → ⊥
off_unable f first = not_some _ first.impossible (off_possible f first.firm first.is)

-- ---- the answers

pub is_unable : SupportsSet (deal_firms None) deal_trades 1 (Impossible 0)
is_unable = (first_unable, unable_unsupported)

pub only_impossible : (said : Said) → SupportsSet (deal_firms None) deal_trades 1 said → said ≡ Impossible 0
only_impossible (Impossible f) supports = ap (λ (g : ℕ). Impossible g) (only_unable f supports.0)
only_impossible (Supported listed prices ends) supports =
    absurd (unable_unsupported (price_at prices) supports.0.equilibrium)
only_impossible (Cycle nodes cost) supports = absurd (unable_has_no_cycle nodes cost supports.0)
only_impossible said supports = absurd supports

pub is_cyclic : SupportsSet (deal_firms asks_3) deal_trades 0 (Cycle (None ∷ Some 0 ∷ []) (negsuc 1))
is_cyclic = (is_cycle, off_unsupported)

pub only_cyclic : (said : Said) → SupportsSet (deal_firms asks_3) deal_trades 0 said
    → said ≡ Cycle (None ∷ Some 0 ∷ []) (negsuc 1)
only_cyclic (Impossible f) supports = absurd (off_unable f supports.0)
only_cyclic (Supported listed prices ends) supports = absurd (off_unsupported (price_at prices) supports.0.equilibrium)
only_cyclic (Cycle nodes cost) supports =
    let known = only_cycle nodes cost supports.0 in let nodes_are = known.0 in let cost_is = known.1 in
    λ i. Cycle (nodes_are i) (cost_is i)
only_cyclic said supports = absurd supports
