-- Where all of a cycle is on, its contracts are a chain that blocks the outcome.
use Rattle.std.proofs.Common.{map, ◌≡◌, ◌≢◌, ℕ, suc, ◌+◌, ◌-◌, ◌<◌, ◌≤◌, Bool, true, false, not, ◌==◌, ◌&&◌, if◌then◌else◌, List, [], ◌∷◌, length, slice_get, Some, None, refl, sym, ap, ap₂, ◌∙◌, subst, arith, inl, inr, ℤ, Result, Ok, Err}
use Rattle.std.specs.Prelude.{IfOk}
use Rattle.std.proofs.lemmas.Int.{ints}
use Rattle.std.proofs.lemmas.Bool.{cases_eq, cases_lt, or_cases, or_left, or_right, eqb-true, eq-eqb, lt-ltb}
use Rattle.std.proofs.lemmas.Option.{same_Some, slice_get_within, slice_get_cases, get_or_from_slice_get}
use Rattle.tn_base.specs.Sets.{has}
use Rattle.tn_base.proofs.SetLemmas.{has-set_of}
use Rattle.tn_base.specs.Firm.{Firm}
use Rattle.tn_base.specs.Arcs.{IsAtMost}
use Rattle.tn_base.specs.Walks.{walk_cost, arcs_among, is_admitted, AreDifferent}
use Rattle.tn_model.specs.declared.ends.Ends.{Ends}
use Rattle.tn_model.specs.Limits.{most_number}
use Rattle.tn_model.specs.declared.contract.Contract.{Contract}
use Rattle.tn_market.specs.Signed.{is_signed}
use Rattle.tn_market.specs.Signed.{Completes}
use Rattle.tn_market.specs.Reduced.{reduced_firms, reduced_arc}
use Rattle.tn_cycle.specs.Answers.{IsNegative}
use Rattle.tn_graph.specs.Blocks.{CostBlocks, arcs_of}
use Rattle.tn_graph.specs.Reading.{IsExchangeGraph}
use Rattle.tn_outcome_laws.specs.Rational.{IsRationalOutcome}
use Rattle.tn_outcome_laws.specs.Laws.{completed}
use Rattle.tn_outcome_laws.proofs.ArcLemmas.{reduced_arcs_are_unsigned}
use Rattle.tn_outcome_laws.proofs.CompletionLemmas.{completes_from_labels}
use Rattle.tn_flow.specs.Solved.{Solution}
use Rattle.tn_residual.specs.Residual.{number_from, unsigned, unsigned_part}
use Rattle.tn_blocking_laws.specs.Taxed.{IsTaxedEquilibrium}
use Rattle.tn_blocking_laws.proofs.CycleLemmas.{among_arc}
use Rattle.tn_blocking_laws.proofs.OfferLemmas.{all_on_block}
use Rattle.tn_chain.specs.Listed.{HasNodes, AreAtNodes, IsBegin}
use Rattle.tn_chain.specs.Search.{chain_scale, price_for, HasCycle, IsSolvedAmong, IsBlockingChain}
use Rattle.tn_chain.proofs.NumberLemmas.{number_less, unsigned_size}
use Rattle.tn_chain.proofs.SizeLemmas.{made_more}
use Rattle.tn_chain.proofs.SearchLemmas.{IsRound, found_in_graph, listed_left, unsigned_member, different_listed, walk_arc, arc_linked, null_arc}
use Rattle.tn_model.specs.Network.{IsNetwork}
use Rattle.tn_market.specs.Lawful.{IsLawful}
use Rattle.tn_market.specs.Limits.{IsOutcomeOf}
use Rattle.tn_model.specs.Choices.{IsIndividuallyRational}
use Rattle.tn_network_laws.proofs.EachLemmas.{meet_all}
use Rattle.tn_residual.proofs.MakingLemmas.{outcome_feasible}

-- each listed node from there on is an unsigned trade that is left
pub node_is : (firms : List Firm) (trades : List Ends) (over : ℤ) (contracts : List Contract) (left : ℕ)
    (listed : List ℕ) (cost : ℤ) (count cycle : ℕ) (solution : Solution)
    → IsRound firms trades over contracts left listed cost count cycle solution → (first : ℕ)
    → IsBegin (length trades) listed first
    → (k v : ℕ) → first ≤ k → slice_get listed k ≡ Some v → (v < length trades) × (is_signed contracts v ≡ false)
node_is firms trades over contracts left listed cost count cycle solution round first begin k v above is =
    elim (or_cases (v == length trades) (has left v) (listed_left firms trades over contracts left listed cost count
    cycle solution round k v is)) [
      | inr member ↦ unsigned_member (length trades) contracts v (round.left_inside v member)
      | inl null ↦ absurd (not_null (eqb-true v (length trades) null))
    ]
  where
    different : AreDifferent listed
    different = different_listed (length trades + 1) (arcs_among (is_admitted (length trades) left)
        (reduced_arc firms trades over contracts)) listed cost count round.found

    head_is : begin.head ≡ round.found.first
    head_is = same_Some _ _ (sym begin.is ∙ ap (λ (xs : List ℕ). slice_get xs 0) round.found.nodes_are)

    not_null : v ≡ length trades → ⊥
    not_null null = elim begin.which [
      | inl with_null ↦ (
          let same = different 0 k v (begin.is ∙ ap (λ (n : ℕ). Some n) (with_null.0 ∙ sym null)) is in
          let one = with_null.1 in
          absurd (omega (arith, same, one, above)))
      | inr without ↦ elim round.found.begins [
        | inl last ↦ without.0 (let same = head_is in omega (arith, last, same))
        | inr all ↦ (
            let below = (subst (λ (w : ℕ). (round.found.first ≤ w)
            × (w + 1 < length trades + 1)) (get_or_from_slice_get listed k v v is)
            (all k v (slice_get_within listed k v is))).1 in
            absurd (omega (arith, below, null)))
      ]
    ]

pub is_blocking : (firms : List Firm) (trades : List Ends) (over : ℤ) (contracts : List Contract) (left : ℕ)
    (listed : List ℕ) (cost : ℤ) (count cycle : ℕ) (solution : Solution)
    → IsRound firms trades over contracts left listed cost count cycle solution
    → unsigned_part contracts (length trades) solution.on ≡ cycle
    → (first : ℕ) → IsBegin (length trades) listed first → (offers : List Contract)
    → AreAtNodes contracts solution.prices listed first count offers
    → IsBlockingChain firms trades over contracts offers
is_blocking firms trades over contracts left listed cost count cycle solution round all_on first begin offers at =
    record {
      unsigned = λ k offer is. (node k offer is).1;
      small = λ k offer is. subst (λ (z : ℤ). IsAtMost z (most_number - 1)) (sym (at.each k offer is).1)
          (round.solved.small (number_from contracts 0 offer.trade));
      chain = λ k one next first_ends second_ends one_is next_is first_is second_is.
          let a = (at.each k one one_is).0 in
          let b = (at.each (k + 1) next next_is).0 in
          let place : first + (k + 1) ≡ suc (first + k) = omega arith in
          let arc = walk_arc (is_admitted (length trades) left)
          (reduced_arc firms trades over contracts) round.found.first
          round.found.rest round.found.first cost round.found.cycle.walk (first + k) one.trade next.trade
          (ap (λ (xs : List ℕ). slice_get xs (first + k)) (sym round.found.nodes_are) ∙ a)
          (ap (λ (xs : List ℕ). slice_get xs (suc (first + k))) (sym round.found.nodes_are)
          ∙ ap (slice_get listed) (sym place) ∙ b) in
          arc_linked firms trades over contracts one.trade next.trade arc.0 first_ends second_ends
          first_is second_is arc.1;
      blocks = all_on_block firms trades over contracts (chain_scale (length trades) contracts) cycle cycle
          (price_for contracts solution.prices) round.outcome (omega (arith, ints))
          (subst (λ (on : ℕ). IsTaxedEquilibrium firms trades over contracts
          (chain_scale (length trades) contracts) cycle
          on (price_for contracts solution.prices)) all_on round.solved.taxed)
          offers (record {
            some = some;
            feasible = record {
              known = λ k offer is. (node k offer is).0;
              once = λ j k one other one_is other_is same.
                  let place = different (first + j) (first + k) one.trade (at.each j one one_is).0
                  ((at.each k other other_is).0 ∙ ap (λ (n : ℕ). Some n) (sym same)) in
                  omega (arith, place);
            };
            unsigned = λ k offer is. (node k offer is).1;
            taken = λ k offer is.
                let inside = slice_get_within listed (first + k) offer.trade (at.each k offer is).0 in
                round.nodes.each (first + k) offer.trade (omega (arith, inside, counted)) (at.each k offer is).0
                (node k offer is).0;
            priced = λ k offer is. (at.each k offer is).1;
            each = λ t below there. offer_for t below there;
          });
    }
  where
    different : AreDifferent listed
    different = different_listed (length trades + 1) (arcs_among (is_admitted (length trades) left)
        (reduced_arc firms trades over contracts)) listed cost count round.found

    counted : count ≡ length listed
    counted = round.found.counted

    node : (k : ℕ) (offer : Contract) → slice_get offers k ≡ Some offer → (offer.trade < length trades)
        × (is_signed contracts offer.trade ≡ false)
    node k offer is =
        node_is firms trades over contracts left listed cost count cycle solution round first begin (first + k)
        offer.trade (omega arith) (at.each k offer is).0

    offer_for : (t : ℕ) → t < length trades → has cycle t ≡ true → (k : ℕ) × (offer : Contract)
        × (slice_get offers k ≡ Some offer) × (offer.trade ≡ t)
    offer_for t below there =
        let old = round.nodes.only t there in
        let later : first ≤ old.1 = (elim begin.which [
          | inr without ↦ (let none = without.1 in omega (arith, none))
          | inl with_null ↦ (let one = with_null.1 in elim (cases_eq old.1 0) [
            | inr apart ↦ omega (arith, one, apart)
            | inl zero_place ↦
                absurd (let same = same_Some _ _ (sym begin.is ∙ ap (slice_get listed) (sym zero_place) ∙ old.3) in
                let null = with_null.0 in omega (arith, same, null, below))
          ])
        ]) in
        let sum = at.counted in
        let inside = old.2 in
        elim (slice_get_cases offers (old.1 - first)).1 [
          | inr past ↦ absurd (let above = past.0 in omega (arith, above, sum, inside, later))
          | inl offer ↦
              let place : first + (old.1 - first) ≡ old.1 = omega (arith, later) in (
                old.1 - first,
                offer.0,
                offer.2,
                same_Some _ _ (sym (at.each (old.1 - first) offer.0 offer.2).0
                    ∙ ap (slice_get listed) place ∙ old.3),
              )
        ]

    some : 0 < length offers
    some =
        let sum = at.counted in
        let listed_length = ap (length {A = ℕ}) round.found.nodes_are in
        elim begin.which [
          | inr without ↦ (let none = without.1 in omega (arith, sum, counted, listed_length, none))
          | inl with_null ↦ (let one = with_null.1 in by_rest round.found.rest refl sum one with_null.0)
        ]
      where
        by_rest : (rest : List ℕ) → round.found.rest ≡ rest → first + length offers ≡ count → first ≡ 1
            → begin.head ≡ length trades → 0 < length offers
        by_rest [] none sum one null =
            let head : begin.head ≡ round.found.first =
            same_Some _ _ (sym begin.is ∙ ap (λ (xs : List ℕ). slice_get xs 0) round.found.nodes_are) in
            let walk = sym
            (ap (λ (xs : List ℕ). walk_cost (arcs_among (is_admitted (length trades) left)
            (reduced_arc firms trades over contracts)) round.found.first xs round.found.first) none)
            ∙ round.found.cycle.walk in
            let arc = (among_arc (is_admitted (length trades) left) (reduced_arc firms trades over contracts)
            round.found.first round.found.first cost walk).1 in
            let nothing = ap₂ (reduced_arc firms trades over contracts) (sym head ∙ null) (sym head ∙ null)
            ∙ null_arc firms trades over contracts in
            absurd (cc (arc, nothing))
        by_rest (v ∷ rest) more sum one null =
            let listed_length = ap (length {A = ℕ}) round.found.nodes_are in
            let rest_length = ap (length {A = ℕ}) more in
            omega (arith, sum, one, counted, listed_length, rest_length)

-- ---- as the code has it

pub round_of : (firms : List Firm) (trades : List Ends) (over : ℤ) (contracts : List Contract) (graph : CostBlocks)
    → IsExchangeGraph (reduced_firms trades over contracts firms) trades 0 graph → (null : ℕ) → null ≡ length trades
    → IsRationalOutcome firms trades over contracts → (left : ℕ) → HasCycle firms trades over contracts left
    → (listed : List ℕ) (count : ℕ)
    → (found : (cost : ℤ)
    × IsNegative (null + 1) (arcs_among (is_admitted null left) (arcs_of graph)) listed cost count) → (cycle : ℕ)
    → HasNodes null listed count cycle
    → (solution : Solution) → IsSolvedAmong firms trades over contracts cycle solution
    → IsRound firms trades over contracts left listed found.0 count cycle solution
round_of firms trades over contracts graph is null null_is outcome left has_cycle listed count found cycle nodes
    solution solved = record {
      outcome = outcome;
      left_inside = has_cycle.inside;
      found = found_in_graph firms trades over contracts graph is left listed found.0 count
          (subst (λ (n : ℕ). IsNegative (n + 1) (arcs_among (is_admitted n left) (arcs_of graph)) listed found.0 count)
          null_is found.1);
      nodes = subst (λ (n : ℕ). HasNodes n listed count cycle) null_is nodes;
      solved = solved;
    }

-- the number of a trade has a price
pub number_priced : (firms : List Firm) (trades : List Ends) (over : ℤ) (contracts : List Contract) (allowed : ℕ)
    (solution : Solution) → IsSolvedAmong firms trades over contracts allowed solution
    → (v : ℕ) → v < length trades → is_signed contracts v ≡ false → number_from contracts 0 v < length solution.prices
number_priced firms trades over contracts allowed solution solved v below free =
    let less = number_less contracts v (length trades) below free in
    let all = unsigned_size contracts (length trades) in
    let more = made_more (length firms) trades contracts in
    let sized = solved.sized in
    omega (arith, less, all, more, sized)

-- at first no numbers keep the graph on all unsigned trades, since they would complete the outcome
pub first_cycle : (firms : List Firm) (trades : List Ends) (over : ℤ) (contracts : List Contract)
    → IsRationalOutcome firms trades over contracts
    → ((prices : ℕ → ℤ) → Completes firms trades over contracts prices → ⊥)
    → HasCycle firms trades over contracts (unsigned (length trades) contracts)
first_cycle firms trades over contracts outcome incomplete = record {
  inside = λ k there. there;
  broken = λ label keeps. incomplete (completed trades contracts label)
      (completes_from_labels firms trades over contracts label outcome
      (λ u v cost is. keeps u v cost (inside u v cost is)));
}
  where
    node : (u : ℕ) → u ≤ length trades → (u < length trades → is_signed contracts u ≡ false)
        → is_admitted (length trades) (unsigned (length trades) contracts) u ≡ true
    node u within free = elim (cases_lt u (length trades)) [
      | inr above ↦
          or_left (u == length trades) (has (unsigned (length trades) contracts) u)
          (eq-eqb u (length trades) (omega (arith, within, above)))
      | inl below ↦ or_right (u == length trades) (has (unsigned (length trades) contracts) u)
          (has-set_of (λ t. not (is_signed contracts t)) (length trades) u
          ∙ ap₂ (λ (a b : Bool). a && not b) (lt-ltb u (length trades) below) (free below))
    ]

    inside : (u v : ℕ) (cost : ℤ) → reduced_arc firms trades over contracts u v ≡ Some cost
        → arcs_among (is_admitted (length trades) (unsigned (length trades) contracts))
        (reduced_arc firms trades over contracts) u v ≡ Some cost
    inside u v cost is =
        let ends = reduced_arcs_are_unsigned firms trades over contracts u v cost outcome.network is in
        ap₂ (λ (a b : Bool). if a && b then reduced_arc firms trades over contracts u v
        else None) (node u ends.0.within ends.0.unsigned) (node v ends.1.within ends.1.unsigned) ∙ is

pub same_from : (a b : ℕ) (result : Bool) → result ≡ (a == b) → result ≡ true → a ≡ b
same_from a b result is test = eqb-true a b (sym is ∙ test)

pub apart_from : (a b : ℕ) (result : Bool) → result ≡ (a == b) → result ≡ false → a ≢ b
apart_from a b result is test same = let yes = eq-eqb a b same in let no = sym is ∙ test in cc (yes, no)

pub three_ok : {A E : Type 0} (P Q R S : A → Type 0) (result : Result A E) → ((x : A) → P x → Q x → R x → S x)
    → IfOk result P → IfOk result Q → IfOk result R → IfOk result S
three_ok P Q R S (Ok x) step p q r = step x p q r
three_ok P Q R S (Err e) step p q r = p

-- an individually rational outcome of a market
pub rational_outcome : {V : Type 0} {limit_of : V → ℕ} (firm_of : V
    → Firm) (items : List V) (trades : List Ends) (over : ℤ) (contracts : List Contract)
    → IsNetwork (map firm_of items) trades
    → ((v : V) → IsLawful (limit_of v) (firm_of v)) → IsOutcomeOf trades over contracts
    → IsIndividuallyRational (map firm_of items) trades over contracts
    → IsRationalOutcome (map firm_of items) trades over contracts
rational_outcome firm_of items trades over contracts network lawful outcome rational = record {
  network = network;
  meet = meet_all firm_of items lawful;
  from_one = outcome.least;
  feasible = outcome_feasible trades over contracts outcome;
  rational = rational;
}
