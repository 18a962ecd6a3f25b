-- One round of the search for a chain.
use Rattle.std.proofs.Common.{◌≡◌, ◌≢◌, ℕ, zero, suc, ◌+◌, ◌^◌, ◌<◌, ◌≤◌, Bool, true, false, not, ◌==◌, ◌&&◌, if◌then◌else◌, List, [], ◌∷◌, length, slice_get, Option, Some, None, refl, sym, ap, ap₂, ◌∙◌, subst, arith, inl, inr, ◌⊎◌, ℤ}
use Rattle.std.specs.Prelude.{nat_lt}
use Rattle.std.proofs.lemmas.Int.{ints}
use Rattle.std.proofs.lemmas.Nat.{pow_pos}
use Rattle.std.proofs.lemmas.Bool.{cases_Bool, cases_eq, cases_lt, and_parts, or_cases, or_left, or_right, eqb-true, ltb-true}
use Rattle.std.proofs.lemmas.Option.{same_Some, slice_get_within, slice_get_past}
use Rattle.tn_base.specs.Sets.{has, size}
use Rattle.tn_base.specs.Firm.{Firm}
use Rattle.tn_base.specs.Walks.{walk_cost, arcs_among, is_admitted, AreDifferent, IsCycle, KeepsArcs}
use Rattle.tn_base.proofs.SetLemmas.{has-set_of, has-zero, has_below, same_below, set_of_within, within_from}
use Rattle.tn_base.proofs.SizeLemmas.{size_at}
use Rattle.tn_base.proofs.WalkLemmas.{walk_parts, both_are, walk-same, among-same}
use Rattle.tn_model.specs.declared.ends.Ends.{Ends}
use Rattle.tn_model.specs.declared.contract.Contract.{Contract}
use Rattle.tn_market.specs.Best.{IsSubset}
use Rattle.tn_market.specs.Signed.{is_signed}
use Rattle.tn_market.specs.Reduced.{reduced_firms, reduced_arc}
use Rattle.tn_cycle.specs.Answers.{IsNegative}
use Rattle.tn_flow.specs.Solved.{Solution}
use Rattle.tn_graph.specs.Blocks.{CostBlocks, arcs_of}
use Rattle.tn_graph.specs.Reading.{IsExchangeGraph}
use Rattle.tn_outcome_laws.specs.Rational.{IsRationalOutcome}
use Rattle.tn_residual.specs.Residual.{number_from, unsigned, unsigned_part}
use Rattle.tn_blocking_laws.specs.Taxed.{IsTaxedEquilibrium}
use Rattle.tn_blocking_laws.proofs.TaxLemmas.{some_on_is_cycle}
use Rattle.tn_blocking_laws.proofs.CycleLemmas.{among_arc, walk_test, admitted_trade, none_on_is_no_cycle}
use Rattle.tn_blocking_laws.proofs.OfferLemmas.{fewer, whole_part}
use Rattle.tn_chain.specs.Moves.{move_between}
use Rattle.tn_chain.specs.Listed.{HasNodes}
use Rattle.tn_chain.specs.Search.{chain_scale, price_for, IsSolvedAmong, HasCycle}
use Rattle.tn_chain.proofs.MoveLemmas.{arc_of_move, move_cost}

-- ---- sets

member_or_none : (n x : ℕ) → ((k : ℕ) × (k < n) × (has x k ≡ true)) ⊎ ((k : ℕ) → k < n → has x k ≡ false)
member_or_none zero x = inr (λ k below. absurd (omega (arith, below)))
member_or_none (suc n) x = elim (member_or_none n x) [
  | inl found ↦ inl (found.0, (let below = found.1 in omega (arith, below)), found.2)
  | inr none ↦ elim (cases_Bool (has x n)) [
    | inl there ↦ inl (n, omega arith, there)
    | inr away ↦
        inr (λ k below. elim (cases_eq k n) [
          | inl e ↦ ap (has x) e ∙ away
          | inr d ↦
              none k (omega (arith, below, d))
        ])
  ]
]

subset_size : (n x z : ℕ) → x < 2 ^ n → z < 2 ^ n → IsSubset x z → size x ≤ size z
subset_size n x z x_within z_within inside =
    let less = fewer n x z inside in
    let first = size_at n x x_within in
    let second = size_at n z z_within in
    omega (arith, less, first, second)

subset_within : (n x z : ℕ) → z < 2 ^ n → IsSubset x z → x < 2 ^ n
subset_within n x z within inside = within_from x n (λ k above. elim (cases_Bool (has x k)) [
  | inr away ↦ away
  | inl there ↦ absurd (let below = has_below z n k within (inside k there) in omega (arith, below, above))
])

-- a part of a set that is another one has fewer members
strictly_fewer : (n x z : ℕ) → x < 2 ^ n → z < 2 ^ n → IsSubset x z → x ≢ z → size x < size z
strictly_fewer n x z x_within z_within inside apart = elim (cases_lt (size x) (size z)) [
  | inl less ↦ less
  | inr many ↦ absurd (apart (same_below x z n x_within z_within (λ k below.
      let first = size_at n x x_within in
      let second = size_at n z z_within in
      by_case (has x k) (has z k) (inside k) (whole_part n x z inside (omega (arith, many, first, second)) k below))))
]
  where
    by_case : (a b : Bool) → (a ≡ true → b ≡ true) → (b ≡ true → a ≡ true) → a ≡ b
    by_case true b f h = sym (f refl)
    by_case false true f h = absurd (let no = h refl in cc no)
    by_case false false f h = refl

pub unsigned_member : (n : ℕ) (contracts : List Contract) (t : ℕ) → has (unsigned n contracts) t ≡ true → (t < n)
    × (is_signed contracts t ≡ false)
unsigned_member n contracts t there =
    let parts = and_parts (nat_lt t n) (not (is_signed contracts t))
    (sym (has-set_of (λ t. not (is_signed contracts t)) n t) ∙ there) in
    (ltb-true t n parts.0, turned (is_signed contracts t) parts.1)
  where
    turned : (b : Bool) → not b ≡ true → b ≡ false
    turned true e = absurd (cc e)
    turned false e = refl

-- ---- walks

-- a walk whose nodes pass a test is one among those that do
walk_among : (first second : ℕ → Bool) (arc : ℕ → ℕ → Option ℤ) (u : ℕ) (vs : List ℕ) (w : ℕ) (cost : ℤ)
    → walk_cost (arcs_among first arc) u vs w ≡ Some cost
    → ((k v : ℕ) → slice_get (u ∷ vs) k ≡ Some v → second v ≡ true) → second w ≡ true
    → walk_cost (arcs_among second arc) u vs w ≡ Some cost
walk_among first second arc u [] w cost is pass last =
    ap₂ (λ (a b : Bool). if a && b then arc u w else None) (pass 0 u refl) last ∙ (among_arc first arc u w cost is).1
walk_among first second arc u (v ∷ vs) w cost is pass last =
    let parts = walk_parts (arcs_among first arc) u v vs w cost is in
    both_are _ _ parts.first parts.second
    (ap₂ (λ (a b : Bool). if a && b then arc u v else None) (pass 0 u refl) (pass 1 v refl)
    ∙ (among_arc first arc u v parts.first parts.first_is).1)
    (walk_among first second arc v vs w parts.second parts.second_is (λ k x x_is. pass (suc k) x x_is) last)
    ∙ ap (λ (z : ℤ). Some z) (sym parts.sum_is)

-- the arc between two nodes in a row
pub walk_arc : (test : ℕ → Bool) (arc : ℕ → ℕ → Option ℤ) (u : ℕ) (vs : List ℕ) (w : ℕ) (cost : ℤ)
    → walk_cost (arcs_among test arc) u vs w ≡ Some cost
    → (k a b : ℕ) → slice_get (u ∷ vs) k ≡ Some a → slice_get (u ∷ vs) (suc k) ≡ Some b → (c : ℤ) × (arc a b ≡ Some c)
walk_arc test arc u [] w cost is zero a b a_is b_is = absurd (cc b_is)
walk_arc test arc u [] w cost is (suc k) a b a_is b_is = absurd (cc a_is)
walk_arc test arc u (v ∷ vs) w cost is zero a b a_is b_is =
    let parts = walk_parts (arcs_among test arc) u v vs w cost is in (
      parts.first,
      ap₂ arc (sym (same_Some u a a_is)) (sym (same_Some v b b_is))
          ∙ (among_arc test arc u v parts.first parts.first_is).1,
    )
walk_arc test arc u (v ∷ vs) w cost is (suc k) a b a_is b_is =
    let parts = walk_parts (arcs_among test arc) u v vs w cost is in
    walk_arc test arc v vs w parts.second parts.second_is k a b a_is b_is

-- the buyer of a trade is the seller of the next one
pub arc_linked : (firms : List Firm) (trades : List Ends) (over : ℤ) (contracts : List Contract) (u v : ℕ) (cost : ℤ)
    (first second : Ends) → slice_get trades u ≡ Some first → slice_get trades v ≡ Some second
    → reduced_arc firms trades over contracts u v ≡ Some cost → first.buyer ≡ second.seller
arc_linked firms trades over contracts u v cost first second first_is second_is is =
    by_test (first.buyer == second.seller) refl
  where
    below : (t : ℕ) (trade : Ends) → slice_get trades t ≡ Some trade → t ≤ length trades
    below t trade there = (let h = slice_get_within trades t trade there in omega (arith, h))

    moves : reduced_arc firms trades over contracts u v
        ≡ move_cost (reduced_firms trades over contracts firms) (move_between (Some first) (Some second))
    moves = arc_of_move (reduced_firms trades over contracts firms) trades u v (below u first first_is)
        (below v second second_is)
        ∙ ap₂ (λ (o p : Option Ends). move_cost (reduced_firms trades over contracts firms) (move_between o p)) first_is
        second_is

    by_test : (b : Bool) → (first.buyer == second.seller) ≡ b → first.buyer ≡ second.seller
    by_test true e = eqb-true first.buyer second.seller e
    by_test false e = absurd (let none = sym moves ∙ is in apart e none)
      where
        apart : (first.buyer == second.seller) ≡ false
            → move_cost (reduced_firms trades over contracts firms) (move_between (Some first) (Some second))
            ≡ Some cost → ⊥
        apart e some = by (move_between (Some first) (Some second)) (no_move e) some
          where
            no_move : (first.buyer == second.seller) ≡ false → move_between (Some first) (Some second) ≡ None
            no_move e = rw e refl

            by : (o : Option (ℕ × ℕ)) → o ≡ None → move_cost (reduced_firms trades over contracts firms) o ≡ Some cost
                → ⊥
            by None none h = absurd (cc h)
            by (Some m) none h = absurd (cc none)

-- null has no arc to itself
pub null_arc : (firms : List Firm) (trades : List Ends) (over : ℤ) (contracts : List Contract)
    → reduced_arc firms trades over contracts (length trades) (length trades) ≡ None
null_arc firms trades over contracts =
    arc_of_move (reduced_firms trades over contracts firms) trades (length trades) (length trades) (omega arith)
    (omega arith)
    ∙ ap₂ (λ (o p : Option Ends). move_cost (reduced_firms trades over contracts firms) (move_between o p))
    (slice_get_past trades (length trades) (omega arith)) (slice_get_past trades (length trades) (omega arith))

-- ---- a round

-- a negative cycle on what is left, the set of its trades, and what the solver finds among them
pub record IsRound (firms : List Firm) (trades : List Ends) (over : ℤ) (contracts : List Contract) (left : ℕ)
    (listed : List ℕ) (cost : ℤ) (count cycle : ℕ) (solution : Solution) : Type 0 where
  pub outcome : IsRationalOutcome firms trades over contracts
  pub left_inside : IsSubset left (unsigned (length trades) contracts)
  pub found : IsNegative (length trades + 1) (arcs_among (is_admitted (length trades) left)
      (reduced_arc firms trades over contracts)) listed cost count
  pub nodes : HasNodes (length trades) listed count cycle
  pub solved : IsSolvedAmong firms trades over contracts cycle solution

-- the graph that was read has the same cycle
pub found_in_graph : (firms : List Firm) (trades : List Ends) (over : ℤ) (contracts : List Contract) (graph : CostBlocks)
    → IsExchangeGraph (reduced_firms trades over contracts firms) trades 0 graph
    → (left : ℕ) (listed : List ℕ) (cost : ℤ) (count : ℕ)
    → IsNegative (length trades + 1) (arcs_among (is_admitted (length trades) left) (arcs_of graph)) listed cost
    count
    → IsNegative (length trades + 1) (arcs_among (is_admitted (length trades) left)
    (reduced_arc firms trades over contracts)) listed cost count
found_in_graph firms trades over contracts graph is left listed cost count found = record {
  first = found.first;
  rest = found.rest;
  nodes_are = found.nodes_are;
  counted = found.counted;
  negative = found.negative;
  cycle = record {
    walk = sym (walk-same (arcs_among (is_admitted (length trades) left) (arcs_of graph))
        (arcs_among (is_admitted (length trades) left) (reduced_arc firms trades over contracts))
        (among-same (is_admitted (length trades) left) (arcs_of graph) (reduced_arc firms trades over contracts)
        is.arcs) found.first found.rest found.first) ∙ found.cycle.walk;
    different = found.cycle.different;
  };
  begins = found.begins;
}

-- and no numbers keep it
pub broken_in_graph : (firms : List Firm) (trades : List Ends) (over : ℤ) (contracts : List Contract) (graph : CostBlocks)
    → IsExchangeGraph (reduced_firms trades over contracts firms) trades 0 graph
    → (left : ℕ) → HasCycle firms trades over contracts left → (label : ℕ → ℤ)
    → KeepsArcs (arcs_among (is_admitted (length trades) left) (arcs_of graph)) label → ⊥
broken_in_graph firms trades over contracts graph is left has_cycle label keeps =
    has_cycle.broken label
    (λ u v c arc. keeps u v c (among-same (is_admitted (length trades) left) (arcs_of graph)
    (reduced_arc firms trades over contracts) is.arcs u v ∙ arc))

pub different_listed : (nodes : ℕ) (arc : ℕ → ℕ → Option ℤ) (listed : List ℕ) (cost : ℤ) (count : ℕ)
    → IsNegative nodes arc listed cost count → AreDifferent listed
different_listed nodes arc listed cost count found = subst AreDifferent (sym found.nodes_are) found.cycle.different

-- a trade that is listed is left
pub listed_left : (firms : List Firm) (trades : List Ends) (over : ℤ) (contracts : List Contract) (left : ℕ)
    (listed : List ℕ) (cost : ℤ) (count cycle : ℕ) (solution : Solution)
    → IsRound firms trades over contracts left listed cost count cycle solution → (k v : ℕ)
    → slice_get listed k ≡ Some v → is_admitted (length trades) left v ≡ true
listed_left firms trades over contracts left listed cost count cycle solution round k v is =
    walk_test (is_admitted (length trades) left) (reduced_arc firms trades over contracts) round.found.first
    round.found.rest round.found.first cost round.found.cycle.walk k v
    (ap (λ (xs : List ℕ). slice_get xs k) (sym round.found.nodes_are) ∙ is)

cycle_left : (firms : List Firm) (trades : List Ends) (over : ℤ) (contracts : List Contract) (left : ℕ)
    (listed : List ℕ) (cost : ℤ) (count cycle : ℕ) (solution : Solution)
    → IsRound firms trades over contracts left listed cost count cycle solution → IsSubset cycle left
cycle_left firms trades over contracts left listed cost count cycle solution round t there =
    let old = round.nodes.only t there in
    admitted_trade (length trades) left t (listed_left firms trades over contracts left listed cost count cycle solution
    round old.1 t old.3) old.0

-- the cycle lies among its own trades
cycle_again : (firms : List Firm) (trades : List Ends) (over : ℤ) (contracts : List Contract) (left : ℕ)
    (listed : List ℕ) (cost : ℤ) (count cycle : ℕ) (solution : Solution)
    → (round : IsRound firms trades over contracts left listed cost count cycle solution)
    → IsCycle (arcs_among (is_admitted (length trades) cycle) (reduced_arc firms trades over contracts))
    round.found.first round.found.rest cost
cycle_again firms trades over contracts left listed cost count cycle solution round = record {
  walk = walk_among (is_admitted (length trades) left) (is_admitted (length trades) cycle)
      (reduced_arc firms trades over contracts) round.found.first round.found.rest round.found.first cost
      round.found.cycle.walk pass
      (pass 0 round.found.first refl);
  different = round.found.cycle.different;
}
  where
    pass : (k v : ℕ) → slice_get (round.found.first ∷ round.found.rest) k ≡ Some v
        → is_admitted (length trades) cycle v ≡ true
    pass k v is =
        let there : slice_get listed k ≡ Some v = ap (λ (xs : List ℕ). slice_get xs k) round.found.nodes_are ∙ is in
        elim (or_cases (v == length trades) (has left v) (listed_left firms trades over contracts left listed cost count
        cycle solution round k v there)) [
          | inl null ↦ or_left (v == length trades) (has cycle v) null
          | inr member ↦
              let below = (unsigned_member (length trades) contracts v (round.left_inside v member)).0 in
              let inside = slice_get_within listed k v there in
              let counted = round.found.counted in
              or_right (v == length trades) (has cycle v) (round.nodes.each k v (omega (arith, inside, counted)) there
              below)
        ]

left_within : (firms : List Firm) (trades : List Ends) (over : ℤ) (contracts : List Contract) (left : ℕ)
    → IsSubset left (unsigned (length trades) contracts) → left < 2 ^ length trades
left_within firms trades over contracts left inside =
    subset_within (length trades) left (unsigned (length trades) contracts)
    (set_of_within (λ t. not (is_signed contracts t)) (length trades)) inside

cycle_within : (firms : List Firm) (trades : List Ends) (over : ℤ) (contracts : List Contract) (left : ℕ)
    (listed : List ℕ) (cost : ℤ) (count cycle : ℕ) (solution : Solution)
    → IsRound firms trades over contracts left listed cost count cycle solution → cycle < 2 ^ length trades
cycle_within firms trades over contracts left listed cost count cycle solution round =
    subset_within (length trades) cycle left (left_within firms trades over contracts left round.left_inside)
    (cycle_left firms trades over contracts left listed cost count cycle solution round)

on_within : (contracts : List Contract) (n on : ℕ) → unsigned_part contracts n on < 2 ^ n
on_within contracts n on = set_of_within (λ t. not (is_signed contracts t) && has on (number_from contracts 0 t)) n

-- something is on, so the graph on what is on has a cycle
pub still_cycle : (firms : List Firm) (trades : List Ends) (over : ℤ) (contracts : List Contract) (left : ℕ)
    (listed : List ℕ) (cost : ℤ) (count cycle : ℕ) (solution : Solution)
    → IsRound firms trades over contracts left listed cost count cycle solution
    → HasCycle firms trades over contracts (unsigned_part contracts (length trades) solution.on)
still_cycle firms trades over contracts left listed cost count cycle solution round = record {
  inside = λ t there. round.left_inside t (cycle_left firms trades over contracts left listed cost count cycle solution
      round t (round.solved.taxed.inside t there));
  broken = λ label keeps. elim (member_or_none (length trades) (unsigned_part contracts (length trades) solution.on)) [
    | inl found ↦
        some_on_is_cycle firms trades over contracts (chain_scale (length trades) contracts) cycle
        (unsigned_part contracts (length trades) solution.on) (price_for contracts solution.prices)
        round.outcome (omega (arith, ints)) round.solved.taxed found.0 found.1 found.2 label keeps
    | inr none ↦
        let nothing : unsigned_part contracts (length trades) solution.on ≡ 0 =
        same_below (unsigned_part contracts (length trades) solution.on) 0 (length trades)
        (on_within contracts (length trades) solution.on) (pow_pos (length trades)) (λ k below. none k below
        ∙ sym (has-zero k)) in
        let many = subset_size (length trades) cycle (unsigned (length trades) contracts)
        (cycle_within firms trades over contracts left listed cost count cycle solution round)
        (set_of_within (λ t. not (is_signed contracts t)) (length trades))
        (λ t there. round.left_inside t (cycle_left firms trades over contracts left listed cost count cycle
        solution round t there)) in
        let least = none_on_is_no_cycle firms trades over contracts (chain_scale (length trades) contracts) cycle
        (price_for contracts solution.prices) round.outcome.network
        (subst (λ (on : ℕ). IsTaxedEquilibrium firms trades over contracts (chain_scale (length trades) contracts) cycle
        on (price_for contracts solution.prices)) nothing round.solved.taxed)
        (omega (arith, ints, many)) round.found.first round.found.rest cost
        (cycle_again firms trades over contracts left listed cost count cycle solution round) in
        let negative = round.found.negative in
        absurd (omega (arith, ints, least, negative))
  ];
}

-- and where not all of the cycle is on, less is left
pub less_left : (firms : List Firm) (trades : List Ends) (over : ℤ) (contracts : List Contract) (left : ℕ)
    (listed : List ℕ) (cost : ℤ) (count cycle : ℕ) (solution : Solution)
    → IsRound firms trades over contracts left listed cost count cycle solution
    → unsigned_part contracts (length trades) solution.on ≢ cycle
    → size (unsigned_part contracts (length trades) solution.on) < size left
less_left firms trades over contracts left listed cost count cycle solution round apart =
    let within = cycle_within firms trades over contracts left listed cost count cycle solution round in
    let fewer_on =
    strictly_fewer (length trades) (unsigned_part contracts (length trades) solution.on) cycle
    (on_within contracts (length trades) solution.on) within round.solved.taxed.inside apart in
    let fewer_cycle =
    subset_size (length trades) cycle left within (left_within firms trades over contracts left round.left_inside)
    (cycle_left firms trades over contracts left listed cost count cycle solution round) in
    omega (arith, fewer_on, fewer_cycle)
