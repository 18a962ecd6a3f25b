-- The highest and the lowest prices are least costs of walks from null and to null.
use Rattle.std.proofs.Common.{◌≡◌, ℕ, ◌<◌, ◌≤◌, Bool, true, false, ◌==◌, if◌then◌else◌, List, [], ◌∷◌, ◌++◌, length, Some, None, Option, option_map, refl, sym, ap, ◌∙◌, subst, arith, inl, inr, ◌⊎◌, ℤ, pos, ◌+ℤ◌, ◌-ℤ◌, neg_ℤ, ◌≤ℤ◌}
use Rattle.std.specs.Prelude.{◌<ℤ◌, int_le, IsSome}
use Rattle.std.proofs.lemmas.Int.{ints, by_lt_z}
use Rattle.std.proofs.lemmas.Bool.{cases_eq, eq-eqb, ne_eqb, lt-ltb, le-ltb}
use Rattle.std.proofs.lemmas.Option.{none-some, same_Some}
use Rattle.tn_base.specs.Firm.{Firm}
use Rattle.tn_base.specs.Walks.{walk_cost, KeepsArcs}
use Rattle.tn_base.proofs.WalkLemmas.{walk-joined, both_are}
use Rattle.tn_firm_laws.proofs.KeepLemmas.{option_map-some}
use Rattle.tn_firm_laws.proofs.LabelLemmas.{walk-kept}
use Rattle.tn_model.specs.declared.ends.Ends.{Ends}
use Rattle.tn_model.specs.Network.{part, IsNetwork}
use Rattle.tn_market.specs.Equilibrium.{IsEquilibrium}
use Rattle.tn_market.specs.Graph.{exchange_arc, ArePossible}
use Rattle.tn_market.specs.Ranges.{IsPriceOf, IsHighest, IsLowest}
use Rattle.tn_market.proofs.GraphLemmas.{arc_within}
use Rattle.tn_network_laws.specs.Laws.{MeetExchange, price_of_node}
use Rattle.tn_network_laws.specs.Bounds.{IsDistance, AreDistancesFromNull, AreDistancesToNull, PriceBoundsAreDistances}
use Rattle.tn_network_laws.proofs.WelfareLemmas.{equilibrium_is_efficient, efficient_sets_share_prices}
use Rattle.tn_network_laws.proofs.SupportLemmas.{arcs_from_supports, labels_are_supports}
use Rattle.tn_network_laws.proofs.EachLemmas.{same_prices}

-- ---- the lesser of a number that may be none and another one

abbrev pub lesser : Option ℤ → ℤ → ℤ
lesser None z = z
lesser (Some a) z = if int_le a z then a else z

lesser-cases : (o : Option ℤ) (z : ℤ) → (lesser o z ≡ z) ⊎ (o ≡ Some (lesser o z))
lesser-cases None z = inl refl
lesser-cases (Some a) z = by (int_le a z)
  where
    by : (b : Bool) → ((if b then a else z) ≡ z) ⊎ (◌≡◌ {A = Option ℤ} (Some a) (Some (if b then a else z)))
    by true = inr refl
    by false = inl refl

lesser-second : (o : Option ℤ) (z : ℤ) → lesser o z ≤ℤ z
lesser-second None z = omega (arith, ints)
lesser-second (Some a) z = by (int_le a z) refl
  where
    by : (b : Bool) → int_le a z ≡ b → (if b then a else z) ≤ℤ z
    by true e = omega (arith, ints, e)
    by false e = omega (arith, ints)

lesser-first : (o : Option ℤ) (a z : ℤ) → o ≡ Some a → lesser o z ≤ℤ a
lesser-first None a z is = absurd (none-some a is)
lesser-first (Some b) a z is = let same = same_Some b a is in by (int_le b z) refl same
  where
    by : (t : Bool) → int_le b z ≡ t → b ≡ a → (if t then b else z) ≤ℤ a
    by true e same = omega (arith, ints, same)
    by false e same = omega (arith, ints, e, same)

-- a number that is at most the other is the lesser one
lesser-is : (o : Option ℤ) (a z : ℤ) → o ≡ Some a → a ≤ℤ z → lesser o z ≡ a
lesser-is o a z is le = elim (lesser-cases o z) [
  | inl e ↦ let first = lesser-first o a z is in omega (arith, ints, e, first, le)
  | inr e ↦ same_Some _ _ (sym e ∙ is)
]

-- ---- numbers of some of the nodes

-- an arc from a node that has a number leads to one that has a number, and costs at least the difference
abbrev pub KeepsFound : (ℕ → ℕ → Option ℤ) → (ℕ → Option ℤ) → Type 0
KeepsFound arc found = (u v : ℕ) (a cost : ℤ) → found u ≡ Some a → arc u v ≡ Some cost → (b : ℤ) × (found v ≡ Some b)
    × (b ≤ℤ (a +ℤ cost))

-- with numbers of all nodes above them they keep the arcs
lesser-keeps : (arc : ℕ → ℕ → Option ℤ) (found : ℕ → Option ℤ) (label : ℕ → ℤ) → KeepsFound arc found
    → KeepsArcs arc label → KeepsArcs arc (λ v. lesser (found v) (label v))
lesser-keeps arc found label some all u v cost is = elim (lesser-cases (found u) (label u)) [
  | inl e ↦
      let kept = all u v cost is in
      let below = lesser-second (found v) (label v) in
      omega (arith, ints, e, kept, below)
  | inr e ↦
      let next = some u v (lesser (found u) (label u)) cost e is in
      let below = lesser-first (found v) next.0 (label v) next.1 in
      let kept = next.2 in
      omega (arith, ints, below, kept)
]

-- numbers that keep the arcs, with 0 at one node
pub record AreNumbers (arc : ℕ → ℕ → Option ℤ) (null : ℕ) (label : ℕ → ℤ) : Type 0 where
  pub keeps : KeepsArcs arc label
  pub at_null : label null ≡ pos 0

raised : (arc : ℕ → ℕ → Option ℤ) (null : ℕ) (found : ℕ → Option ℤ) (label : ℕ → ℤ) → KeepsFound arc found
    → found null ≡ Some (pos 0) → AreNumbers arc null label
    → (more : ℤ) → pos 0 ≤ℤ more → AreNumbers arc null (λ v. lesser (found v) (label v +ℤ more))
raised arc null found label some begin are more positive = record {
  keeps = lesser-keeps arc found (λ v. label v +ℤ more) some (λ u v cost is. let kept = are.keeps u v cost is in
      omega (arith, ints, kept));
  at_null = lesser-is (found null) (pos 0) (label null +ℤ more) begin (let zero = are.at_null in
      omega (arith, ints, zero, positive));
}

-- numbers that are as high as found
reach : (arc : ℕ → ℕ → Option ℤ) (null : ℕ) (found : ℕ → Option ℤ) (label : ℕ → ℤ) → KeepsFound arc found
    → found null ≡ Some (pos 0) → AreNumbers arc null label
    → (t : ℕ) (a : ℤ) → found t ≡ Some a → label t ≤ℤ a → (high : ℕ → ℤ) × AreNumbers arc null high × (high t ≡ a)
reach arc null found label some begin are t a is below = (
  (λ v. lesser (found v) (label v +ℤ (a -ℤ label t))),
  raised arc null found label some begin are (a -ℤ label t) (omega (arith, ints, below)),
  lesser-is (found t) a (label t +ℤ (a -ℤ label t)) is (omega (arith, ints)),
)

-- numbers above each bound, where none is found
pass : (arc : ℕ → ℕ → Option ℤ) (null : ℕ) (found : ℕ → Option ℤ) (label : ℕ → ℤ) → KeepsFound arc found
    → found null ≡ Some (pos 0) → AreNumbers arc null label
    → (t : ℕ) → found t ≡ None → (bound : ℤ) → (high : ℕ → ℤ) × AreNumbers arc null high × (bound <ℤ high t)
pass arc null found label some begin are t is bound = by_lt_z (label t) (bound +ℤ pos 1)
    (λ less. above ((bound +ℤ pos 1) -ℤ label t) (omega (arith, ints, less)) (omega (arith, ints)))
    (λ most. above (pos 0) (omega (arith, ints)) (omega (arith, ints, most)))
  where
    above : (more : ℤ) → pos 0 ≤ℤ more → bound <ℤ (label t +ℤ more) → (high : ℕ → ℤ) × AreNumbers arc null high
        × (bound <ℤ high t)
    above more positive over = (
      (λ v. lesser (found v) (label v +ℤ more)),
      raised arc null found label some begin are more positive,
      subst (λ (o : Option ℤ). bound <ℤ lesser o (label t +ℤ more)) (sym is) over,
    )

-- ---- nodes that can be reached at some costs

-- of the costs at which node v is reached the least one, none where it isn't reached
abbrev pub IsLeastReach : (ℕ → ℤ → Type 0) → ℕ → Option ℤ → Type 0
IsLeastReach reached v (Some cost) = reached v cost × ((other : ℤ) → reached v other → cost ≤ℤ other)
IsLeastReach reached v None = (cost : ℤ) → reached v cost → ⊥

-- the cost for a node, 0 for null
abbrev pub from_null : ℕ → (ℕ → Option ℤ) → ℕ → Option ℤ
from_null null distance v = if v == null then Some (pos 0) else distance v

from_null-here : (null : ℕ) (distance : ℕ → Option ℤ) → from_null null distance null ≡ Some (pos 0)
from_null-here null distance = ap (λ (b : Bool). if b then Some (pos 0) else distance null) (eq-eqb null null refl)

from_null-other : (null : ℕ) (distance : ℕ → Option ℤ) (v : ℕ) → v < null → from_null null distance v ≡ distance v
from_null-other null distance v below = ap (λ (b : Bool). if b then Some (pos 0)
    else distance v) (ne_eqb v null (λ e. omega (arith, below, e)))

-- what is reached from null along arcs, and comes back to null at no negative cost
record IsReach (arc : ℕ → ℕ → Option ℤ) (null : ℕ) (reached : ℕ → ℤ → Type 0) : Type 0 where
  within : (u v : ℕ) (cost : ℤ) → arc u v ≡ Some cost → (u ≤ null) × (v ≤ null)
  first : (v : ℕ) (cost : ℤ) → arc null v ≡ Some cost → reached v cost
  next : (u v : ℕ) (a cost : ℤ) → reached u a → arc u v ≡ Some cost → reached v (a +ℤ cost)
  back : (cost : ℤ) → reached null cost → pos 0 ≤ℤ cost

reach-keeps : (arc : ℕ → ℕ → Option ℤ) (null : ℕ) (reached : ℕ → ℤ → Type 0) (distance : ℕ → Option ℤ)
    → IsReach arc null reached
    → ((v : ℕ) → v < null → IsLeastReach reached v (distance v)) → KeepsFound arc (from_null null distance)
reach-keeps arc null reached distance is least u v a cost u_is arc_is = there (elim (cases_eq u null) [
  | inl e ↦
      let zero : pos 0 ≡ a =
      same_Some _ _ (sym (ap (λ (b : Bool). if b then Some (pos 0) else distance u) (eq-eqb u null e)) ∙ u_is) in
      let same : cost ≡ a +ℤ cost = omega (arith, ints, zero) in
      subst (reached v) same (is.first v cost (subst (λ (w : ℕ). arc w v ≡ Some cost) e arc_is))
  | inr d ↦
      let below : u < null = (let within = (is.within u v cost arc_is).0 in omega (arith, within, d)) in
      let mine : distance u ≡ Some a = sym (from_null-other null distance u below) ∙ u_is in
      is.next u v a cost (subst (IsLeastReach reached u) mine (least u below)).0 arc_is
])
  where
    at : (o : Option ℤ) → distance v ≡ o → IsLeastReach reached v o → v < null → reached v (a +ℤ cost) → (b : ℤ)
        × (from_null null distance v ≡ Some b) × (b ≤ℤ (a +ℤ cost))
    at None o_is none below here = absurd (none (a +ℤ cost) here)
    at (Some b) o_is some below here = (b, from_null-other null distance v below ∙ o_is, some.1 (a +ℤ cost) here)

    there : reached v (a +ℤ cost) → (b : ℤ) × (from_null null distance v ≡ Some b) × (b ≤ℤ (a +ℤ cost))
    there here = elim (cases_eq v null) [
      | inl e ↦ (
        pos 0,
        ap (λ (b : Bool). if b then Some (pos 0) else distance v) (eq-eqb v null e),
        is.back (a +ℤ cost) (subst (λ (w : ℕ). reached w (a +ℤ cost)) e here),
      )
      | inr d ↦
          let below : v < null = (let within = (is.within u v cost arc_is).1 in omega (arith, within, d)) in
          at (distance v) refl (least v below) below here
    ]

-- numbers for all nodes but null keep the arcs with 0 for null
all-keeps : (arc : ℕ → ℕ → Option ℤ) (null : ℕ) (reached : ℕ → ℤ → Type 0) (high : ℕ → ℤ) → IsReach arc null reached
    → ((v : ℕ) → v < null → IsLeastReach reached v (Some (high v)))
    → AreNumbers arc null (λ v. if v == null then pos 0 else high v)
all-keeps arc null reached high is least = record {
  keeps = λ u v cost arc_is.
      let next = reach-keeps arc null reached (λ v. Some (high v)) is least u v _ cost (whole u (u == null)) arc_is in
      let same : next.0 ≡ (if v == null then pos 0 else high v) = same_Some _ _ (sym next.1 ∙ whole v (v == null)) in
      let kept = next.2 in
      omega (arith, ints, same, kept);
  at_null = ap (λ (b : Bool). if b then pos 0 else high null) (eq-eqb null null refl);
}
  where
    whole : (v : ℕ) (b : Bool) → (if b then Some (pos 0) else Some (high v)) ≡ Some (if b then pos 0 else high v)
    whole v true = refl
    whole v false = refl

-- ---- walks from null, and walks to null

-- the costs of walks from null to a node, and from a node to null
abbrev pub from_costs : (ℕ → ℕ → Option ℤ) → ℕ → ℕ → ℤ → Type 0
from_costs arc null v cost = (vs : List ℕ) × (walk_cost arc null vs v ≡ Some cost)

abbrev pub to_costs : (ℕ → ℕ → Option ℤ) → ℕ → ℕ → ℤ → Type 0
to_costs arc null v cost = (vs : List ℕ) × (walk_cost arc v vs null ≡ Some cost)

from_least : (arc : ℕ → ℕ → Option ℤ) (null v : ℕ) (o : Option ℤ) → IsDistance arc null v o
    → IsLeastReach (from_costs arc null) v o
from_least arc null v None none = λ cost reached. let gone = none reached.0 in let here = reached.1 in
    absurd (cc (gone, here))
from_least arc null v (Some cost) some = (
  (some.0, some.1.walk),
  λ other reached. some.1.least reached.0 other reached.1,
)

to_least : (arc : ℕ → ℕ → Option ℤ) (null v : ℕ) (o : Option ℤ) → IsDistance arc v null o
    → IsLeastReach (to_costs arc null) v o
to_least arc null v None none = λ cost reached. let gone = none reached.0 in let here = reached.1 in
    absurd (cc (gone, here))
to_least arc null v (Some cost) some = ((some.0, some.1.walk), λ other reached. some.1.least reached.0 other reached.1)

from_reach : (arc : ℕ → ℕ → Option ℤ) (null : ℕ) (label : ℕ → ℤ)
    → ((u v : ℕ) (cost : ℤ) → arc u v ≡ Some cost → (u ≤ null) × (v ≤ null)) → KeepsArcs arc label
    → IsReach arc null (from_costs arc null)
from_reach arc null label within keeps = record {
  within = within;
  first = λ v cost is. ([], is);
  next = λ u v a cost reached is. (reached.0 ++ u ∷ [], walk-joined arc null reached.0 u [] v a cost reached.1 is);
  back = λ cost reached. let kept = walk-kept arc label keeps null reached.0 null cost reached.1 in
      omega (arith, ints, kept);
}

to_reach : (arc : ℕ → ℕ → Option ℤ) (null : ℕ) (label : ℕ → ℤ)
    → ((u v : ℕ) (cost : ℤ) → arc u v ≡ Some cost → (u ≤ null) × (v ≤ null)) → KeepsArcs arc label
    → IsReach (λ u v. arc v u) null (to_costs arc null)
to_reach arc null label within keeps = record {
  within = λ u v cost is. let two = within v u cost is in (two.1, two.0);
  first = λ v cost is. ([], is);
  next = λ u v a cost reached is.
      let swap : cost +ℤ a ≡ a +ℤ cost = omega (arith, ints) in (
        u ∷ reached.0,
        both_are (arc v u) (walk_cost arc u reached.0 null) cost a is reached.1
            ∙ ap (λ (z : ℤ). Some z) swap,
      );
  back = λ cost reached. let kept = walk-kept arc label keeps null reached.0 null cost reached.1 in
      omega (arith, ints, kept);
}

-- numbers that keep the arcs keep those of the graph turned round with their signs changed
negated : (arc : ℕ → ℕ → Option ℤ) (null : ℕ) (label : ℕ → ℤ) → AreNumbers arc null label
    → AreNumbers (λ u v. arc v u) null (λ v. neg_ℤ (label v))
negated arc null label are = record {
  keeps = λ u v cost is. let kept = are.keeps v u cost is in omega (arith, ints, kept);
  at_null = let zero = are.at_null in omega (arith, ints, zero);
}

-- ---- prices

-- in an equilibrium each bundle is possible
pub equilibrium_possible : (firms : List Firm) (trades : List Ends) (scale : ℤ) (on : ℕ) (prices : ℕ → ℤ)
    → IsEquilibrium firms trades scale on prices → ArePossible firms trades on
equilibrium_possible firms trades scale on prices equilibrium f firm is =
    let best = equilibrium f firm is in
    let worth = option_map-some _ (firm.worth (part trades f firm.count on)) best.0 best.1.is in
    subst IsSome (sym worth.1) refl

module _ (firms : List Firm) (trades : List Ends) (on : ℕ) (prices : ℕ
    → ℤ) (network : IsNetwork firms trades) (meet : MeetExchange firms)
    (supports : IsEquilibrium firms trades (pos 1) on prices) where
  abbrev arc : ℕ → ℕ → Option ℤ
  arc = exchange_arc firms trades on

  abbrev null : ℕ
  null = length trades

  possible : ArePossible firms trades on
  possible = equilibrium_possible firms trades (pos 1) on prices supports

  -- the prices of an equilibrium of the set are numbers of the nodes
  numbers_of : (others : ℕ → ℤ) → IsEquilibrium firms trades (pos 1) on others
      → AreNumbers arc null (price_of_node null others)
  numbers_of others equilibrium = record {
    keeps = arcs_from_supports firms trades on others network equilibrium;
    at_null = ap (λ (b : Bool). if b then others null else pos 0) (le-ltb null null (omega arith));
  }

  -- and numbers of the nodes are prices
  equilibrium_of : (label : ℕ → ℤ) → AreNumbers arc null label
      → IsEquilibrium firms trades (pos 1) on (λ k. label k -ℤ label null)
  equilibrium_of label are = labels_are_supports firms trades on label network meet possible are.keeps

  less_zero : (label : ℕ → ℤ) → AreNumbers arc null label → (t : ℕ) → label t -ℤ label null ≡ label t
  less_zero label are t = let zero = are.at_null in omega (arith, ints, zero)

  price_from : (label : ℕ → ℤ) → AreNumbers arc null label → (t : ℕ) → IsPriceOf firms trades t (label t)
  price_from label are t = record {
    on = on;
    prices = (λ k. label k -ℤ label null);
    equilibrium =
        equilibrium_of label are;
    is = less_zero label are t;
  }

  -- the prices of any equilibrium are those of one of the set
  numbers_with : (t : ℕ) (price : ℤ) → t < null → IsPriceOf firms trades t price → (label : ℕ → ℤ)
      × AreNumbers arc null label × (label t ≡ price)
  numbers_with t price below is = (
    price_of_node null is.prices,
    numbers_of is.prices (efficient_sets_share_prices firms trades (pos 1) is.on on is.prices network
        (omega (arith, ints)) is.equilibrium
        (equilibrium_is_efficient firms trades (pos 1) on prices network (omega (arith, ints)) supports)),
    ap (λ (b : Bool). if b then is.prices t else pos 0) (lt-ltb t null below) ∙ is.is,
  )

  first_numbers : AreNumbers arc null (price_of_node null prices)
  first_numbers = numbers_of prices supports

  from_is : IsReach arc null (from_costs arc null)
  from_is = from_reach arc null (price_of_node null prices) (arc_within firms trades on) first_numbers.keeps

  to_is : IsReach (λ u v. arc v u) null (to_costs arc null)
  to_is = to_reach arc null (price_of_node null prices) (arc_within firms trades on) first_numbers.keeps

  highest : (distance : ℕ → Option ℤ) → AreDistancesFromNull firms trades on distance → (t : ℕ) → t < null
      → IsHighest firms trades t (distance t)
  highest distance are t below = by (distance t) refl (are t below)
    where
      keeps : KeepsFound arc (from_null null distance)
      keeps = reach-keeps arc null (from_costs arc null) distance from_is
          (λ v inside. from_least arc null v (distance v) (are v inside))

      by : (o : Option ℤ) → distance t ≡ o → IsDistance arc null t o → IsHighest firms trades t o
      by None e none = λ bound.
          let high = pass arc null (from_null null distance) (price_of_node null prices) keeps
          (from_null-here null distance) first_numbers t (from_null-other null distance t below ∙ e) bound in
          (high.0 t, price_from high.0 high.1 t, high.2)
      by (Some cost) e walk =
          let kept = walk-kept arc (price_of_node null prices) first_numbers.keeps null walk.0 t cost walk.1.walk in
          let zero = first_numbers.at_null in
          let high = reach arc null (from_null null distance) (price_of_node null prices) keeps
          (from_null-here null distance) first_numbers t cost (from_null-other null distance t below ∙ e)
          (omega (arith, ints, kept, zero)) in (
            subst (IsPriceOf firms trades t) high.2 (price_from high.0 high.1 t),
            λ price is.
                let others = numbers_with t price below is in
                let most = walk-kept arc others.0 others.1.keeps null walk.0 t cost walk.1.walk in
                let none = others.1.at_null in
                let same = others.2 in
                omega (arith, ints, most, none, same),
          )

  lowest : (distance : ℕ → Option ℤ) → AreDistancesToNull firms trades on distance → (t : ℕ) → t < null
      → IsLowest firms trades t (option_map neg_ℤ (distance t))
  lowest distance are t below = by (distance t) refl (are t below)
    where
      first : AreNumbers (λ u v. arc v u) null (λ v. neg_ℤ (price_of_node null prices v))
      first = negated arc null (price_of_node null prices) first_numbers

      keeps : KeepsFound (λ u v. arc v u) (from_null null distance)
      keeps = reach-keeps (λ u v. arc v u) null (to_costs arc null) distance to_is
          (λ v inside. to_least arc null v (distance v) (are v inside))

      back : (label : ℕ → ℤ) → AreNumbers (λ u v. arc v u) null label → AreNumbers arc null (λ v. neg_ℤ (label v))
      back label found = negated (λ u v. arc v u) null label found

      by : (o : Option ℤ) → distance t ≡ o → IsDistance arc t null o → IsLowest firms trades t (option_map neg_ℤ o)
      by None e none = λ bound.
          let high = pass (λ u v. arc v u) null (from_null null distance) (λ v. neg_ℤ (price_of_node null prices v))
          keeps (from_null-here null distance) first t
          (from_null-other null distance t below ∙ e) (neg_ℤ bound) in
          let over = high.2 in
          (neg_ℤ (high.0 t), price_from (λ v. neg_ℤ (high.0 v)) (back high.0 high.1) t, omega (arith, ints, over))
      by (Some cost) e walk =
          let kept = walk-kept arc (price_of_node null prices) first_numbers.keeps t walk.0 null cost walk.1.walk in
          let zero = first_numbers.at_null in
          let high = reach (λ u v. arc v u) null (from_null null distance) (λ v. neg_ℤ (price_of_node null prices v))
          keeps (from_null-here null distance) first t cost
          (from_null-other null distance t below ∙ e) (omega (arith, ints, kept, zero)) in (
            subst (IsPriceOf firms trades t) (ap neg_ℤ high.2) (price_from (λ v. neg_ℤ (high.0 v)) (back high.0 high.1)
                t),
            λ price is.
                let others = numbers_with t price below is in
                let least = walk-kept arc others.0 others.1.keeps t walk.0 null cost walk.1.walk in
                let none = others.1.at_null in
                let same = others.2 in
                omega (arith, ints, least, none, same),
          )

  -- numbers of the nodes that are prices of all trades make an equilibrium
  priced : (label : ℕ → ℤ) (wanted : ℕ → ℤ) → AreNumbers arc null label → ((t : ℕ) → t < null → wanted t ≡ label t)
      → IsEquilibrium firms trades (pos 1) on wanted
  priced label wanted are same =
      same_prices firms trades (pos 1) on wanted (λ k. label k -ℤ label null) network (λ t below. same t below
      ∙ sym (less_zero label are t)) (equilibrium_of label are)

  highs : (high : ℕ → ℤ) → AreDistancesFromNull firms trades on (λ t. Some (high t))
      → IsEquilibrium firms trades (pos 1) on high
  highs high are =
      priced (λ v. if v == null then pos 0 else high v) high
      (all-keeps arc null (from_costs arc null) high from_is
      (λ v inside. from_least arc null v (Some (high v)) (are v inside)))
      (λ t below. sym (ap (λ (b : Bool). if b then pos 0 else high t) (ne_eqb t null (λ e. omega (arith, below, e)))))

  lows : (low : ℕ → ℤ) → AreDistancesToNull firms trades on (λ t. Some (neg_ℤ (low t)))
      → IsEquilibrium firms trades (pos 1) on low
  lows low are =
      priced (λ v. neg_ℤ (if v == null then pos 0 else neg_ℤ (low v))) low
      (negated (λ u v. arc v u) null _
      (all-keeps (λ u v. arc v u) null (to_costs arc null) (λ v. neg_ℤ (low v)) to_is
      (λ v inside. to_least arc null v (Some (neg_ℤ (low v))) (are v inside))))
      (λ t below. twice (low t) _ (ap (λ (b : Bool). if b then pos 0
      else neg_ℤ (low t)) (ne_eqb t null (λ e. omega (arith, below, e)))))
    where
      twice : (z w : ℤ) → w ≡ neg_ℤ z → z ≡ neg_ℤ w
      twice z w e = omega (arith, ints, e)

pub price_bounds_are_distances : PriceBoundsAreDistances
price_bounds_are_distances = record { highest = highest; lowest = lowest; highs = highs; lows = lows }
