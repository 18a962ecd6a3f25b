-- The labels: what is left of the lowest cost after a node's least walk to the sink.
use Rattle.std.proofs.Common.{◌≡◌, ◌≢◌, ℕ, ◌+◌, ◌-◌, ◌*◌, ◌<◌, ◌≤◌, refl, sym, ap, ◌∙◌, subst, arith, inl, inr, List, [], ◌∷◌, length, ℤ, pos, neg_ℤ, ◌+ℤ◌, ◌-ℤ◌, ◌≤ℤ◌, Option, Some, None, Bool, ◌==◌, if◌then◌else◌, nat_lt}
use Rattle.std.specs.Prelude.{All, unwrap_or}
use Rattle.std.proofs.lemmas.Int.{ints}
use Rattle.std.proofs.Math.Nat.{mul-le-mul_right}
use Rattle.std.proofs.lemmas.Bool.{cases_eq, ne_eqb, eq-eqb}
use Rattle.std.proofs.lemmas.Option.{same_Some}
use Rattle.std.proofs.lemmas.List.Elements.{All-nil, All-cons}
use Rattle.tn_base.specs.Arcs.{AreBetweenNodes, AreSmall, IsAtMost}
use Rattle.tn_base.specs.Options.{both}
use Rattle.tn_base.specs.Walks.{walk_cost, Avoids, HasNoNegativeCycle, KeepsArcs}
use Rattle.tn_base.specs.Widths.{most_cost}
use Rattle.tn_cycle.specs.declared.cell.Cell.{Cell}
use Rattle.tn_cycle.specs.Order.{IsUpTo}
use Rattle.tn_cycle.specs.Cells.{HasRoom, trail}
use Rattle.tn_cycle.specs.Widths.{most_graph_nodes, most_walk_cost}
use Rattle.tn_cycle.specs.Graphs.{with_sink}
use Rattle.tn_cycle.specs.GraphLemmas.{small-with_sink, some_if, between-with_sink}
use Rattle.tn_cycle.specs.Searched.{IsSettled}
use Rattle.tn_cycle.specs.Answers.{AreLabels, AreSmallOff, IsLowestCost, label_in}
use Rattle.tn_cycle.proofs.OrderLemmas.{parts}
use Rattle.tn_cycle.proofs.WalkLemmas.{AreApart, few_apart, avoids-cons, avoids-head, avoids-tail}
use Rattle.tn_cycle.proofs.CellLemmas.{led_room}
use Rattle.tn_cycle.proofs.GraphLemmas.{to_sink, off_sink, none_off_sink}
use Rattle.tn_cycle.proofs.SettledLemmas.{led_walk, led_apart, led_once, led_inside}

-- numbers that keep the arcs bound every walk
walk_kept : (arc : ℕ → ℕ → Option ℤ) (label : ℕ → ℤ) → KeepsArcs arc label → (u : ℕ) (vs : List ℕ) (w : ℕ) (cost : ℤ)
    → walk_cost arc u vs w ≡ Some cost → label w ≤ℤ (label u +ℤ cost)
walk_kept arc label keeps u [] w cost walk = keeps u w cost walk
walk_kept arc label keeps u (v ∷ vs) w cost walk =
    let two = parts (arc u v) (walk_cost arc v vs w) cost walk in
    let first : label v ≤ℤ (label u +ℤ two.first) = keeps u v two.first two.first_is in
    let rest : label w ≤ℤ (label v +ℤ two.second) = walk_kept arc label keeps v vs w two.second two.second_is in
    omega (arith, ints, first, rest, two.sum_is)

-- no cycle is negative where some numbers keep the arcs
pub none_negative_kept : (arc : ℕ → ℕ → Option ℤ) (label : ℕ → ℤ) → KeepsArcs arc label → HasNoNegativeCycle arc
none_negative_kept arc label keeps u vs cost walk =
    let round : label u ≤ℤ (label u +ℤ cost) = walk_kept arc label keeps u vs u cost walk in omega (arith, ints, round)

-- what a search to the sink found, however the sink is written, and the room that its costs leave
pub sunk_at : (nodes sink : ℕ) (arc : ℕ → ℕ → Option ℤ) (cell : ℕ → Cell) → AreSmall arc most_cost
    → nodes ≤ most_graph_nodes → sink ≡ nodes
    → IsSettled (nodes + 1) (with_sink nodes arc) sink cell → IsSettled (nodes + 1) (with_sink nodes arc) nodes cell
    × HasRoom (nodes + 1) cell
sunk_at nodes sink arc cell small few same settled =
    let found : IsSettled (nodes + 1) (with_sink nodes arc) nodes cell =
    subst (λ (k : ℕ). IsSettled (nodes + 1) (with_sink nodes arc) k cell) same settled in (
      found,
      led_room (nodes + 1) (with_sink nodes arc) nodes cell (small-with_sink nodes most_cost arc small)
          (omega (arith, few)) found.leads found.few,
    )

-- the arc to the sink costs 0
sink_arc : (nodes : ℕ) (arc : ℕ → ℕ → Option ℤ) (v : ℕ) (cost : ℤ) → with_sink nodes arc v nodes ≡ Some cost
    → pos 0 ≡ cost
sink_arc nodes arc v cost walk =
    let inside = some_if (nat_lt v nodes) (if nodes == nodes then Some (pos 0) else arc v nodes) cost walk in
    same_Some (pos 0) cost (sym (ap (λ (s : Bool). if s then Some (pos 0)
    else arc v nodes) (eq-eqb nodes nodes refl)) ∙ inside.1)

-- other arcs are those of the graph
plain_arc : (nodes : ℕ) (arc : ℕ → ℕ → Option ℤ) (v u : ℕ) (cost : ℤ) → u ≢ nodes
    → with_sink nodes arc v u ≡ Some cost → arc v u ≡ Some cost
plain_arc nodes arc v u cost other is =
    let inside = some_if (nat_lt v nodes) (if u == nodes then Some (pos 0) else arc v u) cost is in
    sym (ap (λ (s : Bool). if s then Some (pos 0) else arc v u) (ne_eqb u nodes other)) ∙ inside.1

-- a walk to the sink, by the number of its arcs before the last
sunk_low : (nodes : ℕ) (arc : ℕ → ℕ → Option ℤ) (limit : ℕ) → AreSmall arc limit → (v : ℕ) (ws : List ℕ) (cost : ℤ)
    → Avoids nodes ws
    → walk_cost (with_sink nodes arc) v ws nodes ≡ Some cost → neg_ℤ (pos (length ws * limit)) ≤ℤ cost
sunk_low nodes arc limit small v [] cost avoids walk =
    let e = sink_arc nodes arc v cost walk in omega (arith, ints, e)
sunk_low nodes arc limit small v (u ∷ us) cost avoids walk =
    let two = parts (with_sink nodes arc v u) (walk_cost (with_sink nodes arc) u us nodes) cost walk in
    let plain = plain_arc nodes arc v u two.first (avoids-head nodes u us avoids) two.first_is in
    let one = small v u two.first plain in
    let rest : neg_ℤ (pos (length us * limit)) ≤ℤ two.second =
    sunk_low nodes arc limit small u us two.second (avoids-tail nodes u us avoids) two.second_is in
    omega (arith, ints, one.low, rest, two.sum_is)

-- the same where costs off a node are smaller, by the walks that avoid it, those that begin at it, and all
module _ (nodes : ℕ) (arc : ℕ → ℕ → Option ℤ) (t off limit : ℕ) (small_off : AreSmallOff arc t off)
    (small : AreSmall arc limit) where
  sunk_avoiding : (v : ℕ) (ws : List ℕ) (cost : ℤ) → v ≢ t → Avoids nodes ws → Avoids t ws
      → walk_cost (with_sink nodes arc) v ws nodes ≡ Some cost → neg_ℤ (pos (length ws * off)) ≤ℤ cost
  sunk_avoiding v [] cost other avoids off_t walk =
      let e = sink_arc nodes arc v cost walk in omega (arith, ints, e)
  sunk_avoiding v (u ∷ us) cost other avoids off_t walk =
      let two = parts (with_sink nodes arc v u) (walk_cost (with_sink nodes arc) u us nodes) cost walk in
      let plain = plain_arc nodes arc v u two.first (avoids-head nodes u us avoids) two.first_is in
      let here : u ≢ t = avoids-head t u us off_t in
      let one = small_off v u two.first other here plain in
      let rest : neg_ℤ (pos (length us * off)) ≤ℤ two.second =
      sunk_avoiding u us two.second here (avoids-tail nodes u us avoids) (avoids-tail t u us off_t) two.second_is in
      omega (arith, ints, one.low, rest, two.sum_is)

  sunk_from : (ws : List ℕ) (cost : ℤ) → Avoids nodes ws → Avoids t ws
      → walk_cost (with_sink nodes arc) t ws nodes ≡ Some cost → neg_ℤ (pos (length ws * off + limit)) ≤ℤ cost
  sunk_from [] cost avoids off_t walk = let e = sink_arc nodes arc t cost walk in omega (arith, ints, e)
  sunk_from (u ∷ us) cost avoids off_t walk =
      let two = parts (with_sink nodes arc t u) (walk_cost (with_sink nodes arc) u us nodes) cost walk in
      let plain = plain_arc nodes arc t u two.first (avoids-head nodes u us avoids) two.first_is in
      let one = small t u two.first plain in
      let rest : neg_ℤ (pos (length us * off)) ≤ℤ two.second =
      sunk_avoiding u us two.second (avoids-head t u us off_t) (avoids-tail nodes u us avoids)
      (avoids-tail t u us off_t) two.second_is in
      omega (arith, ints, one.low, rest, two.sum_is)

  sunk_low_off : (v : ℕ) (ws : List ℕ) (cost : ℤ) → Avoids nodes ws → AreApart (v ∷ ws)
      → walk_cost (with_sink nodes arc) v ws nodes ≡ Some cost → neg_ℤ (pos (length ws * off + 2 * limit)) ≤ℤ cost
  unfolding AreApart
  sunk_low_off v [] cost avoids apart walk = let e = sink_arc nodes arc v cost walk in omega (arith, ints, e)
  sunk_low_off v (u ∷ us) cost avoids apart walk =
      let two = parts (with_sink nodes arc v u) (walk_cost (with_sink nodes arc) u us nodes) cost walk in
      let plain = plain_arc nodes arc v u two.first (avoids-head nodes u us avoids) two.first_is in
      let later = avoids-tail nodes u us avoids in
      elim (cases_eq v t) [
        | inl begins ↦
            let from = sunk_from (u ∷ us) cost avoids (subst (λ (z : ℕ). Avoids z (u ∷ us)) begins apart.0)
            (subst (λ (z : ℕ). walk_cost (with_sink nodes arc) z (u ∷ us) nodes ≡ Some cost) begins walk) in
            omega (arith, ints, from)
        | inr other ↦ elim (cases_eq u t) [
          | inl enters ↦
              let one = small v u two.first plain in
              let rest = sunk_from us two.second later (subst (λ (z : ℕ). Avoids z us) enters apart.1.0)
              (subst (λ (z : ℕ). walk_cost (with_sink nodes arc) z us nodes ≡ Some two.second) enters two.second_is) in
              omega (arith, ints, one.low, rest, two.sum_is)
          | inr passes ↦
              let one = small_off v u two.first other passes plain in
              let rest = sunk_low_off u us two.second later apart.1 two.second_is in
              omega (arith, ints, one.low, rest, two.sum_is)
        ]
      ]

module _ (nodes : ℕ) (arc : ℕ → ℕ → Option ℤ) (cell : ℕ → Cell) (between : AreBetweenNodes nodes arc)
    (found : IsSettled (nodes + 1) (with_sink nodes arc) nodes cell) where
  -- the least cost of a walk from v to the sink
  depth : ℕ → ℤ
  depth v = unwrap_or (cell v).cost (pos 0)

  -- each node has a walk to the sink, of cost 0 at most
  pub sunk : (v : ℕ) → v < nodes → (z : ℤ) × ((cell v).cost ≡ Some z) × (z ≤ℤ pos 0)
  sunk v inside =
      by (cell v).cost refl (subst (IsUpTo (cell v).cost) (to_sink nodes arc v inside)
      (found.least v [] (omega (arith, inside)) (All-nil (λ u. u ≢ nodes))))
    where
      by : (o : Option ℤ) → (cell v).cost ≡ o → IsUpTo o (Some (pos 0)) → (z : ℤ) × ((cell v).cost ≡ Some z)
          × (z ≤ℤ pos 0)
      by None e up = absurd up
      by (Some z) e up = (z, e, up)

  -- going over an arc first costs no less
  sunk_over : (u v : ℕ) (cost : ℤ) → arc u v ≡ Some cost → (a b : ℤ) → (cell u).cost ≡ Some a → (cell v).cost ≡ Some b
      → a ≤ℤ (cost +ℤ b)
  sunk_over u v cost is a b a_is b_is =
      let two = between u v cost is in
      let second : v < nodes + 1 = omega (arith, two.1) in
      let first : u < nodes + 1 = omega (arith, two.0) in
      let passes : v ≢ nodes = λ e. omega (arith, e, two.1) in
      let start : u ≢ nodes = λ e. omega (arith, e, two.0) in
      let least = found.least u (v ∷ trail cell (cell v).inner_nodes v) first
      (avoids-cons nodes v (trail cell (cell v).inner_nodes v) passes (found.avoids v second)) in
      let walk : walk_cost (with_sink nodes arc) u (v ∷ trail cell (cell v).inner_nodes v) nodes ≡ Some (cost +ℤ b) =
      ap (λ (z : Option ℤ). both z (walk_cost (with_sink nodes arc) v (trail cell (cell v).inner_nodes v) nodes))
      (off_sink nodes arc between u v start passes ∙ is)
      ∙ ap (λ (z : Option ℤ). both (Some cost) z) (found.leads v second ∙ b_is) in
      let known : IsUpTo (Some a) (Some (cost +ℤ b)) = subst (IsUpTo (Some a)) walk
      (subst (λ (z : Option ℤ). IsUpTo z (walk_cost (with_sink nodes arc) u (v ∷ trail cell (cell v).inner_nodes v) nodes))
      a_is least) in
      known

  -- the labels keep the arcs
  pub labels_keep : (lowest : ℤ) (label : ℕ → ℤ) → ((v : ℕ) → v < nodes
      → label v ≡ lowest -ℤ unwrap_or (cell v).cost (pos 0)) → KeepsArcs arc label
  labels_keep lowest label labels u v cost is =
      let two = between u v cost is in
      let start = sunk u two.0 in
      let next = sunk v two.1 in
      let over : start.0 ≤ℤ (cost +ℤ next.0) = sunk_over u v cost is start.0 next.0 start.1 next.1 in
      let first : label u ≡ lowest -ℤ start.0 = labels u two.0
      ∙ ap (λ (z : Option ℤ). lowest -ℤ unwrap_or z (pos 0)) start.1 in
      let second : label v ≡ lowest -ℤ next.0 = labels v two.1
      ∙ ap (λ (z : Option ℤ). lowest -ℤ unwrap_or z (pos 0)) next.1 in
      omega (arith, ints, over, first, second)

  -- what a node's least walk to the sink is like
  record IsSunkPath (v : ℕ) : Type 0 where
    cost : ℤ
    cost_is : (cell v).cost ≡ Some cost
    walk : walk_cost (with_sink nodes arc) v (trail cell (cell v).inner_nodes v) nodes ≡ Some cost
    avoids : Avoids nodes (trail cell (cell v).inner_nodes v)
    apart : AreApart (v ∷ trail cell (cell v).inner_nodes v)
    few : length (v ∷ trail cell (cell v).inner_nodes v) < nodes + 1

  sunk_path : HasNoNegativeCycle arc → (v : ℕ) → v < nodes → IsSunkPath v
  unfolding AreApart
  sunk_path none v inside =
      let here = sunk v inside in
      let wide : AreBetweenNodes (nodes + 1) (with_sink nodes arc) = between-with_sink nodes arc between in
      let off = none_off_sink nodes arc between none in
      let node : v < nodes + 1 = omega (arith, inside) in
      let other : v ≢ nodes = λ e. omega (arith, e, inside) in
      let apart : AreApart (v ∷ trail cell (cell v).inner_nodes v) = (
        led_once (nodes + 1) (with_sink nodes arc) nodes cell wide off found v here.0 node other here.1,
        led_apart (nodes + 1) (with_sink nodes arc) nodes cell wide off found v here.0 node here.1,
      ) in
      let all : All (λ u. u < nodes + 1) (v ∷ trail cell (cell v).inner_nodes v) =
      All-cons (λ u. u < nodes + 1) v (trail cell (cell v).inner_nodes v) node
      (led_inside (nodes + 1) (with_sink nodes arc) nodes cell wide off found v node) in
      record {
        cost = here.0;
        cost_is = here.1;
        walk = led_walk (nodes + 1) (with_sink nodes arc) nodes cell wide off found v here.0 node here.1;
        avoids = found.avoids v node;
        apart = apart;
        few = few_apart (nodes + 1) nodes (v ∷ trail cell (cell v).inner_nodes v) (omega arith) all
            (avoids-cons nodes v (trail cell (cell v).inner_nodes v) other (found.avoids v node)) apart;
      }

  -- the least walks to the sink have few arcs before their last
  pub depth_low : HasNoNegativeCycle arc → (limit v : ℕ) → AreSmall arc limit → v < nodes
      → neg_ℤ (pos ((nodes - 1) * limit)) ≤ℤ unwrap_or (cell v).cost (pos 0)
  depth_low none limit v small inside =
      let path = sunk_path none v inside in
      let few = path.few in
      let low : neg_ℤ (pos (length (trail cell (cell v).inner_nodes v) * limit)) ≤ℤ path.cost =
      sunk_low nodes arc limit small v (trail cell (cell v).inner_nodes v) path.cost path.avoids path.walk in
      let more : length (trail cell (cell v).inner_nodes v) * limit ≤ (nodes - 1) * limit =
      mul-le-mul_right limit (omega (arith, few)) in
      let is : unwrap_or (cell v).cost (pos 0) ≡ path.cost = ap (λ (z : Option ℤ). unwrap_or z (pos 0)) path.cost_is in
      omega (arith, ints, low, more, is)

  -- and two of them at most at any node
  pub depth_low_off : HasNoNegativeCycle arc → (t off limit v : ℕ) → AreSmallOff arc t off → AreSmall arc limit
      → v < nodes → neg_ℤ (pos ((nodes - 1) * off + 2 * limit)) ≤ℤ unwrap_or (cell v).cost (pos 0)
  depth_low_off none t off limit v small_off small inside =
      let path = sunk_path none v inside in
      let few = path.few in
      let low : neg_ℤ (pos (length (trail cell (cell v).inner_nodes v) * off + 2 * limit)) ≤ℤ path.cost =
      sunk_low_off nodes arc t off limit small_off small v (trail cell (cell v).inner_nodes v) path.cost path.avoids
      path.apart path.walk in
      let more : length (trail cell (cell v).inner_nodes v) * off ≤ (nodes - 1) * off =
      mul-le-mul_right off (omega (arith, few)) in
      let is : unwrap_or (cell v).cost (pos 0) ≡ path.cost = ap (λ (z : Option ℤ). unwrap_or z (pos 0)) path.cost_is in
      omega (arith, ints, low, more, is)

  -- the labels answer
  pub are_labels : (lowest : ℤ) (labels : List ℤ) → IsLowestCost nodes cell lowest → length labels ≡ nodes
      → ((v : ℕ) → v < nodes → label_in labels v ≡ lowest -ℤ unwrap_or (cell v).cost (pos 0))
      → AreLabels nodes arc labels
  are_labels lowest labels least sized are = record {
    one_each = sized;
    keeps = keeps;
    high = λ v inside. omega (arith, ints, are v inside, least.at_most_each v inside);
    low = λ limit v small inside.
        let bound : neg_ℤ (pos ((nodes - 1) * limit)) ≤ℤ lowest =
        least.greatest (neg_ℤ (pos ((nodes - 1) * limit))) (omega (arith, ints))
        (λ u node. depth_low none limit u small node) in
        omega (arith, ints, are v inside, bound, depth_high v inside);
    low_off = λ t off limit v small_off small inside.
        let bound : neg_ℤ (pos ((nodes - 1) * off + 2 * limit)) ≤ℤ lowest =
        least.greatest (neg_ℤ (pos ((nodes - 1) * off + 2 * limit))) (omega (arith, ints))
        (λ u node. depth_low_off none t off limit u small_off small node) in
        omega (arith, ints, are v inside, bound, depth_high v inside);
  }
    where
      depth_high : (v : ℕ) → v < nodes → unwrap_or (cell v).cost (pos 0) ≤ℤ pos 0
      depth_high v inside = let here = sunk v inside in
          subst (λ (z : Option ℤ). unwrap_or z (pos 0) ≤ℤ pos 0) (sym here.1) here.2

      keeps : KeepsArcs arc (label_in labels)
      keeps = labels_keep lowest (label_in labels) are

      none : HasNoNegativeCycle arc
      none = none_negative_kept arc (label_in labels) keeps

  -- the lowest cost is far from the limits of its type
  pub lowest_small : (lowest : ℤ) → HasRoom (nodes + 1) cell → IsLowestCost nodes cell lowest
      → IsAtMost lowest most_walk_cost
  lowest_small lowest room least = record {
    low = least.greatest (neg_ℤ (pos most_walk_cost)) (omega (arith, ints)) each;
    high = omega (arith, ints, least.at_most_none);
  }
    where
      each : (v : ℕ) → v < nodes → neg_ℤ (pos most_walk_cost) ≤ℤ unwrap_or (cell v).cost (pos 0)
      each v inside =
          let here = sunk v inside in
          let small = room v (omega (arith, inside)) here.0 here.1 in
          subst (λ (z : Option ℤ). neg_ℤ (pos most_walk_cost) ≤ℤ unwrap_or z (pos 0)) (sym here.1) small.low
