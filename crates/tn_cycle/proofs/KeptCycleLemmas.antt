-- Least cycles over kept labels, and the labels after them.
use Rattle.std.proofs.Common.{◌≡◌, ◌≢◌, ℕ, ◌+◌, ◌*◌, ◌<◌, ◌≤◌, refl, sym, ap, ◌∙◌, subst, arith, inl, inr, ◌⊎◌, List, length, set, ℤ, pos, ◌+ℤ◌, ◌-ℤ◌, ◌≤ℤ◌, ◌<ℤ◌, Option, Some, None, Bool, true, false, ◌==◌, if◌then◌else◌, nat_lt}
use Rattle.std.specs.Prelude.{unwrap_or}
use Rattle.std.specs.Option.{ForSome}
use Rattle.std.proofs.lemmas.Int.{ints}
use Rattle.std.proofs.lemmas.Bool.{cases_eq, ne_eqb}
use Rattle.std.proofs.lemmas.Option.{none-some, same_Some}
use Rattle.std.proofs.lemmas.List.{get_or-set_same, get_or-set_other, length-set}
use Rattle.tn_base.specs.Arcs.{AreBetweenNodes, AreSmall, IsAtMost, ListsSuccessors}
use Rattle.tn_base.specs.Walks.{CyclesCostAtLeast, KeepsArcs, KeepsArcsEntering}
use Rattle.tn_base.specs.Widths.{most_cost}
use Rattle.tn_cycle.specs.declared.cell.Cell.{Cell}
use Rattle.tn_cycle.specs.declared.kept.Sought.TheVariants as seek
use Rattle.tn_cycle.specs.declared.answer.Path.{Path}
use Rattle.tn_cycle.specs.declared.answer.Path.TheVariants as path
use Rattle.tn_cycle.specs.Answers.{AnswersCycle, AnswersLeast, AreNear, cost_of, label_in}
use Rattle.tn_cycle.specs.Cells.{HasRoom, trail}
use Rattle.tn_cycle.specs.Graphs.{with_sink}
use Rattle.tn_cycle.specs.GraphLemmas.{between-with_sink, some_if}
use Rattle.tn_cycle.specs.Searched.{IsSettled}
use Rattle.tn_cycle.specs.Kept.{AreRaised, IsCycleRead, IsLifted, IsLiftedBy, IsRaised, IsStopped, KeepsArcsAvoiding, KeepsArcsOff, negated_if}
use Rattle.tn_cycle.specs.Widths.{most_graph_nodes}
use Rattle.tn_cycle.proofs.KeyLemmas.{same_cost}
use Rattle.tn_cycle.proofs.LabelLemmas.{none_negative_kept}
use Rattle.tn_cycle.proofs.ReadLemmas.{length-trail}
use Rattle.tn_cycle.proofs.StoppedLemmas.{kept_cycle, kept_none, kept_settled, kept_small, kept_unreached}

pub raised_some : (label w limit low new : ℤ) (o : Option ℤ) → o ≡ Some w → low ≡ limit -ℤ w → label ≤ℤ new → low ≤ℤ new
    → (new ≡ label) ⊎ (new ≡ low) → IsRaised label o limit new
raised_some label w limit low new o is low_is first second one = record {
  grows = first;
  lacks = λ x e. let s : w ≡ x = same_cost o w x is e in omega (arith, ints, s, low_is, second);
  one = elim one [ inl same ↦ inl same | inr lack ↦ inr (w, is, lack ∙ low_is) ];
}

pub lifted_some : (least : Option ℤ) (label w low new : ℤ) (o : Option ℤ) → o ≡ Some w → low ≡ label -ℤ w
    → ((b : ℤ) → least ≡ Some b → b ≤ℤ new) → low ≤ℤ new
    → (least ≡ Some new) ⊎ (new ≡ low) → IsLiftedBy least label o (Some new)
lifted_some least label w low new o is low_is first second one = record {
  by_least = λ b e. (new, refl, first b e);
  by_arc = λ x e. let s : w ≡ x = same_cost o w x is e in (new, refl, omega (arith, ints, s, low_is, second));
  one = elim one [ inl same ↦ inl (sym same) | inr lack ↦ inr (w, is, ap (λ (z : ℤ). Some z) (lack ∙ low_is)) ];
}

-- one label more is raised
pub raise_next : (labels old : List ℤ) (cell : ℕ → Cell) (node v : ℕ) (limit new : ℤ) → v < length labels
    → ((k : ℕ) → k < v → (k ≡ node → label_in labels k ≡ label_in old k)
    × (k ≢ node → IsRaised (label_in old k) (cell k).cost limit (label_in labels k)))
    → ((k : ℕ) → v ≤ k → label_in labels k ≡ label_in old k)
    → (v ≡ node → new ≡ label_in labels v) → (v ≢ node → IsRaised (label_in labels v) (cell v).cost limit new)
    → (k : ℕ) → k < v + 1 → (k ≡ node → label_in (set labels v new) k ≡ label_in old k)
    × (k ≢ node → IsRaised (label_in old k) (cell k).cost limit (label_in (set labels v new) k))
raise_next labels old cell node v limit new places before left own others k below = elim (cases_eq k v) [
  | inl same ↦
      let here : label_in (set labels v new) k ≡ new = ap (label_in (set labels v new)) same
      ∙ get_or-set_same labels v new (pos 0) places in
      let was : label_in labels v ≡ label_in old v = left v (omega arith) in (
        (λ e. here ∙ own (sym same ∙ e) ∙ was ∙ ap (label_in old) (sym same)),
        (λ off. subst (λ (z : ℤ). IsRaised (label_in old k) (cell k).cost limit z) (sym here)
            (subst (λ (z : ℕ). IsRaised (label_in old z) (cell z).cost limit new) (sym same)
            (subst (λ (z : ℤ). IsRaised z (cell v).cost limit new) was (others (λ e. off (same ∙ e)))))),
      )
  | inr other ↦
      let here : label_in (set labels v new) k ≡ label_in labels k = get_or-set_other labels v k new (pos 0) other in
      let had = before k (omega (arith, below, other)) in (
        (λ e. here ∙ had.0 e),
        (λ off. subst (λ (z : ℤ). IsRaised (label_in old k) (cell k).cost limit z) (sym here) (had.1 off)),
      )
]

pub raise_left : (labels old : List ℤ) (v : ℕ) (new : ℤ) → ((k : ℕ) → v ≤ k → label_in labels k ≡ label_in old k)
    → (k : ℕ) → v + 1 ≤ k → label_in (set labels v new) k ≡ label_in old k
raise_left labels old v new left k above =
    get_or-set_other labels v k new (pos 0) (λ e. omega (arith, above, e)) ∙ left k (omega (arith, above))

-- one label more is signed
pub sign_next : (labels old : List ℤ) (negates : Bool) (v : ℕ) (new : ℤ) → v < length labels
    → ((k : ℕ) → k < v → label_in labels k ≡ negated_if negates (label_in old k))
    → new ≡ negated_if negates (label_in old v) → (k : ℕ) → k < v + 1
    → label_in (set labels v new) k ≡ negated_if negates (label_in old k)
sign_next labels old negates v new places before is k below = elim (cases_eq k v) [
  | inl same ↦ ap (label_in (set labels v new)) same ∙ get_or-set_same labels v new (pos 0) places ∙ is
      ∙ ap (λ (z : ℕ). negated_if negates (label_in old z)) (sym same)
  | inr other ↦ get_or-set_other labels v k new (pos 0) other ∙ before k (omega (arith, below, other))
]

-- a number for a node that keeps the arcs from it to the first so many nodes of a numbering, but for itself
abbrev pub AreLifted : (ℕ → ℕ → Option ℤ) → ℕ → (ℕ → ℤ) → (ℕ → ℕ) → ℕ → Option ℤ → Type 0
AreLifted arc node label at count found = (i : ℕ) (cost : ℤ) → i < count → at i ≢ node
    → arc node (at i) ≡ Some cost → (p : ℤ) × (found ≡ Some p) × (label (at i) ≤ℤ (p +ℤ cost))

-- one arc more is kept
pub lifted_next : (arc : ℕ → ℕ → Option ℤ) (node : ℕ) (label : ℕ → ℤ) (at : ℕ → ℕ) (count : ℕ) (least found : Option ℤ)
    → AreLifted arc node label at count least
    → (at count ≡ node → found ≡ least)
    → (at count ≢ node → IsLiftedBy least (label (at count)) (arc node (at count)) found)
    → AreLifted arc node label at (count + 1) found
lifted_next arc node label at count least found before own others i cost below off is =
    elim (cases_eq (at count) node) [
      | inl same ↦
          let had = before i cost (earlier same) off is in
          (had.0, own same ∙ had.1, had.2)
      | inr other ↦ elim (cases_eq i count) [
        | inl here ↦
            let by = (others other).by_arc cost (subst (λ (z : ℕ). arc node (at z) ≡ Some cost) here is) in
            (by.0, by.1, subst (λ (z : ℕ). label (at z) ≤ℤ (by.0 +ℤ cost)) (sym here) by.2)
        | inr earlier ↦
            let had = before i cost (omega (arith, below, earlier)) off is in
            let by = (others other).by_least had.0 had.1 in
            (by.0, by.1, omega (arith, ints, by.2, had.2))
      ]
    ]
  where
    earlier : at count ≡ node → i < count
    earlier same = let other : i ≢ count = λ e. off (ap at e ∙ same) in omega (arith, below, other)

-- all arcs are kept
pub lifted_all : (nodes : ℕ) (arc : ℕ → ℕ → Option ℤ) (node : ℕ) (label : ℕ → ℤ) (at : ℕ → ℕ) (count : ℕ)
    (found : Option ℤ)
    → ListsSuccessors nodes arc node count at → AreLifted arc node label at count found
    → IsLifted arc node label found
lifted_all nodes arc node label at count found lists lifted v cost off is =
    let listed = lists.all v cost is in
    let kept = lifted listed.0 cost listed.1 (λ e. off (sym listed.2 ∙ e))
    (subst (λ (z : ℕ). arc node z ≡ Some cost) (sym listed.2) is) in
    (kept.0, kept.1, subst (λ (z : ℕ). label z ≤ℤ (kept.0 +ℤ cost)) listed.2 kept.2)

pub lifted_near : (limit reach m : ℕ) (node v : ℕ) (label : ℤ) (least cost found : Option ℤ) → reach + m ≤ limit
    → ForSome least (λ p. IsAtMost p limit) → IsAtMost label reach → ForSome cost (λ c. IsAtMost c m)
    → (v ≡ node → found ≡ least) → (v ≢ node → IsLiftedBy least label cost found)
    → ForSome found (λ p. IsAtMost p limit)
lifted_near limit reach m node v label least cost found room had near small own others p is =
    elim (cases_eq v node) [
      | inl same ↦ had p (sym (own same) ∙ is)
      | inr other ↦ elim (others other).one [
        | inl kept ↦ had p (sym kept ∙ is)
        | inr lack ↦
            let e : lack.0 ≡ lack.0 = refl in
            let c = small lack.0 lack.1 in
            let s : label -ℤ lack.0 ≡ p = same_Some (label -ℤ lack.0) p (sym lack.2 ∙ is) in
            record {
              low = omega (arith, ints, s, c.low, c.high, near.low, near.high, room);
              high =
                  omega (arith, ints, s, c.low, c.high, near.low, near.high, room);
            }
      ]
    ]

module _ (nodes : ℕ) (arc : ℕ → ℕ → Option ℤ) (end : ℕ) (cap : Option ℤ) (label : ℕ → ℤ) (cell : ℕ → Cell) (waits : ℕ
    → Bool) (between : AreBetweenNodes nodes arc)
    (small : AreSmall arc most_cost) (keeps : KeepsArcsOff arc end label)
    (stopped : IsStopped nodes arc end (seek.Cycle cap) label cell waits) (inside : end < nodes) where
  pub read_negative : cap ≡ Some (pos 0) → (listed : List ℕ) (found : Path) → IsCycleRead cell end cap listed found
      → AnswersCycle arc end listed found
  read_negative cap_is listed path.None read =
      (kept_none nodes arc end cap label cell waits between keeps stopped (pos 0) inside cap_is read.0, read.1)
  read_negative cap_is listed (path.Cycle cost count) read = record {
    rest = trail cell (cell end).inner_nodes end;
    nodes_are = read.2;
    counted = omega (arith, read.3, ap length read.2, length-trail cell (cell end).inner_nodes end);
    negative = read.1 (pos 0) cap_is;
    least = kept_cycle nodes arc end cap label cell waits between keeps stopped cost inside read.0 read.1;
  }

  pub read_least : cap ≡ None → (listed : List ℕ) (found : Path) → IsCycleRead cell end cap listed found
      → AnswersLeast arc end listed found
  read_least uncapped listed path.None read =
      (kept_unreached nodes arc end cap label cell waits between keeps stopped inside uncapped read.0, read.1)
  read_least uncapped listed (path.Cycle cost count) read = record {
    rest = trail cell (cell end).inner_nodes end;
    nodes_are = read.2;
    counted = omega (arith, read.3, ap length read.2, length-trail cell (cell end).inner_nodes end);
    least = kept_cycle nodes arc end cap label cell waits between keeps stopped cost inside read.0 read.1;
  }

  pub read_small : (listed : List ℕ) (found : Path) → IsCycleRead cell end cap listed found
      → IsAtMost (cost_of found) (nodes * most_cost)
  read_small listed path.None read = record { low = omega (arith, ints); high = omega (arith, ints) }
  read_small listed (path.Cycle cost count) read =
      kept_small nodes arc end (seek.Cycle cap) label cell waits between keeps stopped most_cost small end cost inside
      read.0

  pub kept_room : nodes ≤ most_graph_nodes → HasRoom nodes cell
  kept_room few v within w is =
      let one = kept_small nodes arc end (seek.Cycle cap) label cell waits between keeps stopped most_cost small v w
      within is in
      record { low = omega (arith, ints, one.low, few); high = omega (arith, ints, one.high, few) }

  -- the raised labels are near where the labels were
  pub raised_near : (reach : ℕ) (gap : ℤ) (new : ℕ → ℤ) → ((v : ℕ) → v < nodes → IsAtMost (label v) reach)
      → IsAtMost gap (nodes * most_cost)
      → AreRaised nodes end label cell (label end +ℤ gap) new → (v : ℕ) → v < nodes
      → IsAtMost (new v) (reach + 2 * (nodes * most_cost))
  raised_near reach gap new near gap_small raised v within =
      let own = near v within in
      let base = near end inside in
      elim (cases_eq v end) [
        | inl same ↦
            let e : new v ≡ label v = (raised v within).0 same in
            record { low = omega (arith, ints, e, own.low); high = omega (arith, ints, e, own.high) }
        | inr off ↦ elim ((raised v within).1 off).one [
          | inl e ↦ record { low = omega (arith, ints, e, own.low); high = omega (arith, ints, e, own.high) }
          | inr lack ↦
              let cost = kept_small nodes arc end (seek.Cycle cap) label cell waits between keeps stopped most_cost
              small v lack.0 within lack.1 in
              record {
                low = omega (arith, ints, lack.2, base.low, gap_small.low, cost.high);
                high = omega (arith, ints, lack.2, base.high, gap_small.high, cost.low);
              }
        ]
      ]

-- what an answer costs is no more than the end's own walk, nor than the cap
pub read_under : (cell : ℕ → Cell) (end : ℕ) (cap : Option ℤ) → (cap ≡ Some (pos 0)) ⊎ (cap ≡ None)
    → (listed : List ℕ) (found : Path) → IsCycleRead cell end cap listed found
    → ((w : ℤ) → (cell end).cost ≡ Some w → cost_of found ≤ℤ w) × ((most : ℤ) → cap ≡ Some most → cost_of found ≤ℤ most)
read_under cell end cap which listed path.None read = (
  (λ w is. let capped = read.0 w is in let least : pos 0 ≤ℤ capped.0 = zero_or_none capped.0 capped.1 in
      omega (arith, ints, least, capped.2)),
  zero_or_none,
)
  where
    zero_or_none : (most : ℤ) → cap ≡ Some most → pos 0 ≤ℤ most
    zero_or_none most is = elim which [
      | inl zero ↦ let s : pos 0 ≡ most = same_cost cap (pos 0) most zero is in omega (arith, ints, s)
      | inr none ↦ absurd (none-some most (sym none ∙ is))
    ]
read_under cell end cap which listed (path.Cycle cost count) read = (
  (λ w is. let s : cost ≡ w = same_cost (cell end).cost cost w read.0 is in omega (arith, ints, s)),
  (λ most is. let below : cost <ℤ most = read.1 most is in omega (arith, ints, below)),
)

-- labels with a new one for a node
pub set_near : (reach : ℕ) (labels : List ℤ) (node : ℕ) (base : ℤ) → AreNear reach labels
    → IsAtMost base (reach + most_cost) → AreNear (reach + most_cost) (set labels node base)
set_near reach labels node base near small v within = elim (cases_eq v node) [
  | inl same ↦
      let places : node < length labels = omega (arith, within, same, length-set labels node base) in
      let here : label_in (set labels node base) v ≡ base =
      ap (label_in (set labels node base)) same ∙ get_or-set_same labels node base (pos 0) places in
      record { low = omega (arith, ints, here, small.low); high = omega (arith, ints, here, small.high) }
  | inr other ↦
      let here : label_in (set labels node base) v ≡ label_in labels v =
      get_or-set_other labels node v base (pos 0) other in
      let own = near v (omega (arith, within, length-set labels node base)) in
      record { low = omega (arith, ints, here, own.low); high = omega (arith, ints, here, own.high) }
]

-- labels that keep the arcs among the other nodes, and a label that keeps the node's own arcs, keep all but those that
-- end at it
pub set_keep : (arc : ℕ → ℕ → Option ℤ) (labels : List ℤ) (node : ℕ) (base : ℤ) → node < length labels
    → KeepsArcsAvoiding arc node (label_in labels)
    → ((v : ℕ) (cost : ℤ) → v ≢ node → arc node v ≡ Some cost → label_in labels v ≤ℤ (base +ℤ cost))
    → KeepsArcsOff arc node (label_in (set labels node base))
set_keep arc labels node base places keeps own u v cost off is = elim (cases_eq u node) [
  | inl same ↦
      let here : label_in (set labels node base) u ≡ base =
      ap (label_in (set labels node base)) same ∙ get_or-set_same labels node base (pos 0) places in
      let there : label_in (set labels node base) v ≡ label_in labels v =
      get_or-set_other labels node v base (pos 0) off in
      let kept : label_in labels v ≤ℤ (base +ℤ cost) = own v cost off (subst (λ (z : ℕ). arc z v ≡ Some cost) same is)
      in
      omega (arith, ints, here, there, kept)
  | inr other ↦
      let here : label_in (set labels node base) u ≡ label_in labels u =
      get_or-set_other labels node u base (pos 0) other in
      let there : label_in (set labels node base) v ≡ label_in labels v =
      get_or-set_other labels node v base (pos 0) off in
      let kept : label_in labels v ≤ℤ (label_in labels u +ℤ cost) = keeps u v cost other off is in
      omega (arith, ints, here, there, kept)
]

-- labels that break no arc, though some might end at the node
pub entered_all : (arc : ℕ → ℕ → Option ℤ) (node : ℕ) (label : ℕ → ℤ) → KeepsArcsOff arc node label
    → ((u : ℕ) (cost : ℤ) → arc u node ≡ Some cost → label node ≤ℤ (label u +ℤ cost)) → KeepsArcs arc label
entered_all arc node label keeps into u v cost is = elim (cases_eq v node) [
  | inl same ↦
      subst (λ (z : ℕ). label z ≤ℤ (label u +ℤ cost)) (sym same)
      (into u cost (subst (λ (z : ℕ). arc u z ≡ Some cost) same is))
  | inr off ↦ keeps u v cost off is
]

-- no cycle through the node is negative then
pub entered_none : (arc : ℕ → ℕ → Option ℤ) (node : ℕ) (label : ℕ → ℤ) → KeepsArcsOff arc node label
    → ((u : ℕ) (cost : ℤ) → arc u node ≡ Some cost → label node ≤ℤ (label u +ℤ cost))
    → CyclesCostAtLeast arc node (pos 0)
entered_none arc node label keeps into vs cost avoids walk =
    none_negative_kept arc label (entered_all arc node label keeps into) node vs cost walk

-- and the node's label is that for all arcs
pub entered_own : (arc : ℕ → ℕ → Option ℤ) (node : ℕ) (label : ℕ → ℤ) → KeepsArcsOff arc node label
    → ((u : ℕ) (cost : ℤ) → arc u node ≡ Some cost → label node ≤ℤ (label u +ℤ cost))
    → KeepsArcsEntering arc node (label node +ℤ pos 0) label
entered_own arc node label keeps into = record {
  others = keeps;
  enters = λ u cost is. let kept = into u cost is in omega (arith, ints, kept);
}

pub unwrap_near : (o : Option ℤ) (limit : ℕ) → ForSome o (λ p. IsAtMost p limit) → IsAtMost (unwrap_or o (pos 0)) limit
unwrap_near None limit near = record { low = omega (arith, ints); high = omega (arith, ints) }
unwrap_near (Some p) limit near = near p refl

pub signed_near : (negates : Bool) (z : ℤ) (limit : ℕ) → IsAtMost z limit → IsAtMost (negated_if negates z) limit
signed_near true z limit near = record { low = omega (arith, ints, near.high); high = omega (arith, ints, near.low) }
signed_near false z limit near = near

-- labels that keep the arcs keep those of the graph with a sink that don't end there
sunk_keeps : (nodes sink : ℕ) (arc : ℕ → ℕ → Option ℤ) (label : ℕ → ℤ) → sink ≡ nodes → KeepsArcs arc label
    → KeepsArcsOff (with_sink nodes arc) sink label
sunk_keeps nodes sink arc label same keeps u v cost off is =
    let inside = some_if (nat_lt u nodes) (if v == nodes then Some (pos 0) else arc u v) cost is in
    keeps u v cost (sym (ap (λ (s : Bool). if s then Some (pos 0)
    else arc u v) (ne_eqb v nodes (λ e. off (e ∙ sym same)))) ∙ inside.1)

-- a search for the walks to the sink settles
pub sunk_settled : (nodes sink : ℕ) (arc : ℕ → ℕ → Option ℤ) (label : ℕ → ℤ) (cell : ℕ → Cell) (waits : ℕ → Bool)
    → AreBetweenNodes nodes arc → sink ≡ nodes → KeepsArcs arc label
    → IsStopped (nodes + 1) (with_sink nodes arc) sink seek.Walks label cell waits
    → IsSettled (nodes + 1) (with_sink nodes arc) sink cell
sunk_settled nodes sink arc label cell waits between same keeps =
    kept_settled (nodes + 1) (with_sink nodes arc) sink label cell waits (between-with_sink nodes arc between)
    (sunk_keeps nodes sink arc label same keeps)
