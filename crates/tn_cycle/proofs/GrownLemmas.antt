-- Labels that grow node by node, and the negative cycle that ends their growth.
use Rattle.std.proofs.Common.{◌≡◌, ◌≢◌, ℕ, ◌+◌, ◌<◌, ◌≤◌, ◌∙◌, sym, ap, subst, arith, inl, inr, List, ◌∷◌, length, ℤ, pos, ◌+ℤ◌, Option, Some, None, Bool, true, false, ◌&&◌}
use Rattle.std.specs.Prelude.{All, if◌then◌else◌, nat_le, nat_lt}
use Rattle.std.proofs.lemmas.Int.{ints}
use Rattle.std.proofs.lemmas.Bool.{and_parts, cases_eq, le-leb, le-ltb, leb-true, lt-leb, lt-ltb, ltb-true}
use Rattle.std.proofs.lemmas.Bool.Decides.{nat_tests}
use Rattle.std.proofs.lemmas.List.Elements.{All-weaker}
use Rattle.tn_base.specs.Arcs.{AreBetweenNodes}
use Rattle.tn_base.specs.Walks.{arcs_among, KeepsArcs, KeepsArcsEntering}
use Rattle.tn_cycle.specs.declared.answer.Path.{Path}
use Rattle.tn_cycle.specs.declared.answer.Path.TheVariants as path
use Rattle.tn_cycle.specs.GraphLemmas.{some_if}
use Rattle.tn_cycle.specs.Graphs.{is_trade_from}
use Rattle.tn_cycle.specs.Kept.{KeepsArcsAvoiding}
use Rattle.tn_cycle.specs.Answers.{AnswersCycle, AnswersGrown, AreNear, arc_count, cost_of, label_in}
use Rattle.tn_cycle.specs.Widths.{most_label}
use Rattle.tn_cycle.proofs.GraphLemmas.{keeps_avoiding, off_null, walk_among, walk_passes}

pub near_more : (reach more : ℕ) (labels : List ℤ) → reach ≤ more → AreNear reach labels → AreNear more labels
near_more reach more labels within near v inside =
    let own = near v inside in
    record { low = omega (arith, ints, within, own.low); high = omega (arith, ints, within, own.high) }

-- labels keep the arcs among all trades, and so those of the graph that avoid the null node
pub null_avoiding : (nodes null first : ℕ) (arc : ℕ → ℕ → Option ℤ) (label : ℕ → ℤ) → nodes ≡ null + 1 → first ≡ 0
    → AreBetweenNodes nodes arc
    → KeepsArcs (arcs_among (is_trade_from first null) arc) label → KeepsArcsAvoiding arc null label
null_avoiding nodes null first arc label last e between keeps =
    keeps_avoiding arc (arcs_among (is_trade_from 0 null) arc) null label
    (off_null null arc (subst (λ (k : ℕ). AreBetweenNodes k arc) last between))
    (subst (λ (k : ℕ). KeepsArcs (arcs_among (is_trade_from k null) arc) label) e keeps)

-- labels keep all arcs where those that end at the node find its own label
entered_keeps : (arc : ℕ → ℕ → Option ℤ) (node : ℕ) (label : ℕ → ℤ)
    → KeepsArcsEntering arc node (label node +ℤ pos 0) label → KeepsArcs arc label
entered_keeps arc node label entering u v cost is = elim (cases_eq v node) [
  | inl same ↦
      let enters = entering.enters u cost (subst (λ (z : ℕ). arc u z ≡ Some cost) same is) in
      let e : label v ≡ label node = ap label same in
      omega (arith, ints, enters, e)
  | inr other ↦ entering.others u v cost other is
]

-- where no cycle is answered, the labels keep all arcs
pub none_keeps : (arc : ℕ → ℕ → Option ℤ) (node : ℕ) (label : ℕ → ℤ) (listed : List ℕ) (found : Path)
    → AnswersCycle arc node listed found
    → KeepsArcsEntering arc node (label node +ℤ cost_of found) label → arc_count found ≤ 0 → KeepsArcs arc label
none_keeps arc node label listed path.None answer entering few = entered_keeps arc node label entering
none_keeps arc node label listed (path.Cycle cost count) answer entering few =
    absurd (omega (arith, few, answer.counted, ap length answer.nodes_are))

-- a cycle among the trades from one on begins with the lowest
pub part_grown : (nodes null first : ℕ) (arc : ℕ → ℕ → Option ℤ) (listed : List ℕ) (labels : List ℤ) (found : Path)
    → null + 1 ≡ nodes
    → AnswersCycle (arcs_among (is_trade_from first null) arc) first listed found → 0 < arc_count found
    → AnswersGrown nodes arc listed labels found
part_grown nodes null first arc listed labels path.None last answer some = absurd (omega (arith, some))
part_grown nodes null first arc listed labels (path.Cycle cost count) last answer some =
    let walk = answer.least.cycle.walk in
    let passes = walk_passes (is_trade_from first null) arc first answer.rest first cost walk in
    record {
      first = first;
      rest = answer.rest;
      nodes_are = answer.nodes_are;
      counted = answer.counted;
      negative = answer.negative;
      cycle = record {
        walk = walk_among (is_trade_from first null) arc first answer.rest first cost walk;
        different =
            answer.least.cycle.different;
      };
      begins = inr (subst (All (λ v. (first ≤ v) × (v + 1 < nodes))) (sym answer.nodes_are)
          (All-weaker (λ v. is_trade_from first null v ≡ true) (λ v. (first ≤ v) × (v + 1 < nodes))
          (λ v h. let two = and_parts (nat_le first v) (nat_lt v null) h in
          (leb-true first v two.0, omega (arith, ltb-true v null two.1, last)))
          (first ∷ answer.rest) passes));
    }

-- a cycle through the null node begins with it, and where there is none, the labels keep all arcs
pub whole_grown : (nodes null : ℕ) (arc : ℕ → ℕ → Option ℤ) (listed : List ℕ) (labels : List ℤ) (found : Path)
    → null + 1 ≡ nodes → AnswersCycle arc null listed found
    → KeepsArcsEntering arc null (label_in labels null +ℤ cost_of found) (label_in labels) → AreNear most_label labels
    → AnswersGrown nodes arc listed labels found
whole_grown nodes null arc listed labels path.None last answer entering near =
    (entered_keeps arc null (label_in labels) entering, near)
whole_grown nodes null arc listed labels (path.Cycle cost count) last answer entering near = record {
  first = null;
  rest = answer.rest;
  nodes_are = answer.nodes_are;
  counted = answer.counted;
  negative = answer.negative;
  cycle = answer.least.cycle;
  begins = inl last;
}

-- off the first one, the same nodes are trades from it on and from the next on
between_same : (first null v : ℕ) → v ≢ first → is_trade_from first null v ≡ is_trade_from (first + 1) null v
between_same first null v off = ap (λ (b : Bool). b && nat_lt v null) (same first v off)
  where
    same : (first v : ℕ) → v ≢ first → nat_le first v ≡ nat_le (first + 1) v
    same first v off = grind (arith, nat_tests)

-- marks of the trades after the first one are those of its graph without it
module _ (first null places : ℕ) (mark : ℕ → Bool)
    (marks : (v : ℕ) → v < places → mark v ≡ is_trade_from (first + 1) null v) where
  pub marked_off : (arc : ℕ → ℕ → Option ℤ) → null ≤ places → (v u : ℕ) (cost : ℤ) → v ≢ first
      → arcs_among (is_trade_from first null) arc v u ≡ Some cost → mark v ≡ true
  marked_off arc room v u cost off is =
      let both = (some_if (is_trade_from first null v && is_trade_from first null u) (arc v u) cost is).0 in
      let own : is_trade_from first null v ≡ true = (and_parts (is_trade_from first null v) (is_trade_from first null u) both).0
      in
      let below : v < null = ltb-true v null (and_parts (nat_le first v) (nat_lt v null) own).1 in
      marks v (omega (arith, below, room)) ∙ sym (between_same first null v off) ∙ own

  pub unmarked : first < places → mark first ≡ false
  unmarked inside = marks first inside ∙ ap (λ (b : Bool). b && nat_lt first null) (above first)
    where
      above : (first : ℕ) → nat_le (first + 1) first ≡ false
      above first = lt-leb (first + 1) first (omega arith)

-- labels that keep the arcs among the trades after the first one
pub first_avoiding : (first next null : ℕ) (arc : ℕ → ℕ → Option ℤ) (label : ℕ → ℤ) → next ≡ first + 1
    → KeepsArcs (arcs_among (is_trade_from next null) arc) label
    → KeepsArcsAvoiding (arcs_among (is_trade_from first null) arc) first label
first_avoiding first next null arc label is keeps =
    keeps_avoiding (arcs_among (is_trade_from first null) arc) (arcs_among (is_trade_from (first + 1) null) arc) first label
    (λ a b a_off b_off. ap (λ (t : Bool). if t && is_trade_from first null b then arc a b else None)
    (between_same first null a a_off)
    ∙ ap (λ (t : Bool). if is_trade_from (first + 1) null a && t then arc a b else None) (between_same first null b b_off))
    (subst (λ (k : ℕ). KeepsArcs (arcs_among (is_trade_from k null) arc) label) is keeps)

-- marks of all trades
module _ (nodes null places : ℕ) (mark : ℕ → Bool) (last : nodes ≡ null + 1) (room : nodes ≤ places)
    (marks : (v : ℕ) → v < places → mark v ≡ is_trade_from 0 null v) where
  pub marked_all : (arc : ℕ → ℕ → Option ℤ) → AreBetweenNodes nodes arc → (v u : ℕ) (cost : ℤ) → v ≢ null
      → arc v u ≡ Some cost → mark v ≡ true
  marked_all arc between v u cost off is =
      let inside : v < nodes = (between v u cost is).0 in
      marks v (omega (arith, inside, room)) ∙ below v null (omega (arith, inside, last, off))
    where
      below : (v null : ℕ) → v < null → is_trade_from 0 null v ≡ true
      below v null less = ap (λ (b : Bool). b && nat_lt v null) (le-leb 0 v (omega arith)) ∙ lt-ltb v null less

  pub null_unmarked : mark null ≡ false
  null_unmarked = marks null (omega (arith, last, room)) ∙ none null
    where
      none : (null : ℕ) → is_trade_from 0 null null ≡ false
      none null = ap (λ (b : Bool). b && nat_lt null null) (le-leb 0 null (omega arith)) ∙ le-ltb null null (omega arith)
