-- What the finder's parts let be read.
use Rattle.std.proofs.Common.{◌≡◌, ℕ, zero, suc, ◌+◌, ◌<◌, ◌≤◌, refl, sym, ap, ◌∙◌, subst, arith, List, [], ◌∷◌, ◌++◌, length, set, take, drop, ℤ, ◌+ℤ◌, ◌≤ℤ◌, Option, None, Bool}
use Rattle.std.proofs.lemmas.List.{take_all, length-take}
use Rattle.std.proofs.lemmas.List.Elements.{All-weaker}
use Rattle.std.proofs.lemmas.List.FromFn.{get_or-map-range_with_len, length-map-range_with_len}
use Rattle.std.proofs.lemmas.Int.{ints}
use Rattle.tn_base.specs.Arcs.{AreBetweenNodes, IsAtMost}
use Rattle.tn_base.specs.Walks.{HasNoNegativeCycle, KeepsArcs}
use Rattle.tn_cycle.specs.declared.cell.Cell.{Cell}
use Rattle.tn_cycle.specs.declared.finder.Finder.TheInside.{Inside}
use Rattle.tn_cycle.specs.Cells.{cell_at, trail}
use Rattle.tn_cycle.specs.Searched.{IsSettled}
use Rattle.tn_cycle.specs.Reading.{HasPlaces, IsListable, Reading, finder_reading, walk_nodes}
use Rattle.tn_cycle.specs.Answers.{AreNear, LeadsAlong, distance_in, label_in, walk_in}
use Rattle.tn_cycle.specs.Kept.{negated_if}
use Rattle.tn_cycle.specs.Widths.{most_label}
use Rattle.tn_cycle.proofs.KeptCycleLemmas.{signed_near}
use Rattle.tn_cycle.proofs.ReadLemmas.{front-written}
use Rattle.tn_cycle.proofs.SettledLemmas.{led_inside}
use Rattle.tn_cycle.proofs.TurnLemmas.{leads_along}

-- a list that was lent whole and written is what was written
pub written-back : {A : Type 0} (written old : List A) (places : ℕ) → length written ≡ places
    → take places (written ++ drop (length written) old) ≡ written
written-back written old places whole =
    sym (take-all-twice written old places whole) ∙ front-written written (drop (length written) old) places places
    (omega arith) (omega (arith, whole)) ∙ take_all places written (omega (arith, whole))
  where
    take-all-twice : {A : Type 0} (written old : List A) (places : ℕ) → length written ≡ places
        → take places (take places (written ++ drop (length written) old))
        ≡ take places (written ++ drop (length written) old)
    take-all-twice written old places whole = take_all places (take places (written ++ drop (length written) old))
        (omega (arith, length-take places (written ++ drop (length written) old)))

-- one place is written of a list of which a part is read
pub taken-set : {A : Type 0} (count : ℕ) (xs : List A) (i : ℕ) (x : A) → take count (set xs i x)
    ≡ set (take count xs) i x
taken-set zero xs i x = refl
taken-set (suc count) [] i x = refl
taken-set (suc count) (y ∷ ys) zero x = refl
taken-set (suc count) (y ∷ ys) (suc i) x = ap (λ (zs : List _). y ∷ zs) (taken-set count ys i x)

-- all labels are read off the finder, where there is one for each place
pub all-read : (f : Inside) (now : Reading)
    → finder_reading f.nodes f.count f.path.items f.labelled f.labels.items f.reached f.turns f.end f.row.items ≡ now
    → length f.labels.items ≤ length now.labels → now.labels ≡ f.labels.items
all-read f now view many =
    let is : take f.labelled f.labels.items ≡ now.labels = ap (λ (reading : Reading). reading.labels) view in
    let size : length (take f.labelled f.labels.items) ≡ length now.labels = ap length is in
    sym is ∙ take_all f.labelled f.labels.items (omega (arith, many, size, length-take f.labelled f.labels.items))

-- how many nodes are read off the finder
pub nodes-read : (f : Inside) (now : Reading)
    → finder_reading f.nodes f.count f.path.items f.labelled f.labels.items f.reached f.turns f.end f.row.items ≡ now
    → now.nodes ≡ f.nodes
nodes-read f now view = ap (λ (reading : Reading). reading.nodes) (sym view)

-- a finder that lends all its labels
module _ (f : Inside) (now : Reading)
    (view : finder_reading f.nodes f.count f.path.items f.labelled f.labels.items f.reached f.turns f.end f.row.items ≡ now)
    (sized : f.labels.len ≡ f.nodes) (labelled : length now.labels ≡ now.nodes) where
  -- those that are lent are those that were read
  pub lent-read : (lent : List ℤ) → lent ≡ f.labels.items → length lent ≡ f.labels.len → now.labels ≡ lent
  lent-read lent is whole =
      all-read f now view (omega (arith, ap length is, whole, sized, labelled, nodes-read f now view)) ∙ sym is

  -- and those that are written are read afterwards
  pub written-read : (written : List ℤ) → length written ≡ f.labels.len
      → take f.labelled (take f.labels.len (written ++ drop (length written) f.labels.items)) ≡ written
  written-read written whole =
      let size : length (take f.labelled f.labels.items) ≡ length now.labels =
      ap (λ (reading : Reading). length reading.labels) view in
      let all : length written ≤ f.labelled = omega (
        arith,
        whole,
        sized,
        labelled,
        nodes-read f now view,
        size,
        length-take f.labelled f.labels.items,
      ) in
      ap (take f.labelled) (written-back written f.labels.items f.labels.len whole) ∙ take_all f.labelled written all

-- labels, or their negatives, that were written
pub signed_near_all : (negates : Bool) (old new : List ℤ) → length new ≡ length old → AreNear most_label old
    → ((v : ℕ) → v < length old → label_in new v ≡ negated_if negates (label_in old v)) → AreNear most_label new
signed_near_all negates old new sized near are v inside =
    let places : v < length old = omega (arith, inside, sized) in
    subst (λ (z : ℤ). IsAtMost z most_label) (sym (are v places))
    (signed_near negates (label_in old v) most_label (near v places))

pub signed_keep : (negates : Bool) (nodes : ℕ) (arc : ℕ → ℕ → Option ℤ) (old new : List ℤ) → AreBetweenNodes nodes arc
    → nodes ≡ length old
    → ((v : ℕ) → v < length old → label_in new v ≡ negated_if negates (label_in old v))
    → KeepsArcs arc (λ v. negated_if negates (label_in old v)) → KeepsArcs arc (label_in new)
signed_keep negates nodes arc old new between sized are keeps u v cost is =
    let two = between u v cost is in
    let first : label_in new u ≡ negated_if negates (label_in old u) = are u (omega (arith, two.0, sized)) in
    let second : label_in new v ≡ negated_if negates (label_in old v) = are v (omega (arith, two.1, sized)) in
    let kept : negated_if negates (label_in old v) ≤ℤ (negated_if negates (label_in old u) +ℤ cost) = keeps u v cost is in
    omega (arith, ints, first, second, kept)

-- the cost and the walk of a node
pub distance-read : (nodes count : ℕ) (path : List ℕ) (labelled : ℕ) (labels : List ℤ) (reached : ℕ) (turns : Bool)
    (end : ℕ) (row : List Cell) (v : ℕ) → v < reached
    → distance_in (finder_reading nodes count path labelled labels reached turns end row) v ≡ (cell_at row v).cost
distance-read nodes count path labelled labels reached turns end row v inside =
    get_or-map-range_with_len (λ (u : ℕ). (cell_at row u).cost) 0 reached v v None inside (omega arith)

pub walk-read : (nodes count : ℕ) (path : List ℕ) (labelled : ℕ) (labels : List ℤ) (reached : ℕ) (turns : Bool)
    (end : ℕ) (row : List Cell) (v : ℕ) → v < reached
    → walk_in (finder_reading nodes count path labelled labels reached turns end row) v
    ≡ walk_nodes turns end (cell_at row) v
walk-read nodes count path labelled labels reached turns end row v inside =
    get_or-map-range_with_len (walk_nodes turns end (cell_at row)) 0 reached v v _ inside (omega arith)

-- how many nodes have a cost
pub distances-count : (nodes count : ℕ) (path : List ℕ) (labelled : ℕ) (labels : List ℤ) (reached : ℕ) (turns : Bool)
    (end : ℕ) (row : List Cell)
    → length (finder_reading nodes count path labelled labels reached turns end row).distances ≡ reached
distances-count nodes count path labelled labels reached turns end row =
    length-map-range_with_len (λ (u : ℕ). (cell_at row u).cost) 0 reached

-- and that many are read off the finder
pub reached-read : (f : Inside) (now : Reading)
    → finder_reading f.nodes f.count f.path.items f.labelled f.labels.items f.reached f.turns f.end f.row.items ≡ now
    → length now.distances ≡ f.reached
reached-read f now view =
    ap (λ (reading : Reading). length reading.distances) (sym view)
    ∙ distances-count f.nodes f.count f.path.items f.labelled f.labels.items f.reached f.turns f.end f.row.items

-- a settled search can be listed
pub listable_all : (nodes : ℕ) (arc : ℕ → ℕ → Option ℤ) (end : ℕ) (row : List Cell) → AreBetweenNodes nodes arc
    → HasNoNegativeCycle arc
    → IsSettled nodes arc end (cell_at row) → nodes ≤ length row → (v : ℕ) → v < nodes → IsListable (nodes + 2) row v
listable_all nodes arc end row between none found places v inside =
    let short : (cell_at row v).inner_nodes < nodes = found.few v inside in
    record {
      few = omega (arith, short);
      inside = All-weaker (λ u. u < nodes) (λ u. u < length row) (λ u h. omega (arith, h, places))
          (trail (cell_at row) (cell_at row v).inner_nodes v)
          (led_inside nodes arc end (cell_at row) between (λ u vs z _ _ walk. none u vs z walk) found v inside);
    }

-- what is read after a search
pub reads_along : (turns : Bool) (nodes : ℕ) (arc : ℕ → ℕ
    → Option ℤ) (end : ℕ) (path : List ℕ) (labels : List ℤ) (row : List Cell) → AreBetweenNodes nodes arc
    → HasNoNegativeCycle arc → IsSettled nodes arc end (cell_at row) → (v : ℕ) → v < nodes
    → LeadsAlong turns arc v end (walk_in (finder_reading nodes 0 path 0 labels nodes turns end row) v)
    (distance_in (finder_reading nodes 0 path 0 labels nodes turns end row) v)
reads_along turns nodes arc end path labels row between none found v inside =
    let reading = finder_reading nodes 0 path 0 labels nodes turns end row in
    subst (λ (xs : List ℕ). LeadsAlong turns arc v end xs (distance_in reading v))
    (sym (walk-read nodes 0 path 0 labels nodes turns end row v inside))
    (subst (LeadsAlong turns arc v end (walk_nodes turns end (cell_at row) v))
    (sym (distance-read nodes 0 path 0 labels nodes turns end row v inside))
    (leads_along nodes arc end (cell_at row) between none found turns v inside))

-- the finder keeps its places where others of its cells may be read
pub places_kept : (nodes count labelled reached path labels row_places waits spaces : ℕ) (row : List Cell)
    (count' labelled' reached' : ℕ) (row' : List Cell)
    → HasPlaces nodes count labelled reached path labels row_places waits spaces row → count' ≤ nodes + 2
    → labelled' ≤ nodes → reached' ≤ nodes
    → ((v : ℕ) → v < reached' → IsListable (nodes + 2) row' v)
    → HasPlaces nodes count' labelled' reached' path labels row_places waits spaces row'
places_kept nodes count labelled reached path labels row_places waits spaces row count' labelled' reached' row' had few
    few_labels few_walks listable = record {
      some = had.some;
      not_many = had.not_many;
      row_sized = had.row_sized;
      waits_sized = had.waits_sized;
      path_sized = had.path_sized;
      spaced = had.spaced;
      labels_sized = had.labels_sized;
      listed = few;
      labels_read = few_labels;
      walks_read = few_walks;
      listable = listable;
    }

-- and where no walks may be read
pub places_free : (nodes count labelled reached path labels row_places waits spaces : ℕ) (row : List Cell)
    (count' labelled' : ℕ) (row' : List Cell)
    → HasPlaces nodes count labelled reached path labels row_places waits spaces row → count' ≤ nodes + 2
    → labelled' ≤ nodes → HasPlaces nodes count' labelled' 0 path labels row_places waits spaces row'
places_free nodes count labelled reached path labels row_places waits spaces row count' labelled' row' had few
    few_labels =
    places_kept nodes count labelled reached path labels row_places waits spaces row count' labelled' 0 row' had few
    few_labels (omega arith) (λ v none. absurd (omega (arith, none)))
