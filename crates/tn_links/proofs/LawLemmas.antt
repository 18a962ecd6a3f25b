-- Labels that keep the graph of a kept flow show that no kept flow gains more.
use Rattle.std.proofs.Common.{◌≡◌, ℕ, zero, suc, ◌+◌, ◌-◌, ◌<◌, ◌≤◌, refl, sym, ap, ◌∙◌, arith, inl, inr, List, [], ◌∷◌, length, ℤ, pos, ◌+ℤ◌, ◌-ℤ◌, ◌≤ℤ◌, Some, None, Bool, true, ◌==◌, if◌then◌else◌}
use Rattle.std.specs.Prelude.{◌*ℤ◌, slice_get}
use Rattle.std.proofs.lemmas.Int.{ints}
use Rattle.std.proofs.lemmas.Bool.{cases_lt, le-leb}
use Rattle.std.proofs.Math.IntN.{*ℤ-zero}
use Rattle.tn_base.proofs.SumLemmas.{times-plus}
use Rattle.tn_base.specs.Walks.{KeepsArcs}
use Rattle.tn_links.specs.declared.link.Link.{Link}
use Rattle.tn_links.specs.declared.link.Step.{Step}
use Rattle.tn_links.specs.Flows.{IsKeptFlow, balance, brought, flow_at, gain, total_gain}
use Rattle.tn_links.specs.Laws.{LabelsAreGreatest}
use Rattle.tn_links.specs.Links.{AreFalling, ArePlain, IsLink, joins, rise, room}
use Rattle.tn_links.specs.Lots.{less_cost, link_arc, lot_cost, more_cost}
use Rattle.tn_links.specs.LotLemmas.{joins_by}
use Rattle.tn_links.specs.RiseLemmas.{rise-suc, slope, times_suc}
use Rattle.tn_links.proofs.ConcaveLemmas.{from_head, from_tail, slope_falls}
use Rattle.tn_links.proofs.NearLemmas.{arc_some, is_between}
use Rattle.tn_links.proofs.TotalLemmas.{minus-times, times-minus, total-plus, total-same, total-zero, total_at}
use Rattle.tn_links.specs.Totals.{total}

-- what a flow over one link brings, by the labels
brought_total : (label : ℕ → ℤ) (link : Link) (x : ℤ) (nodes : ℕ) → link.tail < nodes → link.head < nodes
    → total (λ v. label v *ℤ brought link x v) nodes ≡ (label link.head -ℤ label link.tail) *ℤ x
brought_total label link x nodes tail head =
    let to : ℕ → ℤ = λ v. label v *ℤ (if v == link.head then x else pos 0) in
    let from : ℕ → ℤ = λ v. label v *ℤ (if v == link.tail then x else pos 0) in
    let parts : total (λ v. label v *ℤ brought link x v +ℤ from v) nodes ≡ total to nodes =
    total-same (λ v. label v *ℤ brought link x v +ℤ from v) to nodes
    (λ v below. let split = times-minus (label v) (if v == link.head then x else pos 0) (if v == link.tail then x else pos 0) in
    by (label v *ℤ brought link x v) (to v) (from v) split) in
    let sum = total-plus (λ v. label v *ℤ brought link x v) from nodes in
    let first = total_at label x link.head nodes head in
    let second = total_at label x link.tail nodes tail in
    let whole = minus-times (label link.head) (label link.tail) x in
    by_sums (total (λ v. label v *ℤ brought link x v) nodes) (total from nodes) (total to nodes)
    (total (λ v. label v *ℤ brought link x v +ℤ from v) nodes) (label link.head *ℤ x) (label link.tail *ℤ x)
    ((label link.head -ℤ label link.tail) *ℤ x) parts sum first second whole
  where
    by : (a b c : ℤ) → a ≡ b -ℤ c → a +ℤ c ≡ b
    by a b c e = omega (arith, ints, e)

    by_sums : (a b c d h t w : ℤ) → d ≡ c → d ≡ a +ℤ b → c ≡ h → b ≡ t → w ≡ h -ℤ t → a ≡ w
    by_sums a b c d h t w p q r s e = omega (arith, ints, p, q, r, s, e)

-- the flows, each times what the label of its head is above that of its tail
abbrev pub tension : List Link → List ℕ → (ℕ → ℤ) → ℤ
tension [] levels label = pos 0
tension (link ∷ links) [] label = pos 0
tension (link ∷ links) (level ∷ levels) label =
    (label link.head -ℤ label link.tail) *ℤ flow_at link level +ℤ tension links levels label

-- the ends of each link are nodes
abbrev pub AreInside : ℕ → List Link → Type 0
AreInside nodes links = (j : ℕ) (link : Link) → slice_get links j ≡ Some link → (link.tail < nodes) × (link.head < nodes)

tension_total : (nodes : ℕ) (links : List Link) (levels : List ℕ) (label : ℕ → ℤ) → AreInside nodes links
    → total (λ v. label v *ℤ balance links levels v) nodes ≡ tension links levels label
tension_total nodes [] levels label inside = total-zero (λ v. label v *ℤ pos 0) nodes (λ v below. *ℤ-zero (label v))
tension_total nodes (link ∷ links) [] label inside = total-zero (λ v. label v *ℤ pos 0) nodes (λ v below. *ℤ-zero (label v))
tension_total nodes (link ∷ links) (level ∷ levels) label inside =
    let own : ℕ → ℤ = λ v. label v *ℤ brought link (flow_at link level) v in
    let rest : ℕ → ℤ = λ v. label v *ℤ balance links levels v in
    let ends = inside 0 link refl in
    total-same (λ v. label v *ℤ balance (link ∷ links) (level ∷ levels) v) (λ v. own v +ℤ rest v) nodes
    (λ v below. times-plus (label v) (brought link (flow_at link level) v) (balance links levels v))
    ∙ total-plus own rest nodes
    ∙ ap (λ (z : ℤ). z +ℤ total rest nodes) (brought_total label link (flow_at link level) nodes ends.0 ends.1)
    ∙ ap (λ (z : ℤ). (label link.head -ℤ label link.tail) *ℤ flow_at link level +ℤ z)
    (tension_total nodes links levels label (λ j one at. inside (suc j) one at))

-- a kept flow has none
pub kept_tension : (nodes : ℕ) (links : List Link) (levels : List ℕ) (label : ℕ → ℤ) → AreInside nodes links
    → IsKeptFlow links levels → tension links levels label ≡ pos 0
kept_tension nodes links levels label inside kept =
    sym (tension_total nodes links levels label inside)
    ∙ total-zero (λ v. label v *ℤ balance links levels v) nodes
    (λ v below. ap (λ (z : ℤ). label v *ℤ z) (kept.kept v) ∙ *ℤ-zero (label v))

-- above a level at which a unit more adds no more than a rate takes
rises : (steps : List Step) (rate : ℤ) (n : ℕ) → AreFalling steps → (n < room steps → (slope steps n +ℤ rate) ≤ℤ pos 0)
    → (p : ℕ) → n + p ≤ room steps → (rise steps (n + p) +ℤ rate *ℤ pos p) ≤ℤ rise steps n
rises steps rate n falling most zero within =
    let same : rise steps (n + 0) ≡ rise steps n = ap (rise steps) (omega arith) in
    let none = *ℤ-zero rate in
    omega (arith, ints, same, none)
rises steps rate n falling most (suc p) within =
    let before = rises steps rate n falling most p (omega (arith, within)) in
    let same : rise steps (n + suc p) ≡ rise steps (n + p + 1) = ap (rise steps) (omega arith) in
    let falls = slope_falls steps falling n (n + p) (omega arith) (omega (arith, within)) in
    let first = most (omega (arith, within)) in
    omega (arith, ints, before, same, rise-suc steps (n + p), falls, first, times_suc rate p)

-- below a level at which a unit less takes no less
sinks : (steps : List Step) (rate : ℤ) (n q : ℕ) → AreFalling steps → n ≤ room steps
    → (0 < n → pos 0 ≤ℤ (slope steps (n - 1) +ℤ rate))
    → (p : ℕ) → q + p ≤ n → rise steps q ≤ℤ (rise steps (q + p) +ℤ rate *ℤ pos p)
sinks steps rate n q falling within least zero below =
    let same : rise steps (q + 0) ≡ rise steps q = ap (rise steps) (omega arith) in
    let none = *ℤ-zero rate in
    omega (arith, ints, same, none)
sinks steps rate n q falling within least (suc p) below =
    let before = sinks steps rate n q falling within least p (omega (arith, below)) in
    let same : rise steps (q + suc p) ≡ rise steps (q + p + 1) = ap (rise steps) (omega arith) in
    let falls = slope_falls steps falling (q + p) (n - 1) (omega (arith, below)) (omega (arith, below, within)) in
    let last = least (omega (arith, below)) in
    omega (arith, ints, before, same, rise-suc steps (q + p), falls, last, times_suc rate p)

-- at a level a rate is between what a unit less and a unit more adds
pub record KeepsLink (link : Link) (level : ℕ) (rate : ℤ) : Type 0 where
  pub more : level < room link.steps.items → (slope link.steps.items level +ℤ rate) ≤ℤ pos 0
  pub less : 0 < level → pos 0 ≤ℤ (slope link.steps.items (level - 1) +ℤ rate)

pub link_below : (link : Link) (level other : ℕ) (rate : ℤ) → AreFalling link.steps.items → level ≤ room link.steps.items
    → other ≤ room link.steps.items → KeepsLink link level rate
    → (gain link other +ℤ rate *ℤ flow_at link other) ≤ℤ (gain link level +ℤ rate *ℤ flow_at link level)
link_below link level other rate falling within other_within keeps =
    let steps = link.steps.items in
    let here = times-minus rate (pos level) (pos link.back) in
    let there = times-minus rate (pos other) (pos link.back) in
    elim (cases_lt other level) [
      | inl below ↦
          let line = sinks steps rate level other falling within keeps.less (level - other) (omega (arith, below)) in
          let up : other + (level - other) ≡ level = omega (arith, below) in
          let same : rise steps (other + (level - other)) ≡ rise steps level = ap (rise steps) up in
          let sum = times-plus rate (pos other) (pos (level - other)) in
          let whole : rate *ℤ (pos other +ℤ pos (level - other)) ≡ rate *ℤ pos level =
          ap (λ (k : ℕ). rate *ℤ pos k) up in
          omega (arith, ints, here, there, line, same, sum, whole)
      | inr above ↦
          let up : level + (other - level) ≡ other = omega (arith, above) in
          let line = rises steps rate level falling keeps.more (other - level) (omega (arith, up, other_within)) in
          let same : rise steps (level + (other - level)) ≡ rise steps other = ap (rise steps) up in
          let sum = times-plus rate (pos level) (pos (other - level)) in
          let whole : rate *ℤ (pos level +ℤ pos (other - level)) ≡ rate *ℤ pos other =
          ap (λ (k : ℕ). rate *ℤ pos k) up in
          omega (arith, ints, here, there, line, same, sum, whole)
    ]

-- what is known of a link, its level and another one
record IsTouched (link : Link) (level other : ℕ) (rate : ℤ) : Type 0 where
  falling : AreFalling link.steps.items
  within : level ≤ room link.steps.items
  other_within : other ≤ room link.steps.items
  keeps : KeepsLink link level rate

all_below : (links : List Link) (levels others : List ℕ) (label : ℕ → ℤ) → length levels ≡ length links
    → length others ≡ length links
    → ((j level other : ℕ) (link : Link) → slice_get links j ≡ Some link → slice_get levels j ≡ Some level
    → slice_get others j ≡ Some other → IsTouched link level other (label link.head -ℤ label link.tail))
    → (total_gain links others +ℤ tension links others label) ≤ℤ (total_gain links levels +ℤ tension links levels label)
all_below [] levels others label sized other_sized touched = omega (arith, ints)
all_below (link ∷ links) [] others label sized other_sized touched = absurd (omega (arith, sized))
all_below (link ∷ links) (level ∷ levels) [] label sized other_sized touched = absurd (omega (arith, other_sized))
all_below (link ∷ links) (level ∷ levels) (other ∷ others) label sized other_sized touched =
    let rest = all_below links levels others label (omega (arith, sized)) (omega (arith, other_sized))
    (λ j n m one at level_at other_at. touched (suc j) n m one at level_at other_at) in
    let here = touched 0 level other link refl refl refl in
    let own = link_below link level other (label link.head -ℤ label link.tail) here.falling here.within
    here.other_within here.keeps in
    omega (arith, ints, rest, own)

-- the arcs of a link keep its rate
pub keeps_link : (nodes : ℕ) (links : List Link) (levels : List ℕ) (label : ℕ → ℤ) (j level : ℕ) (link : Link)
    → ArePlain nodes links → KeepsArcs (link_arc links levels 1) label → slice_get links j ≡ Some link
    → slice_get levels j ≡ Some level → level ≤ room link.steps.items
    → KeepsLink link level (label link.head -ℤ label link.tail)
keeps_link nodes links levels label j level link plain keeps at level_at within = record { more = more; less = less }
  where
    arc : (u v : ℕ) → joins link u v ≡ true → link_arc links levels 1 u v ≡ lot_cost link level 1 u
    arc u v joined = arc_some links levels 1 u v j link level (is_between nodes links u v j link plain at joined) at level_at

    is : IsLink nodes link
    is = plain.each j link at

    more : level < room link.steps.items
        → (slope link.steps.items level +ℤ (label link.head -ℤ label link.tail)) ≤ℤ pos 0
    more below =
        let there : more_cost link level 1 ≡ Some (rise link.steps.items level -ℤ rise link.steps.items (level + 1)) =
        ap (λ (b : Bool). if b then Some (rise link.steps.items level -ℤ rise link.steps.items (level + 1)) else None)
        (le-leb (level + 1) (room link.steps.items) (omega (arith, below))) in
        let kept = keeps link.tail link.head (rise link.steps.items level -ℤ rise link.steps.items (level + 1))
        (arc link.tail link.head (joins_by link link.tail link.head (inl (refl, refl)))
        ∙ from_tail link level 1 link.tail refl ∙ there) in
        omega (arith, ints, kept, rise-suc link.steps.items level)

    less : 0 < level → pos 0 ≤ℤ (slope link.steps.items (level - 1) +ℤ (label link.head -ℤ label link.tail))
    less some =
        let there : less_cost link level 1 ≡ Some (rise link.steps.items level -ℤ rise link.steps.items (level - 1)) =
        ap (λ (b : Bool). if b then Some (rise link.steps.items level -ℤ rise link.steps.items (level - 1)) else None)
        (le-leb 1 level (omega (arith, some))) in
        let kept = keeps link.head link.tail (rise link.steps.items level -ℤ rise link.steps.items (level - 1))
        (arc link.head link.tail (joins_by link link.head link.tail (inr (refl, refl)))
        ∙ from_head link level 1 link.head is.apart ∙ there) in
        let same : rise link.steps.items (level - 1 + 1) ≡ rise link.steps.items level =
        ap (rise link.steps.items) (omega (arith, some)) in
        omega (arith, ints, kept, same, rise-suc link.steps.items (level - 1))

pub labels_are_greatest : LabelsAreGreatest
labels_are_greatest nodes links levels label plain kept keeps others other_kept =
    let inside : AreInside nodes links = λ j link at. let is = plain.each j link at in (is.tail_inside, is.head_inside) in
    let first = kept_tension nodes links levels label inside kept in
    let second = kept_tension nodes links others label inside other_kept in
    let whole = all_below links levels others label kept.one_each other_kept.one_each
    (λ j level other link at level_at other_at. record {
      falling = (plain.each j link at).steps.falling;
      within = kept.within j level link at level_at;
      other_within = other_kept.within j other link at other_at;
      keeps = keeps_link nodes links levels label j level link plain keeps at level_at (kept.within j level link at level_at);
    }) in
    omega (arith, ints, first, second, whole)
