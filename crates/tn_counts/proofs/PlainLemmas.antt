-- No two links of a market join the same two nodes, and each gains by falling steps.
use Rattle.std.proofs.Common.{◌≡◌, ◌≢◌, ℕ, zero, suc, ◌+◌, ◌-◌, ◌<◌, ◌≤◌, ◌⊎◌, Bool, true, if◌then◌else◌, List, [], ◌∷◌, length, Some, slice_get, refl, sym, ap, ◌∙◌, subst, arith, inl, inr, ℤ, pos}
use Rattle.std.proofs.lemmas.Int.{ints}
use Rattle.std.proofs.lemmas.Bool.{cases_Bool, cases_lt}
use Rattle.std.proofs.lemmas.Option.{none-some, same_Some, slice_get-get_or, slice_get_within}
use Rattle.tn_base.specs.Arcs.{IsAtMost}
use Rattle.tn_links.specs.declared.link.Link.{Link}
use Rattle.tn_links.specs.declared.link.Step.{Step}
use Rattle.tn_links.specs.Links.{AreFalling, AreSlight, IsLink, joins, room}
use Rattle.tn_links.specs.LotLemmas.{HasEnds, ends_of}
use Rattle.tn_links.specs.Widths.{most_each, most_units}
use Rattle.tn_counts.specs.Widths.{most_wide_amount}
use Rattle.tn_counts.specs.Counts.{trade_at}
use Rattle.tn_counts.specs.Laminar.{amounts_at}
use Rattle.tn_counts.specs.Laws.{LinksArePlain}
use Rattle.tn_counts.specs.Markets.{ArePins, IsWideMarket}
use Rattle.tn_counts.specs.Tree.{AreLinksOf, HasLink, LinkShape, buyer_place, buyer_shape, even, first_from, inner_node, is_around, node_above, null_node, pin_place, pin_shape, root_node, root_shape, seller_place, seller_shape, set_shape, shape_of, trade_node}
use Rattle.tn_counts.specs.declared.market.Pin.{Pin}
use Rattle.tn_counts.specs.declared.market.UnitMarket.{UnitMarket}
use Rattle.tn_counts.specs.declared.set.CountSet.{CountSet}
use Rattle.tn_counts.proofs.NetLemmas.{between_at}
use Rattle.tn_counts.proofs.PlaceLemmas.{item_at, shaped_at}
use Rattle.tn_counts.proofs.SmallLemmas.{units_below}
use Rattle.tn_counts.proofs.TreeLemmas.{IsAround, around_parts, first_within}

-- ---- each link by its place

-- what holds of each kind of link at its place holds of all
pub record AreAll (market : UnitMarket) (pins : List Pin) (P : ℕ → LinkShape → Type 0) : Type 0 where
  pub sets : (i : ℕ) (set : CountSet) → slice_get market.sets.items i ≡ Some set → P i (set_shape market i set)
  pub roots : (f : ℕ) → f < market.firms → P (root_node market f) (root_shape market f)
  pub sellers : (t : ℕ) → t < length market.trades.items → P (seller_place market t) (seller_shape market t)
  pub buyers : (t : ℕ) → t < length market.trades.items → P (buyer_place market t) (buyer_shape market t)
  pub pinned : (k : ℕ) (pin : Pin) → slice_get pins k ≡ Some pin → P (pin_place market k) (pin_shape market pin)

pub by_place : (market : UnitMarket) (pins : List Pin) (links : List Link) (P : ℕ → LinkShape → Type 0)
    → AreLinksOf market pins links → AreAll market pins P → (j : ℕ) (link : Link) → slice_get links j ≡ Some link
    → P j (shape_of link)
by_place market pins links P of all j link at = elim (cases_lt j m) [
  | inl in_sets ↦
      let found = item_at market.sets.items j in_sets in
      at_place j (set_shape market j found.0) (of.sets j found.0 found.1) (all.sets j found.0 found.1) refl
  | inr past_sets ↦ elim (cases_lt j (m + market.firms)) [
    | inl in_roots ↦
        let f : ℕ = j - m in
        let below : f < market.firms = omega (arith, in_roots, past_sets) in
        at_place (root_node market f) (root_shape market f) (of.roots f below) (all.roots f below)
        (omega (arith, past_sets))
    | inr past_roots ↦ elim (cases_lt j (m + market.firms + n)) [
      | inl in_sellers ↦
          let t : ℕ = j - (m + market.firms) in
          let below : t < n = omega (arith, in_sellers, past_roots) in
          at_place (seller_place market t) (seller_shape market t) (of.sellers t below) (all.sellers t below)
          (omega (arith, past_roots))
      | inr past_sellers ↦ elim (cases_lt j (m + market.firms + n + n)) [
        | inl in_buyers ↦
            let t : ℕ = j - (m + market.firms + n) in
            let below : t < n = omega (arith, in_buyers, past_sellers) in
            at_place (buyer_place market t) (buyer_shape market t) (of.buyers t below) (all.buyers t below)
            (omega (arith, past_sellers))
        | inr past_buyers ↦
            let k : ℕ = j - (m + market.firms + n + n) in
            let inside = slice_get_within links j link at in
            let sized = of.all in
            let below : k < length pins = omega (arith, past_buyers, inside, sized) in
            let found = item_at pins k below in
            at_place (pin_place market k) (pin_shape market found.0) (of.pinned k found.0 found.1)
            (all.pinned k found.0 found.1) (omega (arith, past_buyers))
      ]
    ]
  ]
]
  where
    m : ℕ
    m = length market.sets.items

    n : ℕ
    n = length market.trades.items

    at_place : (place : ℕ) (shape : LinkShape) → HasLink links place shape → P place shape → place ≡ j
        → P j (shape_of link)
    at_place place shape has is same =
        let found = shaped_at links place shape has in
        let one : found.link ≡ link = same_Some found.link link (sym found.is ∙ ap (slice_get links) same ∙ at) in
        subst (λ (k : ℕ). P k (shape_of link)) same
        (subst (P place) (sym found.shape_is ∙ ap shape_of one) is)

-- ---- each link

record IsShape (nodes : ℕ) (shape : LinkShape) : Type 0 where
  tail_inside : shape.tail < nodes
  head_inside : shape.head < nodes
  apart : shape.tail ≢ shape.head
  back_within : shape.back ≤ room shape.steps
  few_units : room shape.steps ≤ most_units
  falling : AreFalling shape.steps
  slight : AreSlight shape.steps

is_link : (nodes : ℕ) (link : Link) → IsShape nodes (shape_of link) → IsLink nodes link
is_link nodes link is = record {
  tail_inside = is.tail_inside;
  head_inside = is.head_inside;
  apart = is.apart;
  steps = record {
    back_within = is.back_within;
    few_units = is.few_units;
    falling = is.falling;
    slight = is.slight;
  };
}

-- one step is falling and slight
even_falling : (units : ℕ) (each : ℤ) → AreFalling (even units each)
even_falling units each i zero a b order at_i at_k = absurd (omega (arith, order))
even_falling units each i (suc k) a b order at_i at_k = absurd (none-some b at_k)

even_slight : (units : ℕ) (each : ℤ) → IsAtMost each most_each → AreSlight (even units each)
even_slight units each small zero step at =
    subst (λ (s : Step). IsAtMost s.each most_each) (same_Some (record { units = units; each = each }) step at) small
even_slight units each small (suc i) step at = absurd (none-some step at)

-- links take what markets have
taken : (z : ℤ) → IsAtMost z most_wide_amount → IsAtMost z most_each
taken z small = record { low = omega (arith, ints, small.low); high = omega (arith, ints, small.high) }

-- where the node above a set is
pub above_within : (market : UnitMarket) → IsWideMarket market → (i : ℕ) (set : CountSet)
    → slice_get market.sets.items i ≡ Some set
    → (i < node_above market i set.firm set.members.items)
    × (node_above market i set.firm set.members.items < length market.sets.items + market.firms)
above_within market is i set at = by set.members.items
  where
    by : (members : List ℕ)
        → (i < node_above market i set.firm members)
        × (node_above market i set.firm members < length market.sets.items + market.firms)
    by [] =
        let inside = slice_get_within market.sets.items i set at in
        let known = (is.each i set at).known in
        (omega (arith, inside), omega (arith, known))
    by (t ∷ members) =
        let inside = slice_get_within market.sets.items i set at in
        let known = (is.each i set at).known in
        let found = first_within market.sets.items set.firm t (root_node market set.firm)
        (length market.sets.items - suc i) (suc i) (omega (arith, inside)) in
        let low = found.0 in
        let high = found.1 in
        (omega (arith, low), omega (arith, high, known))

-- and where a trade stands
inner_within : (market : UnitMarket) (f t : ℕ) → f < market.firms
    → inner_node market f t < length market.sets.items + market.firms
inner_within market f t below =
    let found = first_within market.sets.items f t (root_node market f) (length market.sets.items) 0 (omega arith) in
    let high = found.1 in
    omega (arith, high, below)

shapes_are : (market : UnitMarket) (pins : List Pin) → IsWideMarket market → ArePins (length market.trades.items) pins
    → AreAll market pins (λ j shape. IsShape (suc (null_node market)) shape)
shapes_are market pins is are = record {
  sets = λ i set at.
      let found = above_within market is i set at in
      let inside = slice_get_within market.sets.items i set at in
      let low = found.0 in
      let high = found.1 in
      let own = is.each i set at in record {
        tail_inside = omega (arith, inside);
        head_inside = omega (arith, high);
        apart = λ e. omega (arith, e, low);
        back_within = own.around;
        few_units = let few = own.few in omega (arith, few);
        falling = own.concave;
        slight = λ k step there. taken step.each (own.small k step there);
      };
  roots = λ f below. record {
    tail_inside = omega (arith, below);
    head_inside = omega arith;
    apart = λ e. omega (arith, e, below);
    back_within = omega arith;
    few_units = omega arith;
    falling = even_falling 8388608 (pos 0);
    slight = even_slight 8388608 (pos 0) (record { low = omega (arith, ints); high = omega (arith, ints) });
  };
  sellers = λ t below.
      let known = between_at market is t below in
      let inner = inner_within market (trade_at market.trades.items t).seller t known.seller in
      let few = few_of t below in record {
        tail_inside = omega (arith, inner);
        head_inside = omega (arith, below);
        apart = λ e. omega (arith, e, inner);
        back_within = omega arith;
        few_units = few;
        falling = even_falling (trade_at market.trades.items t).units (amounts_at market.amounts.items t).seller;
        slight = even_slight (trade_at market.trades.items t).units (amounts_at market.amounts.items t).seller
            (amounts_of t below).0;
      };
  buyers = λ t below.
      let known = between_at market is t below in
      let inner = inner_within market (trade_at market.trades.items t).buyer t known.buyer in
      let few = few_of t below in record {
        tail_inside = omega (arith, below);
        head_inside = omega (arith, inner);
        apart = λ e. omega (arith, e, inner);
        back_within = omega arith;
        few_units = few;
        falling = even_falling (trade_at market.trades.items t).units (amounts_at market.amounts.items t).buyer;
        slight = even_slight (trade_at market.trades.items t).units (amounts_at market.amounts.items t).buyer
            (amounts_of t below).1;
      };
  pinned = λ k pin at.
      let below = are.known k pin at in record {
        tail_inside = omega (arith, below);
        head_inside = omega arith;
        apart = λ e. omega (arith, e, below);
        back_within = omega arith;
        few_units = omega arith;
        falling = even_falling 8388608 pin.price;
        slight = even_slight 8388608 pin.price (are.small k pin at);
      };
}
  where
    few_of : (t : ℕ) → t < length market.trades.items → (trade_at market.trades.items t).units + 0 ≤ most_units
    few_of t below =
        let units = units_below market.trades.items t below in
        let few = is.few_units in
        omega (arith, units, few)

    amounts_of : (t : ℕ) → t < length market.trades.items
        → IsAtMost (amounts_at market.amounts.items t).seller most_each
        × IsAtMost (amounts_at market.amounts.items t).buyer most_each
    amounts_of t below =
        let sized = is.as_many in
        let small = is.small t (amounts_at market.amounts.items t)
        (slice_get-get_or market.amounts.items t (record { seller = pos 0; buyer = pos 0 }) (omega (arith, below, sized))) in (
          taken (amounts_at market.amounts.items t).seller small.seller,
          taken (amounts_at market.amounts.items t).buyer small.buyer,
        )

-- ---- no two between the same two nodes

-- where a trade stands at a firm: at a set of the firm or at its root
pub first_is : (sets : List CountSet) (f t root n i : ℕ)
    → (first_from sets f t root n i ≡ root) ⊎ (is_around sets f t (first_from sets f t root n i) ≡ true)
first_is sets f t root zero i = inl refl
first_is sets f t root (suc n) i = elim (cases_Bool (is_around sets f t i)) [
  | inl inside ↦
      let found : first_from sets f t root (suc n) i ≡ i =
      ap (λ (b : Bool). if b then i else first_from sets f t root n (suc i)) inside in
      inr (ap (is_around sets f t) found ∙ inside)
  | inr outside ↦
      let found : first_from sets f t root (suc n) i ≡ first_from sets f t root n (suc i) =
      ap (λ (b : Bool). if b then i else first_from sets f t root n (suc i)) outside in
      elim (first_is sets f t root n (suc i)) [
        | inl at_root ↦ inl (found ∙ at_root)
        | inr around ↦ inr (ap (is_around sets f t) found ∙ around)
      ]
]

-- so it stands at different nodes at different firms
inner_apart : (market : UnitMarket) (f g t : ℕ) → f ≢ g → inner_node market f t ≢ inner_node market g t
inner_apart market f g t other e =
    elim (first_is market.sets.items f t (root_node market f) (length market.sets.items) 0) [
      | inl one ↦ elim (first_is market.sets.items g t (root_node market g) (length market.sets.items) 0) [
        | inl two ↦ other (omega (arith, one, two, e))
        | inr around ↦ past f g one (around_parts market.sets.items g t (inner_node market g t) around) e
      ]
      | inr around ↦ elim (first_is market.sets.items g t (root_node market g) (length market.sets.items) 0) [
        | inl two ↦ past g f two (around_parts market.sets.items f t (inner_node market f t) around) (sym e)
        | inr also ↦
            let first = around_parts market.sets.items f t (inner_node market f t) around in
            let second = around_parts market.sets.items g t (inner_node market g t) also in
            let same = same_Some first.set second.set (sym first.is ∙ ap (slice_get market.sets.items) e ∙ second.is) in
            other (first.firm ∙ ap (λ (s : CountSet). s.firm) same ∙ sym second.firm)
      ]
    ]
  where
    past : (a b : ℕ) → inner_node market a t ≡ root_node market a → IsAround market.sets.items b t (inner_node market b t)
        → inner_node market a t ≡ inner_node market b t → ⊥
    past a b at_root around same =
        let inside = slice_get_within market.sets.items (inner_node market b t) around.set around.is in
        omega (arith, at_root, inside, same)

-- by its lower end and its higher one a link is of a set or a root, whose node the lower is, or of an end of a trade, or a
-- pin
record IsOwn (market : UnitMarket) (j lo hi : ℕ) : Type 0 where
  is : j ≡ lo
  low : lo < length market.sets.items + market.firms
  high : (hi < length market.sets.items + market.firms) ⊎ (hi ≡ null_node market)

record IsEnd (market : UnitMarket) (j lo hi : ℕ) : Type 0 where
  trade : ℕ
  known : trade < length market.trades.items
  high : hi ≡ trade_node market trade
  which : ((lo ≡ inner_node market (trade_at market.trades.items trade).seller trade) × (j ≡ seller_place market trade))
      ⊎ ((lo ≡ inner_node market (trade_at market.trades.items trade).buyer trade) × (j ≡ buyer_place market trade))

record IsPinned (market : UnitMarket) (pins : List Pin) (j lo hi : ℕ) : Type 0 where
  place : ℕ
  pin : Pin
  at : slice_get pins place ≡ Some pin
  low : lo ≡ trade_node market pin.trade
  high : hi ≡ null_node market
  is : j ≡ pin_place market place

abbrev Kind : UnitMarket → List Pin → ℕ → ℕ → ℕ → Type 0
Kind market pins j lo hi = IsOwn market j lo hi ⊎ (IsEnd market j lo hi ⊎ IsPinned market pins j lo hi)

abbrev EndsAt : LinkShape → ℕ → ℕ → Type 0
EndsAt shape u v = ((shape.tail ≡ u) × (shape.head ≡ v)) ⊎ ((shape.tail ≡ v) × (shape.head ≡ u))

-- a link whose tail is the lower end, or the higher one
from_tail : (shape : LinkShape) (lo hi : ℕ) → shape.tail < shape.head → EndsAt shape lo hi → lo < hi
    → (shape.tail ≡ lo) × (shape.head ≡ hi)
from_tail shape lo hi order ends below = elim ends [
  | inl two ↦ two
  | inr two ↦ let tail = two.0 in let head = two.1 in absurd (omega (arith, order, tail, head, below))
]

from_head : (shape : LinkShape) (lo hi : ℕ) → shape.head < shape.tail → EndsAt shape lo hi → lo < hi
    → (shape.head ≡ lo) × (shape.tail ≡ hi)
from_head shape lo hi order ends below = elim ends [
  | inl two ↦ let tail = two.0 in let head = two.1 in absurd (omega (arith, order, tail, head, below))
  | inr two ↦ (two.1, two.0)
]

kinds : (market : UnitMarket) (pins : List Pin) → IsWideMarket market → ArePins (length market.trades.items) pins
    → AreAll market pins (λ j shape. (lo hi : ℕ) → EndsAt shape lo hi → lo < hi → Kind market pins j lo hi)
kinds market pins is are = record {
  sets = λ i set at lo hi ends below.
      let found = above_within market is i set at in
      let inside = slice_get_within market.sets.items i set at in
      let first = found.0 in
      let last = found.1 in
      let two = from_tail (set_shape market i set) lo hi first ends below in
      let tail = two.0 in
      let head = two.1 in
      inl (record { is = tail; low = omega (arith, tail, inside); high = inl (omega (arith, head, last)) });
  roots = λ f known lo hi ends below.
      let two = from_tail (root_shape market f) lo hi (omega (arith, known)) ends below in
      let tail = two.0 in
      inl (record { is = tail; low = omega (arith, tail, known); high = inr (sym two.1) });
  sellers = λ t known lo hi ends below.
      let inner = inner_within market (trade_at market.trades.items t).seller t (between_at market is t known).seller in
      let two = from_tail (seller_shape market t) lo hi (omega (arith, inner)) ends below in
      inr (inl (record { trade = t; known = known; high = sym two.1; which = inl (sym two.0, refl) }));
  buyers = λ t known lo hi ends below.
      let inner = inner_within market (trade_at market.trades.items t).buyer t (between_at market is t known).buyer in
      let two = from_head (buyer_shape market t) lo hi (omega (arith, inner)) ends below in
      inr (inl (record { trade = t; known = known; high = sym two.1; which = inr (sym two.0, refl) }));
  pinned = λ k pin at lo hi ends below.
      let known = are.known k pin at in
      let two = from_tail (pin_shape market pin) lo hi (omega (arith, known)) ends below in
      inr (inr (record { place = k; pin = pin; at = at; low = sym two.0; high = sym two.1; is = refl }));
}

-- so the two ends tell the place
one_place : (market : UnitMarket) (pins : List Pin) → IsWideMarket market → ArePins (length market.trades.items) pins
    → (i j lo hi : ℕ) → Kind market pins i lo hi → Kind market pins j lo hi → i ≡ j
one_place market pins is are i j lo hi one other = elim one [
  | inl own ↦ elim other [
    | inl also ↦ own.is ∙ sym also.is
    | inr rest ↦ elim rest [
      | inl end ↦ absurd (own_end own.high end)
      | inr pin ↦ let low = own.low in let node = pin.low in absurd (omega (arith, low, node))
    ]
  ]
  | inr first ↦ elim first [
    | inl end ↦ elim other [
      | inl own ↦ absurd (own_end own.high end)
      | inr rest ↦ elim rest [
        | inl also ↦ ends end also
        | inr pin ↦ let node = end.high in let null = pin.high in let known = end.known in
            absurd (omega (arith, node, null, known))
      ]
    ]
    | inr pin ↦ elim other [
      | inl own ↦ let low = own.low in let node = pin.low in absurd (omega (arith, low, node))
      | inr rest ↦ elim rest [
        | inl end ↦ let node = end.high in let null = pin.high in let known = end.known in
            absurd (omega (arith, node, null, known))
        | inr also ↦
            let low = pin.low in
            let node = also.low in
            let same = are.once pin.place also.place pin.pin also.pin pin.at also.at (omega (arith, low, node)) in
            pin.is ∙ ap (pin_place market) same ∙ sym also.is
      ]
    ]
  ]
]
  where
    own_end : {k : ℕ} → (hi < length market.sets.items + market.firms) ⊎ (hi ≡ null_node market) → IsEnd market k lo hi → ⊥
    own_end high end =
        let node = end.high in
        let known = end.known in
        elim high [
          | inl below ↦ omega (arith, below, node)
          | inr null ↦ omega (arith, null, node, known)
        ]

    ends : IsEnd market i lo hi → IsEnd market j lo hi → i ≡ j
    ends end also =
        let first = end.high in
        let second = also.high in
        let same : end.trade ≡ also.trade = omega (arith, first, second) in
        let apart = (between_at market is end.trade end.known).apart in
        elim end.which [
          | inl sold ↦ elim also.which [
            | inl too ↦ sold.1 ∙ ap (seller_place market) same ∙ sym too.1
            | inr bought ↦ absurd (inner_apart market (trade_at market.trades.items end.trade).seller
                (trade_at market.trades.items end.trade).buyer end.trade apart
                (sym sold.0 ∙ bought.0
                ∙ ap (λ (t : ℕ). inner_node market (trade_at market.trades.items t).buyer t) (sym same)))
          ]
          | inr bought ↦ elim also.which [
            | inl sold ↦ absurd (inner_apart market (trade_at market.trades.items end.trade).seller
                (trade_at market.trades.items end.trade).buyer end.trade apart
                (ap (λ (t : ℕ). inner_node market (trade_at market.trades.items t).seller t) same ∙ sym sold.0 ∙ bought.0))
            | inr too ↦ bought.1 ∙ ap (buyer_place market) same ∙ sym too.1
          ]
        ]

pub links_plain : LinksArePlain
links_plain market pins links is are of = record {
  each = λ j link at. is_link (suc (null_node market)) link
      (by_place market pins links (λ k shape. IsShape (suc (null_node market)) shape) of (shapes_are market pins is are) j
      link at);
  single = single;
}
  where
    kind : (j : ℕ) (link : Link) → slice_get links j ≡ Some link → (lo hi : ℕ) → EndsAt (shape_of link) lo hi → lo < hi
        → Kind market pins j lo hi
    kind j link at =
        by_place market pins links (λ k shape. (lo hi : ℕ) → EndsAt shape lo hi → lo < hi → Kind market pins k lo hi) of
        (kinds market pins is are) j link at

    turned : (link : Link) (u v : ℕ) → HasEnds link u v → HasEnds link v u
    turned link u v ends = elim ends [
      | inl two ↦ inr two
      | inr two ↦ inl two
    ]

    single : (i j u v : ℕ) (a b : Link) → slice_get links i ≡ Some a → slice_get links j ≡ Some b → joins a u v ≡ true
        → joins b u v ≡ true → i ≡ j
    single i j u v a b at_i at_j first second =
        let one = ends_of a u v first in
        let two = ends_of b u v second in
        let apart = (by_place market pins links (λ k shape. IsShape (suc (null_node market)) shape) of
        (shapes_are market pins is are) i a at_i).apart in
        elim (cases_lt u v) [
          | inl below ↦ one_place market pins is are i j u v (kind i a at_i u v one below) (kind j b at_j u v two below)
          | inr above ↦ elim (cases_lt v u) [
            | inl below ↦ one_place market pins is are i j v u (kind i a at_i v u (turned a u v one) below)
                (kind j b at_j v u (turned b u v two) below)
            | inr least ↦ absurd (apart (same_ends one (omega (arith, above, least))))
          ]
        ]
      where
        same_ends : HasEnds a u v → u ≡ v → a.tail ≡ a.head
        same_ends ends same = elim ends [
          | inl two ↦ two.0 ∙ same ∙ sym two.1
          | inr two ↦ two.0 ∙ sym same ∙ sym two.1
        ]
