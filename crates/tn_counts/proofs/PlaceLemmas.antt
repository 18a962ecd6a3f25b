-- Sums over the links of a market, by their places.
use Rattle.std.proofs.Common.{◌≡◌, ℕ, zero, suc, ◌+◌, ◌<◌, List, [], ◌∷◌, length, get_or, Option, Some, None, option_map, slice_get, refl, sym, ap, ◌∙◌, arith, ℤ, pos, ◌+ℤ◌, ◌-ℤ◌, ◌*ℤ◌}
use Rattle.std.proofs.lemmas.Int.{ints}
use Rattle.std.proofs.lemmas.Option.{none-some, same_Some}
use Rattle.tn_links.specs.declared.link.Link.{Link}
use Rattle.tn_links.specs.Flows.{total_gain}
use Rattle.tn_links.specs.Links.{rise}
use Rattle.tn_links.specs.Totals.{total}
use Rattle.tn_links.proofs.LawLemmas.{tension}
use Rattle.tn_links.proofs.TotalLemmas.{total-first, total-same, total-split}
use Rattle.tn_counts.specs.Tree.{AreLinksOf, HasLink, LinkShape, bought_at, buyer_place, buyer_shape, pin_place, pin_shape, root_node, root_shape, seller_place, seller_shape, set_shape, shape_of, sold_at}
use Rattle.tn_counts.specs.declared.market.Pin.{Pin}
use Rattle.tn_counts.specs.declared.market.UnitMarket.{UnitMarket}
use Rattle.tn_counts.specs.declared.set.CountSet.{CountSet}

-- there is an item at a place inside
pub item_at : {A : Type 0} (xs : List A) (i : ℕ) → i < length xs → (x : A) × (slice_get xs i ≡ Some x)
item_at [] i inside = absurd (omega (arith, inside))
item_at (x ∷ xs) zero inside = (x, refl)
item_at (x ∷ xs) (suc i) inside = item_at xs i (omega (arith, inside))

-- a link that is there by its shape
pub record IsShaped (links : List Link) (j : ℕ) (shape : LinkShape) : Type 0 where
  pub link : Link
  pub is : slice_get links j ≡ Some link
  pub shape_is : shape_of link ≡ shape

pub shaped_at : (links : List Link) (j : ℕ) (shape : LinkShape) → HasLink links j shape → IsShaped links j shape
shaped_at links j shape has = by (slice_get links j) refl has
  where
    by : (o : Option Link) → slice_get links j ≡ o → option_map shape_of o ≡ Some shape → IsShaped links j shape
    by None at is = absurd (none-some shape is)
    by (Some link) at is = record { link = link; is = at; shape_is = same_Some (shape_of link) shape is }

-- what the link at a place adds to a sum
abbrev pub shaped : (LinkShape → ℕ → ℤ) → Option LinkShape → ℕ → ℤ
shaped h None level = pos 0
shaped h (Some shape) level = h shape level

abbrev pub placed : (LinkShape → ℕ → ℤ) → List Link → List ℕ → ℕ → ℤ
placed h links levels j = shaped h (option_map shape_of (slice_get links j)) (get_or levels j 0)

abbrev pub pull : (ℕ → ℤ) → LinkShape → ℕ → ℤ
pull label shape level = (label shape.head -ℤ label shape.tail) *ℤ (pos level -ℤ pos shape.back)

abbrev pub shape_gain : LinkShape → ℕ → ℤ
shape_gain shape level = rise shape.steps level -ℤ rise shape.steps shape.back

pub tension_placed : (links : List Link) (levels : List ℕ) (label : ℕ → ℤ) → length levels ≡ length links
    → tension links levels label ≡ total (placed (pull label) links levels) (length links)
unfolding total
tension_placed [] levels label sized = refl
tension_placed (link ∷ links) [] label sized = absurd (omega (arith, sized))
tension_placed (link ∷ links) (level ∷ levels) label sized =
    let rest = tension_placed links levels label (omega (arith, sized)) in
    let first = total-first (placed (pull label) (link ∷ links) (level ∷ levels)) (length links) in
    omega (arith, ints, rest, first)

pub gain_placed : (links : List Link) (levels : List ℕ) → length levels ≡ length links
    → total_gain links levels ≡ total (placed shape_gain links levels) (length links)
unfolding total
gain_placed [] levels sized = refl
gain_placed (link ∷ links) [] sized = absurd (omega (arith, sized))
gain_placed (link ∷ links) (level ∷ levels) sized =
    let rest = gain_placed links levels (omega (arith, sized)) in
    let first = total-first (placed shape_gain (link ∷ links) (level ∷ levels)) (length links) in
    omega (arith, ints, rest, first)

-- five ranges after each other
five : (f : ℕ → ℤ) (a b c d e : ℕ) → total f (a + b + c + d + e)
    ≡ total f a +ℤ total (λ k. f (a + k)) b +ℤ total (λ k. f (a + b + k)) c +ℤ total (λ k. f (a + b + c + k)) d
    +ℤ total (λ k. f (a + b + c + d + k)) e
five f a b c d e =
    let first = total-split f a b in
    let second = total-split f (a + b) c in
    let third = total-split f (a + b + c) d in
    let fourth = total-split f (a + b + c + d) e in
    omega (arith, ints, first, second, third, fourth)

-- what the links of sets and pins add
abbrev pub set_in : (LinkShape → ℕ → ℤ) → UnitMarket → List ℕ → ℕ → Option CountSet → ℤ
set_in h market levels i None = pos 0
set_in h market levels i (Some set) = h (set_shape market i set) (get_or levels i 0)

abbrev pub set_term : (LinkShape → ℕ → ℤ) → UnitMarket → List ℕ → ℕ → ℤ
set_term h market levels i = set_in h market levels i (slice_get market.sets.items i)

abbrev pub pin_in : (LinkShape → ℕ → ℤ) → UnitMarket → ℕ → Option Pin → ℤ
pin_in h market level None = pos 0
pin_in h market level (Some pin) = h (pin_shape market pin) level

abbrev pub pin_term : (LinkShape → ℕ → ℤ) → UnitMarket → List Pin → List ℕ → ℕ → ℤ
pin_term h market pins levels k = pin_in h market (get_or levels (pin_place market k) 0) (slice_get pins k)

-- what those of roots add, and those of trades at both ends
abbrev pub root_term : (LinkShape → ℕ → ℤ) → UnitMarket → List ℕ → ℕ → ℤ
root_term h market levels f = h (root_shape market f) (get_or levels (root_node market f) 0)

abbrev pub seller_term : (LinkShape → ℕ → ℤ) → UnitMarket → List ℕ → ℕ → ℤ
seller_term h market levels t = h (seller_shape market t) (sold_at market levels t)

abbrev pub buyer_term : (LinkShape → ℕ → ℤ) → UnitMarket → List ℕ → ℕ → ℤ
buyer_term h market levels t = h (buyer_shape market t) (bought_at market levels t)

-- the sum over all links of a market
pub links_sum : (h : LinkShape → ℕ → ℤ) (market : UnitMarket) (pins : List Pin) (links : List Link) (levels : List ℕ)
    → AreLinksOf market pins links
    → total (placed h links levels) (length links)
    ≡ total (set_term h market levels) (length market.sets.items)
    +ℤ total (root_term h market levels) market.firms
    +ℤ total (seller_term h market levels) (length market.trades.items)
    +ℤ total (buyer_term h market levels) (length market.trades.items)
    +ℤ total (pin_term h market pins levels) (length pins)
links_sum h market pins links levels of =
    let whole = ap (total (placed h links levels)) of.all in
    let parts = five (placed h links levels) (length market.sets.items) market.firms (length market.trades.items)
    (length market.trades.items) (length pins) in
    let sets = total-same (placed h links levels) (set_term h market levels) (length market.sets.items) set_at in
    let roots = total-same (λ f. placed h links levels (root_node market f)) (root_term h market levels) market.firms
    (λ f below. at (root_node market f) (root_shape market f) (of.roots f below)) in
    let sellers = total-same (λ t. placed h links levels (seller_place market t)) (seller_term h market levels)
    (length market.trades.items) (λ t below. at (seller_place market t) (seller_shape market t) (of.sellers t below)) in
    let buyers = total-same (λ t. placed h links levels (buyer_place market t)) (buyer_term h market levels)
    (length market.trades.items) (λ t below. at (buyer_place market t) (buyer_shape market t) (of.buyers t below)) in
    let pinned = total-same (λ k. placed h links levels (pin_place market k)) (pin_term h market pins levels) (length pins)
    pin_at in
    omega (arith, ints, whole, parts, sets, roots, sellers, buyers, pinned)
  where
    at : (j : ℕ) (shape : LinkShape) → HasLink links j shape → placed h links levels j ≡ h shape (get_or levels j 0)
    at j shape has = ap (λ (o : Option LinkShape). shaped h o (get_or levels j 0)) has

    set_at : (i : ℕ) → i < length market.sets.items → placed h links levels i ≡ set_term h market levels i
    set_at i below =
        let found = item_at market.sets.items i below in
        at i (set_shape market i found.0) (of.sets i found.0 found.1)
        ∙ sym (ap (set_in h market levels i) found.1)

    pin_at : (k : ℕ) → k < length pins → placed h links levels (pin_place market k) ≡ pin_term h market pins levels k
    pin_at k below =
        let found = item_at pins k below in
        at (pin_place market k) (pin_shape market found.0) (of.pinned k found.0 found.1)
        ∙ sym (ap (pin_in h market (get_or levels (pin_place market k) 0)) found.1)
