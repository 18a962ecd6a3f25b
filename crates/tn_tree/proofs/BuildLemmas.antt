-- Links that were made range by range are those of the market.
use Rattle.std.proofs.Common.{◌≡◌, ℕ, zero, suc, ◌+◌, ◌<◌, List, [], ◌∷◌, ◌++◌, length, map, Some, option_map, refl, sym, ap, ◌∙◌, arith}
use Rattle.std.specs.Prelude.{slice_get}
use Rattle.std.specs.List.{range_with_len}
use Rattle.std.proofs.lemmas.List.{length-append, length-map}
use Rattle.std.proofs.lemmas.List.FromFn.{length-map-range_with_len}
use Rattle.std.proofs.lemmas.Option.{none-some, slice_get-map}
use Rattle.tn_links.specs.declared.link.Link.{Link}
use Rattle.tn_links.specs.Links.{AreServed}
use Rattle.tn_counts.specs.Markets.{ArePins, IsWideMarket}
use Rattle.tn_counts.specs.Tree.{AreLinksOf, HasLink, LinkShape, buyer_place, buyer_shape, null_node, pin_place, pin_shape, root_node, root_shape, seller_place, seller_shape, set_shape, shape_of}
use Rattle.tn_counts.specs.declared.market.Pin.{Pin}
use Rattle.tn_counts.specs.declared.market.UnitMarket.{UnitMarket}
use Rattle.tn_counts.specs.declared.set.CountSet.{CountSet}
use Rattle.tn_counts.proofs.PlainLemmas.{links_plain}
use Rattle.tn_tree.specs.Shapes.{set_shapes}

-- the shapes of all links of a market
abbrev pub shapes_of : UnitMarket → List Pin → List LinkShape
shapes_of market pins =
    (((set_shapes market 0 market.sets.items ++ map (root_shape market) (range_with_len 0 market.firms))
    ++ map (seller_shape market) (range_with_len 0 (length market.trades.items)))
    ++ map (buyer_shape market) (range_with_len 0 (length market.trades.items)))
    ++ map (pin_shape market) pins

before : {A : Type 0} (xs ys : List A) (j : ℕ) (x : A) → slice_get xs j ≡ Some x → slice_get (xs ++ ys) j ≡ Some x
before [] ys j x at = absurd (none-some x at)
before (y ∷ xs) ys zero x at = at
before (y ∷ xs) ys (suc j) x at = before xs ys j x at

after : {A : Type 0} (xs ys : List A) (n k j : ℕ) (x : A) → length xs ≡ n → n + k ≡ j → slice_get ys k ≡ Some x
    → slice_get (xs ++ ys) j ≡ Some x
after [] ys n k j x sized place at =
    let same : k ≡ j = omega (arith, sized, place) in
    sym (ap (slice_get ys) same) ∙ at
after (y ∷ xs) ys n k zero x sized place at = absurd (omega (arith, sized, place))
after (y ∷ xs) ys n k (suc j) x sized place at =
    after xs ys (length xs) k j x refl (omega (arith, sized, place)) at

pub range_get : {A : Type 0} (f : ℕ → A) (a n k : ℕ) → k < n → slice_get (map f (range_with_len a n)) k ≡ Some (f (a + k))
range_get f a zero k below = absurd (omega (arith, below))
range_get f a (suc n) zero below = let place : a ≡ a + 0 = omega arith in ap (λ (j : ℕ). Some (f j)) place
range_get f a (suc n) (suc k) below =
    let place : a + 1 + k ≡ a + suc k = omega arith in
    range_get f (a + 1) n k (omega (arith, below)) ∙ ap (λ (j : ℕ). Some (f j)) place

set_shapes_get : (market : UnitMarket) (sets : List CountSet) (i k : ℕ) (set : CountSet) → slice_get sets k ≡ Some set
    → slice_get (set_shapes market i sets) k ≡ Some (set_shape market (i + k) set)
set_shapes_get market [] i k set at = absurd (none-some set at)
set_shapes_get market (first ∷ sets) i zero set at =
    let place : i ≡ i + 0 = omega arith in
    ap (option_map (set_shape market i)) at ∙ ap (λ (j : ℕ). Some (set_shape market j set)) place
set_shapes_get market (first ∷ sets) i (suc k) set at =
    let place : suc i + k ≡ i + suc k = omega arith in
    set_shapes_get market sets (suc i) k set at ∙ ap (λ (j : ℕ). Some (set_shape market j set)) place

set_shapes_sized : (market : UnitMarket) (sets : List CountSet) (i : ℕ) → length (set_shapes market i sets) ≡ length sets
set_shapes_sized market [] i = refl
set_shapes_sized market (set ∷ sets) i = ap suc (set_shapes_sized market sets (suc i))

pub links_made : (market : UnitMarket) (pins : List Pin) (links : List Link) → map shape_of links ≡ shapes_of market pins
    → AreLinksOf market pins links
links_made market pins links made = record {
  all = sym (length-map links shape_of) ∙ ap length made ∙ (let last = length-append four fifth in
      let fifth_size = length-map pins (pin_shape market) in omega (arith, last, fifth_size, four_size));
  sets = λ i set at. at_link i (set_shape market i set)
      (before four fifth i (set_shape market i set) (before three fourth i (set_shape market i set)
      (before two third i (set_shape market i set) (before one second i (set_shape market i set)
      (set_at i set at)))));
  roots = λ f below. at_link (root_node market f) (root_shape market f)
      (before four fifth (root_node market f) (root_shape market f)
      (before three fourth (root_node market f) (root_shape market f)
      (before two third (root_node market f) (root_shape market f)
      (after one second m f (root_node market f) (root_shape market f) one_size refl (own (root_shape market) firms f below)))));
  sellers = λ t below. at_link (seller_place market t) (seller_shape market t)
      (before four fifth (seller_place market t) (seller_shape market t)
      (before three fourth (seller_place market t) (seller_shape market t)
      (after two third (m + firms) t (seller_place market t) (seller_shape market t) two_size refl
      (own (seller_shape market) n t below))));
  buyers = λ t below. at_link (buyer_place market t) (buyer_shape market t)
      (before four fifth (buyer_place market t) (buyer_shape market t)
      (after three fourth (m + firms + n) t (buyer_place market t) (buyer_shape market t) three_size refl
      (own (buyer_shape market) n t below)));
  pinned = λ k pin at. at_link (pin_place market k) (pin_shape market pin)
      (after four fifth (m + firms + n + n) k (pin_place market k) (pin_shape market pin) four_size refl
      (slice_get-map (pin_shape market) pins k ∙ ap (option_map (pin_shape market)) at));
}
  where
    m : ℕ
    m = length market.sets.items

    firms : ℕ
    firms = market.firms

    n : ℕ
    n = length market.trades.items

    one : List LinkShape
    one = set_shapes market 0 market.sets.items

    second : List LinkShape
    second = map (root_shape market) (range_with_len 0 market.firms)

    two : List LinkShape
    two = one ++ second

    third : List LinkShape
    third = map (seller_shape market) (range_with_len 0 (length market.trades.items))

    three : List LinkShape
    three = two ++ third

    fourth : List LinkShape
    fourth = map (buyer_shape market) (range_with_len 0 (length market.trades.items))

    four : List LinkShape
    four = three ++ fourth

    fifth : List LinkShape
    fifth = map (pin_shape market) pins

    one_size : length one ≡ m
    one_size = set_shapes_sized market market.sets.items 0

    two_size : length two ≡ m + firms
    two_size =
        let sum = length-append one second in
        let own = length-map-range_with_len (root_shape market) 0 market.firms in
        omega (arith, sum, own, one_size)

    three_size : length three ≡ m + firms + n
    three_size =
        let sum = length-append two third in
        let own = length-map-range_with_len (seller_shape market) 0 (length market.trades.items) in
        omega (arith, sum, own, two_size)

    four_size : length four ≡ m + firms + n + n
    four_size =
        let sum = length-append three fourth in
        let own = length-map-range_with_len (buyer_shape market) 0 (length market.trades.items) in
        omega (arith, sum, own, three_size)

    own : (f : ℕ → LinkShape) (size k : ℕ) → k < size → slice_get (map f (range_with_len 0 size)) k ≡ Some (f k)
    own f size k below =
        let place : 0 + k ≡ k = omega arith in
        range_get f 0 size k below ∙ ap (λ (j : ℕ). Some (f j)) place

    set_at : (i : ℕ) (set : CountSet) → slice_get market.sets.items i ≡ Some set
        → slice_get one i ≡ Some (set_shape market i set)
    set_at i set at =
        let place : 0 + i ≡ i = omega arith in
        set_shapes_get market market.sets.items 0 i set at ∙ ap (λ (j : ℕ). Some (set_shape market j set)) place

    at_link : (j : ℕ) (shape : LinkShape) → slice_get (shapes_of market pins) j ≡ Some shape → HasLink links j shape
    at_link j shape at = sym (slice_get-map shape_of links j) ∙ ap (λ (xs : List LinkShape). slice_get xs j) made ∙ at

-- they are such as `Links` takes
pub links_served : (market : UnitMarket) (pins : List Pin) (links : List Link) → IsWideMarket market
    → ArePins (length market.trades.items) pins → AreLinksOf market pins links → AreServed (suc (null_node market)) links
links_served market pins links is are of = record {
  plain = links_plain market pins links is are of;
  few = let all = of.all in let few = are.few in omega (arith, all, few, is.few_firms, is.few_trades, is.few_sets);
  few_nodes = omega (arith, is.few_firms, is.few_trades, is.few_sets);
}

-- five ranges one after the other
pub stages : (none a b c d e : List LinkShape) (l1 l2 l3 l4 l5 : List LinkShape) → none ≡ [] → l1 ≡ none ++ a → l2 ≡ l1 ++ b
    → l3 ≡ l2 ++ c → l4 ≡ l3 ++ d → l5 ≡ l4 ++ e → l5 ≡ (((a ++ b) ++ c) ++ d) ++ e
stages none a b c d e l1 l2 l3 l4 l5 empty first second third fourth fifth =
    fifth ∙ ap (λ (xs : List LinkShape). xs ++ e)
    (fourth ∙ ap (λ (xs : List LinkShape). xs ++ d)
    (third ∙ ap (λ (xs : List LinkShape). xs ++ c)
    (second ∙ ap (λ (xs : List LinkShape). xs ++ b) (first ∙ ap (λ (xs : List LinkShape). xs ++ a) empty))))
