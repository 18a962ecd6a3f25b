-- What the steps of least walks between null and a trade do to counts.
use Rattle.std.proofs.Common.{◌≡◌, ◌≢◌, ℕ, zero, suc, ◌-◌, ◌<◌, Bool, true, false, if◌then◌else◌, nat_le, List, [], ◌∷◌, ◌++◌, length, get_or, Option, Some, None, slice_get, refl, sym, ap, ap₂, ◌∙◌, subst, arith, ℤ, pos, ◌+ℤ◌, ◌-ℤ◌, append-nil, append_assoc}
use Rattle.std.specs.Prelude.{All, not}
use Rattle.std.proofs.lemmas.Option.{same_Some}
use Rattle.std.proofs.lemmas.Int.{ints}
use Rattle.std.proofs.lemmas.Bool.{eq-eqb, le-leb, ne_eqb}
use Rattle.std.proofs.lemmas.List.Elements.{All-cons, All-head, All-nil, All-tail}
use Rattle.tn_base.specs.Walks.{Avoids, walk_cost}
use Rattle.tn_cycle.specs.Answers.{IsLeastPath}
use Rattle.tn_cycle.proofs.WalkLemmas.{AreApart, apart_from_different, avoids-append, avoids-cons, avoids-head, avoids-tail, walk_inside}
use Rattle.tn_links.specs.declared.link.Link.{Link}
use Rattle.tn_links.specs.LotLemmas.{between-link_arc}
use Rattle.tn_links.specs.Lots.{link_arc, pushed}
use Rattle.tn_counts.specs.Counts.{trade_at}
use Rattle.tn_counts.specs.Ranges.{IsSettled, LoseTogether}
use Rattle.tn_counts.specs.Tree.{bought_at, buyer_place, null_node, seller_place, sold_at, trade_node}
use Rattle.tn_counts.specs.declared.market.UnitMarket.{UnitMarket}
use Rattle.tn_counts.proofs.BoundLemmas.{IsClosed, closed, lose_together}
use Rattle.tn_counts.proofs.FlowLemmas.{IsFlowOf}
use Rattle.tn_counts.proofs.NetLemmas.{between_at}
use Rattle.tn_counts.proofs.RangeLemmas.{from_uneven, to_uneven}
use Rattle.tn_counts.proofs.SurplusLemmas.{flow_of, surplus_same, traded_same}
use Rattle.tn_tree.specs.declared.steps.UnitStep.{UnitStep}
use Rattle.tn_tree.specs.Ranges.{IsHighPath, IsLowPath}
use Rattle.tn_tree.specs.Steps.{AreOnce, entered, sells_at, step_at, stepped_down, trade_of, units_by}
use Rattle.tn_tree.proofs.StepLemmas.{AreCrossed, buyer_node, crossed, crossed_by, entered_known, entered_once, entered_sum, inner_below, once_more, seller_node, steps_add, units-append}
use Rattle.tn_tree.proofs.WalkLemmas.{arcs_sum, first_leaves, last_enters, last_of, level_pushed, never_less, next_of, none_enter, none_leave, on, once_walk, one_if}

-- a level before the last one
get_front : (xs : List ℕ) (y i : ℕ) → i < length xs → get_or (xs ++ y ∷ []) i 0 ≡ get_or xs i 0
get_front [] y i inside = absurd (omega (arith, inside))
get_front (x ∷ xs) y zero inside = refl
get_front (x ∷ xs) y (suc i) inside = get_front xs y i (omega (arith, inside))

entered-push : (market : UnitMarket) (u : ℕ) (vs : List ℕ) (w : ℕ)
    → entered market u (vs ++ w ∷ []) ≡ entered market u vs ++ step_at market true w (last_of u vs)
entered-push market u [] w = append-nil (step_at market true w u)
entered-push market u (v ∷ vs) w =
    ap (λ (xs : List (Option UnitStep)). step_at market true v u ++ xs) (entered-push market v vs w)
    ∙ sym (append_assoc (step_at market true v u) (entered market v vs) (step_at market true w (last_of v vs)))

apart-push : (xs : List ℕ) (w : ℕ) → AreApart xs → Avoids w xs → AreApart (xs ++ w ∷ [])
unfolding AreApart
apart-push [] w apart off = (All-nil (λ v. v ≢ w), apart)
apart-push (x ∷ xs) w apart off = (
  avoids-push x xs w apart.0 (λ e. avoids-head w x xs off (sym e)),
  apart-push xs w apart.1 (avoids-tail w x xs off),
)
  where
    avoids-push : (t : ℕ) (ys : List ℕ) (z : ℕ) → Avoids t ys → z ≢ t → Avoids t (ys ++ z ∷ [])
    avoids-push t ys z avoids other = avoids-append t ys (z ∷ []) avoids (avoids-cons t z [] other (All-nil (λ v. v ≢ t)))

-- the step of a trade's node
trade_step : (market : UnitMarket) (t other : ℕ) (enters : Bool) → t < length market.trades.items
    → step_at market enters (trade_node market t) other ≡ Some (record {
      trade = trade_of market (trade_node market t);
      more = if enters then sells_at market (trade_of market (trade_node market t)) other
          else not (sells_at market (trade_of market (trade_node market t)) other);
    }) ∷ []
trade_step market t other enters below =
    ap₂ (λ (n : Bool) (s : Bool). if n then None ∷ [] else if s then Some (record {
      trade = trade_of market (trade_node market t);
      more = if enters then sells_at market (trade_of market (trade_node market t)) other
          else not (sells_at market (trade_of market (trade_node market t)) other);
    }) ∷ [] else []) (ne_eqb (trade_node market t) (null_node market) (λ e. omega (arith, e, below)))
    (le-leb (trade_node market 0) (trade_node market t) (omega arith))

null_step : (market : UnitMarket) (other : ℕ) (enters : Bool) → step_at market enters (null_node market) other ≡ None ∷ []
null_step market other enters =
    ap (λ (n : Bool). if n then None ∷ [] else if nat_le (trade_node market 0) (null_node market) then Some (record {
      trade = trade_of market (null_node market);
      more = if enters then sells_at market (trade_of market (null_node market)) other
          else not (sells_at market (trade_of market (null_node market)) other);
    }) ∷ [] else []) (eq-eqb (null_node market) (null_node market) refl)

all_push : (P : ℕ → Type 0) (xs : List ℕ) (w : ℕ) → All P xs → P w → All P (xs ++ w ∷ [])
all_push P [] w all last = All-cons P w [] last (All-nil P)
all_push P (x ∷ xs) w all last =
    All-cons P x (xs ++ w ∷ []) (All-head P x xs all) (all_push P xs w (All-tail P x xs all) last)

next_is : (vs : List ℕ) (w : ℕ) → get_or (vs ++ w ∷ []) 0 0 ≡ next_of vs w
next_is [] w = refl
next_is (v ∷ vs) w = refl

trade_is : (market : UnitMarket) (t : ℕ) → trade_of market (trade_node market t) ≡ t
trade_is market t = omega arith

module _ (market : UnitMarket) (links : List Link) (levels : List ℕ) (label : ℕ → ℤ)
    (settled : IsSettled market links levels label) where
  flow : IsFlowOf market [] links levels
  flow = flow_of market links levels settled.market_is settled.of settled.kept

  -- what crosses between a trade and its firms along a walk that meets no node twice
  moves : (u w : ℕ) (listed : List ℕ) (cost : ℤ) (k : ℕ) → u ≢ w
      → (path : IsLeastPath (link_arc links levels 1) u w listed cost) → k < length market.trades.items
      → AreCrossed market levels (pushed links 1 levels u path.inner w) u path.inner w k
  moves u w listed cost k other path below =
      crossed_by market [] links levels (pushed links 1 levels u path.inner w) u path.inner w k settled.of below
      (λ j link at. level_pushed (suc (null_node market)) links levels u path.inner w cost j link flow.plain
      settled.kept.one_each settled.kept.within at (apart_from_different (u ∷ path.inner) path.different)
      (avoids-cons w u path.inner other path.ends) path.least.walk)

  seller_off : (k : ℕ) → k < length market.trades.items → seller_node market k ≢ trade_node market k
  seller_off k below =
      let low = inner_below market (trade_at market.trades.items k).seller k (between_at market settled.market_is k below).seller in
      λ e. omega (arith, e, low)

  buyer_off : (k : ℕ) → k < length market.trades.items → trade_node market k ≢ buyer_node market k
  buyer_off k below =
      let low = inner_below market (trade_at market.trades.items k).buyer k (between_at market settled.market_is k below).buyer in
      λ e. omega (arith, e, low)

  -- a trade that isn't pinned has as many units more at its seller and at its buyer, by its step
  others_are : (u w : ℕ) (listed : List ℕ) (cost : ℤ) (now : List ℕ) (k : ℕ) → u ≢ w
      → (path : IsLeastPath (link_arc links levels 1) u w listed cost) → k < length market.trades.items
      → sold_at market now k ≡ sold_at market (pushed links 1 levels u path.inner w) k
      → bought_at market now k ≡ bought_at market (pushed links 1 levels u path.inner w) k
      → pos (sold_at market now k) -ℤ pos (bought_at market now k) ≡ pos 0
      → (pos (sold_at market now k) ≡ pos (sold_at market levels k)
      +ℤ arcs_sum (λ a v. units_by (step_at market true v a) k) u path.inner w)
      × (bought_at market now k ≡ sold_at market now k)
  others_are u w listed cost now k other path below sold_now bought_now same =
      let s = seller_node market k in
      let b = buyer_node market k in
      let n = trade_node market k in
      let inner = path.inner in
      let apart = apart_from_different (u ∷ inner) path.different in
      let off = avoids-cons w u inner other path.ends in
      let crossed_is = moves u w listed cost k other path below in
      let sold = crossed_is.sold in
      let bought = crossed_is.bought in
      let before = traded_same market links levels flow k below in
      let back = crossed (arcs_sum (on s n) u inner w) (arcs_sum (on n s) u inner w) (arcs_sum (on b n) u inner w)
      (arcs_sum (on n b) u inner w) (never_less s n u inner w) (never_less n s u inner w) (never_less b n u inner w)
      (never_less n b u inner w) (once_walk s n u inner w (seller_off k below) apart off)
      (once_walk n b u inner w (buyer_off k below) apart off)
      (omega (arith, ints, sold, bought, before, same, sold_now, bought_now)) in
      let steps = steps_add market links settled.market_is settled.of flow.plain levels k below u inner w cost
      path.least.walk in (
        omega (arith, ints, sold, back, steps, sold_now),
        omega (arith, ints, same),
      )

  pub inside_walk : (u w : ℕ) (listed : List ℕ) (cost : ℤ) → IsLeastPath (link_arc links levels 1) u w listed cost
      → u < suc (null_node market) → w < suc (null_node market) → (inner : List ℕ) → (listed ≡ (u ∷ inner) ++ w ∷ [])
      → walk_cost (link_arc links levels 1) u inner w ≡ Some cost
      → All (λ v. v < suc (null_node market)) ((u ∷ inner) ++ w ∷ [])
  inside_walk u w listed cost path first last inner nodes walk =
      all_push (λ v. v < suc (null_node market)) (u ∷ inner) w
      (All-cons (λ v. v < suc (null_node market)) u inner first
      (walk_inside (suc (null_node market)) (link_arc links levels 1)
      (between-link_arc (suc (null_node market)) links levels 1 flow.plain) u inner w cost walk)) last

  pub high_path : (t : ℕ) (listed : List ℕ) (cost : ℤ) (steps : List (Option UnitStep)) → t < length market.trades.items
      → IsLeastPath (link_arc links levels 1) (null_node market) (trade_node market t) listed cost
      → steps ≡ entered market (get_or listed (length listed - 1) 0) listed
      → IsHighPath market (sold_at market levels) t steps cost
  high_path t listed cost steps below path made =
      let null = null_node market in
      let n = trade_node market t in
      let inner = path.inner in
      let other : null ≢ n = λ e. omega (arith, e, below) in
      let after = pushed links 1 levels null inner n in
      let now = after ++ 4194305 ∷ [] in
      let uneven = from_uneven market links levels label settled t listed cost below path in
      let round : IsClosed market links levels now t (pos 1) cost =
      closed market links levels after label t 4194305 (pos 1) cost uneven
      (record { within = omega arith; is = omega (arith, ints) }) in
      let sized = uneven.shifted.one_each ∙ settled.of.all in
      let all : List ℕ = (null ∷ inner) ++ n ∷ [] in
      let from : ℕ = get_or all (length all - 1) 0 in
      let last : ℕ = last_of null inner in
      let own : UnitStep = record { trade = trade_of market n; more = sells_at market (trade_of market n) last } in
      let whole : steps ≡ entered market from all =
      made ∙ ap (λ (xs : List ℕ). entered market (get_or xs (length xs - 1) 0) xs) path.nodes_are in
      let rest : entered market null (inner ++ n ∷ []) ≡ entered market null inner ++ Some own ∷ [] =
      entered-push market null inner n
      ∙ ap (λ (xs : List (Option UnitStep)). entered market null inner ++ xs) (trade_step market t last true below) in
      let steps_are : steps ≡ None ∷ (entered market null inner ++ Some own ∷ []) =
      whole ∙ ap₂ (λ (xs : List (Option UnitStep)) (ys : List (Option UnitStep)). xs ++ ys)
      (null_step market from true) rest in
      let apart = apart_from_different (null ∷ inner) path.different in
      let off = avoids-cons n null inner other path.ends in
      let inside = inside_walk null n listed cost path (omega arith) (omega (arith, below)) inner path.nodes_are path.least.walk in
      let trade : trade_of market n ≡ t = trade_is market t in
      let crossed_is = moves null n listed cost t other path below in
      let sold = crossed_is.sold in
      let bought = crossed_is.bought in
      let before = traded_same market links levels flow t below in
      let leaves = none_leave n (seller_node market t) null inner n off in
      let goes = none_leave n (buyer_node market t) null inner n off in
      let enters = last_enters (seller_node market t) null inner n path.ends in
      let differ = round.differ t below in
      let test = ap (λ (b : Bool). if b then pos 1 else pos 0) (eq-eqb t t refl) in
      let sold_now = get_front after 4194305 (seller_place market t) (omega (arith, sized, below)) in
      let bought_now = get_front after 4194305 (buyer_place market t) (omega (arith, sized, below)) in
      let more = ap (λ (i : ℕ). one_if (sells_at market i last)) trade in
      record {
        own = own;
        trade = trade;
        inner = entered market null inner;
        steps_are = steps_are;
        known = λ k step at. entered_known market from all inside k step
            (sym (ap (λ (xs : List (Option UnitStep)). slice_get xs k) whole) ∙ at);
        once = subst AreOnce (sym whole) (entered_once market from all (apart-push (null ∷ inner) n apart off));
        sold = sold_at market now;
        bought = bought_at market now;
        others = λ k inside_k off_t.
            let found = others_are null n listed cost now k other path inside_k
            (get_front after 4194305 (seller_place market k) (omega (arith, sized, inside_k)))
            (get_front after 4194305 (buyer_place market k) (omega (arith, sized, inside_k)))
            (round.differ k inside_k ∙ ap (λ (b : Bool). if b then pos 1 else pos 0) (ne_eqb k t off_t)) in
            let sum = entered_sum market null inner n k in
            let step = ap (λ (xs : List (Option UnitStep)). units_by xs k) (trade_step market t last true below) in
            let parts = units-append (entered market null inner) (Some own ∷ []) k in
            let units = ap (λ (xs : List (Option UnitStep)). units_by xs k) steps_are in
            let first = found.0 in
            (omega (arith, ints, first, sum, step, parts, units), found.1);
        sold_own = omega (arith, ints, sold, leaves, enters, more, sold_now);
        bought_own = by own.more (bought_at market now t) (sold_at market now t) (sold_at market levels t)
            (omega (arith, ints, sold, leaves, enters, more, sold_now))
            (omega (arith, ints, differ, test));
        lose = lose_together market links levels now label t (pos 1) cost settled round;
      }
    where
      by : (b : Bool) (bought sold counts : ℕ) → pos sold ≡ pos counts +ℤ one_if b → pos sold -ℤ pos bought ≡ pos 1
          → pos bought ≡ pos counts +ℤ (if b then pos 0 else pos 0 -ℤ pos 1)
      by true bought sold counts one two = omega (arith, ints, one, two)
      by false bought sold counts one two = omega (arith, ints, one, two)

  pub low_path : (t : ℕ) (listed : List ℕ) (cost : ℤ) (steps : List (Option UnitStep)) → t < length market.trades.items
      → IsLeastPath (link_arc links levels 1) (trade_node market t) (null_node market) listed cost
      → steps ≡ stepped_down market listed
      → IsLowPath market (sold_at market levels) t steps cost
  unfolding AreApart
  low_path t listed cost steps below path made =
      let null = null_node market in
      let n = trade_node market t in
      let inner = path.inner in
      let other : n ≢ null = λ e. omega (arith, e, below) in
      let after = pushed links 1 levels n inner null in
      let now = after ++ 4194303 ∷ [] in
      let uneven = to_uneven market links levels label settled t listed cost below path in
      let round : IsClosed market links levels now t (pos 0 -ℤ pos 1) cost =
      closed market links levels after label t 4194303 (pos 0 -ℤ pos 1) cost uneven
      (record { within = omega arith; is = omega (arith, ints) }) in
      let sized = uneven.shifted.one_each ∙ settled.of.all in
      let later : List ℕ = inner ++ null ∷ [] in
      let next : ℕ = next_of inner null in
      let own : UnitStep = record { trade = trade_of market n; more = not (sells_at market (trade_of market n) next) } in
      let whole : steps ≡ Some own ∷ entered market n later =
      made ∙ ap (stepped_down market) path.nodes_are
      ∙ ap (λ (x : ℕ). step_at market false n x ++ entered market n later) (next_is inner null)
      ∙ ap (λ (xs : List (Option UnitStep)). xs ++ entered market n later) (trade_step market t next false below) in
      let rest : entered market n later ≡ entered market n inner ++ None ∷ [] =
      entered-push market n inner null
      ∙ ap (λ (xs : List (Option UnitStep)). entered market n inner ++ xs) (null_step market (last_of n inner) true) in
      let steps_are : steps ≡ Some own ∷ (entered market n inner ++ None ∷ []) =
      whole ∙ ap (λ (xs : List (Option UnitStep)). Some own ∷ xs) rest in
      let apart = apart_from_different (n ∷ inner) path.different in
      let off = avoids-cons null n inner other path.ends in
      let all_apart = apart-push (n ∷ inner) null apart off in
      let inside = inside_walk n null listed cost path (omega (arith, below)) (omega arith) inner path.nodes_are path.least.walk in
      let trade : trade_of market n ≡ t = trade_is market t in
      let crossed_is = moves n null listed cost t other path below in
      let sold = crossed_is.sold in
      let bought = crossed_is.bought in
      let before = traded_same market links levels flow t below in
      let comes = none_enter (seller_node market t) n n inner null apart.0 (λ e. other (sym e)) in
      let goes = none_enter (buyer_node market t) n n inner null apart.0 (λ e. other (sym e)) in
      let leaves = first_leaves (seller_node market t) n inner null apart.0 in
      let differ = round.differ t below in
      let test = ap (λ (b : Bool). if b then pos 0 -ℤ pos 1 else pos 0) (eq-eqb t t refl) in
      let sold_now = get_front after 4194303 (seller_place market t) (omega (arith, sized, below)) in
      let bought_now = get_front after 4194303 (buyer_place market t) (omega (arith, sized, below)) in
      let sells = ap (λ (i : ℕ). one_if (sells_at market i next)) trade in
      let facts = by (sells_at market (trade_of market n) next) (bought_at market now t) (sold_at market now t)
      (sold_at market levels t) (omega (arith, ints, sold, comes, leaves, sells, sold_now))
      (omega (arith, ints, differ, test)) in
      record {
        own = own;
        trade = trade;
        inner = entered market n inner;
        steps_are = steps_are;
        known = λ k step at. known n later own (omega (arith, trade, below)) (All-tail (λ v. v < suc null) n later inside) k step
            (sym (ap (λ (xs : List (Option UnitStep)). slice_get xs k) whole) ∙ at);
        once = subst AreOnce (sym whole) (once_more market n n later (Some own)
            (record {
              low = omega arith;
              trade = sym (ap (λ (b : Bool). if b then None else Some (n - trade_node market 0)) (ne_eqb n null other));
            }) (entered_once market n later all_apart.1) all_apart.0);
        sold = sold_at market now;
        bought = bought_at market now;
        others = λ k inside_k off_t.
            let found = others_are n null listed cost now k other path inside_k
            (get_front after 4194303 (seller_place market k) (omega (arith, sized, inside_k)))
            (get_front after 4194303 (buyer_place market k) (omega (arith, sized, inside_k)))
            (round.differ k inside_k ∙ ap (λ (b : Bool). if b then pos 0 -ℤ pos 1 else pos 0) (ne_eqb k t off_t)) in
            let sum = entered_sum market n inner null k in
            let step = ap (λ (xs : List (Option UnitStep)). units_by xs k) (null_step market (last_of n inner) true) in
            let parts = units-append (entered market n inner) (None ∷ []) k in
            let units = ap (λ (xs : List (Option UnitStep)). units_by xs k) steps_are in
            let mine = ap (λ (b : Bool). if b then (if own.more then pos 1 else pos 0 -ℤ pos 1) else pos 0)
            (ne_eqb own.trade k (λ e. off_t (sym e ∙ trade))) in
            let first = found.0 in
            (omega (arith, ints, first, sum, step, parts, units, mine), found.1);
        sold_own = facts.0;
        bought_own = facts.1;
        lose = lose_together market links levels now label t (pos 0 -ℤ pos 1) cost settled round;
      }
    where
      by : (b : Bool) (bought sold counts : ℕ) → pos sold ≡ pos counts -ℤ one_if b
          → pos sold -ℤ pos bought ≡ pos 0 -ℤ pos 1
          → (pos sold ≡ pos counts +ℤ (if not b then pos 0 else pos 0 -ℤ pos 1))
          × (pos bought ≡ pos counts +ℤ (if not b then pos 1 else pos 0))
      by true bought sold counts one two = (omega (arith, ints, one), omega (arith, ints, one, two))
      by false bought sold counts one two = (omega (arith, ints, one), omega (arith, ints, one, two))

      known : (n : ℕ) (later : List ℕ) (own : UnitStep) → own.trade < length market.trades.items
          → All (λ v. v < suc (null_node market)) later → (k : ℕ) (step : UnitStep)
          → slice_get (Some own ∷ entered market n later) k ≡ Some (Some step) → step.trade < length market.trades.items
      known n later own first inside zero step at =
          subst (λ (one : UnitStep). one.trade < length market.trades.items) (same_Some own step (same_Some (Some own) (Some step) at)) first
      known n later own first inside (suc k) step at = entered_known market n later inside k step at

-- ---- counts that are the same of each trade

lose_same : (market : UnitMarket) (counts others sold bought : ℕ → ℕ) (cost : ℤ)
    → ((t : ℕ) → t < length market.trades.items → counts t ≡ others t) → LoseTogether market counts sold bought cost
    → LoseTogether market others sold bought cost
lose_same market counts others sold bought cost same lose = record {
  sold_within = lose.sold_within;
  bought_within = lose.bought_within;
  surplus = lose.surplus;
  is = sym (surplus_same market counts others same) ∙ lose.is;
  worths = lose.worths;
  each = lose.each;
  sum = lose.sum;
}

pub high_same : (market : UnitMarket) (counts others : ℕ → ℕ) (t : ℕ) (steps : List (Option UnitStep)) (cost : ℤ)
    → ((t : ℕ) → t < length market.trades.items → counts t ≡ others t) → t < length market.trades.items
    → IsHighPath market counts t steps cost → IsHighPath market others t steps cost
high_same market counts others t steps cost same below path = record {
  own = path.own;
  trade = path.trade;
  inner = path.inner;
  steps_are = path.steps_are;
  known = path.known;
  once = path.once;
  sold = path.sold;
  bought = path.bought;
  others = λ k inside off. let two = path.others k inside off in
      (two.0 ∙ ap (λ (n : ℕ). pos n +ℤ units_by steps k) (same k inside), two.1);
  sold_own = path.sold_own ∙ ap (λ (n : ℕ). pos n +ℤ (if path.own.more then pos 1 else pos 0)) (same t below);
  bought_own = path.bought_own ∙ ap (λ (n : ℕ). pos n +ℤ (if path.own.more then pos 0 else pos 0 -ℤ pos 1)) (same t below);
  lose = lose_same market counts others path.sold path.bought cost same path.lose;
}

pub low_same : (market : UnitMarket) (counts others : ℕ → ℕ) (t : ℕ) (steps : List (Option UnitStep)) (cost : ℤ)
    → ((t : ℕ) → t < length market.trades.items → counts t ≡ others t) → t < length market.trades.items
    → IsLowPath market counts t steps cost → IsLowPath market others t steps cost
low_same market counts others t steps cost same below path = record {
  own = path.own;
  trade = path.trade;
  inner = path.inner;
  steps_are = path.steps_are;
  known = path.known;
  once = path.once;
  sold = path.sold;
  bought = path.bought;
  others = λ k inside off. let two = path.others k inside off in
      (two.0 ∙ ap (λ (n : ℕ). pos n +ℤ units_by steps k) (same k inside), two.1);
  sold_own = path.sold_own ∙ ap (λ (n : ℕ). pos n +ℤ (if path.own.more then pos 0 else pos 0 -ℤ pos 1)) (same t below);
  bought_own = path.bought_own ∙ ap (λ (n : ℕ). pos n +ℤ (if path.own.more then pos 1 else pos 0)) (same t below);
  lose = lose_same market counts others path.sold path.bought cost same path.lose;
}
