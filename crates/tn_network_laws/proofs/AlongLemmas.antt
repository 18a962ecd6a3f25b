-- What the firms have of a set of trades that was toggled along a tight cycle: the bundles after the shifts of its
-- legs.
use Rattle.std.proofs.Common.{ltb, ◌≡◌, ◌≢◌, ℕ, ◌<◌, Bool, true, false, not, ◌==◌, if◌then◌else◌, refl, sym, ap, ap₂, ◌∙◌, subst, arith, inl, inr, ◌⊎◌, List, [], ◌∷◌, ◌++◌, length, map, slice_get, Some}
use Rattle.std.proofs.lemmas.Bool.{cases_eq, cases_lt, eq-eqb, eqb-true, false_from_ne_true, lt-ltb, le-ltb}
use Rattle.std.proofs.lemmas.Option.{same_Some}
use Rattle.tn_base.specs.Sets.{has, toggle}
use Rattle.tn_base.specs.Firm.{Firm}
use Rattle.tn_base.proofs.SetLemmas.{has-toggle_same, has-toggle_other, toggle_comm}
use Rattle.tn_firm_laws.specs.Places.{trade_level, toggle_at, move}
use Rattle.tn_firm_laws.specs.Ordered.{shifted}
use Rattle.tn_firm_laws.proofs.PlaceLemmas.{level-trade, toggle_at-trade, toggle_at-null, trade_level-le}
use Rattle.tn_model.specs.declared.ends.Ends.{Ends}
use Rattle.tn_model.specs.Network.{own, part}
use Rattle.tn_market.specs.Graph.{raised_by, lowered_by}
use Rattle.tn_market.specs.ArcPlaces.{node_at}
use Rattle.tn_market.proofs.GraphLemmas.{node_at-trade, node_at-null, raised_own, lowered_own, has-part}
use Rattle.tn_network_laws.specs.Along.{along}
use Rattle.tn_network_laws.proofs.LegLemmas.{Setting, Leg, IsLeg, IsTightPath}
use Rattle.tn_network_laws.proofs.ShortcutLemmas.{shifts_at}

-- ---- turned truth values

-- turned over where the test holds
abbrev turn : Bool → Bool → Bool
turn b c = if b then not c else c

-- turned over for each number of the list that is s
abbrev pub turns : ℕ → List ℕ → Bool → Bool
turns s [] c = c
turns s (v ∷ vs) c = turn (v == s) (turns s vs c)

turn-twice : (b c : Bool) → turn b (turn b c) ≡ c
turn-twice true true = refl
turn-twice true false = refl
turn-twice false c = refl

turn-order : (a b c : Bool) → turn a (turn b c) ≡ turn b (turn a c)
turn-order true true c = refl
turn-order true false c = refl
turn-order false b c = refl

turns-order : (s : ℕ) (vs : List ℕ) (b c : Bool) → turns s vs (turn b c) ≡ turn b (turns s vs c)
turns-order s [] b c = refl
turns-order s (v ∷ vs) b c = ap (turn (v == s)) (turns-order s vs b c) ∙ turn-order (v == s) b (turns s vs c)

-- truth values that follow from each other
same_truth : (a b : Bool) → (a ≡ true → b ≡ true) → (b ≡ true → a ≡ true) → a ≡ b
same_truth true b first second = sym (first refl)
same_truth false true first second = second refl
same_truth false false first second = refl

differ : (u v : ℕ) → u ≢ v → (u == v) ≡ false
differ u v apart = false_from_ne_true (u == v) (λ e. apart (eqb-true u v e))

has-toggle : (x v s : ℕ) → has (toggle x v) s ≡ turn (v == s) (has x s)
has-toggle x v s = elim (cases_eq v s) [
  | inl e ↦ ap (λ (k : ℕ). has (toggle x k) s) e ∙ has-toggle_same x s
      ∙ sym (ap (λ (b : Bool). turn b (has x s)) (eq-eqb v s e))
  | inr d ↦ has-toggle_other x v s (λ e. d (sym e)) ∙ sym (ap (λ (b : Bool). turn b (has x s)) (differ v s d))
]

-- a member of the set along a list of nodes
pub has-along : (count on : ℕ) (vs : List ℕ) (s : ℕ) → s < count → has (along count on vs) s ≡ turns s vs (has on s)
has-along count on [] s inside = refl
has-along count on (v ∷ vs) s inside = elim (cases_lt v count) [
  | inl p ↦
      ap (λ (b : Bool). has (if b then toggle (along count on vs) v else along count on vs) s) (lt-ltb v count p)
      ∙ has-toggle (along count on vs) v s ∙ ap (turn (v == s)) (has-along count on vs s inside)
  | inr p ↦
      ap (λ (b : Bool). has (if b then toggle (along count on vs) v else along count on vs) s) (le-ltb v count p)
      ∙ has-along count on vs s inside
      ∙ sym (ap (λ (b : Bool). turn b (turns s vs (has on s))) (differ v s (omega (arith, p, inside))))
]

-- a member of a moved bundle
has-toggle_at : (n x i k : ℕ) → k < n → has (toggle_at n x i) k ≡ turn (i == k) (has x k)
has-toggle_at n x i k inside = elim (cases_lt i n) [
  | inl p ↦ ap (λ (y : ℕ). has y k) (toggle_at-trade n x i p) ∙ has-toggle x i k
  | inr p ↦ ap (λ (y : ℕ). has y k) (toggle_at-null n x i p)
      ∙ sym (ap (λ (b : Bool). turn b (has x k)) (differ i k (omega (arith, p, inside))))
]

has-move : (n x i j k : ℕ) → k < n → has (move n x i j) k ≡ turn (j == k) (turn (i == k) (has x k))
unfolding move
has-move n x i j k inside = has-toggle_at n (toggle_at n x i) j k inside
    ∙ ap (turn (j == k)) (has-toggle_at n x i k inside)

-- ---- the nodes of a path
-- each node but the two ends is as often the begin of a leg as the end of one
path_turns : (firms : List Firm) (trades : List Ends) (on t : ℕ) (set : Setting firms trades on t) (s u : ℕ)
    (legs : List Leg) (w : ℕ) (c : Bool) → IsTightPath set u legs w
    → turns s (map (λ leg. leg.begin) legs) (turn (w == s) c) ≡ turn (u == s) (turns s (map (λ leg. leg.end) legs) c)
path_turns firms trades on t set s u [] w c path = ap (λ (x : ℕ). turn (x == s) c) (sym path)
path_turns firms trades on t set s u (leg ∷ legs) w c path =
    ap₂ (λ (x : ℕ) (b : Bool). turn (x == s) b) path.1 (path_turns firms trades on t set s leg.end legs w c path.2)

closed_turns : (firms : List Firm) (trades : List Ends) (on t : ℕ) (set : Setting firms trades on t) (s : ℕ)
    (legs : List Leg) (c : Bool) → IsTightPath set t legs t
    → turns s (map (λ leg. leg.begin) legs) c ≡ turns s (map (λ leg. leg.end) legs) c
closed_turns firms trades on t set s legs c path =
    ap (turns s (map (λ leg. leg.begin) legs)) (sym (turn-twice (t == s) c))
    ∙ path_turns firms trades on t set s t legs t (turn (t == s) c) path
    ∙ ap (turn (t == s)) (turns-order s (map (λ leg. leg.end) legs) (t == s) c)
    ∙ turn-twice (t == s) (turns s (map (λ leg. leg.end) legs) c)

-- ---- where a leg toggles a position of firm f

-- a position that can be raised: where its trade is the begin of the leg
begin_turns : (firms : List Firm) (trades : List Ends) (on t : ℕ) (set : Setting firms trades on t) (f k : ℕ)
    (firm : Firm) → slice_get firms f ≡ Some firm → k < firm.count
    → trade_level firm.buys (part trades f firm.count on) k ≡ 0 → (leg : Leg) → IsLeg firms trades on t set leg
    → (leg.begin == own trades f k) ≡ (if leg.f == f then leg.shift.up == k else false)
begin_turns firms trades on t set f k firm is inside low leg l = same_truth _ _ forth back
  where
    forth : (leg.begin == own trades f k) ≡ true → (if leg.f == f then leg.shift.up == k else false) ≡ true
    forth e = elim (cases_lt leg.shift.up l.firm.count) [
      | inl p ↦
          let here : own trades leg.f leg.shift.up ≡ own trades f k =
          sym (node_at-trade trades leg.f l.firm.count leg.shift.up p) ∙ l.begin_is ∙ eqb-true _ _ e in
          let theirs =
          raised_own firms trades set.network on leg.f leg.shift.up l.firm l.is p
          (sym (level-trade l.firm.count l.firm.buys (part trades leg.f l.firm.count on) leg.shift.up p)
          ∙ l.places.rises p) in
          let ours = raised_own firms trades set.network on f k firm is inside low in
          let same : ◌≡◌ {A = ℕ × ℕ} (leg.f, leg.shift.up) (f, k) =
          same_Some _ _ (sym theirs ∙ ap (raised_by trades on) here ∙ ours) in
          ap (λ (b : Bool). if b then leg.shift.up == k else false) (eq-eqb leg.f f (ap (λ (p : ℕ × ℕ). p.0) same))
          ∙ eq-eqb leg.shift.up k (ap (λ (p : ℕ × ℕ). p.1) same)
      | inr p ↦
          let null = sym l.begin_is ∙ node_at-null trades leg.f l.firm.count leg.shift.up p in
          let below = set.network.whole f k firm is inside in
          absurd (let equal = eqb-true leg.begin (own trades f k) e in omega (arith, null, below, equal))
    ]

    back : (if leg.f == f then leg.shift.up == k else false) ≡ true → (leg.begin == own trades f k) ≡ true
    back e = by (leg.f == f) refl e
      where
        by : (b : Bool) → (leg.f == f) ≡ b → (if b then leg.shift.up == k else false) ≡ true
            → (leg.begin == own trades f k) ≡ true
        by true here same =
            let g : leg.f ≡ f = eqb-true leg.f f here in
            let one : l.firm ≡ firm = same_Some l.firm firm (sym l.is ∙ ap (slice_get firms) g ∙ is) in
            eq-eqb leg.begin (own trades f k)
            (sym l.begin_is ∙ ap₂ (λ (h : ℕ) (z : Firm). node_at trades h z.count leg.shift.up) g one
            ∙ ap (node_at trades f firm.count) (eqb-true leg.shift.up k same)
            ∙ node_at-trade trades f firm.count k inside)
        by false here same = absurd (cc same)

-- a position that can be lowered: where its trade is the end of the leg
end_turns : (firms : List Firm) (trades : List Ends) (on t : ℕ) (set : Setting firms trades on t) (f k : ℕ)
    (firm : Firm) → slice_get firms f ≡ Some firm → k < firm.count
    → trade_level firm.buys (part trades f firm.count on) k ≡ 1 → (leg : Leg) → IsLeg firms trades on t set leg
    → (leg.end == own trades f k) ≡ (if leg.f == f then leg.shift.down == k else false)
end_turns firms trades on t set f k firm is inside high leg l = same_truth _ _ forth back
  where
    forth : (leg.end == own trades f k) ≡ true → (if leg.f == f then leg.shift.down == k else false) ≡ true
    forth e = elim (cases_lt leg.shift.down l.firm.count) [
      | inl p ↦
          let here : own trades leg.f leg.shift.down ≡ own trades f k =
          sym (node_at-trade trades leg.f l.firm.count leg.shift.down p) ∙ l.end_is ∙ eqb-true _ _ e in
          let theirs =
          lowered_own firms trades set.network on leg.f leg.shift.down l.firm l.is p
          (sym (level-trade l.firm.count l.firm.buys (part trades leg.f l.firm.count on) leg.shift.down p)
          ∙ l.places.falls p) in
          let ours = lowered_own firms trades set.network on f k firm is inside high in
          let same : ◌≡◌ {A = ℕ × ℕ} (leg.f, leg.shift.down) (f, k) =
          same_Some _ _ (sym theirs ∙ ap (lowered_by trades on) here ∙ ours) in
          ap (λ (b : Bool). if b then leg.shift.down == k else false) (eq-eqb leg.f f (ap (λ (p : ℕ × ℕ). p.0) same))
          ∙ eq-eqb leg.shift.down k (ap (λ (p : ℕ × ℕ). p.1) same)
      | inr p ↦
          let null = sym l.end_is ∙ node_at-null trades leg.f l.firm.count leg.shift.down p in
          let below = set.network.whole f k firm is inside in
          absurd (let equal = eqb-true leg.end (own trades f k) e in omega (arith, null, below, equal))
    ]

    back : (if leg.f == f then leg.shift.down == k else false) ≡ true → (leg.end == own trades f k) ≡ true
    back e = by (leg.f == f) refl e
      where
        by : (b : Bool) → (leg.f == f) ≡ b → (if b then leg.shift.down == k else false) ≡ true
            → (leg.end == own trades f k) ≡ true
        by true here same =
            let g : leg.f ≡ f = eqb-true leg.f f here in
            let one : l.firm ≡ firm = same_Some l.firm firm (sym l.is ∙ ap (slice_get firms) g ∙ is) in
            eq-eqb leg.end (own trades f k)
            (sym l.end_is ∙ ap₂ (λ (h : ℕ) (z : Firm). node_at trades h z.count leg.shift.down) g one
            ∙ ap (node_at trades f firm.count) (eqb-true leg.shift.down k same)
            ∙ node_at-trade trades f firm.count k inside)
        by false here same = absurd (cc same)

-- a shift at firm f leaves a position of level 0 where it lowers, and one of level 1 where it raises
not_lowered : (firms : List Firm) (trades : List Ends) (on t : ℕ) (set : Setting firms trades on t) (f k : ℕ)
    (firm : Firm) → slice_get firms f ≡ Some firm → k < firm.count
    → trade_level firm.buys (part trades f firm.count on) k ≡ 0 → (leg : Leg) → IsLeg firms trades on t set leg
    → leg.f ≡ f → (leg.shift.down == k) ≡ false
not_lowered firms trades on t set f k firm is inside low leg l here = differ leg.shift.down k (λ e.
    let one : l.firm ≡ firm = same_Some l.firm firm (sym l.is ∙ ap (slice_get firms) here ∙ is) in
    let p : leg.shift.down < l.firm.count =
    subst (λ (z : Firm). leg.shift.down < z.count) (sym one) (omega (arith, e, inside)) in
    let high : trade_level l.firm.buys (part trades leg.f l.firm.count on) leg.shift.down ≡ 1 =
    sym (level-trade l.firm.count l.firm.buys (part trades leg.f l.firm.count on) leg.shift.down p) ∙ l.places.falls p
    in
    let same = ap₂ (λ (h : ℕ) (z : Firm). trade_level z.buys (part trades h z.count on) leg.shift.down) here one
    ∙ ap (trade_level firm.buys (part trades f firm.count on)) e in
    omega (arith, high, same, low))

not_raised : (firms : List Firm) (trades : List Ends) (on t : ℕ) (set : Setting firms trades on t) (f k : ℕ)
    (firm : Firm) → slice_get firms f ≡ Some firm → k < firm.count
    → trade_level firm.buys (part trades f firm.count on) k ≡ 1 → (leg : Leg) → IsLeg firms trades on t set leg
    → leg.f ≡ f → (leg.shift.up == k) ≡ false
not_raised firms trades on t set f k firm is inside high leg l here = differ leg.shift.up k (λ e.
    let one : l.firm ≡ firm = same_Some l.firm firm (sym l.is ∙ ap (slice_get firms) here ∙ is) in
    let p : leg.shift.up < l.firm.count =
    subst (λ (z : Firm). leg.shift.up < z.count) (sym one) (omega (arith, e, inside)) in
    let low : trade_level l.firm.buys (part trades leg.f l.firm.count on) leg.shift.up ≡ 0 =
    sym (level-trade l.firm.count l.firm.buys (part trades leg.f l.firm.count on) leg.shift.up p) ∙ l.places.rises p in
    let same = ap₂ (λ (h : ℕ) (z : Firm). trade_level z.buys (part trades h z.count on) leg.shift.up) here one
    ∙ ap (trade_level firm.buys (part trades f firm.count on)) e in
    omega (arith, high, same, low))

-- ---- after all shifts

-- a position of level 0 is toggled as often as its trade is the begin of a leg
low_member : (firms : List Firm) (trades : List Ends) (on t : ℕ) (set : Setting firms trades on t) (f k : ℕ)
    (firm : Firm) → slice_get firms f ≡ Some firm → k < firm.count
    → trade_level firm.buys (part trades f firm.count on) k ≡ 0 → (u : ℕ) (legs : List Leg) (w : ℕ)
    → IsTightPath set u legs w
    → has (shifted firm.count (part trades f firm.count on) (shifts_at f legs)) k
    ≡ turns (own trades f k) (map (λ leg. leg.begin) legs) (has (part trades f firm.count on) k)
low_member firms trades on t set f k firm is inside low u [] w path = refl
low_member firms trades on t set f k firm is inside low u (leg ∷ legs) w path =
    by (leg.f == f) refl (low_member firms trades on t set f k firm is inside low leg.end legs w path.2)
    ∙ ap (λ (b : Bool). turn b (turns (own trades f k) (map (λ leg. leg.begin) legs)
    (has (part trades f firm.count on) k)))
    (sym (begin_turns firms trades on t set f k firm is inside low leg path.0))
  where
    by : (b : Bool) → (leg.f == f) ≡ b
        → has (shifted firm.count (part trades f firm.count on) (shifts_at f legs)) k
        ≡ turns (own trades f k) (map (λ leg. leg.begin) legs) (has (part trades f firm.count on) k)
        → has (shifted firm.count (part trades f firm.count on) (if b then leg.shift ∷ shifts_at f legs
        else shifts_at f legs)) k
        ≡ turn (if b then leg.shift.up == k
        else false) (turns (own trades f k) (map (λ leg. leg.begin) legs) (has (part trades f firm.count on) k))
    by true here later =
        has-move firm.count (shifted firm.count (part trades f firm.count on) (shifts_at f legs)) leg.shift.up
        leg.shift.down k inside
        ∙ ap (λ (b : Bool). turn b (turn (leg.shift.up == k)
        (has (shifted firm.count (part trades f firm.count on) (shifts_at f legs)) k)))
        (not_lowered firms trades on t set f k firm is inside low leg path.0 (eqb-true leg.f f here))
        ∙ ap (turn (leg.shift.up == k)) later
    by false here later = later

-- one of level 1 as often as its trade is the end of one
high_member : (firms : List Firm) (trades : List Ends) (on t : ℕ) (set : Setting firms trades on t) (f k : ℕ)
    (firm : Firm) → slice_get firms f ≡ Some firm → k < firm.count
    → trade_level firm.buys (part trades f firm.count on) k ≡ 1 → (u : ℕ) (legs : List Leg) (w : ℕ)
    → IsTightPath set u legs w
    → has (shifted firm.count (part trades f firm.count on) (shifts_at f legs)) k
    ≡ turns (own trades f k) (map (λ leg. leg.end) legs) (has (part trades f firm.count on) k)
high_member firms trades on t set f k firm is inside high u [] w path = refl
high_member firms trades on t set f k firm is inside high u (leg ∷ legs) w path =
    by (leg.f == f) refl (high_member firms trades on t set f k firm is inside high leg.end legs w path.2)
    ∙ ap (λ (b : Bool). turn b (turns (own trades f k) (map (λ leg. leg.end) legs)
    (has (part trades f firm.count on) k)))
    (sym (end_turns firms trades on t set f k firm is inside high leg path.0))
  where
    by : (b : Bool) → (leg.f == f) ≡ b
        → has (shifted firm.count (part trades f firm.count on) (shifts_at f legs)) k
        ≡ turns (own trades f k) (map (λ leg. leg.end) legs) (has (part trades f firm.count on) k)
        → has (shifted firm.count (part trades f firm.count on) (if b then leg.shift ∷ shifts_at f legs
        else shifts_at f legs)) k
        ≡ turn (if b then leg.shift.down == k
        else false) (turns (own trades f k) (map (λ leg. leg.end) legs) (has (part trades f firm.count on) k))
    by true here later =
        has-move firm.count (shifted firm.count (part trades f firm.count on) (shifts_at f legs)) leg.shift.up
        leg.shift.down k inside
        ∙ ap (λ (b : Bool). turn (leg.shift.down == k) (turn b
        (has (shifted firm.count (part trades f firm.count on) (shifts_at f legs)) k)))
        (not_raised firms trades on t set f k firm is inside high leg path.0 (eqb-true leg.f f here))
        ∙ ap (turn (leg.shift.down == k)) later
    by false here later = later

-- a member of the bundle of the set along a tight cycle is one of the bundle after all shifts
pub member_along : (firms : List Firm) (trades : List Ends) (on t : ℕ) (set : Setting firms trades on t) (f k : ℕ)
    (firm : Firm) → slice_get firms f ≡ Some firm → k < firm.count
    → (legs : List Leg) → IsTightPath set t legs t
    → has (part trades f firm.count (along (length trades) on (map (λ leg. leg.begin) legs))) k
    ≡ has (shifted firm.count (part trades f firm.count on) (shifts_at f legs)) k
member_along firms trades on t set f k firm is inside legs path =
    has-part trades f firm.count (along (length trades) on (map (λ leg. leg.begin) legs)) k inside
    ∙ has-along (length trades) on (map (λ leg. leg.begin) legs) (own trades f k) (set.network.whole f k firm is inside)
    ∙ ap (turns (own trades f k) (map (λ leg. leg.begin) legs)) (sym (has-part trades f firm.count on k inside))
    ∙ by (cases_eq (trade_level firm.buys (part trades f firm.count on) k) 0)
  where
    by : (trade_level firm.buys (part trades f firm.count on) k ≡ 0)
        ⊎ (trade_level firm.buys (part trades f firm.count on) k ≢ 0)
        → turns (own trades f k) (map (λ leg. leg.begin) legs) (has (part trades f firm.count on) k)
        ≡ has (shifted firm.count (part trades f firm.count on) (shifts_at f legs)) k
    by (inl low) = sym (low_member firms trades on t set f k firm is inside low t legs t path)
    by (inr other) =
        let most = trade_level-le firm.buys (part trades f firm.count on) k in
        closed_turns firms trades on t set (own trades f k) legs (has (part trades f firm.count on) k) path
        ∙ sym (high_member firms trades on t set f k firm is inside (omega (arith, most, other)) t legs t path)

-- ---- one node more at the end of a list

toggle_if : (b c : Bool) (x v w : ℕ) → (if b then toggle (if c then toggle x w else x) v
    else (if c then toggle x w else x))
    ≡ (if c then toggle (if b then toggle x v else x) w else (if b then toggle x v else x))
toggle_if true true x v w = toggle_comm x w v
toggle_if true false x v w = refl
toggle_if false true x v w = refl
toggle_if false false x v w = refl

-- the set along a list and one node more
pub along-push : (count on : ℕ) (vs : List ℕ) (w : ℕ)
    → along count on (vs ++ w ∷ []) ≡ (if ltb w count then toggle (along count on vs) w else along count on vs)
along-push count on [] w = refl
along-push count on (v ∷ vs) w =
    ap (λ (x : ℕ). if ltb v count then toggle x v else x) (along-push count on vs w)
    ∙ toggle_if (ltb v count) (ltb w count) (along count on vs) v w
