-- What a round of the solver keeps.
use Rattle.std.proofs.Common.{◌≡◌, ◌≢◌, not, ◌&&◌, ◌||◌, nat_lt, ap₂, inl, inr, ◌⊎◌, ℕ, suc, ◌+◌, ◌-◌, ◌*◌, ◌<◌, ◌≤◌, Bool, true, false, ◌==◌, ltb, refl, sym, ap, ◌∙◌, subst, arith, if◌then◌else◌, ℤ, pos, ◌+ℤ◌, ◌≤ℤ◌, List, [], ◌∷◌, ◌++◌, length, map, take, slice_get, Some, None, Option}
use Rattle.std.proofs.lemmas.Int.{ints}
use Rattle.std.proofs.lemmas.Bool.{cases_eq, cases_lt, lt-ltb, le-ltb, ne_eqb, and_parts}
use Rattle.std.proofs.lemmas.Nat.{mul-le}
use Rattle.tn_base.proofs.SetLemmas.{has-zero, has-toggle_same, has-toggle_other, same_set}
use Rattle.std.proofs.Math.Seq.{take-suc}
use Rattle.std.proofs.lemmas.Option.{get_or_from_slice_get}
use Rattle.tn_base.specs.Sets.{has, toggle}
use Rattle.tn_base.specs.Firm.{Firm, MayAbstain}
use Rattle.tn_base.specs.Walks.{arcs_among, is_admitted, is_looked_at, KeepsArcs, KeepsArcsEntering}
use Rattle.tn_base.proofs.WalkLemmas.{SameArcs, least_cycle-same, cycles-same}
use Rattle.tn_model.specs.declared.ends.Ends.{Ends}
use Rattle.tn_model.specs.Network.{IsNetwork}
use Rattle.tn_market.specs.Best.{IsSubset}
use Rattle.tn_market.specs.Graph.{exchange_arc}
use Rattle.tn_market.specs.Widths.{most_market_trades}
use Rattle.tn_graph.specs.Blocks.{CostBlocks, arcs_of}
use Rattle.tn_graph.specs.Reading.{IsExchangeAmong}
use Rattle.tn_graph.proofs.AdmitLemmas.{among_fewer}
use Rattle.tn_cycle.specs.Reading.{Reading}
use Rattle.tn_cycle.specs.Answers.{AnswersCycle, AreLabels, AreNear, cost_of, label_in}
use Rattle.tn_cycle.specs.Widths.{label_step, most_label}
use Rattle.tn_cycle.specs.declared.answer.Path.{Path}
use Rattle.tn_cycle.specs.declared.answer.Path.TheVariants as path
use Rattle.tn_network_laws.specs.Laws.{MeetExchange}
use Rattle.tn_network_laws.specs.Kept.{IsKept}
use Rattle.tn_network_laws.specs.Rounds.{arcs_with}
use Rattle.tn_network_laws.proofs.SplitLemmas.{one_number}
use Rattle.tn_network_laws.proofs.KeptLemmas.{keeps-same, entering-same, one_cycle_for_each_trade}
use Rattle.tn_flow.specs.Underway.{AreKept, AreUnderWay, IsNext, AreAdmittedBelow}
use Rattle.tn_network_laws.specs.Along.{along}
use Rattle.tn_network_laws.proofs.AlongLemmas.{along-push}
use Rattle.tn_cycle.proofs.DifferenceLemmas.{labels-same}
use Rattle.tn_network_laws.proofs.EachLemmas.{each_firm}

-- the set along one node more
pub along-next : (count on : ℕ) (nodes : List ℕ) (k v : ℕ) → k < length nodes → slice_get nodes k ≡ Some v
    → (if ltb v count then toggle (along count on (take k nodes)) v else along count on (take k nodes))
    ≡ along count on (take (k + 1) nodes)
along-next count on nodes k v below is =
    sym (along-push count on (take k nodes) v) ∙ ap (along count on) (sym next)
  where
    one_more : take (k + 1) nodes ≡ take (suc k) nodes
    one_more = ap (λ (n : ℕ). take n nodes) (let e : k + 1 ≡ suc k = omega arith in e)

    next : take (k + 1) nodes ≡ take k nodes ++ v ∷ []
    next = one_more ∙ take-suc nodes k v below ∙ ap (λ (w : ℕ). take k nodes ++ w ∷ [])
        (get_or_from_slice_get nodes k v v is)

-- ---- what is known of a market

pub kept_start : {V : Type 0} (firm_of : V → Firm) (firms : List V) (trades : List Ends)
    → IsNetwork (map firm_of firms) trades → ((v : V) → MayAbstain (firm_of v)) → IsKept (map firm_of firms) trades 0 0
kept_start firm_of firms trades network abstain =
    one_cycle_for_each_trade.start (map firm_of firms) trades network (each_firm firm_of MayAbstain firms abstain)

pub kept_at : (firms : List Firm) (trades : List Ends) (allowed on : ℕ) → IsKept firms trades 0 0 → allowed ≡ 0 → on ≡ 0
    → IsKept firms trades allowed on
kept_at firms trades allowed on kept first second =
    subst (λ (x : ℕ). IsKept firms trades x on) (sym first) (subst (IsKept firms trades 0) (sym second) kept)

-- labels keep the arcs among no trade, of which there is none
pub labels_at : (firms : List Firm) (trades : List Ends) (allowed on : ℕ) (labels : List ℤ) → IsNetwork firms trades
    → allowed ≡ 0 → on ≡ 0 → length labels ≡ length trades + 1
    → AreKept firms trades allowed on labels
labels_at firms trades allowed on labels network none none_on counted =
    subst (λ (x : ℕ). AreKept firms trades x on labels) (sym none)
    (subst (λ (x : ℕ). AreKept firms trades 0 x labels) (sym none_on)
    (record {
      one_each = counted;
      keeps =
          one_cycle_for_each_trade.start_labels firms trades network (label_in labels);
    }))

-- ---- a search

-- graphs that agree between the nodes of a test are one among these
among-within : (test : ℕ → Bool) (one other : ℕ → ℕ → Option ℤ)
    → ((u v : ℕ) → test u ≡ true → test v ≡ true → one u v ≡ other u v)
    → SameArcs (arcs_among test one) (arcs_among test other)
among-within test one other same u v = by (test u && test v) refl
  where
    at : (ℕ → ℕ → Option ℤ) → Bool → Option ℤ
    at arc b = if b then arc u v else None

    by : (b : Bool) → (test u && test v) ≡ b → at one (test u && test v) ≡ at other (test u && test v)
    by true is = (let parts = and_parts (test u) (test v) is in
        ap (λ (o : Option ℤ). if test u && test v then o else None) (same u v parts.0 parts.1))
    by false is = ap (at one) is ∙ sym (ap (at other) is)

-- a node that is looked at is admitted with the trade
looked_at_joined : (null allowed t v : ℕ) → has allowed t ≡ false → is_looked_at null t allowed v ≡ true
    → is_admitted null (toggle allowed t) v ≡ true
looked_at_joined null allowed t v out is = elim (cases_eq v t) [
  | inl e ↦
      let there : has (toggle allowed t) v ≡ true = ap (has (toggle allowed t)) e ∙ has-toggle_same allowed t
      ∙ ap not out in
      ap (λ (b : Bool). (v == null) || b) there ∙ or_true (v == null)
  | inr d ↦
      ap (λ (b : Bool). (v == null) || b) (has-toggle_other allowed t v d)
      ∙ sym (ap (λ (b : Bool). b || is_admitted null allowed v) (ne_eqb v t d)) ∙ is
]
  where
    or_true : (b : Bool) → (b || true) ≡ true
    or_true true = refl
    or_true false = refl

-- the arcs that the search for a cycle through a trade looks at, where the trade's own are read
pub looked_same : (firms : List Firm) (trades : List Ends) (on allowed t : ℕ) (graph : CostBlocks) → has allowed t ≡ false
    → IsExchangeAmong firms trades on (toggle allowed t) graph
    → SameArcs (arcs_among (is_looked_at (length trades) t allowed) (arcs_of graph))
    (arcs_among (is_looked_at (length trades) t allowed) (exchange_arc firms trades on))
looked_same firms trades on allowed t graph out joined =
    among-within (is_looked_at (length trades) t allowed) (arcs_of graph) (exchange_arc firms trades on)
    (λ u v u_in v_in. joined.arcs u v (looked_at_joined (length trades) allowed t u out u_in)
    (looked_at_joined (length trades) allowed t v out v_in))

-- the graph is right among the trades that were admitted before, too
pub before_joined : (firms : List Firm) (trades : List Ends) (on allowed t : ℕ) (graph : CostBlocks)
    → has allowed t ≡ false → IsExchangeAmong firms trades on (toggle allowed t) graph
    → IsExchangeAmong firms trades on allowed graph
before_joined firms trades on allowed t graph out joined =
    among_fewer firms trades on allowed (toggle allowed t) graph (λ k there. elim (cases_eq k t) [
      | inl e ↦ absurd (let absent : has allowed k ≡ false = ap (has allowed) e ∙ out in cc (there, absent))
      | inr d ↦ has-toggle_other allowed t k d ∙ there
    ]) joined

-- a trade that isn't admitted is off
pub off_where_out : (allowed on t : ℕ) → IsSubset on allowed → has allowed t ≡ false → has on t ≡ false
off_where_out allowed on t inside out = by (has on t) refl
  where
    by : (b : Bool) → has on t ≡ b → b ≡ false
    by true there = absurd (let member = inside t there in cc (member, out))
    by false absent = refl

pub last_node : (nodes count : ℕ) → nodes ≡ count + 1 → nodes - 1 ≡ count
last_node nodes count e = omega (arith, e)

-- what the search asks for
pub search_asks : (firms : List Firm) (trades : List Ends) (graph : CostBlocks) (finder : Reading) (allowed on null : ℕ)
    → AreUnderWay firms trades graph finder allowed on → null ≡ length trades
    → KeepsArcs (arcs_among (is_admitted null allowed) (arcs_of graph)) (label_in finder.labels)
search_asks firms trades graph finder allowed on null way same =
    subst (λ (n : ℕ). KeepsArcs (arcs_among (is_admitted n allowed) (arcs_of graph)) (label_in finder.labels))
    (sym same)
    (keeps-same _ _ (among-within (is_admitted (length trades) allowed) (arcs_of graph) (exchange_arc firms trades on)
    way.arcs.arcs) (label_in finder.labels) way.labels.keeps)

-- what it answers, with the labels that it leaves
pub search_answers : (firms : List Firm) (trades : List Ends) (graph : CostBlocks) (finder : Reading) (allowed on t : ℕ)
    (after : Reading) (answer : Path) → IsNetwork firms trades → MeetExchange firms
    → AreUnderWay firms trades graph finder allowed on → t < length trades → has allowed t ≡ false
    → IsExchangeAmong firms trades on (toggle allowed t) graph
    → AnswersCycle (arcs_among (is_looked_at (finder.nodes - 1) t allowed) (arcs_of graph)) t after.listed answer
    → length after.labels ≡ finder.nodes
    → KeepsArcsEntering (arcs_among (is_looked_at (finder.nodes - 1) t allowed) (arcs_of graph)) t
    (label_in after.labels t +ℤ cost_of answer) (label_in after.labels)
    → IsNext firms trades allowed on t after answer
search_answers firms trades graph finder allowed on t after answer network meet way below out joined found sized
    keeps =
    by answer (subst (λ (n : ℕ). AnswersCycle (arcs_among (is_looked_at n t allowed) (arcs_of graph)) t after.listed
    answer) (last_node finder.nodes (length trades) way.sized) found)
    (entering-same _ _ same t (label_in after.labels t +ℤ cost_of answer) (label_in after.labels)
    (subst (λ (n : ℕ). KeepsArcsEntering (arcs_among (is_looked_at n t allowed) (arcs_of graph)) t
    (label_in after.labels t +ℤ cost_of answer) (label_in after.labels))
    (last_node finder.nodes (length trades) way.sized) keeps))
  where
    same : SameArcs (arcs_with firms trades allowed on t)
        (arcs_among (is_looked_at (length trades) t allowed) (arcs_of graph))
    same u v = sym (looked_same firms trades on allowed t graph out joined u v)

    one_each : length after.labels ≡ length trades + 1
    one_each = sized ∙ way.sized

    by : (a : Path)
        → AnswersCycle (arcs_among (is_looked_at (length trades) t allowed) (arcs_of graph)) t after.listed a
        → KeepsArcsEntering (arcs_with firms trades allowed on t) t (label_in after.labels t +ℤ cost_of a)
        (label_in after.labels) → IsNext firms trades allowed on t after a
    by path.None none kept = (
      one_cycle_for_each_trade.still firms trades allowed on t network meet way.kept below out
          (cycles-same _ _ same t (pos 0) none.0),
      record {
        one_each = one_each;
        keeps = one_cycle_for_each_trade.kept firms trades allowed on t out (label_in after.labels)
            (one_number (arcs_with firms trades allowed on t) t (label_in after.labels t +ℤ pos 0)
            (label_in after.labels) kept (omega (arith, ints)));
      },
    )
    by (path.Cycle cost count) cycle kept =
        let least = least_cycle-same _ _ same t cycle.rest cost cycle.least in
        let gains : cost ≤ℤ pos 0 = let n = cycle.negative in omega (arith, ints, n) in
        let next = subst (λ (ls : List ℕ). IsKept firms trades (toggle allowed t) (along (length trades) on ls)
        × AreKept firms trades (toggle allowed t) (along (length trades) on ls) after.labels)
        (sym cycle.nodes_are) (
          one_cycle_for_each_trade.turned firms trades allowed on t network meet way.kept below out cycle.rest cost
              least gains,
          record {
            one_each = one_each;
            keeps = one_cycle_for_each_trade.turned_labels firms trades allowed on t network meet way.kept below out
                cycle.rest cost (label_in after.labels) least gains kept;
          },
        ) in
        (cycle.counted, next.0, next.1)

-- ---- labels

-- the arcs among the admitted trades and null
pub admitted_same : (firms : List Firm) (trades : List Ends) (graph : CostBlocks) (finder : Reading) (allowed on : ℕ)
    → AreUnderWay firms trades graph finder allowed on
    → SameArcs (arcs_among (is_admitted (length trades) allowed) (exchange_arc firms trades on))
    (arcs_among (is_admitted (length trades) allowed) (arcs_of graph))
admitted_same firms trades graph finder allowed on way u v =
    sym (among-within (is_admitted (length trades) allowed) (arcs_of graph) (exchange_arc firms trades on)
    way.arcs.arcs u v)

pub settled_labels : (firms : List Firm) (trades : List Ends) (graph : CostBlocks) (finder : Reading) (allowed on count : ℕ)
    (labels : List ℤ) → AreUnderWay firms trades graph finder allowed on → count ≡ length trades
    → AreLabels finder.nodes (arcs_among (is_admitted count allowed) (arcs_of graph)) labels
    → AreLabels (length trades + 1) (arcs_among (is_admitted (length trades) allowed) (exchange_arc firms trades on))
    labels
settled_labels firms trades graph finder allowed on count labels way counted are =
    labels-same (length trades + 1) _ _ labels (admitted_same firms trades graph finder allowed on way)
    (subst (λ (n : ℕ). AreLabels n (arcs_among (is_admitted (length trades) allowed) (arcs_of graph)) labels) way.sized
    (subst (λ (m : ℕ). AreLabels finder.nodes (arcs_among (is_admitted m allowed) (arcs_of graph)) labels) counted are))

-- ---- how far labels go

pub near-wider : (reach more : ℕ) (labels : List ℤ) → reach ≤ more → AreNear reach labels → AreNear more labels
near-wider reach more labels within near v below =
    let one = near v below in
    let low = one.low in
    let high = one.high in
    record { low = omega (arith, ints, within, low); high = omega (arith, ints, within, high) }

-- after a round for each of some trades they are far from the limits of their type
pub rounds_near : (t count : ℕ) (labels : List ℤ) → t ≤ count → count ≤ most_market_trades
    → AreNear (t * label_step (count + 1)) labels → AreNear most_label labels
rounds_near t count labels within few = near-wider (t * label_step (count + 1)) most_label labels
    (let first : t * label_step (count + 1) ≤ most_market_trades * label_step (count + 1) =
    mul-le t (label_step (count + 1)) most_market_trades (label_step (count + 1)) (omega (arith, within, few))
    (omega arith) in
    omega (arith, first, few))

pub near-next : (t step : ℕ) (labels : List ℤ) → AreNear (t * step + step) labels → AreNear ((t + 1) * step) labels
near-next t step labels near = subst (λ (n : ℕ). AreNear n labels) (let e : t * step + step ≡ (t + 1) * step =
    grind arith in e) near

-- ---- one trade after another

pub none_below : (wanted allowed : ℕ) → allowed ≡ 0 → AreAdmittedBelow wanted 0 allowed
none_below wanted allowed none k = ap (λ (x : ℕ). has x k) none ∙ has-zero k
    ∙ sym (ap (λ (b : Bool). b && has wanted k) (le-ltb k 0 (omega arith)))

pub not_yet : (wanted t allowed : ℕ) → AreAdmittedBelow wanted t allowed → has allowed t ≡ false
not_yet wanted t allowed below = below t ∙ ap (λ (b : Bool). b && has wanted t) (le-ltb t t (omega arith))

pub one_more_below : (wanted t allowed : ℕ) → AreAdmittedBelow wanted t allowed
    → AreAdmittedBelow wanted (t + 1) (if has wanted t then toggle allowed t else allowed)
one_more_below wanted t allowed below k = elim (cases_eq k t) [
  | inl e ↦
      let in_range : nat_lt k (t + 1) ≡ true = lt-ltb k (t + 1) (omega (arith, e)) in
      ap (has (if has wanted t then toggle allowed t else allowed)) e ∙ here (has wanted t) refl
      ∙ sym (ap₂ (λ (a b : Bool). a && b) in_range (ap (has wanted) e))
  | inr other ↦ there (has wanted t) other ∙ below k ∙ ap (λ (b : Bool). b && has wanted k) (same (cases_lt k t) other)
]
  where
    here : (b : Bool) → has wanted t ≡ b → has (if b then toggle allowed t else allowed) t ≡ b
    here true e = has-toggle_same allowed t ∙ ap not (not_yet wanted t allowed below)
    here false e = not_yet wanted t allowed below

    there : (b : Bool) → k ≢ t → has (if b then toggle allowed t else allowed) k ≡ has allowed k
    there true other = has-toggle_other allowed t k other
    there false other = refl

    same : (k < t) ⊎ (t ≤ k) → k ≢ t → nat_lt k t ≡ nat_lt k (t + 1)
    same (inl h) other = lt-ltb k t h ∙ sym (lt-ltb k (t + 1) (omega (arith, h)))
    same (inr h) other = le-ltb k t h ∙ sym (le-ltb k (t + 1) (omega (arith, h, other)))

-- in the end they are all trades of the set
pub all_below : (wanted count allowed : ℕ) → ((t : ℕ) → has wanted t ≡ true → t < count)
    → AreAdmittedBelow wanted count allowed → allowed ≡ wanted
all_below wanted count allowed inside below = same_set allowed wanted (λ k. below k ∙ by k (has wanted k) refl)
  where
    by : (k : ℕ) (b : Bool) → has wanted k ≡ b → (nat_lt k count && has wanted k) ≡ has wanted k
    by k true e = ap₂ (λ (a c : Bool). a && c) (lt-ltb k count (inside k e)) e ∙ sym e
    by k false e = ap (λ (c : Bool). nat_lt k count && c) e ∙ gone (nat_lt k count) ∙ sym e
      where
        gone : (a : Bool) → (a && false) ≡ false
        gone true = refl
        gone false = refl

pub worths_step : (old before new worths t : ℕ) → before ≤ old + t * worths → new ≤ before + worths
    → new ≤ old + (t + 1) * worths
worths_step old before new worths t first second = let e : (t + 1) * worths ≡ t * worths + worths = grind arith in
    omega (arith, first, second, e)

pub worths_all : (old new worths t count : ℕ) → new ≤ old + t * worths → t ≡ count → new ≤ old + count * worths
worths_all old new worths t count all same = subst (λ (k : ℕ). new ≤ old + k * worths) same all
