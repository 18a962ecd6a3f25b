-- Sums of concave functions of net counts over nested sets meet exchange.
use Rattle.std.proofs.Common.{◌≡◌, ℕ, zero, suc, ◌^◌, ◌<◌, ◌≤◌, nat_lt, Bool, true, false, refl, sym, ap, ◌∙◌, subst, arith, inl, inr, if◌then◌else◌, cond, ℤ, pos, ◌+ℤ◌, List, [], ◌∷◌}
use Rattle.std.specs.Prelude.{◌≤ℤ◌, ◌<ℤ◌, Option, Some, None, slice_get}
use Rattle.std.proofs.lemmas.Bool.{cases_eq, cases_order, cases_Bool, lt-ltb, ltb-true, true≢false, and_from}
use Rattle.std.proofs.lemmas.Option.{same_Some, none-some}
use Rattle.std.proofs.lemmas.Int.{ints}
use Rattle.tn_base.specs.Options.{both}
use Rattle.tn_base.specs.Sets.{has, meet, minus, set_of, sum_over}
use Rattle.tn_base.specs.Firm.{net, HasOwnBundles}
use Rattle.tn_base.specs.Exchange.{MeetsExchange}
use Rattle.tn_base.proofs.SetLemmas.{has-meet, has-zero, has_from_minus-zero, has_below, has-set_of}
use Rattle.tn_firm_laws.specs.Places.{level, move, sum_to, ExchangesOverPlaces}
use Rattle.tn_firm_laws.specs.Nested.{CountTerm, count_sum, nested_sum, AreEnoughAt, IsConcave, Cross, AreNested}
use Rattle.tn_firm_laws.proofs.PlaceLemmas.{places}
use Rattle.tn_firm_laws.proofs.DistanceLemmas.{up_moves, up_apart_down}
use Rattle.tn_firm_laws.proofs.ExchangeLemmas.{exchange_from_places}
use Rattle.tn_firm_laws.proofs.KeepLemmas.{sum_over-move}
use Rattle.tn_firm_laws.proofs.AdditiveLemmas.{move-within}
use Rattle.tn_firm_laws.proofs.NestedFamilies.{Nest, In, Partner, partner}
use Rattle.tn_firm_laws.proofs.NestedCounts.{member_count, sum_over-difference, excess, excess-net, net-move}

-- the sets of a list of terms
abbrev sets_of : List CountTerm → List ℕ
sets_of [] = []
sets_of (term ∷ terms) = term.members ∷ sets_of terms

-- each term's set is one of them
in_sets : (terms : List CountTerm) (i : ℕ) (term : CountTerm) → slice_get terms i ≡ Some term
    → In term.members (sets_of terms)
in_sets [] i term is = absurd (none-some term is)
in_sets (first ∷ terms) zero term is = inl (ap (λ (t : CountTerm). t.members) (sym (same_Some first term is)))
in_sets (first ∷ terms) (suc i) term is = inr (in_sets terms i term is)

-- and each of them is a term's set
from_sets : (terms : List CountTerm) (q : ℕ) → In q (sets_of terms) → (i : ℕ) × (term : CountTerm)
    × (slice_get terms i ≡ Some term) × (q ≡ term.members)
from_sets [] q q_in = absurd q_in
from_sets (first ∷ terms) q q_in = elim q_in [
  | inl e ↦ (0, first, refl, e)
  | inr later ↦ let found = from_sets terms q later in (suc found.0, found.1, found.2, found.3)
]

-- sets that don't cross are apart, or one is within the other
nest_from : (s t : ℕ) → (Cross s t → ⊥) → Nest s t
nest_from s t uncrossed = elim (cases_eq (meet s t) 0) [
  | inl e ↦ inl (λ k s_k t_k. true≢false (sym (has-meet s t k ∙ and_from (has s k) (has t k) s_k t_k)
      ∙ ap (λ (z : ℕ). has z k) e ∙ has-zero k))
  | inr common ↦ elim (cases_eq (minus s t) 0) [
    | inl e ↦ inr (inl (λ k. has_from_minus-zero s t k e))
    | inr left ↦ elim (cases_eq (minus t s) 0) [
      | inl e ↦ inr (inr (λ k. has_from_minus-zero t s k e))
      | inr right ↦ absurd (uncrossed (common, left, right))
    ]
  ]
]

-- in either order
nest_turned : (s t : ℕ) → Nest s t → Nest t s
nest_turned s t nest = elim nest [
  | inl apart ↦ inl (λ k h g. apart k g h)
  | inr either ↦ elim either [ inl within ↦ inr (inr within) | inr within ↦ inr (inl within) ]
]

-- any two sets of the list nest
sets_nest : (count : ℕ) (terms : List CountTerm) → AreNested count terms → (a b : ℕ) → In a (sets_of terms)
    → In b (sets_of terms) → Nest a b
sets_nest count terms are a b a_in b_in =
    let first = from_sets terms a a_in in
    let second = from_sets terms b b_in in
    subst (λ (z : ℕ). Nest z b) (sym first.3) (subst (Nest first.1.members) (sym second.3)
    (elim (cases_order first.0 second.0) [
      | inl same ↦
          let one : first.1 ≡ second.1 = same_Some first.1 second.1 (sym first.2 ∙ ap (slice_get terms) same ∙ second.2)
          in
          subst (λ (t : CountTerm). Nest first.1.members t.members) one (inr (inl (λ k h. h)))
      | inr apart ↦ elim apart [
        | inl before ↦
            nest_from first.1.members second.1.members (are.uncrossed first.0 second.0 first.1 second.1 before first.2
            second.2)
        | inr after ↦ nest_turned second.1.members first.1.members
            (nest_from second.1.members first.1.members (are.uncrossed second.0 first.0 second.1 first.1 after second.2
            first.2))
      ]
    ]))

-- what two numbers sum to, where both are there
both-some : (o p : Option ℤ) (w : ℤ) → both o p ≡ Some w → (a : ℤ) × (b : ℤ) × (o ≡ Some a) × (p ≡ Some b)
    × (a +ℤ b ≡ w)
both-some None p w e = absurd (none-some w e)
both-some (Some a) None w e = absurd (none-some w e)
both-some (Some a) (Some b) w e = (a, b, refl, refl, same_Some (a +ℤ b) w e)

-- two numbers that are there sum up
both_from : (o p : Option ℤ) (a b : ℤ) → o ≡ Some a → p ≡ Some b → both o p ≡ Some (a +ℤ b)
both_from o p a b o_is p_is = rw (o_is, p_is) refl

-- two counts that stay, that change, or that come closer by one
enough_closer : (number_at : ℤ → Option ℤ) → IsConcave number_at → (a b a' b' u v : ℤ) (i_in j_in : Bool)
    → number_at a ≡ Some u → number_at b ≡ Some v
    → a' +ℤ (if i_in then pos 1 else pos 0) ≡ a +ℤ (if j_in then pos 1 else pos 0)
    → b' +ℤ (if j_in then pos 1 else pos 0) ≡ b +ℤ (if i_in then pos 1 else pos 0)
    → (i_in ≡ true → j_in ≡ false → b <ℤ a) → (i_in ≡ false → j_in ≡ true → a <ℤ b)
    → AreEnoughAt number_at a' b' (u +ℤ v)
enough_closer number_at concave a b a' b' u v true true a_is b_is first second leaves enters = record {
  first = u;
  second = v;
  first_is = ap number_at (omega (arith, ints, first)) ∙ a_is;
  second_is = ap number_at (omega (arith, ints, second)) ∙ b_is;
  enough = omega (arith, ints);
}
enough_closer number_at concave a b a' b' u v false false a_is b_is first second leaves enters = record {
  first = u;
  second = v;
  first_is = ap number_at (omega (arith, ints, first)) ∙ a_is;
  second_is = ap number_at (omega (arith, ints, second)) ∙ b_is;
  enough = omega (arith, ints);
}
enough_closer number_at concave a b a' b' u v true false a_is b_is first second leaves enters =
    let closer = concave b a v u b_is a_is (leaves refl refl) in
    record {
      first = closer.second;
      second = closer.first;
      first_is = ap number_at (omega (arith, ints, first)) ∙ closer.second_is;
      second_is = ap number_at (omega (arith, ints, second)) ∙ closer.first_is;
      enough = (let enough = closer.enough in omega (arith, ints, enough));
    }
enough_closer number_at concave a b a' b' u v false true a_is b_is first second leaves enters =
    let closer = concave a b u v a_is b_is (enters refl refl) in
    record {
      first = closer.first;
      second = closer.second;
      first_is = ap number_at (omega (arith, ints, first)) ∙ closer.first_is;
      second_is = ap number_at (omega (arith, ints, second)) ∙ closer.second_is;
      enough = closer.enough;
    }

-- the sums at two bundles are there, and together they are at least the total
record AreEnoughSums (buys : ℕ) (terms : List CountTerm) (x y : ℕ) (total : ℤ) : Type 0 where
  first : ℤ
  second : ℤ
  first_is : count_sum buys terms x ≡ Some first
  second_is : count_sum buys terms y ≡ Some second
  enough : total ≤ℤ (first +ℤ second)

-- where each term's numbers at two other bundles are enough, so are their sums
sums_enough : (buys : ℕ) (terms : List CountTerm) (x y x' y' : ℕ)
    → ((i : ℕ) (term : CountTerm) (u v : ℤ) → slice_get terms i ≡ Some term
    → term.number_at (net buys (meet x term.members)) ≡ Some u
    → term.number_at (net buys (meet y term.members)) ≡ Some v
    → AreEnoughAt term.number_at (net buys (meet x' term.members)) (net buys (meet y' term.members)) (u +ℤ v))
    → (u v : ℤ) → count_sum buys terms x ≡ Some u → count_sum buys terms y ≡ Some v
    → AreEnoughSums buys terms x' y' (u +ℤ v)
sums_enough buys [] x y x' y' each u v x_is y_is = record {
  first = pos 0;
  second = pos 0;
  first_is = refl;
  second_is = refl;
  enough =
      let first : pos 0 ≡ u = same_Some (pos 0) u x_is in
      let second : pos 0 ≡ v = same_Some (pos 0) v y_is in
      omega (arith, ints, first, second);
}
sums_enough buys (term ∷ terms) x y x' y' each u v x_is y_is =
    let at_x = both-some (term.number_at (net buys (meet x term.members))) (count_sum buys terms x) u x_is in
    let at_y = both-some (term.number_at (net buys (meet y term.members))) (count_sum buys terms y) v y_is in
    let rest : AreEnoughSums buys terms x' y' (at_x.1 +ℤ at_y.1) =
    sums_enough buys terms x y x' y' (λ i t. each (suc i) t) at_x.1 at_y.1 at_x.3 at_y.3 in
    let here = each 0 term at_x.0 at_y.0 refl at_x.2 at_y.2 in
    record {
      first = here.first +ℤ rest.first;
      second = here.second +ℤ rest.second;
      first_is = both_from _ _ here.first rest.first here.first_is rest.first_is;
      second_is = both_from _ _ here.second rest.second here.second_is rest.second_is;
      enough =
          let p = here.enough in
          let q = rest.enough in
          let a = at_x.4 in
          let b = at_y.4 in
          omega (arith, ints, p, q, a, b);
    }

-- the set of all places
all_places : ℕ → ℕ
all_places n = set_of (λ k. true) (suc n)

-- each place is one
has-all_places : (n k : ℕ) → k ≤ n → has (all_places n) k ≡ true
unfolding all_places
has-all_places n k within = has-set_of (λ i. true) (suc n) k
    ∙ and_from (nat_lt k (suc n)) true (lt-ltb k (suc n) (omega (arith, within))) refl

-- a sum over a set with all numbers below m
sum_over-all : (f : ℕ → ℕ) (m q : ℕ) → ((k : ℕ) → k < m → has q k ≡ true)
    → sum_over (λ k. pos (f k)) m q ≡ pos (sum_to f m)
unfolding sum_over sum_to
sum_over-all f zero q all = refl
sum_over-all f (suc m) q all =
    let before : sum_over (λ k. pos (f k)) m q ≡ pos (sum_to f m) = sum_over-all f m q (λ k h. all k (omega (arith, h)))
    in
    let here : (if has q m then pos (f m) else pos 0) ≡ pos (f m) =
    ap (λ b. cond b (pos (f m)) (pos 0)) (all m (omega arith)) in
    omega (arith, ints, before, here)

-- over all places the excess of one bundle over another sums to 0
excess-all : (n buys x y : ℕ) → sum_over (excess n buys x y) (suc n) (all_places n) ≡ pos 0
unfolding sum_to
excess-all n buys x y =
    let parts = sum_over-difference (λ k. pos (level n buys x k)) (λ k. pos (level n buys y k)) (suc n) (all_places n)
    in
    let first = sum_over-all (level n buys x) (suc n) (all_places n) (λ k h. has-all_places n k (omega (arith, h))) in
    let second = sum_over-all (level n buys y) (suc n) (all_places n) (λ k h. has-all_places n k (omega (arith, h))) in
    let x_total = (places n buys).total x in
    let y_total = (places n buys).total y in
    omega (arith, ints, parts, first, second, x_total, y_total)

-- each place of the up side has a partner with respect to the sets
down_partner : (count buys : ℕ) (terms : List CountTerm) → AreNested count terms → (x y i : ℕ) → i ≤ count
    → level count buys y i < level count buys x i → Partner (excess count buys x y) (suc count) i (sets_of terms)
down_partner count buys terms are x y i i_within i_up =
    partner (excess count buys x y) (suc count) i (sets_of terms) (sets_nest count terms are) (all_places count) within
    (has-all_places count i i_within)
    (let none = excess-all count buys x y in omega (arith, ints, none))
    (omega (arith, i_within))
    (omega (arith, ints, i_up))
  where
    within : (q : ℕ) → In q (sets_of terms) → (k : ℕ) → has q k ≡ true → has (all_places count) k ≡ true
    within q q_in k member =
        let found = from_sets terms q q_in in
        let own : k < count =
        has_below found.1.members count k (are.own found.0 found.1 found.2) (ap (λ (z : ℕ). has z k) (sym found.3)
        ∙ member) in
        has-all_places count k (omega (arith, own))

-- at the partner's move each term's numbers are enough
term_enough : (count buys : ℕ) (terms : List CountTerm) → AreNested count terms → (x y i : ℕ) → x < 2 ^ count
    → y < 2 ^ count → i ≤ count
    → level count buys y i < level count buys x i
    → (pair : Partner (excess count buys x y) (suc count) i (sets_of terms))
    → level count buys x pair.at < level count buys y pair.at
    → (k : ℕ) (term : CountTerm) (u v : ℤ) → slice_get terms k ≡ Some term
    → term.number_at (net buys (meet x term.members)) ≡ Some u
    → term.number_at (net buys (meet y term.members)) ≡ Some v
    → AreEnoughAt term.number_at (net buys (meet (move count x i pair.at) term.members))
    (net buys (meet (move count y i pair.at) term.members)) (u +ℤ v)
term_enough count buys terms are x y i x_below y_below i_within i_up pair down k term u v term_is x_is y_is =
    let own = are.own k term term_is in
    let q_in = in_sets terms k term term_is in
    let at_within : pair.at ≤ count = (let p = pair.is_place in omega (arith, p)) in
    let apart = up_apart_down (level count buys x) (level count buys y) i pair.at i_up down in
    let up = up_moves count (level count buys) (move count) (places count buys) x y i i_up in
    let low = up_moves count (level count buys) (move count) (places count buys) y x pair.at down in
    let difference = excess-net count buys x y term.members x_below y_below own in
    enough_closer term.number_at (are.concave k term term_is)
    (net buys (meet x term.members)) (net buys (meet y term.members))
    (net buys (meet (move count x i pair.at) term.members)) (net buys (meet (move count y i pair.at) term.members))
    u v (has term.members i) (has term.members pair.at) x_is y_is
    (ap (λ (z : ℕ). net buys (meet z term.members) +ℤ member_count term.members i)
    ((places count buys).order x i pair.at)
    ∙ net-move count buys x pair.at i term.members x_below own at_within i_within (λ e. apart (sym e)) low.0 up.1)
    (net-move count buys y i pair.at term.members y_below own i_within at_within apart up.0 low.1)
    (λ i_in absent. let sum = pair.leaves term.members q_in i_in absent in omega (arith, ints, sum, difference))
    (λ absent at_in. let sum = pair.enters term.members q_in absent at_in in omega (arith, ints, sum, difference))

-- what is known of a possible bundle
nested_within : (count buys : ℕ) (amounts : ℕ → ℤ) (terms : List CountTerm) (x : ℕ) (a : ℤ)
    → (nested_sum count buys amounts terms).worth x ≡ Some a
    → (u : ℤ) × (x < 2 ^ count) × (count_sum buys terms x ≡ Some u) × (sum_over amounts count x +ℤ u ≡ a)
nested_within count buys amounts terms x a x_is = elim (cases_Bool (nat_lt x (2 ^ count))) [
  | inr e ↦ absurd
      (none-some a (sym (ap (λ b. cond b (both (Some (sum_over amounts count x)) (count_sum buys terms x)) None) e)
      ∙ x_is))
  | inl e ↦
      let parts = both-some (Some (sum_over amounts count x)) (count_sum buys terms x) a
      (sym (ap (λ b. cond b (both (Some (sum_over amounts count x)) (count_sum buys terms x)) None) e) ∙ x_is) in
      let amount : sum_over amounts count x ≡ parts.0 = same_Some (sum_over amounts count x) parts.0 parts.2 in
      let total = parts.4 in
      (parts.1, ltb-true x (2 ^ count) e, parts.3, omega (arith, ints, amount, total))
]

-- and where the numbers are there, the bundle is possible
nested_worth : (count buys : ℕ) (amounts : ℕ → ℤ) (terms : List CountTerm) (x : ℕ) (u : ℤ) → x < 2 ^ count
    → count_sum buys terms x ≡ Some u
    → (nested_sum count buys amounts terms).worth x ≡ Some (sum_over amounts count x +ℤ u)
nested_worth count buys amounts terms x u below u_is =
    ap (λ b. cond b (both (Some (sum_over amounts count x)) (count_sum buys terms x)) None) (lt-ltb x (2 ^ count) below)
    ∙ both_from (Some (sum_over amounts count x)) (count_sum buys terms x) (sum_over amounts count x) u refl u_is

-- nested sums exchange over places
exchange-nested : (count buys : ℕ) (amounts : ℕ → ℤ) (terms : List CountTerm) → AreNested count terms
    → ExchangesOverPlaces (nested_sum count buys amounts terms)
exchange-nested count buys amounts terms are x y a b x_is y_is i i_within i_up =
    let first = nested_within count buys amounts terms x a x_is in
    let second = nested_within count buys amounts terms y b y_is in
    let pair = down_partner count buys terms are x y i i_within i_up in
    let down : level count buys x pair.at < level count buys y pair.at =
    (let below = pair.below in omega (arith, ints, below)) in
    let sums = sums_enough buys terms x y (move count x i pair.at) (move count y i pair.at)
    (term_enough count buys terms are x y i first.1 second.1 i_within i_up pair down) first.0 second.0 first.2 second.2
    in
    record {
      at = pair.at;
      is_place = (let p = pair.is_place in omega (arith, p));
      is_down = down;
      enough = record {
        first = sum_over amounts count (move count x i pair.at) +ℤ sums.first;
        second = sum_over amounts count (move count y i pair.at) +ℤ sums.second;
        first_is = nested_worth count buys amounts terms _ sums.first (move-within count x i pair.at first.1)
            sums.first_is;
        second_is = nested_worth count buys amounts terms _ sums.second (move-within count y i pair.at second.1)
            sums.second_is;
        enough =
            let moved = sum_over-move amounts count buys x y i pair.at i_up down in
            let enough = sums.enough in
            let p = first.3 in
            let q = second.3 in
            omega (arith, ints, moved, enough, p, q);
      };
    }

-- a sum of concave functions of net counts over nested sets meets exchange
pub meets-nested : (count buys : ℕ) (amounts : ℕ → ℤ) (terms : List CountTerm) → AreNested count terms
    → HasOwnBundles (nested_sum count buys amounts terms) × MeetsExchange (nested_sum count buys amounts terms)
meets-nested count buys amounts terms are =
    let own : HasOwnBundles (nested_sum count buys amounts terms) =
    λ x a x_is. (nested_within count buys amounts terms x a x_is).1 in
    (own, exchange_from_places (nested_sum count buys amounts terms) own (exchange-nested count buys amounts terms are))
