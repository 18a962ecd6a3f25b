-- A middleman is a laminar sum of three sets: its purchases, its sales, and all its trades.
use Rattle.std.proofs.Common.{◌≡◌, ℕ, zero, suc, ◌^◌, ◌<◌, Bool, true, false, not, ◌&&◌, refl, sym, ap, ◌∙◌, subst, arith, inl, inr, ◌⊎◌, if◌then◌else◌, List, [], ◌∷◌, Option, Some, None, ℤ, pos, negsuc, ◌+ℤ◌, ◌-ℤ◌}
use Rattle.std.specs.Prelude.{slice_get}
use Rattle.std.proofs.lemmas.Int.{ints}
use Rattle.std.proofs.lemmas.Bool.{lt-ltb, cases_Bool, cases_lt, le-ltb, false≢true}
use Rattle.std.proofs.lemmas.Option.{none-some, same_Some}
use Rattle.std.proofs.Math.Path.{fun_ext}
use Rattle.tn_base.specs.Sets.{has, meet, minus, size, set_of, sum_over}
use Rattle.tn_base.specs.Firm.{Firm, net, payments, HasOwnBundles}
use Rattle.tn_base.specs.Exchange.{MeetsExchange}
use Rattle.tn_base.proofs.SetLemmas.{same_set, has-meet, has-minus, has-zero, has-set_of, set_of_within, minus_within, has_below, minus-zero_from}
use Rattle.tn_base.proofs.SizeLemmas.{size-zero, size-toggle_out}
use Rattle.tn_base.proofs.SumLemmas.{sum_over-empty}
use Rattle.tn_base.specs.Options.{both}
use Rattle.tn_firm_laws.specs.Nested.{CountTerm, AreNested, Cross, IsConcave, IsConcaveList, count_sum, nested_sum, listed_from, at_place}
use Rattle.tn_firm_laws.proofs.NestedLemmas.{meets-nested}
use Rattle.tn_firm_laws.proofs.ConcaveLemmas.{concave-listed}
use Rattle.tn_middle.specs.Pairs.{by_counts, pair_worth, pairing}
use Rattle.tn_market.specs.OwnNumbers.{own_number}

-- all positions
abbrev pub all_of : ℕ → ℕ
all_of count = set_of (λ k. true) count

-- what a purchase alone is worth, where it is
abbrev pub kept : Option ℤ → List ℤ
kept (Some number) = pos 0 ∷ number ∷ []
kept None = pos 0 ∷ []

abbrev pub purchase_term : ℕ → CountTerm
purchase_term buys = record { members = buys; number_at = listed_from (pos 0) (pos 0 ∷ pos 0 ∷ []) }

abbrev pub sale_term : ℕ → ℕ → CountTerm
sale_term count buys = record {
  members = minus (all_of count) buys;
  number_at =
      listed_from (negsuc 0) (pos 0 ∷ pos 0 ∷ []);
}

abbrev pub trade_term : ℕ → Option ℤ → CountTerm
trade_term count keep = record { members = all_of count; number_at = listed_from (pos 0) (kept keep) }

-- at most one purchase, at most one sale, and no more sales than purchases, nor fewer unless one may be kept
abbrev pub pair_terms : ℕ → ℕ → Option ℤ → List CountTerm
pair_terms count buys keep = purchase_term buys ∷ sale_term count buys ∷ trade_term count keep ∷ []

-- ---- the numbers of the three sets

total : Option ℤ → Option ℤ → Option ℤ → ℤ → Option ℤ
total first second third balance = both (Some balance) (both first (both second (both third (Some (pos 0)))))

all_there : (first second third : Option ℤ) (number balance : ℤ) → first ≡ Some (pos 0) → second ≡ Some (pos 0)
    → third ≡ Some number
    → total first second third balance ≡ Some (balance +ℤ number)
unfolding total
all_there first second third number balance a b c =
    let sum : balance +ℤ (pos 0 +ℤ (pos 0 +ℤ (number +ℤ pos 0))) ≡ balance +ℤ number = omega (arith, ints) in
    rw (a, b, c) (ap Some sum)

no_first : (first second third : Option ℤ) (balance : ℤ) → first ≡ None → total first second third balance ≡ None
unfolding total
no_first first second third balance a = rw a refl

no_second : (first second third : Option ℤ) (balance : ℤ) → second ≡ None → total first second third balance ≡ None
unfolding total
no_second None second third balance b = refl
no_second (Some a) second third balance b = rw b refl

no_third : (first second third : Option ℤ) (balance : ℤ) → third ≡ None → total first second third balance ≡ None
unfolding total
no_third None second third balance c = refl
no_third (Some a) None third balance c = refl
no_third (Some a) (Some b) third balance c = rw c refl

kept_none : (keep : Option ℤ) → at_place (kept keep) (pos 0) ≡ Some (pos 0)
kept_none None = refl
kept_none (Some number) = refl

-- by the counts of purchases and sales, the three numbers are there exactly where the bundle is possible
same_by_counts : (p s : ℕ) (keep : Option ℤ) (balance a b c : ℤ) → a ≡ pos p → b ≡ pos 1 -ℤ pos s → c ≡ pos p -ℤ pos s
    → (p ≡ 0 → s ≡ 0 → balance ≡ pos 0)
    → total (at_place (pos 0 ∷ pos 0 ∷ []) a) (at_place (pos 0 ∷ pos 0 ∷ []) b) (at_place (kept keep) c) balance
    ≡ by_counts p s keep balance
same_by_counts zero zero keep balance a b c a_is b_is c_is empty =
    let nothing : balance ≡ pos 0 = empty refl refl in
    let zero_sum : balance +ℤ pos 0 ≡ pos 0 = omega (arith, ints, nothing) in
    all_there _ _ _ (pos 0) balance (ap (at_place (pos 0 ∷ pos 0 ∷ [])) a_is) (ap (at_place (pos 0 ∷ pos 0 ∷ [])) b_is)
    (ap (at_place (kept keep)) c_is ∙ kept_none keep)
    ∙ ap Some zero_sum
same_by_counts zero (suc s) keep balance a b c a_is b_is c_is empty =
    let below : c ≡ negsuc s = omega (arith, ints, c_is) in
    no_third _ _ _ balance (ap (at_place (kept keep)) below)
same_by_counts (suc zero) zero None balance a b c a_is b_is c_is empty =
    no_third _ _ _ balance (ap (at_place (kept None)) c_is)
same_by_counts (suc zero) zero (Some number) balance a b c a_is b_is c_is empty =
    let swap : balance +ℤ number ≡ number +ℤ balance = omega (arith, ints) in
    all_there _ _ _ number balance (ap (at_place (pos 0 ∷ pos 0 ∷ [])) a_is) (ap (at_place (pos 0 ∷ pos 0 ∷ [])) b_is)
    (ap (at_place (kept (Some number))) c_is)
    ∙ ap Some swap
same_by_counts (suc zero) (suc zero) keep balance a b c a_is b_is c_is empty =
    let same : balance +ℤ pos 0 ≡ balance = omega (arith, ints) in
    all_there _ _ _ (pos 0) balance (ap (at_place (pos 0 ∷ pos 0 ∷ [])) a_is) (ap (at_place (pos 0 ∷ pos 0 ∷ [])) b_is)
    (ap (at_place (kept keep)) c_is ∙ kept_none keep)
    ∙ ap Some same
same_by_counts (suc zero) (suc (suc s)) keep balance a b c a_is b_is c_is empty =
    let below : b ≡ negsuc s = omega (arith, ints, b_is) in
    no_second _ _ _ balance (ap (at_place (pos 0 ∷ pos 0 ∷ [])) below)
same_by_counts (suc (suc p)) s keep balance a b c a_is b_is c_is empty =
    no_first _ _ _ balance (ap (at_place (pos 0 ∷ pos 0 ∷ [])) a_is)

-- ---- the net counts within the three sets

-- own positions are among all
in_all : (x count k : ℕ) → x < 2 ^ count → has x k ≡ true → has (all_of count) k ≡ true
in_all x count k own there = has-set_of (λ j. true) count k
    ∙ ap (λ b. b && true) (lt-ltb k count (has_below x count k own there))

meet-all : (x count : ℕ) → x < 2 ^ count → meet x (all_of count) ≡ x
meet-all x count own = same_set _ _ (λ k. has-meet x (all_of count) k ∙ elim (cases_Bool (has x k)) [
  | inl e ↦ ap (λ b. b && has (all_of count) k) e ∙ in_all x count k own e ∙ sym e
  | inr e ↦ ap (λ b. b && has (all_of count) k) e ∙ sym e
])

meet-twice : (x buys : ℕ) → meet (meet x buys) buys ≡ meet x buys
meet-twice x buys =
    same_set _ _ (λ k. has-meet (meet x buys) buys k ∙ ap (λ b. b && has buys k) (has-meet x buys k)
    ∙ by (has x k) (has buys k) ∙ sym (has-meet x buys k))
  where
    by : (a b : Bool) → ((a && b) && b) ≡ (a && b)
    by true true = refl
    by true false = refl
    by false b = refl

minus-meet : (x buys : ℕ) → minus (meet x buys) buys ≡ 0
minus-meet x buys =
    same_set _ _ (λ k. has-minus (meet x buys) buys k ∙ ap (λ b. b && not (has buys k)) (has-meet x buys k)
    ∙ by (has x k) (has buys k) ∙ sym (has-zero k))
  where
    by : (a b : Bool) → ((a && b) && not b) ≡ false
    by true true = refl
    by true false = refl
    by false b = refl

meet-sales : (x all buys : ℕ) → meet (meet x (minus all buys)) buys ≡ 0
meet-sales x all buys = same_set _ _ (λ k. has-meet (meet x (minus all buys)) buys k
    ∙ ap (λ b. b && has buys k) (has-meet x (minus all buys) k ∙ ap (λ b. has x k && b) (has-minus all buys k))
    ∙ by (has x k) (has all k) (has buys k) ∙ sym (has-zero k))
  where
    by : (a b c : Bool) → ((a && (b && not c)) && c) ≡ false
    by true true true = refl
    by true true false = refl
    by true false c = refl
    by false b c = refl

minus-sales : (x all buys : ℕ) → meet x all ≡ x → minus (meet x (minus all buys)) buys ≡ minus x buys
minus-sales x all buys own = same_set _ _ (λ k. has-minus (meet x (minus all buys)) buys k
    ∙ ap (λ b. b && not (has buys k)) (has-meet x (minus all buys) k ∙ ap (λ b. has x k && b) (has-minus all buys k))
    ∙ by (has x k) (has all k) (has buys k)
    ∙ ap (λ b. b && not (has buys k)) (sym (has-meet x all k) ∙ ap (λ (z : ℕ). has z k) own)
    ∙ sym (has-minus x buys k))
  where
    by : (a b c : Bool) → ((a && (b && not c)) && not c) ≡ ((a && b) && not c)
    by true true true = refl
    by true true false = refl
    by true false c = refl
    by false b c = refl

net-purchases : (x buys : ℕ) → net buys (meet x buys) ≡ pos (size (meet x buys))
unfolding net
net-purchases x buys =
    let first : pos (size (meet (meet x buys) buys)) ≡ pos (size (meet x buys)) =
    ap (λ (z : ℕ). pos (size z)) (meet-twice x buys) in
    let second : pos (size (minus (meet x buys) buys)) ≡ pos 0 =
    ap (λ (z : ℕ). pos (size z)) (minus-meet x buys) ∙ ap pos size-zero in
    omega (arith, ints, first, second)

net-sales : (x count buys : ℕ) → x < 2 ^ count → net buys (meet x (minus (all_of count) buys)) ≡ pos 0
    -ℤ pos (size (minus x buys))
unfolding net
net-sales x count buys own =
    let first : pos (size (meet (meet x (minus (all_of count) buys)) buys)) ≡ pos 0 =
    ap (λ (z : ℕ). pos (size z)) (meet-sales x (all_of count) buys) ∙ ap pos size-zero in
    let second : pos (size (minus (meet x (minus (all_of count) buys)) buys)) ≡ pos (size (minus x buys)) =
    ap (λ (z : ℕ). pos (size z)) (minus-sales x (all_of count) buys (meet-all x count own)) in
    omega (arith, ints, first, second)

net-trades : (x count buys : ℕ) → x < 2 ^ count → net buys (meet x (all_of count)) ≡ pos (size (meet x buys))
    -ℤ pos (size (minus x buys))
unfolding net
net-trades x count buys own =
    ap (λ (z : ℕ). pos (size (meet z buys)) -ℤ pos (size (minus z buys))) (meet-all x count own)

-- ---- the same firm

-- a set without members is empty
pub empty_from_size : (x : ℕ) → size x ≡ 0 → x ≡ 0
empty_from_size x none = same_set x 0 (λ k. elim (cases_Bool (has x k)) [
  | inl e ↦ let more = size-toggle_out x k e in absurd (omega (arith, none, more))
  | inr e ↦ e ∙ sym (has-zero k)
])

-- a bundle without purchases and sales is empty
pub empty_from_counts : (x buys : ℕ) → size (meet x buys) ≡ 0 → size (minus x buys) ≡ 0 → x ≡ 0
empty_from_counts x buys no_purchase no_sale = same_set x 0 (λ k. elim (cases_Bool (has x k)) [
  | inr e ↦ e ∙ sym (has-zero k)
  | inl e ↦
      let first : has (meet x buys) k ≡ false = ap (λ (z : ℕ). has z k) (empty_from_size (meet x buys) no_purchase)
      ∙ has-zero k in
      let second : has (minus x buys) k ≡ false = ap (λ (z : ℕ). has z k) (empty_from_size (minus x buys) no_sale)
      ∙ has-zero k in
      absurd (by (has x k) (has buys k) e (sym (has-meet x buys k) ∙ first) (sym (has-minus x buys k) ∙ second))
])
  where
    by : (a b : Bool) → a ≡ true → (a && b) ≡ false → (a && not b) ≡ false → ⊥
    by true true e f g = false≢true (sym f)
    by true false e f g = false≢true (sym g)
    by false b e f g = false≢true e

abbrev pub pair_sum : ℕ → ℕ → List ℤ → Option ℤ → Firm
pair_sum count buys numbers keep =
    nested_sum count buys (payments buys (own_number numbers)) (pair_terms count buys keep)

-- the two firms have the same worths
same_worth : (count buys : ℕ) (numbers : List ℤ) (keep : Option ℤ) (x : ℕ)
    → (pair_sum count buys numbers keep).worth x ≡ pair_worth count buys numbers keep x
unfolding total
same_worth count buys numbers keep x = elim (cases_lt x (2 ^ count)) [
  | inr above ↦
      ap (λ b. if b
      then both (Some (sum_over (payments buys (own_number numbers)) count x))
      (count_sum buys (pair_terms count buys keep) x) else None) (le-ltb x (2 ^ count) above)
      ∙ sym (ap (λ b. if b
      then by_counts (size (meet x buys)) (size (minus x buys)) keep
      (sum_over (payments buys (own_number numbers)) count x) else None) (le-ltb x (2 ^ count) above))
  | inl own ↦
      let first = net-purchases x buys in
      let second = net-sales x count buys own in
      let third = net-trades x count buys own in
      ap (λ b. if b
      then both (Some (sum_over (payments buys (own_number numbers)) count x))
      (count_sum buys (pair_terms count buys keep) x) else None) (lt-ltb x (2 ^ count) own)
      ∙ same_by_counts (size (meet x buys)) (size (minus x buys)) keep
      (sum_over (payments buys (own_number numbers)) count x)
      (net buys (meet x buys) -ℤ pos 0) (net buys (meet x (minus (all_of count) buys)) -ℤ negsuc 0)
      (net buys (meet x (all_of count)) -ℤ pos 0)
      (omega (arith, ints, first)) (omega (arith, ints, second)) (omega (arith, ints, third))
      (λ no_purchase no_sale. ap (sum_over (payments buys (own_number numbers)) count)
      (empty_from_counts x buys no_purchase no_sale)
      ∙ sum_over-empty (payments buys (own_number numbers)) count)
      ∙ sym (ap (λ b. if b
      then by_counts (size (meet x buys)) (size (minus x buys)) keep
      (sum_over (payments buys (own_number numbers)) count x) else None) (lt-ltb x (2 ^ count) own))
]

same_firm : (count buys : ℕ) (numbers : List ℤ) (keep : Option ℤ)
    → pair_sum count buys numbers keep ≡ pairing count buys numbers keep
same_firm count buys numbers keep = ap (firm_with count buys) (fun_ext (same_worth count buys numbers keep))
  where
    firm_with : ℕ → ℕ → (ℕ → Option ℤ) → Firm
    firm_with count buys worth = record { count = count; buys = buys; worth = worth }

-- ---- nested sets

two_concave : IsConcaveList (pos 0 ∷ pos 0 ∷ [])
two_concave k inside = absurd (omega (arith, inside))

kept_concave : (keep : Option ℤ) → IsConcaveList (kept keep)
kept_concave None k inside = absurd (omega (arith, inside))
kept_concave (Some number) k inside = absurd (omega (arith, inside))

-- what each of three terms meets
each_of : (P : CountTerm → Type 0) (a b c : CountTerm) → P a → P b → P c → (i : ℕ) (term : CountTerm)
    → slice_get (a ∷ b ∷ c ∷ []) i ≡ Some term → P term
each_of P a b c p q r zero term is = subst P (same_Some a term is) p
each_of P a b c p q r (suc zero) term is = subst P (same_Some b term is) q
each_of P a b c p q r (suc (suc zero)) term is = subst P (same_Some c term is) r
each_of P a b c p q r (suc (suc (suc i))) term is = absurd (none-some term is)

sales_apart : (count buys : ℕ) → meet buys (minus (all_of count) buys) ≡ 0
sales_apart count buys =
    same_set _ _ (λ k. has-meet buys (minus (all_of count) buys) k
    ∙ ap (λ b. has buys k && b) (has-minus (all_of count) buys k)
    ∙ by (has buys k) (has (all_of count) k) ∙ sym (has-zero k))
  where
    by : (a b : Bool) → (a && (b && not a)) ≡ false
    by true true = refl
    by true false = refl
    by false b = refl

are_nested : (count buys : ℕ) (keep : Option ℤ) → buys < 2 ^ count → AreNested count (pair_terms count buys keep)
are_nested count buys keep bought =
    let all_own : all_of count < 2 ^ count = set_of_within (λ k. true) count in
    let sales_own : minus (all_of count) buys < 2 ^ count = minus_within (all_of count) buys count all_own in
    record {
      own = each_of (λ t. t.members < 2 ^ count) (purchase_term buys) (sale_term count buys) (trade_term count keep)
          bought sales_own all_own;
      concave = each_of (λ t. IsConcave t.number_at) (purchase_term buys) (sale_term count buys) (trade_term count keep)
          (concave-listed (pos 0) (pos 0 ∷ pos 0 ∷ []) two_concave)
          (concave-listed (negsuc 0) (pos 0 ∷ pos 0 ∷ []) two_concave)
          (concave-listed (pos 0) (kept keep) (kept_concave keep));
      uncrossed = uncrossed;
    }
  where
    buys_in : (all_own : all_of count < 2 ^ count) → minus buys (all_of count) ≡ 0
    buys_in all_own = minus-zero_from buys (all_of count) (λ k e. in_all buys count k bought e)

    sales_in : (sales_own : minus (all_of count) buys < 2 ^ count)
        → minus (minus (all_of count) buys) (all_of count) ≡ 0
    sales_in sales_own =
        minus-zero_from (minus (all_of count) buys) (all_of count)
        (λ k e. in_all (minus (all_of count) buys) count k sales_own e)

    own_all : all_of count < 2 ^ count
    own_all = set_of_within (λ k. true) count

    later : (t : ℕ) → (meet buys t ≡ 0) ⊎ (minus buys t ≡ 0) → Cross buys t → ⊥
    later t (inl e) cross = cross.0 e
    later t (inr e) cross = cross.1 e

    uncrossed : (i j : ℕ) (first second : CountTerm) → i < j → slice_get (pair_terms count buys keep) i ≡ Some first
        → slice_get (pair_terms count buys keep) j ≡ Some second → Cross first.members second.members → ⊥
    uncrossed i zero first second before first_is second_is cross = omega (arith, before)
    uncrossed zero (suc j) first second before first_is second_is cross =
        each_of (λ t. Cross buys t.members → ⊥) (sale_term count buys) (trade_term count keep) (trade_term count keep)
        (later (minus (all_of count) buys) (inl (sales_apart count buys)))
        (later (all_of count) (inr (buys_in own_all))) (later (all_of count) (inr (buys_in own_all)))
        j second (longer j second_is)
        (subst (λ t. Cross t.members second.members) (sym (same_Some (purchase_term buys) first first_is)) cross)
      where
        longer : (j : ℕ) → slice_get (sale_term count buys ∷ trade_term count keep ∷ []) j ≡ Some second
            → slice_get (sale_term count buys ∷ trade_term count keep ∷ trade_term count keep ∷ []) j ≡ Some second
        longer zero e = e
        longer (suc zero) e = e
        longer (suc (suc j)) e = absurd (none-some second e)
    uncrossed (suc zero) (suc (suc zero)) first second before first_is second_is cross =
        let moved = subst (λ t. Cross (minus (all_of count) buys) t.members)
        (sym (same_Some (trade_term count keep) second second_is))
        (subst (λ t. Cross t.members second.members) (sym (same_Some (sale_term count buys) first first_is)) cross) in
        moved.1 (sales_in (minus_within (all_of count) buys count own_all))
    uncrossed (suc zero) (suc (suc (suc j))) first second before first_is second_is cross = none-some second second_is
    uncrossed (suc zero) (suc zero) first second before first_is second_is cross = omega (arith, before)
    uncrossed (suc (suc zero)) (suc j) first second before first_is second_is cross = last j before second_is
      where
        last : (j : ℕ) → 2 < suc j → slice_get (sale_term count buys ∷ trade_term count keep ∷ []) j ≡ Some second → ⊥
        last zero b e = omega (arith, b)
        last (suc zero) b e = omega (arith, b)
        last (suc (suc j)) b e = none-some second e
    uncrossed (suc (suc (suc i))) (suc j) first second before first_is second_is cross = none-some first first_is

-- middlemen meet exchange
pub meets : (count buys : ℕ) (numbers : List ℤ) (keep : Option ℤ) → buys < 2 ^ count
    → HasOwnBundles (pairing count buys numbers keep) × MeetsExchange (pairing count buys numbers keep)
meets count buys numbers keep bought =
    subst (λ firm. HasOwnBundles firm × MeetsExchange firm) (same_firm count buys numbers keep)
    (meets-nested count buys (payments buys (own_number numbers)) (pair_terms count buys keep)
    (are_nested count buys keep bought))
