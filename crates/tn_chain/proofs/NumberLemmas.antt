-- The numbers of the unsigned trades.
use Rattle.std.proofs.Common.{◌≡◌, ℕ, zero, suc, ◌+◌, ◌-◌, ◌<◌, ◌≤◌, Bool, true, false, not, ◌&&◌, if◌then◌else◌, List, [], ◌∷◌, length, Option, Some, None, refl, sym, ap, ap₂, ◌∙◌, subst, arith, inl, inr}
use Rattle.std.specs.Prelude.{is_some}
use Rattle.std.proofs.lemmas.Bool.{cases_eq, true≢false}
use Rattle.tn_base.specs.Sets.{has, toggle, set_of, size}
use Rattle.tn_base.proofs.SetLemmas.{has-toggle_same, has-toggle_other, has_above, set_of_within, has-zero}
use Rattle.tn_base.proofs.SizeLemmas.{size-toggle_in, size-zero}
use Rattle.tn_model.specs.declared.ends.Ends.{Ends}
use Rattle.tn_model.specs.declared.contract.Contract.{Contract}
use Rattle.tn_market.specs.Signed.{is_signed}
use Rattle.tn_residual.specs.Residual.{number_from, unsigned, unsigned_from, unsigned_part}
use Rattle.tn_residual.proofs.TradeLemmas.{free_count}
use Rattle.tn_residual.proofs.PositionLemmas.{Setting, made}
use Rattle.tn_chain.specs.Numbers.{unsigned_number, toggled_if, added_if, is_among, AreNumbers, AreNumbersUpTo}
use Rattle.tn_chain.proofs.SeenLemmas.{IsAdmitting}

-- the next number is one more after an unsigned trade
pub number_next : (contracts : List Contract) (b t : ℕ)
    → number_from contracts b (suc t) ≡ number_from contracts b t + (if is_signed contracts (b + t) then 0 else 1)
number_next contracts b zero =
    let at : b ≡ b + 0 = omega arith in
    let same : ◌≡◌ {A = ℕ} (if is_signed contracts b then 0 else 1) (if is_signed contracts (b + 0) then 0 else 1) =
    ap (λ (k : ℕ). if is_signed contracts k then 0 else 1) at in
    omega (arith, same)
number_next contracts b (suc t) =
    let rest = number_next contracts (b + 1) t in
    let at : b + 1 + t ≡ b + suc t = omega arith in
    let same : ◌≡◌ {A = ℕ} (if is_signed contracts (b + 1 + t) then 0 else 1) (if is_signed contracts (b + suc t) then 0
    else 1) = ap (λ (k : ℕ). if is_signed contracts k then 0 else 1) at in
    omega (arith, rest, same)

pub number_step : (contracts : List Contract) (t : ℕ) (s : Bool) → is_signed contracts t ≡ s
    → number_from contracts 0 (t + 1) ≡ number_from contracts 0 t + (if s then 0 else 1)
number_step contracts t s is =
    let next : t + 1 ≡ suc t = omega arith in
    let at : 0 + t ≡ t = omega arith in
    ap (number_from contracts 0) next ∙ number_next contracts 0 t
    ∙ ap (λ (b : Bool). number_from contracts 0 t + (if b then 0 else 1)) (ap (is_signed contracts) at ∙ is)

-- numbers ascend with the trades
number_le : (contracts : List Contract) (i d : ℕ) → number_from contracts 0 i ≤ number_from contracts 0 (i + d)
number_le contracts i zero = (let same : i + 0 ≡ i = omega arith in let e = ap (number_from contracts 0) same in
    omega (arith, e))
number_le contracts i (suc d) =
    let rest = number_le contracts i d in
    let at : i + suc d ≡ (i + d) + 1 = omega arith in
    let e = ap (number_from contracts 0) at in
    by_case (is_signed contracts (i + d)) refl rest e
  where
    by_case : (s : Bool) → is_signed contracts (i + d) ≡ s → number_from contracts 0 i ≤ number_from contracts 0 (i + d)
        → number_from contracts 0 (i + suc d) ≡ number_from contracts 0 ((i + d) + 1)
        → number_from contracts 0 i ≤ number_from contracts 0 (i + suc d)
    by_case true is rest e = (let step = number_step contracts (i + d) true is in omega (arith, rest, e, step))
    by_case false is rest e = (let step = number_step contracts (i + d) false is in omega (arith, rest, e, step))

pub number_less : (contracts : List Contract) (i t : ℕ) → i < t → is_signed contracts i ≡ false
    → number_from contracts 0 i < number_from contracts 0 t
number_less contracts i t below free =
    let step = number_step contracts i false free in
    let more = number_le contracts (i + 1) (t - (i + 1)) in
    let at : (i + 1) + (t - (i + 1)) ≡ t = omega (arith, below) in
    let e = ap (number_from contracts 0) at in
    omega (arith, step, more, e)

-- all unsigned trades are as many as their numbers
pub numbers_all : (contracts : List Contract) (b : ℕ) (trades : List Ends)
    → number_from contracts b (length trades) ≡ length (unsigned_from contracts b trades)
numbers_all contracts b [] = refl
numbers_all contracts b (trade ∷ trades) = by_case (is_signed contracts b) (numbers_all contracts (b + 1) trades)
  where
    by_case : (s : Bool) → number_from contracts (b + 1) (length trades)
        ≡ length (unsigned_from contracts (b + 1) trades)
        → (if s then 0 else 1) + number_from contracts (b + 1) (length trades) ≡ length (if s
        then unsigned_from contracts (b + 1) trades else trade ∷ unsigned_from contracts (b + 1) trades)
    by_case true rest = omega (arith, rest)
    by_case false rest = omega (arith, rest)

-- and as the set of them has members
pub unsigned_size : (contracts : List Contract) (n : ℕ) → size (unsigned n contracts) ≡ number_from contracts 0 n
unfolding set_of
unsigned_size contracts zero = size-zero
unsigned_size contracts (suc n) = by_case (is_signed contracts n) refl (unsigned_size contracts n)
  where
    by_case : (s : Bool) → is_signed contracts n ≡ s → size (set_of (λ t. not (is_signed contracts t)) n)
        ≡ number_from contracts 0 n
        → size (if not (is_signed contracts n) then toggle (set_of (λ t. not (is_signed contracts t)) n) n
        else set_of (λ t. not (is_signed contracts t)) n) ≡ number_from contracts 0 (suc n)
    by_case true is rest =
        let step = number_step contracts n true is in
        let at : n + 1 ≡ suc n = omega arith in
        let e = ap (number_from contracts 0) at in
        ap (λ (b : Bool). size (if not b then toggle (set_of (λ t. not (is_signed contracts t)) n) n
        else set_of (λ t. not (is_signed contracts t)) n)) is ∙ omega (arith, rest, step, e)
    by_case false is rest =
        let step = number_step contracts n false is in
        let at : n + 1 ≡ suc n = omega arith in
        let e = ap (number_from contracts 0) at in
        let more = size-toggle_in (set_of (λ t. not (is_signed contracts t)) n) n
        (has_above (set_of (λ t. not (is_signed contracts t)) n) n n
        (set_of_within (λ t. not (is_signed contracts t)) n) (omega arith)) in
        ap (λ (b : Bool). size (if not b then toggle (set_of (λ t. not (is_signed contracts t)) n) n
        else set_of (λ t. not (is_signed contracts t)) n)) is ∙ omega (arith, rest, step, e, more)

-- ---- the numbers of a set

pub no_numbers : (contracts : List Contract) (set numbers : ℕ) → numbers ≡ 0 → AreNumbers contracts set 0 numbers
no_numbers contracts set numbers none = record {
  each = λ i below free. absurd (omega (arith, below));
  below = λ s above. ap (λ (x : ℕ). has x s) none ∙ has-zero s;
}

pub signed_skipped : (contracts : List Contract) (set t numbers : ℕ) → AreNumbers contracts set t numbers
    → is_signed contracts t ≡ true → AreNumbers contracts set (t + 1) numbers
signed_skipped contracts set t numbers are signed = record {
  each = λ i below free. elim (cases_eq i t) [
    | inl e ↦ absurd (true≢false (sym signed ∙ ap (is_signed contracts) (sym e) ∙ free))
    | inr d ↦ are.each i (omega (arith, below, d)) free
  ];
  below = λ s above. are.below s (let step = number_step contracts t true signed in omega (arith, above, step));
}

pub free_numbered : (contracts : List Contract) (set t numbers next : ℕ) → AreNumbers contracts set t numbers
    → is_signed contracts t ≡ false
    → next ≡ (if has set t then toggle numbers (number_from contracts 0 t) else numbers)
    → AreNumbers contracts set (t + 1) next
free_numbered contracts set t numbers next are free next_is = by_case (has set t) refl
  where
    step : number_from contracts 0 (t + 1) ≡ number_from contracts 0 t + 1
    step = number_step contracts t false free

    by_case : (h : Bool) → has set t ≡ h → AreNumbers contracts set (t + 1) next
    by_case true there =
        let is : next ≡ toggle numbers (number_from contracts 0 t) =
        next_is ∙ ap (λ (b : Bool). if b then toggle numbers (number_from contracts 0 t) else numbers) there in
        record {
          each = λ i below i_free. elim (cases_eq i t) [
            | inl e ↦ ap₂ has is (ap (number_from contracts 0) e) ∙ has-toggle_same numbers (number_from contracts 0 t)
                ∙ ap not (are.below (number_from contracts 0 t) (omega arith))
                ∙ sym (ap (has set) e ∙ there)
            | inr d ↦
                let less = number_less contracts i t (omega (arith, below, d)) i_free in
                ap (λ (x : ℕ). has x (number_from contracts 0 i)) is
                ∙ has-toggle_other numbers (number_from contracts 0 t) (number_from contracts 0 i)
                (λ e. absurd (omega (arith, less, e)))
                ∙ are.each i (omega (arith, below, d)) i_free
          ];
          below = λ s above.
              ap (λ (x : ℕ). has x s) is ∙ has-toggle_other numbers (number_from contracts 0 t) s (λ e. absurd (let p =
              step in omega (arith, above, p, e)))
              ∙ are.below s (let p = step in omega (arith, above, p));
        }
    by_case false away =
        let is : next ≡ numbers = next_is ∙ ap (λ (b : Bool). if b then toggle numbers (number_from contracts 0 t)
        else numbers) away in
        record {
          each = λ i below i_free. ap (λ (x : ℕ). has x (number_from contracts 0 i)) is ∙ elim (cases_eq i t) [
            | inl e ↦ ap (λ (j : ℕ). has numbers (number_from contracts 0 j)) e
                ∙ are.below (number_from contracts 0 t) (omega arith) ∙ sym (ap (has set) e ∙ away)
            | inr d ↦ are.each i (omega (arith, below, d)) i_free
          ];
          below = λ s above. ap (λ (x : ℕ). has x s) is ∙ are.below s (let p = step in omega (arith, above, p));
        }

-- ---- with all halves

pub none_added : (before from : ℕ) → ((s : ℕ) → from ≤ s → has before s ≡ false)
    → AreNumbersUpTo before from from before
none_added before from none = record {
  kept = λ s below. refl;
  added = λ s above below. absurd (omega (arith, above, below));
  none = λ s above past. none s above;
}

pub one_added : (before from to numbers next : ℕ) → from ≤ to → AreNumbersUpTo before from to numbers
    → next ≡ toggle numbers to → AreNumbersUpTo before from (to + 1) next
one_added before from to numbers next order are next_is = record {
  kept = λ s below. ap (λ (x : ℕ). has x s) next_is ∙ has-toggle_other numbers to s
      (λ e. absurd (omega (arith, below, order, e))) ∙ are.kept s below;
  added = λ s above below. ap (λ (x : ℕ). has x s) next_is ∙ elim (cases_eq s to) [
    | inl e ↦ ap (has (toggle numbers to)) e ∙ has-toggle_same numbers to ∙ ap not (are.none to order (omega arith))
    | inr d ↦ has-toggle_other numbers to s d ∙ are.added s above (omega (arith, below, d))
  ];
  none = λ s above past. ap (λ (x : ℕ). has x s) next_is
      ∙ has-toggle_other numbers to s (λ e. absurd (omega (arith, past, e))) ∙ are.none s above (omega (arith, past));
}

-- so the numbers of a set and all halves are admitted
pub numbers_admit : (z : Setting) (set numbers all : ℕ) → AreNumbers z.contracts set (length z.trades) numbers
    → AreNumbersUpTo numbers (free_count z.trades z.contracts) (length (made z)) all
    → IsAdmitting z set all
numbers_admit z set numbers all are halves = record {
  only = λ t below free there. sym (are.each t below free)
      ∙ sym (halves.kept (number_from z.contracts 0 t) (small t below free)) ∙ there;
  each = λ t below free there. halves.kept (number_from z.contracts 0 t) (small t below free) ∙ are.each t below free
      ∙ there;
  halves = halves.added;
}
  where
    small : (t : ℕ) → t < length z.trades → is_signed z.contracts t ≡ false
        → number_from z.contracts 0 t < free_count z.trades z.contracts
    small t below free =
        let less = number_less z.contracts t (length z.trades) below free in
        let all = numbers_all z.contracts 0 z.trades in
        omega (arith, less, all)

-- ---- step by step

pub unsigned_more : (contracts : List Contract) (t set next : ℕ) (none : Bool) → set ≡ unsigned t contracts
    → none ≡ not (is_signed contracts t) → next ≡ toggled_if none set t → next ≡ unsigned (t + 1) contracts
unfolding set_of
unsigned_more contracts t set next none before test is =
    let more : suc t ≡ t + 1 = omega arith in
    is ∙ ap₂ (λ (b : Bool) (x : ℕ). if b then toggle x t else x) test before ∙ ap (λ (n : ℕ). unsigned n contracts) more

pub number_more : (contracts : List Contract) (i number next : ℕ) (none : Bool) → number ≡ number_from contracts 0 i
    → none ≡ not (is_signed contracts i) → next ≡ number + (if none then 1 else 0)
    → next ≡ number_from contracts 0 (i + 1)
number_more contracts i number next none before test is = by_case (is_signed contracts i) refl
  where
    by_case : (s : Bool) → is_signed contracts i ≡ s → next ≡ number_from contracts 0 (i + 1)
    by_case true signed =
        let step = number_step contracts i true signed in
        let added : ◌≡◌ {A = ℕ} (if none then 1 else 0) 0 = ap (λ (b : Bool). if b then 1 else 0) (test ∙ ap not signed)
        in
        omega (arith, before, is, step, added)
    by_case false free =
        let step = number_step contracts i false free in
        let added : ◌≡◌ {A = ℕ} (if none then 1 else 0) 1 = ap (λ (b : Bool). if b then 1 else 0) (test ∙ ap not free)
        in
        omega (arith, before, is, step, added)

pub number_small : (contracts : List Contract) (t : ℕ) → number_from contracts 0 t ≤ t
number_small contracts zero = omega arith
number_small contracts (suc t) =
    let at : t + 1 ≡ suc t = omega arith in
    let e = ap (number_from contracts 0) at in
    by_case (is_signed contracts t) refl (number_small contracts t) e
  where
    by_case : (s : Bool) → is_signed contracts t ≡ s → number_from contracts 0 t ≤ t
        → number_from contracts 0 (t + 1) ≡ number_from contracts 0 (suc t) → number_from contracts 0 (suc t) ≤ suc t
    by_case true is rest e = (let step = number_step contracts t true is in omega (arith, rest, e, step))
    by_case false is rest e = (let step = number_step contracts t false is in omega (arith, rest, e, step))

pub number_is : (contracts : List Contract) (t number : ℕ) (none : Bool) → number ≡ number_from contracts 0 t
    → none ≡ not (is_signed contracts t) → (if none then Some number else None) ≡ unsigned_number contracts t
number_is contracts t number none is test = ap₂ (λ (b : Bool) (n : ℕ). if b then Some n else None) test is
    ∙ by_case (is_signed contracts t)
  where
    by_case : (b : Bool) → ◌≡◌ {A = Option ℕ} (if not b then Some (number_from contracts 0 t) else None) (if b then None
        else Some (number_from contracts 0 t))
    by_case true = refl
    by_case false = refl

-- how many are unsigned, by whether the next one has a number
pub counted_more : (contracts : List Contract) (t before next : ℕ) (number : Option ℕ) (some : Bool)
    → before ≡ number_from contracts 0 t → number ≡ unsigned_number contracts t → some ≡ is_some number
    → next ≡ before + (if some then 1 else 0) → next ≡ number_from contracts 0 (t + 1)
counted_more contracts t before next number some before_is number_is test is =
    number_more contracts t before next some before_is
    (test ∙ ap is_some number_is ∙ by_case (is_signed contracts t)) is
  where
    by_case : (b : Bool) → is_some (if b then None else Some (number_from contracts 0 t)) ≡ not b
    by_case true = refl
    by_case false = refl

pub numbers_more : (contracts : List Contract) (set t numbers next : ℕ) (number : Option ℕ)
    → AreNumbers contracts set t numbers → number ≡ unsigned_number contracts t → next ≡ added_if (has set t) number numbers
    → AreNumbers contracts set (t + 1) next
numbers_more contracts set t numbers next number are number_is next_is = by_case (is_signed contracts t) refl
  where
    by_case : (s : Bool) → is_signed contracts t ≡ s → AreNumbers contracts set (t + 1) next
    by_case true signed =
        let none : number ≡ None = number_is ∙ ap (λ (b : Bool). if b then None
        else Some (number_from contracts 0 t)) signed in
        subst (AreNumbers contracts set (t + 1)) (sym (next_is
        ∙ ap (λ (o : Option ℕ). added_if (has set t) o numbers) none))
        (signed_skipped contracts set t numbers are signed)
    by_case false free =
        let some : number ≡ Some (number_from contracts 0 t) =
        number_is ∙ ap (λ (b : Bool). if b then None else Some (number_from contracts 0 t)) free in
        free_numbered contracts set t numbers next are free (next_is
        ∙ ap (λ (o : Option ℕ). added_if (has set t) o numbers) some)

pub part_more : (contracts : List Contract) (t numbers set next : ℕ) (number : Option ℕ)
    → set ≡ unsigned_part contracts t numbers → number ≡ unsigned_number contracts t
    → next ≡ toggled_if (is_among number numbers) set t → next ≡ unsigned_part contracts (t + 1) numbers
unfolding set_of
part_more contracts t numbers set next number before number_is is =
    let more : suc t ≡ t + 1 = omega arith in
    is ∙ ap₂ (λ (b : Bool) (x : ℕ). if b then toggle x t
    else x) (ap (λ (o : Option ℕ). is_among o numbers) number_is ∙ by_case (is_signed contracts t)) before
    ∙ ap (λ (n : ℕ). unsigned_part contracts n numbers) more
  where
    by_case : (b : Bool) → is_among (if b then None else Some (number_from contracts 0 t)) numbers
        ≡ (not b && has numbers (number_from contracts 0 t))
    by_case true = refl
    by_case false = refl
