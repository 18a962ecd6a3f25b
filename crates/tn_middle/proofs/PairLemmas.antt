-- What a middleman's bundles are worth, bundle by bundle.
use Rattle.std.proofs.Common.{◌≡◌, ◌≢◌, ℕ, zero, suc, ◌+◌, ◌^◌, ◌<◌, ◌≤◌, Bool, true, false, not, ◌&&◌, refl, sym, ap, ◌∙◌, arith, inl, inr, ◌⊎◌, if◌then◌else◌, List, length, Option, Some, None, ℤ, ◌+ℤ◌, ◌-ℤ◌, neg_ℤ}
use Rattle.std.specs.Prelude.{option_map}
use Rattle.std.proofs.lemmas.Int.{ints}
use Rattle.std.proofs.lemmas.Nat.{pow_pos}
use Rattle.std.proofs.lemmas.Bool.{lt-ltb, cases_Bool, cases_lt, le-ltb, false≢true}
use Rattle.std.proofs.lemmas.Option.{none-some}
use Rattle.tn_base.specs.Sets.{has, toggle, meet, minus, size, size_below, sum_over}
use Rattle.tn_base.specs.Firm.{payments}
use Rattle.tn_base.specs.Table.{buys_of}
use Rattle.tn_base.proofs.SetLemmas.{has-meet, has-minus, has-zero, has-toggle_other, has_below, toggle_within, toggle-toggle, toggle_comm}
use Rattle.tn_base.proofs.SizeLemmas.{size-zero, size-toggle_in, size-toggle_out}
use Rattle.tn_base.proofs.SumLemmas.{sum_over-empty, sum_over-toggle_in}
use Rattle.tn_base.proofs.FirmLemmas.{meet-toggle_in, meet-toggle_out, minus-toggle_in, minus-toggle_out}
use Rattle.tn_middle.specs.Pairs.{by_counts, pair_worth, pairing}
use Rattle.tn_market.specs.OwnNumbers.{own_number}
use Rattle.tn_middle.specs.PairLaw.{IsOnePurchase, IsPair, MiddlemenPair}
use Rattle.tn_middle.specs.SetLemmas.{empty_from_counts}
use Rattle.tn_middle.specs.LawLemmas.{pairing-empty, meet-none, minus-none}

both_true : (a b : Bool) → (a && b) ≡ true → (a ≡ true) × (b ≡ true)
both_true true b e = (refl, e)
both_true false b e = absurd (false≢true e)

not_true : (b : Bool) → not b ≡ true → b ≡ false
not_true true e = absurd (false≢true e)
not_true false e = refl

-- ---- from a bundle to its worth

-- a bundle of own positions is worth what its counts say
worth_by_counts : (count buys : ℕ) (numbers : List ℤ) (keep : Option ℤ) (x p s : ℕ) (balance : ℤ) → x < 2 ^ count
    → size (meet x buys) ≡ p → size (minus x buys) ≡ s → sum_over (payments buys (own_number numbers)) count x ≡ balance
    → pair_worth count buys numbers keep x ≡ by_counts p s keep balance
worth_by_counts count buys numbers keep x p s balance own p_is s_is balance_is =
    ap (λ b. if b
    then by_counts (size (meet x buys)) (size (minus x buys)) keep
    (sum_over (payments buys (own_number numbers)) count x) else None) (lt-ltb x (2 ^ count) own)
    ∙ ap (λ (n : ℕ). by_counts n (size (minus x buys)) keep (sum_over (payments buys (own_number numbers)) count x)) p_is
    ∙ ap (λ (n : ℕ). by_counts p n keep (sum_over (payments buys (own_number numbers)) count x)) s_is
    ∙ ap (by_counts p s keep) balance_is

-- the cost of a purchase, and the gain of a sale
payment-bought : (buys : ℕ) (numbers : List ℤ) (k : ℕ) → has buys k ≡ true
    → payments buys (own_number numbers) k ≡ neg_ℤ (own_number numbers k)
payment-bought buys numbers k e = ap (λ b. if b then neg_ℤ (own_number numbers k) else own_number numbers k) e

payment-sold : (buys : ℕ) (numbers : List ℤ) (k : ℕ) → has buys k ≡ false
    → payments buys (own_number numbers) k ≡ own_number numbers k
payment-sold buys numbers k e = ap (λ b. if b then neg_ℤ (own_number numbers k) else own_number numbers k) e

-- one purchase
one_purchases : (buys b : ℕ) → has buys b ≡ true → size (meet (toggle 0 b) buys) ≡ 1
one_purchases buys b bought =
    let more = size-toggle_in 0 b (has-zero b) in
    let none = size-zero in
    ap size (meet-toggle_in 0 buys b bought ∙ ap (λ (z : ℕ). toggle z b) (meet-none buys)) ∙ omega (arith, more, none)

one_sales : (buys b : ℕ) → has buys b ≡ true → size (minus (toggle 0 b) buys) ≡ 0
one_sales buys b bought = ap size (minus-toggle_out 0 buys b bought ∙ minus-none buys) ∙ size-zero

one_balance : (count buys : ℕ) (numbers : List ℤ) (b : ℕ) → b < count → has buys b ≡ true
    → sum_over (payments buys (own_number numbers)) count (toggle 0 b) ≡ neg_ℤ (own_number numbers b)
one_balance count buys numbers b own bought =
    let more = sum_over-toggle_in (payments buys (own_number numbers)) count 0 b own (has-zero b) in
    let none = sum_over-empty (payments buys (own_number numbers)) count in
    let cost = payment-bought buys numbers b bought in
    omega (arith, ints, more, none, cost)

kept_of : (count buys : ℕ) (numbers : List ℤ) (keep : Option ℤ) (b : ℕ) → b < count → has buys b ≡ true
    → pair_worth count buys numbers keep (toggle 0 b) ≡ option_map (λ number. number -ℤ own_number numbers b) keep
kept_of count buys numbers keep b own bought =
    worth_by_counts count buys numbers keep (toggle 0 b) 1 0 (neg_ℤ (own_number numbers b))
    (toggle_within 0 b count (pow_pos count) own)
    (one_purchases buys b bought) (one_sales buys b bought) (one_balance count buys numbers b own bought)
    ∙ by keep
  where
    by : (o : Option ℤ) → option_map (λ number. number +ℤ neg_ℤ (own_number numbers b)) o
        ≡ option_map (λ number. number -ℤ own_number numbers b) o
    by None = refl
    by (Some number) = let e : number +ℤ neg_ℤ (own_number numbers b) ≡ number -ℤ own_number numbers b =
        omega (arith, ints) in ap Some e

-- one purchase and one sale
absent_sale : (buys b s : ℕ) → has buys b ≡ true → has buys s ≡ false → has (toggle 0 b) s ≡ false
absent_sale buys b s bought sold =
    has-toggle_other 0 b s (λ e. false≢true (sym sold ∙ ap (has buys) e ∙ bought)) ∙ has-zero s

paired_of : (count buys : ℕ) (numbers : List ℤ) (keep : Option ℤ) (b s : ℕ) → b < count → has buys b ≡ true → s < count
    → has buys s ≡ false
    → pair_worth count buys numbers keep (toggle (toggle 0 b) s) ≡ Some (own_number numbers s -ℤ own_number numbers b)
paired_of count buys numbers keep b s b_own bought s_own sold =
    let own = toggle_within 0 b count (pow_pos count) b_own in
    let more = sum_over-toggle_in (payments buys (own_number numbers)) count (toggle 0 b) s s_own
    (absent_sale buys b s bought sold) in
    let one = one_balance count buys numbers b b_own bought in
    let gain = payment-sold buys numbers s sold in
    let sale = size-toggle_in 0 s (has-zero s) in
    let none = size-zero in
    worth_by_counts count buys numbers keep (toggle (toggle 0 b) s) 1 1 (own_number numbers s -ℤ own_number numbers b)
    (toggle_within (toggle 0 b) s count own s_own)
    (ap size (meet-toggle_out (toggle 0 b) buys s sold) ∙ one_purchases buys b bought)
    (ap size (minus-toggle_in (toggle 0 b) buys s sold ∙ ap (λ (z : ℕ). toggle z s) (minus-toggle_out 0 buys b bought
    ∙ minus-none buys)) ∙ omega (arith, sale, none))
    (omega (arith, ints, more, one, gain))

-- ---- from a worth to the bundle

-- a set with a member has one below its number
member_below : (n x : ℕ) → 1 ≤ size_below n x → (k : ℕ) × (has x k ≡ true)
unfolding size_below
member_below zero x more = absurd (omega (arith, more))
member_below (suc n) x more = elim (cases_Bool (has x n)) [
  | inl e ↦ (n, e)
  | inr e ↦
      let same : size_below n x + (if has x n then 1 else 0) ≡ size_below n x + 0 =
      ap (λ b. size_below n x + (if b then 1 else 0)) e in
      member_below n x (omega (arith, more, same))
]

member_of : (x : ℕ) → size x ≡ 1 → (k : ℕ) × (has x k ≡ true)
unfolding size
member_of x one = member_below x x (omega (arith, one))

-- without its one purchase a bundle has none
purchases_left : (x buys k : ℕ) → has buys k ≡ true → has x k ≡ true → size (meet x buys) ≡ 1
    → size (meet (toggle x k) buys) ≡ 0
purchases_left x buys k bought there one =
    let fewer = size-toggle_out (meet x buys) k (has-meet x buys k ∙ ap (λ b. b && has buys k) there ∙ bought) in
    ap size (meet-toggle_in x buys k bought) ∙ omega (arith, fewer, one)

sales_left : (x buys k : ℕ) → has buys k ≡ false → has x k ≡ true → size (minus x buys) ≡ 1
    → size (minus (toggle x k) buys) ≡ 0
sales_left x buys k sold there one =
    let fewer = size-toggle_out (minus x buys) k (has-minus x buys k ∙ ap (λ b. b && not (has buys k)) there
    ∙ ap not sold) in
    ap size (minus-toggle_in x buys k sold) ∙ omega (arith, fewer, one)

one_of : (count buys : ℕ) (numbers : List ℤ) (keep : Option ℤ) (x : ℕ) → x < 2 ^ count → size (meet x buys) ≡ 1
    → size (minus x buys) ≡ 0
    → IsOnePurchase (pairing count buys numbers keep) x
one_of count buys numbers keep x own one none =
    let member = member_of (meet x buys) one in
    let parts = both_true (has x member.0) (has buys member.0) (sym (has-meet x buys member.0) ∙ member.1) in
    let left = empty_from_counts (toggle x member.0) buys (purchases_left x buys member.0 parts.1 parts.0 one)
    (ap size (minus-toggle_out x buys member.0 parts.1) ∙ none) in
    record {
      at = member.0;
      purchase = record { own = has_below x count member.0 own parts.0; bought = parts.1 };
      is = sym (toggle-toggle x member.0) ∙ ap (λ (z : ℕ). toggle z member.0) left;
    }

pair_of : (count buys : ℕ) (numbers : List ℤ) (keep : Option ℤ) (x : ℕ) → x < 2 ^ count → size (meet x buys) ≡ 1
    → size (minus x buys) ≡ 1
    → IsPair (pairing count buys numbers keep) x
pair_of count buys numbers keep x own one one_sale =
    let member = member_of (meet x buys) one in
    let parts = both_true (has x member.0) (has buys member.0) (sym (has-meet x buys member.0) ∙ member.1) in
    let other = member_of (minus x buys) one_sale in
    let sides = both_true (has x other.0) (not (has buys other.0)) (sym (has-minus x buys other.0) ∙ other.1) in
    let sold = not_true (has buys other.0) sides.1 in
    let apart : other.0 ≢ member.0 = (λ e. false≢true (sym sold ∙ ap (has buys) e ∙ parts.1)) in
    let still = has-toggle_other x member.0 other.0 apart ∙ sides.0 in
    let left = empty_from_counts (toggle (toggle x member.0) other.0) buys
    (ap size (meet-toggle_out (toggle x member.0) buys other.0 sold)
    ∙ purchases_left x buys member.0 parts.1 parts.0 one)
    (sales_left (toggle x member.0) buys other.0 sold still (ap size (minus-toggle_out x buys member.0 parts.1)
    ∙ one_sale)) in
    record {
      from = member.0;
      to = other.0;
      purchase = record { own = has_below x count member.0 own parts.0; bought = parts.1 };
      sale = record { own = has_below x count other.0 own sides.0; sold = sold };
      is =
          sym (toggle-toggle x member.0)
          ∙ ap (λ (z : ℕ). toggle z member.0) (sym (toggle-toggle (toggle x member.0) other.0)
          ∙ ap (λ (z : ℕ). toggle z other.0) left)
          ∙ toggle_comm 0 other.0 member.0;
    }

only_of : (count buys : ℕ) (numbers : List ℤ) (keep : Option ℤ) (x : ℕ) (a : ℤ)
    → pair_worth count buys numbers keep x ≡ Some a
    → (x ≡ 0) ⊎ (IsOnePurchase (pairing count buys numbers keep) x ⊎ IsPair (pairing count buys numbers keep) x)
only_of count buys numbers keep x a is = elim (cases_lt x (2 ^ count)) [
  | inr above ↦
      absurd (none-some a
      (sym (ap (λ b. if b
      then by_counts (size (meet x buys)) (size (minus x buys)) keep
      (sum_over (payments buys (own_number numbers)) count x) else None)
      (le-ltb x (2 ^ count) above)) ∙ is))
  | inl own ↦ by own (size (meet x buys)) (size (minus x buys)) refl refl
      (sym (ap (λ b. if b
      then by_counts (size (meet x buys)) (size (minus x buys)) keep
      (sum_over (payments buys (own_number numbers)) count x) else None)
      (lt-ltb x (2 ^ count) own)) ∙ is)
]
  where
    by : x < 2 ^ count → (p s : ℕ) → size (meet x buys) ≡ p → size (minus x buys) ≡ s
        → by_counts p s keep (sum_over (payments buys (own_number numbers)) count x) ≡ Some a
        → (x ≡ 0) ⊎ (IsOnePurchase (pairing count buys numbers keep) x ⊎ IsPair (pairing count buys numbers keep) x)
    by own zero zero p_is s_is e = inl (empty_from_counts x buys p_is s_is)
    by own zero (suc s) p_is s_is e = absurd (none-some a e)
    by own (suc zero) zero p_is s_is e = inr (inl (one_of count buys numbers keep x own p_is s_is))
    by own (suc zero) (suc zero) p_is s_is e = inr (inr (pair_of count buys numbers keep x own p_is s_is))
    by own (suc zero) (suc (suc s)) p_is s_is e = absurd (none-some a e)
    by own (suc (suc p)) s p_is s_is e = absurd (none-some a e)

pub middlemen-pair : MiddlemenPair
middlemen-pair sides numbers keep = record {
  none = pairing-empty (length sides) (buys_of sides) numbers keep;
  kept = λ b purchase. kept_of (length sides) (buys_of sides) numbers keep b purchase.own purchase.bought;
  paired = λ b s purchase sale. paired_of (length sides) (buys_of sides) numbers keep b s purchase.own purchase.bought
      sale.own sale.sold;
  only = only_of (length sides) (buys_of sides) numbers keep;
}
