-- Keys of walks, and the waiting node whose key comes first.
use Rattle.std.proofs.Common.{◌≡◌, ℕ, ◌≤◌, sym, ◌∙◌, arith, inl, inr, ℤ, ◌+ℤ◌, ◌-ℤ◌, Option, Some, Bool}
use Rattle.std.proofs.lemmas.Int.{ints}
use Rattle.std.proofs.lemmas.Option.{same_Some}
use Rattle.tn_cycle.specs.declared.cell.Cell.{Cell}
use Rattle.tn_cycle.specs.declared.kept.Sought.{Sought}
use Rattle.tn_cycle.specs.declared.kept.Sought.TheVariants as seek
use Rattle.tn_cycle.specs.Kept.{AllArePast, ComesFirst, HasBy, IsNotAfter, IsPast}

pub not_after_itself : (a : ℤ) (m : ℕ) → IsNotAfter a m a m
not_after_itself a m = (omega (arith, ints), λ back. omega arith)

pub not_after-trans : (a : ℤ) (m : ℕ) (b : ℤ) (n : ℕ) (c : ℤ) (k : ℕ) → IsNotAfter a m b n → IsNotAfter b n c k
    → IsNotAfter a m c k
not_after-trans a m b n c k p q = (
  omega (arith, ints, p.0, q.0),
  λ back.
      let one : m ≤ n = p.1 (omega (arith, ints, q.0, back)) in
      let two : n ≤ k = q.1 (omega (arith, ints, p.0, back)) in
      omega (arith, one, two),
)

pub has_by-more : (own : Cell) (a : ℤ) (m : ℕ) (b : ℤ) (n : ℕ) → HasBy own a m → IsNotAfter a m b n → HasBy own b n
has_by-more own a m b n has after = record {
  least = has.least;
  is = has.is;
  before =
      not_after-trans has.least own.inner_nodes a m b n has.before after;
}

pub has_by_own : (own : Cell) (cost : ℤ) → own.cost ≡ Some cost → HasBy own cost own.inner_nodes
has_by_own own cost is = record { least = cost; is = is; before = not_after_itself cost own.inner_nodes }

-- the same walk's cost, found twice
pub same_cost : (o : Option ℤ) (a b : ℤ) → o ≡ Some a → o ≡ Some b → a ≡ b
same_cost o a b p q = same_Some a b (sym p ∙ q)

-- what isn't sought isn't where it comes later
pub past-more : (sought : Sought) (own : Cell) (a : ℤ) (m : ℕ) (b : ℤ) (n : ℕ) → IsPast sought own a m
    → IsNotAfter a m b n → IsPast sought own b n
past-more seek.Walks own a m b n past after = past
past-more (seek.Cycle cap) own a m b n (inl has) after = inl (has_by-more own a m b n has after)
past-more (seek.Cycle cap) own a m b n (inr capped) after =
    inr (capped.0, capped.1, omega (arith, ints, capped.2, after.0))

-- where the first of the waiting nodes is past, all are
pub past_all : (nodes : ℕ) (base : ℤ) (sought : Sought) (label : ℕ → ℤ) (cell : ℕ → Cell) (own : Cell) (waits : ℕ
    → Bool) (u : ℕ) (key : ℤ) (inner_nodes : ℕ)
    → ComesFirst nodes label cell waits u key inner_nodes → IsPast sought own (key -ℤ base) inner_nodes
    → AllArePast nodes base sought label cell own waits
past_all nodes base sought label cell own waits u key inner_nodes first past v w inside waiting is =
    let after = first.first v w inside waiting is in
    past-more sought own (key -ℤ base) inner_nodes ((w +ℤ label v) -ℤ base) (cell v).inner_nodes past (
      omega (arith, ints, after.0),
      λ back. after.1 (omega (arith, ints, back)),
    )
