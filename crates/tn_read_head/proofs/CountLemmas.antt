-- The counts of own trades, with one trade more.
use Rattle.std.proofs.Common.{◌≡◌, ℕ, ◌+◌, ◌<◌, ◌≤◌, List, [], ◌∷◌, ◌++◌, length, Option, Some, None, ap, ◌∙◌, arith, get_or}
use Rattle.std.proofs.Common.{replicate}
use Rattle.std.specs.List.{cons_option}
use Rattle.std.proofs.lemmas.List.{length-replicate, get_or-replicate}
use Rattle.tn_model.proofs.InOrderLemmas.{sides_of-none}
use Rattle.tn_base.specs.declared.side.Side.{Side}
use Rattle.tn_model.specs.declared.ends.Ends.{Ends}
use Rattle.tn_model.specs.InOrder.{side_in, sides_of}
use Rattle.tn_read_head.specs.Counts.{AreOwnCounts, one_if}

with_front : (first : Option Side) (sides : List Side) → length (cons_option first sides) ≡ length sides + one_if first
with_front None sides = omega arith
with_front (Some side) sides = omega arith

-- a trade counts once at each of its firms
pub one_more : (f : ℕ) (es : List Ends) (e : Ends)
    → length (sides_of (es ++ e ∷ []) f) ≡ length (sides_of es f) + one_if (side_in f e)
unfolding sides_of
one_more f [] e = with_front (side_in f e) []
one_more f (x ∷ es) e =
    let front = with_front (side_in f x) (sides_of (es ++ e ∷ []) f) in
    let alone = with_front (side_in f x) (sides_of es f) in
    let rest = one_more f es e in
    omega (arith, front, alone, rest)

at_most_one : (next : Option Side) → one_if next ≤ 1
at_most_one None = omega arith
at_most_one (Some side) = omega arith

-- a firm has no more own trades than there are trades
pub few_own : (f : ℕ) (es : List Ends) → length (sides_of es f) ≤ length es
unfolding sides_of
few_own f [] = omega arith
few_own f (x ∷ es) =
    let front = with_front (side_in f x) (sides_of es f) in
    let one = at_most_one (side_in f x) in
    let rest = few_own f es in
    omega (arith, front, one, rest)

same_at : (n f x : ℕ) → f < n → get_or (replicate n x) f x ≡ x
same_at n f x below = get_or-replicate n f x x below

-- without trades no firm has an own one, whatever number it has in a list of zeros
pub none_yet : (firms : ℕ) → AreOwnCounts firms [] (replicate firms 0)
none_yet firms = record {
  counted = length-replicate firms 0;
  each = λ f below.
      let zero = same_at firms f 0 below in
      let none = ap length (sides_of-none f) in
      omega (arith, zero, none);
}

-- the counts after one trade more
pub counted_next : (firms : ℕ) (es : List Ends) (e : Ends) (before after : List ℕ) → AreOwnCounts firms es before
    → length after ≡ length before
    → ((f : ℕ) → get_or after f 0 ≡ get_or before f 0 + one_if (side_in f e))
    → AreOwnCounts firms (es ++ e ∷ []) after
counted_next firms es e before after counts long each = record {
  counted = long ∙ counts.counted;
  each = λ f below.
      let next = one_more f es e in
      let was = counts.each f below in
      let now = each f in
      omega (arith, next, was, now);
}

-- each is below a number of trades that there are fewer of
pub few_counted : (firms most : ℕ) (es : List Ends) (counts : List ℕ) → AreOwnCounts firms es counts
    → length es < most → (f : ℕ) → f < length counts → get_or counts f 0 < most
few_counted firms most es counts own few f below =
    let number = own.counted in
    let is = own.each f (omega (arith, below, number)) in
    let no_more = few_own f es in
    omega (arith, is, no_more, few)
