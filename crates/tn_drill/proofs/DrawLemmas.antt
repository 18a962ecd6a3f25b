-- What is drawn, trade after trade.
use Rattle.std.proofs.Common.{◌≡◌, ℕ, zero, suc, ◌+◌, ◌*◌, ◌/◌, ◌%◌, ◌<◌, ◌≤◌, ◌==◌, Bool, true, false, if◌then◌else◌, [], ◌∷◌, ◌++◌, length, refl, sym, ap, ◌∙◌, subst, arith, lit<, add-one, length-append}
use Rattle.std.specs.Prelude.{All}
use Rattle.std.proofs.lemmas.Nat.{mod_below}
use Rattle.std.proofs.lemmas.List.Elements.{All-nil, All-cons, All-append}
use Rattle.std.proofs.lemmas.List.FromFn.{map-range_with_len_more}
use Rattle.tn_drill.specs.Draws.{most_drilled, IsWithin, drawn, number_below, state_after}
use Rattle.tn_drill.specs.Drill.{drawn_ends, draws_of, ends_after}

pub drawn_within : (start i : ℕ) → i < most_drilled → IsWithin (drawn start i)
drawn_within start i below = record {
  trade = below;
  step = mod_below (state_after start (3 * i + 1) / 65536) 2 (lit< tt);
  amount = by (i % 2 == 0);
  number = mod_below (state_after start (3 * i + 3) / 65536) 10 (lit< tt);
}
  where
    by : (even : Bool) → number_below (if even then 50 else 100) (state_after start (3 * i + 2)) < 100
    by true = let less = mod_below (state_after start (3 * i + 2) / 65536) 50 (lit< tt) in omega (arith, less)
    by false = mod_below (state_after start (3 * i + 2) / 65536) 100 (lit< tt)

-- one trade more
pub draws_more : (start size : ℕ) → draws_of start (size + 1) ≡ draws_of start size ++ drawn start size ∷ []
draws_more start size = map-range_with_len_more (drawn start) 0 size size (omega arith)

pub trades_more : (start size : ℕ) → drawn_ends start (size + 1) ≡ drawn_ends start size
    ++ ends_after (drawn_ends start size) (drawn start size) ∷ []
trades_more start size = ap (drawn_ends start) (add-one size)

pub trades_counted : (start size : ℕ) → length (drawn_ends start size) ≡ size
trades_counted start zero = refl
trades_counted start (suc size) =
    let before = trades_counted start size in
    let more = length-append (drawn_ends start size) (ends_after (drawn_ends start size) (drawn start size) ∷ []) in
    omega (arith, before, more)

pub draws_within : (start size : ℕ) → size ≤ most_drilled → All IsWithin (draws_of start size)
draws_within start zero few = All-nil IsWithin
draws_within start (suc size) few =
    subst (All IsWithin) (sym (ap (draws_of start) (sym (add-one size)) ∙ draws_more start size))
    (All-append IsWithin (draws_of start size) (drawn start size ∷ []) (draws_within start size (omega (arith, few)))
    (All-cons IsWithin (drawn start size) [] (drawn_within start size (omega (arith, few))) (All-nil IsWithin)))
