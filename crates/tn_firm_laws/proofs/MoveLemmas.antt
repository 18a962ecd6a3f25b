-- Moves at two places: what they do to members, and in which order they may be made.
use Rattle.std.proofs.Common.{◌≡◌, ◌≢◌, ℕ, ◌<◌, ◌≤◌, Bool, true, false, not, refl, sym, ap, ◌∙◌, arith, if◌then◌else◌}
use Rattle.tn_base.specs.Sets.{has}
use Rattle.tn_base.proofs.SetLemmas.{has-toggle_same}
use Rattle.tn_firm_laws.specs.Places.{trade_level, level, toggle_at, move, CanRise, CanFall}
use Rattle.tn_firm_laws.proofs.SumLemmas.{one_at-other}
use Rattle.tn_firm_laws.proofs.PlaceLemmas.{level-trade, toggle_at-trade, places}
use Rattle.tn_firm_laws.proofs.KeepLemmas.{has-toggle_at}

pub move-order : (n x i j : ℕ) → move n x i j ≡ move n x j i
move-order n x i j = (places n 0).order x i j

pub move-through : (n x i j k : ℕ) → move n (move n x i j) j k ≡ move n x i k
move-through n x i j k = (places n 0).through x i j k

pub move-same : (n x i : ℕ) → move n x i i ≡ x
move-same n x i = (places n 0).same x i

-- a move made twice is undone
pub move-twice : (n x i j : ℕ) → move n (move n x i j) i j ≡ x
move-twice n x i j = ap (λ (z : ℕ). move n z i j) (move-order n x i j) ∙ move-through n x j i j ∙ move-same n x j

order_at : (n x i j : ℕ) → toggle_at n (toggle_at n x i) j ≡ toggle_at n (toggle_at n x j) i
unfolding move
order_at n x i j = (places n 0).order x i j

-- two moves may be made in either order
pub move-over : (n x i j k l : ℕ) → move n (move n x i j) k l ≡ move n (move n x k l) i j
unfolding move
move-over n x i j k l =
    ap (λ (z : ℕ). toggle_at n z l) (order_at n (toggle_at n x i) j k)
    ∙ ap (λ (z : ℕ). toggle_at n (toggle_at n z j) l) (order_at n x i k)
    ∙ order_at n (toggle_at n (toggle_at n x k) i) j l
    ∙ ap (λ (z : ℕ). toggle_at n z j) (order_at n (toggle_at n x k) i l)

-- of two moves the second place of the first may be left to the end
pub move-last : (n x i j k l : ℕ) → move n (move n x i j) k l ≡ move n (move n x i k) l j
unfolding move
move-last n x i j k l =
    ap (λ (z : ℕ). toggle_at n z l) (order_at n (toggle_at n x i) j k)
    ∙ order_at n (toggle_at n (toggle_at n x i) k) j l

-- two moves with a place in common are one of the other two places
pub move-first_again : (n x i j k : ℕ) → move n (move n x i j) i k ≡ move n x j k
move-first_again n x i j k = ap (λ (z : ℕ). move n z i k) (move-order n x i j) ∙ move-through n x j i k

pub move-first_last : (n x i j k : ℕ) → move n (move n x i j) k i ≡ move n x k j
move-first_last n x i j k = move-order n (move n x i j) k i ∙ move-first_again n x i j k ∙ move-order n x j k

-- a move changes no other member
pub has_move-other : (n x i j k : ℕ) → k ≢ i → k ≢ j → has (move n x i j) k ≡ has x k
unfolding move
has_move-other n x i j k p q = has-toggle_at n (toggle_at n x i) j k q ∙ has-toggle_at n x i k p

-- and moves the trade at its place in or out
pub has_move-first : (n x i j : ℕ) → i < n → i ≢ j → has (move n x i j) i ≡ not (has x i)
unfolding move
has_move-first n x i j p q =
    has-toggle_at n (toggle_at n x i) j i q ∙ ap (λ (z : ℕ). has z i) (toggle_at-trade n x i p) ∙ has-toggle_same x i

pub has_move-second : (n x i j : ℕ) → j < n → j ≢ i → has (move n x i j) j ≡ not (has x j)
has_move-second n x i j p q = ap (λ (z : ℕ). has z j) (move-order n x i j) ∙ has_move-first n x j i p q

-- the level of a purchase, and of a sale
pub bought_level : (n buys x k : ℕ) (b : Bool) → k < n → has buys k ≡ true → has x k ≡ b
    → level n buys x k ≡ (if b then 1 else 0)
unfolding trade_level
bought_level n buys x k b p bought is = level-trade n buys x k p ∙ rw (bought, is) refl

pub sold_level : (n buys x k : ℕ) (b : Bool) → k < n → has buys k ≡ false → has x k ≡ b
    → level n buys x k ≡ (if b then 0 else 1)
unfolding trade_level
sold_level n buys x k b p sold is = level-trade n buys x k p ∙ rw (sold, is) refl

-- a move that raises one place and lowers another keeps the level of every other
pub level_kept : (n buys x i j k : ℕ) → i ≤ n → j ≤ n → i ≢ j → CanRise n (level n buys x) i
    → CanFall n (level n buys x) j → k ≤ n → k ≢ i → k ≢ j
    → level n buys (move n x i j) k ≡ level n buys x k
level_kept n buys x i j k i_within j_within apart rise fall within p q =
    let moved = (places n buys).levels x i j k i_within j_within apart rise fall within in
    let first = one_at-other i k (λ e. p (sym e)) in
    let second = one_at-other j k (λ e. q (sym e)) in
    omega (arith, moved, first, second)
