-- What the masks of a set count.
use Rattle.std.proofs.Common.{◌≡◌, ℕ, Bool, true, false, not, ◌&&◌, refl, sym, ap, ◌∙◌, pos, ◌-ℤ◌}
use Rattle.tn_base.specs.Sets.{has, meet, minus, size}
use Rattle.tn_base.specs.Firm.{net}
use Rattle.tn_base.proofs.SetLemmas.{same_set, has-meet, has-minus}
use Rattle.tn_laminar.specs.Masked.{masks_of, net_within}

meet-purchases : (x q buys : ℕ) → meet x (meet q buys) ≡ meet (meet x q) buys
meet-purchases x q buys = same_set _ _ (λ k.
    has-meet x (meet q buys) k ∙ ap (λ b. has x k && b) (has-meet q buys k)
    ∙ by (has x k) (has q k) (has buys k)
    ∙ ap (λ b. b && has buys k) (sym (has-meet x q k)) ∙ sym (has-meet (meet x q) buys k))
  where
    by : (a b c : Bool) → (a && (b && c)) ≡ ((a && b) && c)
    by true b c = refl
    by false b c = refl

meet-sales : (x q buys : ℕ) → meet x (minus q buys) ≡ minus (meet x q) buys
meet-sales x q buys = same_set _ _ (λ k.
    has-meet x (minus q buys) k ∙ ap (λ b. has x k && b) (has-minus q buys k)
    ∙ by (has x k) (has q k) (not (has buys k))
    ∙ ap (λ b. b && not (has buys k)) (sym (has-meet x q k)) ∙ sym (has-minus (meet x q) buys k))
  where
    by : (a b c : Bool) → (a && (b && c)) ≡ ((a && b) && c)
    by true b c = refl
    by false b c = refl

-- the count by masks is the net count within the set
pub net_within_is : (buys members x : ℕ) → net_within (masks_of buys members) x ≡ net buys (meet x members)
unfolding net
net_within_is buys members x =
    ap (λ (z : ℕ). pos (size z) -ℤ pos (size (meet x (minus members buys)))) (meet-purchases x members buys)
    ∙ ap (λ (z : ℕ). pos (size (meet (meet x members) buys)) -ℤ pos (size z)) (meet-sales x members buys)
