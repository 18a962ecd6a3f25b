-- What is taxed in a bundle, counted.
use Rattle.std.proofs.Common.{◌≡◌, ℕ, zero, suc, ◌+◌, ◌*◌, ◌^◌, ◌<◌, ◌≤◌, Bool, true, false, ◌&&◌, if◌then◌else◌, Some, option_map, refl, sym, ap, ap₂, ◌∙◌, arith, ℤ, pos, negsuc, ◌+ℤ◌, ◌-ℤ◌, ◌*ℤ◌, neg_ℤ, ◌≤ℤ◌}
use Rattle.std.specs.Int.RustNames.{unsigned_abs}
use Rattle.std.proofs.lemmas.Int.{ints}
use mir.Syntax.{w128}
use mir.Val.{SFits, of_z, to_z}
use Rattle.tn_base.specs.Sets.{has, meet, size, size_below, sum_over}
use Rattle.tn_base.specs.Arcs.{IsAtMost}
use Rattle.tn_base.specs.Firm.{Firm}
use Rattle.tn_base.proofs.SetLemmas.{has-meet, meet_within}
use Rattle.tn_base.proofs.SizeLemmas.{size_at}
use Rattle.tn_base.proofs.SumLemmas.{times-plus}
use Rattle.tn_firm_laws.proofs.BoundLemmas.{small_abs, times_small}
use Rattle.tn_market.specs.Levied.{levy, levied, levied_limit, IsLevy}
use Rattle.tn_market.specs.Widths.{most_limit}

-- the tax is due once for each taxed position
levy_below : (taxed n x : ℕ) (tax : ℤ) → sum_over (levy taxed tax) n x
    ≡ neg_ℤ (tax *ℤ pos (size_below n (meet x taxed)))
unfolding sum_over size_below
levy_below taxed zero x tax = nothing (tax *ℤ pos 0) (omega (arith, ints))
  where
    nothing : (z : ℤ) → z ≡ pos 0 → pos 0 ≡ neg_ℤ z
    nothing z e = omega (arith, ints, e)
levy_below taxed (suc n) x tax =
    let rest = levy_below taxed n x tax in
    let member = has-meet x taxed n in
    next (has x n) (has taxed n) (has (meet x taxed) n) member (size_below n (meet x taxed))
    (sum_over (levy taxed tax) n x) rest
  where
    next : (h t m : Bool) → m ≡ (h && t) → (k : ℕ) (s : ℤ) → s ≡ neg_ℤ (tax *ℤ pos k)
        → s +ℤ (if h then (if t then neg_ℤ tax else pos 0) else pos 0) ≡ neg_ℤ (tax *ℤ pos (k + (if m then 1 else 0)))
    next true true m is k s rest =
        let more : pos (k + (if m then 1 else 0)) ≡ pos k +ℤ pos 1 =
        ap (λ (b : Bool). pos (k + (if b then 1 else 0))) is ∙ omega (arith, ints) in
        let product = ap (λ (z : ℤ). tax *ℤ z) more ∙ times-plus tax (pos k) (pos 1) in
        let one : tax *ℤ pos 1 ≡ tax = omega (arith, ints) in
        add s _ _ _ tax rest product one
      where
        add : (s a b c tax : ℤ) → s ≡ neg_ℤ a → b ≡ a +ℤ c → c ≡ tax → s +ℤ neg_ℤ tax ≡ neg_ℤ b
        add s a b c tax rest product one = omega (arith, ints, rest, product, one)
    next true false m is k s rest = same m is k s rest
      where
        same : (m : Bool) → m ≡ false → (k : ℕ) (s : ℤ) → s ≡ neg_ℤ (tax *ℤ pos k)
            → s +ℤ pos 0 ≡ neg_ℤ (tax *ℤ pos (k + (if m then 1 else 0)))
        same m is k s rest =
            let product : tax *ℤ pos (k + (if m then 1 else 0)) ≡ tax *ℤ pos k =
            ap (λ (b : Bool). tax *ℤ pos (k + (if b then 1 else 0))) is ∙ ap (λ (i : ℕ). tax *ℤ pos i) (omega arith)
            in
            add s _ _ rest product
          where
            add : (s a b : ℤ) → s ≡ neg_ℤ a → b ≡ a → s +ℤ pos 0 ≡ neg_ℤ b
            add s a b rest product = omega (arith, ints, rest, product)
    next false t m is k s rest = same m is k s rest
      where
        same : (m : Bool) → m ≡ false → (k : ℕ) (s : ℤ) → s ≡ neg_ℤ (tax *ℤ pos k)
            → s +ℤ pos 0 ≡ neg_ℤ (tax *ℤ pos (k + (if m then 1 else 0)))
        same m is k s rest =
            let product : tax *ℤ pos (k + (if m then 1 else 0)) ≡ tax *ℤ pos k =
            ap (λ (b : Bool). tax *ℤ pos (k + (if b then 1 else 0))) is ∙ ap (λ (i : ℕ). tax *ℤ pos i) (omega arith)
            in
            add s _ _ rest product
          where
            add : (s a b : ℤ) → s ≡ neg_ℤ a → b ≡ a → s +ℤ pos 0 ≡ neg_ℤ b
            add s a b rest product = omega (arith, ints, rest, product)

pub levy_is : (taxed n x : ℕ) (tax : ℤ) → x < 2 ^ n
    → sum_over (levy taxed tax) n x ≡ neg_ℤ (tax *ℤ pos (size (meet x taxed)))
levy_is taxed n x tax below = levy_below taxed n x tax
    ∙ ap (λ (k : ℕ). neg_ℤ (tax *ℤ pos k)) (sym (size_at n (meet x taxed) (meet_within x taxed n below)))

-- so the levied worth of a possible bundle is its worth, scaled, less the taxes
pub levied_is : (scale tax : ℤ) (taxed : ℕ) (firm : Firm) (x count : ℕ) (worth : ℤ) → x < 2 ^ firm.count
    → firm.worth x ≡ Some worth → count ≡ size (meet x taxed)
    → (levied scale taxed tax firm).worth x ≡ Some (scale *ℤ worth -ℤ tax *ℤ pos count)
levied_is scale tax taxed firm x count worth below is counted =
    ap (option_map (λ a. scale *ℤ a +ℤ sum_over (levy taxed tax) firm.count x)) is
    ∙ ap (λ (z : ℤ). Some z) (less (scale *ℤ worth) _ _ (levy_is taxed firm.count x tax below
    ∙ ap (λ (k : ℕ). neg_ℤ (tax *ℤ pos k)) (sym counted)))
  where
    less : (a s b : ℤ) → s ≡ neg_ℤ b → a +ℤ s ≡ a -ℤ b
    less a s b e = omega (arith, ints, e)

-- and both parts are within the limit
pub scaled_within : (scale tax worth : ℤ) (limit : ℕ) → IsLevy scale tax limit → IsAtMost worth limit
    → IsAtMost (scale *ℤ worth) most_limit
scaled_within scale tax worth limit is small =
    let product =
    times_small scale worth (unsigned_abs scale) limit (small_abs scale (unsigned_abs scale) (omega arith)) small in
    within (scale *ℤ worth) (unsigned_abs scale * limit) (64 * unsigned_abs tax) product is.small
  where
    within : (z : ℤ) (m n : ℕ) → IsAtMost z m → m + n ≤ most_limit → IsAtMost z most_limit
    within z m n small sum = record {
      low = omega (arith, ints, small.low, sum);
      high =
          omega (arith, ints, small.high, sum);
    }

pub taxes_within : (scale tax : ℤ) (limit count : ℕ) → IsLevy scale tax limit → count ≤ 64
    → IsAtMost (tax *ℤ pos count) most_limit
taxes_within scale tax limit count is few =
    let product =
    times_small tax (pos count) (unsigned_abs tax) 64 (small_abs tax (unsigned_abs tax) (omega arith))
    (record { low = omega (arith, ints, few); high = omega (arith, ints, few) }) in
    within (tax *ℤ pos count) (unsigned_abs scale * limit) (unsigned_abs tax * 64) (64 * unsigned_abs tax) product
    is.small (omega arith)
  where
    within : (z : ℤ) (m n n' : ℕ) → IsAtMost z n → m + n' ≤ most_limit → n ≡ n' → IsAtMost z most_limit
    within z m n n' small sum same = record {
      low = omega (arith, ints, small.low, sum, same);
      high =
          omega (arith, ints, small.high, sum, same);
    }

-- what the code computes
pub difference_fits : (a b : ℤ) → IsAtMost a most_limit → IsAtMost b most_limit
    → SFits w128 (to_z w128 (of_z w128 a) -ℤ to_z w128 (of_z w128 b))
difference_fits a b first second = omega (arith, ints, first.low, first.high, second.low, second.high)

pub difference_is : (a b : ℤ) → IsAtMost a most_limit → IsAtMost b most_limit
    → to_z w128 (of_z w128 (to_z w128 (of_z w128 a) -ℤ to_z w128 (of_z w128 b))) ≡ a -ℤ b
difference_is a b first second = omega (arith, ints, first.low, first.high, second.low, second.high)

-- the bound of the levied firm has two parts, neither below 0
pub record AreParts (scaled taxes : ℤ) (limit : ℕ) : Type 0 where
  pub scaled_least : pos 0 ≤ℤ scaled
  pub taxes_least : pos 0 ≤ℤ taxes
  pub sum : scaled +ℤ taxes ≡ pos limit
  pub small : limit ≤ most_limit

pub parts_of : (scale tax worth : ℤ) → pos 0 ≤ℤ worth → IsLevy scale tax (unsigned_abs worth)
    → AreParts (scale *ℤ worth) (pos 64 *ℤ tax) (levied_limit scale tax (unsigned_abs worth))
parts_of scale tax worth bound is =
    let scaled = ap₂ (λ (x y : ℤ). x *ℤ y) (is_size scale (omega (arith, ints, is.from_one))) (is_size worth bound) in
    let taxes = ap (λ (z : ℤ). pos 64 *ℤ z) (is_size tax is.from_zero) in
    parts (scale *ℤ worth) (pos 64 *ℤ tax) (unsigned_abs scale * unsigned_abs worth) (64 * unsigned_abs tax) scaled
    taxes is.small
  where
    is_size : (z : ℤ) → pos 0 ≤ℤ z → z ≡ pos (unsigned_abs z)
    is_size (pos n) least = refl
    is_size (negsuc n) least = absurd (omega (arith, ints, least))

    parts : (a b : ℤ) (m n : ℕ) → a ≡ pos m → b ≡ pos n → m + n ≤ most_limit → AreParts a b (m + n)
    parts a b m n first second small = record {
      scaled_least = omega (arith, ints, first);
      taxes_least = omega (arith, ints, second);
      sum = omega (arith, ints, first, second);
      small = small;
    }

pub scaled_fits : (a b : ℤ) (limit : ℕ) → AreParts a b limit → SFits w128 a
scaled_fits a b limit parts = omega (arith, ints, parts.scaled_least, parts.taxes_least, parts.sum, parts.small)

pub taxes_fit : (a b : ℤ) (limit : ℕ) → AreParts a b limit → SFits w128 b
taxes_fit a b limit parts = omega (arith, ints, parts.scaled_least, parts.taxes_least, parts.sum, parts.small)

pub sum_fits : (a b : ℤ) (limit : ℕ) → AreParts a b limit
    → SFits w128 (to_z w128 (of_z w128 a) +ℤ to_z w128 (of_z w128 b))
sum_fits a b limit parts = omega (arith, ints, parts.scaled_least, parts.taxes_least, parts.sum, parts.small)

pub sum_is : (a b : ℤ) (limit : ℕ) → AreParts a b limit
    → to_z w128 (of_z w128 (to_z w128 (of_z w128 a) +ℤ to_z w128 (of_z w128 b))) ≡ pos limit
sum_is a b limit parts = omega (arith, ints, parts.scaled_least, parts.taxes_least, parts.sum, parts.small)
