-- A number as machine words, lowest first.
use Rattle.std.specs.Prelude.{◌≡◌, ℕ, zero, suc, ◌+◌, ◌*◌, ◌/◌, ◌%◌, ◌^◌, ◌<◌, List, [], ◌∷◌, length, get_or}

-- the number that the words make together
unfoldable pub joined : List ℕ → ℕ
joined [] = 0
joined (limb ∷ limbs) = joined limbs * 2 ^ 64 + limb

-- that many words of a number
unfoldable pub limbs_of : ℕ → ℕ → List ℕ
limbs_of zero x = []
limbs_of (suc count) x = x % 2 ^ 64 ∷ limbs_of count (x / 2 ^ 64)

-- that many words
pub record AreLimbs (count : ℕ) (limbs : List ℕ) : Type 0 where
  pub counted : length limbs ≡ count
  pub words : (k : ℕ) → get_or limbs k 0 < 2 ^ 64
