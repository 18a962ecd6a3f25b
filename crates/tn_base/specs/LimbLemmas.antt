-- What sets as machine words need for their type: a number gives its words back.
use Rattle.std.specs.Prelude.{◌≡◌, ℕ, zero, suc, ◌^◌, ◌<◌, List, [], ◌∷◌, length, get_or}
use Rattle.std.proofs.Common.{refl, ap, ap₂, ◌∙◌, arith}
use Rattle.std.proofs.lemmas.Nat.{mod_low, shr_high}
use Rattle.tn_base.specs.Limbs.{joined, limbs_of}

-- a number gives the words back that it was made of
pub limbs_of-joined : (count : ℕ) (limbs : List ℕ) → length limbs ≡ count → ((k : ℕ) → get_or limbs k 0 < 2 ^ 64)
    → limbs_of count (joined limbs) ≡ limbs
unfolding limbs_of joined
limbs_of-joined zero [] counted words = refl
limbs_of-joined zero (limb ∷ limbs) counted words = absurd (omega (arith, counted))
limbs_of-joined (suc count) [] counted words = absurd (omega (arith, counted))
limbs_of-joined (suc count) (limb ∷ limbs) counted words =
    ap₂ ◌∷◌ (mod_low (joined limbs) 64 limb (words 0))
    (ap (limbs_of count) (shr_high (joined limbs) 64 limb (words 0))
    ∙ limbs_of-joined count limbs (omega (arith, counted)) (λ k. words (suc k)))
