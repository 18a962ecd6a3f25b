-- What is made of the nodes of a cycle.
use Rattle.std.specs.Prelude.{◌≡◌, ◌≢◌, ◌⊎◌, ℕ, ◌+◌, ◌<◌, ℤ, List, length, slice_get, true, Some}
use Rattle.tn_base.specs.Sets.{has}
use Rattle.tn_model.specs.declared.contract.Contract.{Contract}
use Rattle.tn_model.specs.Prices.{price_at}
use Rattle.tn_residual.specs.Residual.{number_from}

-- the set has those of the first k nodes that are trades, and no others
pub record HasNodes (null : ℕ) (listed : List ℕ) (k set : ℕ) : Type 0 where
  pub each : (j v : ℕ) → j < k → slice_get listed j ≡ Some v → v < null → has set v ≡ true
  pub only : (t : ℕ) → has set t ≡ true → (t < null) × (j : ℕ) × (j < k) × (slice_get listed j ≡ Some t)

-- one contract for each node from one place on, up to another, at the price of its number
pub record AreAtNodes (contracts : List Contract) (prices : List ℤ) (listed : List ℕ) (first k : ℕ)
    (offers : List Contract) : Type 0 where
  pub counted : first + length offers ≡ k
  pub each : (j : ℕ) (offer : Contract) → slice_get offers j ≡ Some offer
      → (slice_get listed (first + j) ≡ Some offer.trade)
      × (offer.price ≡ price_at prices (number_from contracts 0 offer.trade))

-- where the trades of a cycle begin: after null, where it has that
pub record IsBegin (null : ℕ) (listed : List ℕ) (first : ℕ) : Type 0 where
  pub head : ℕ
  pub is : slice_get listed 0 ≡ Some head
  pub which : ((head ≡ null) × (first ≡ 1)) ⊎ ((head ≢ null) × (first ≡ 0))
