-- The side of a position, by the set of the positions that are bought.
use Rattle.std.proofs.Common.{◌≡◌, ℕ, Bool, sym, ap, List, if◌then◌else◌, inl, inr}
use Rattle.std.specs.Prelude.{Some, slice_get}
use Rattle.std.proofs.lemmas.Bool.{cases_Bool}
use Rattle.tn_base.specs.Sets.{has}
use Rattle.tn_base.specs.Table.{buys_of}
use Rattle.tn_base.specs.declared.side.Side.{Side}
use Rattle.tn_base.specs.declared.side.Side.TheVariants.{Buy, Sell}
use Rattle.tn_base.proofs.TableLemmas.{bought_from, side_from}
use Rattle.tn_market.specs.Valued.{side_at}

pub side_is : (sides : List Side) (k : ℕ) (side : Side) → slice_get sides k ≡ Some side
    → side ≡ side_at (buys_of sides) k
side_is sides k Buy is = ap (λ (b : Bool). if b then Buy else Sell) (sym (bought_from sides k is))
side_is sides k Sell is = elim (cases_Bool (has (buys_of sides) k)) [
  | inl bought ↦ let buy = side_from sides k bought in absurd (cc (is, buy))
  | inr sold ↦ ap (λ (b : Bool). if b then Buy else Sell) (sym sold)
]
