-- From the judgement of an arrangement to the reason against an equilibrium.
use Rattle.std.proofs.Common.{◌≡◌, ℕ, ◌<◌, sym, ap, ◌∙◌, arith, List, length, map, ℤ, Some}
use Rattle.std.specs.Prelude.{slice_get}
use Rattle.std.proofs.lemmas.List.{length-map}
use Rattle.std.proofs.lemmas.Option.{same_Some, slice_get_within}
use Rattle.tn_base.specs.Firm.{Firm}
use Rattle.tn_model.specs.declared.ends.Ends.{Ends}
use Rattle.tn_said.specs.declared.reason.Reason.TheVariants.{Better}
use Rattle.tn_market.specs.Judged.{IsFirstBettered}
use Rattle.tn_model.specs.Network.{trades_of}
use Rattle.tn_price.proofs.JudgeLemmas.{firm_is, some_item}
use Rattle.tn_cert.specs.Reasons.{LacksBest}

-- a firm of a mapped list is one of the list
pub within_firms : {V : Type 0} (firm_of : V → Firm) (firms : List V) (f : ℕ) (firm : Firm)
    → slice_get (map firm_of firms) f ≡ Some firm → f < length firms
within_firms firm_of firms f firm is = omega (
  arith,
  length-map firms firm_of,
  slice_get_within (map firm_of firms) f firm is,
)

-- the first firm that could do better, with the trades of a best bundle
pub better_lacks : {V : Type 0} (firm_of : V → Firm) (firms : List V) (trades : List Ends) (scale : ℤ) (on : ℕ)
    (prices : ℕ → ℤ) (f x : ℕ) (gain : ℤ) (bundle : List ℕ)
    → IsFirstBettered (map firm_of firms) trades scale on prices f x gain
    → ((v : V) → slice_get firms f ≡ Some v → bundle ≡ trades_of trades f (firm_of v).count x)
    → LacksBest (map firm_of firms) trades scale on prices (Better f bundle)
better_lacks firm_of firms trades scale on prices f x gain bundle first bundle_is =
    let item = some_item firms f (within_firms firm_of firms f first.firm first.is) in
    let same : firm_of item.0 ≡ first.firm = same_Some _ _ (sym (firm_is firm_of firms f item.0 item.1) ∙ first.is) in
    (x, gain, first, bundle_is item.0 item.1 ∙ ap (λ (firm : Firm). trades_of trades f firm.count x) same)
