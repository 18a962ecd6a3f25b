-- A plan in parts: bundles of firms with weights over a denominator. What it is worth, and that it is worth more than
-- every set of trades, so that no prices make one of them an equilibrium.
use Rattle.std.specs.Prelude.{◌≡◌, ℕ, ◌+◌, ◌^◌, ◌<◌, ℤ, pos, ◌+ℤ◌, ◌-ℤ◌, ◌*ℤ◌, ◌≤ℤ◌, ◌<ℤ◌, List, [], ◌∷◌, All, length, slice_get, ◌==◌, if◌then◌else◌, Option, Some, None, Result, Ok, Err, IsSome, unwrap_or}
use Rattle.tn_base.specs.Sets.{has}
use Rattle.tn_base.specs.Firm.{Firm, MayAbstain}
use Rattle.tn_model.specs.declared.ends.Ends.{Ends}
use Rattle.tn_said.specs.declared.part.Part.{Part}
use Rattle.tn_said.specs.declared.reason.Reason.{Reason}
use Rattle.tn_said.specs.declared.reason.Reason.TheVariants.{Impossible, Shares, Balance, Whole}
use Rattle.tn_said.specs.ClaimLimits.{IsFirmWith}
use Rattle.tn_model.specs.Network.{trades_on, IsNetwork}
use Rattle.tn_market.specs.Equilibrium.{IsEquilibrium, surplus_of}

-- the sum of a term over the parts of firm f
abbrev pub over_parts : (Part → ℤ) → ℕ → List Part → ℤ
over_parts term f [] = pos 0
over_parts term f (part ∷ plan) = (if part.firm == f then term part else pos 0) +ℤ over_parts term f plan

-- the weights of firm f's parts
abbrev pub share_of : List Part → ℕ → ℤ
share_of plan f = over_parts (λ part. part.weight) f plan

-- the weight of the trade at position k of firm f
abbrev pub weight_at : List Part → ℕ → ℕ → ℤ
weight_at plan f k = over_parts (λ part. if has part.bundle k then part.weight else pos 0) f plan

-- the worth of a possible bundle
abbrev pub worth_or_zero : Firm → ℕ → ℤ
worth_or_zero firm x = unwrap_or (firm.worth x) (pos 0)

-- the weighted worths of firm f's parts, and of the empty bundle for the rest of the denominator
abbrev pub planned_worth : List Part → ℤ → ℕ → Firm → ℤ
planned_worth plan over f firm = over_parts (λ part. part.weight *ℤ worth_or_zero firm part.bundle) f plan
    +ℤ (over -ℤ share_of plan f) *ℤ worth_or_zero firm 0

-- the sum of these for the firms from number f on
abbrev pub planned_from : List Part → ℤ → ℕ → List Firm → ℤ
planned_from plan over f [] = pos 0
planned_from plan over f (firm ∷ firms) = planned_worth plan over f firm +ℤ planned_from plan over (f + 1) firms

abbrev pub worth_of_plan : List Firm → List Part → ℤ → ℤ
worth_of_plan firms plan over = planned_from plan over 0 firms

-- the weights of each firm before number n sum to at most the denominator
abbrev pub HaveShares : List Part → ℤ → ℕ → Type 0
HaveShares plan over n = (f : ℕ) → f < n → share_of plan f ≤ℤ over

-- firm f has the bundle of a part that is impossible
pub record HasImpossiblePart (plan : List Part) (f : ℕ) (firm : Firm) : Type 0 where
  pub at : ℕ
  pub part : Part
  pub is : slice_get plan at ≡ Some part
  pub own : part.firm ≡ f
  pub impossible : firm.worth part.bundle ≡ None

-- each bundle of firm f's parts is possible
abbrev pub HasPossibleParts : List Part → ℕ → Firm → Type 0
HasPossibleParts plan f firm = (k : ℕ) (part : Part) → slice_get plan k ≡ Some part → part.firm ≡ f
    → IsSome (firm.worth part.bundle)

-- the same of each firm before number n
abbrev pub ArePossibleParts : List Firm → List Part → ℕ → Type 0
ArePossibleParts firms plan n = (f : ℕ) (firm : Firm) → f < n → slice_get firms f ≡ Some firm
    → HasPossibleParts plan f firm

-- the trade weighs the same at its seller and at its buyer
abbrev pub IsBalanced : List Part → Ends → Type 0
IsBalanced plan trade = weight_at plan trade.seller trade.at_seller ≡ weight_at plan trade.buyer trade.at_buyer

-- so does each trade before number n
abbrev pub AreBalanced : List Ends → List Part → ℕ → Type 0
AreBalanced trades plan n = (t : ℕ) (trade : Ends) → t < n → slice_get trades t ≡ Some trade → IsBalanced plan trade

-- the plan is worth more than every set of trades: than the denominator times its surplus
abbrev pub IsWorthMore : List Firm → List Ends → ℤ → ℤ → Type 0
IsWorthMore firms trades over worth = (on : ℕ) (surplus : ℤ) → on < 2 ^ length trades
    → surplus_of firms trades on ≡ Some surplus → (over *ℤ surplus) <ℤ worth

-- the trades of a list, ascending, are a set with this surplus, and the denominator times it is at least so much
pub record IsWholeAsGreat (firms : List Firm) (trades : List Ends) (over worth : ℤ) (listed : List ℕ)
    (surplus : ℤ) : Type 0 where
  pub on : ℕ
  pub within : on < 2 ^ length trades
  pub listed_is : listed ≡ trades_on on (length trades)
  pub surplus_is : surplus_of firms trades on ≡ Some surplus
  pub as_great : worth ≤ℤ (over *ℤ surplus)

-- a plan in parts that is worth more than every set of trades
pub record IsPlanAgainst (firms : List Firm) (trades : List Ends) (plan : List Part) (over : ℤ) : Type 0 where
  pub shares : HaveShares plan over (length firms)
  pub possible : ArePossibleParts firms plan (length firms)
  -- the rest of a firm's weights is the empty bundle's
  pub abstain : (f : ℕ) (firm : Firm) → slice_get firms f ≡ Some firm → MayAbstain firm
  pub balanced : AreBalanced trades plan (length trades)
  pub greater : IsWorthMore firms trades over (worth_of_plan firms plan over)

-- the shares first, then the bundles, then the trades; at last a set of trades that is worth as much
abbrev pub RefutesPlan : List Firm → List Ends → List Part → ℤ → Reason → Type 0
RefutesPlan firms trades plan over (Shares f) = (f < length firms) × HaveShares plan over f × (over <ℤ share_of plan f)
RefutesPlan firms trades plan over (Impossible f) = HaveShares plan over (length firms) × ArePossibleParts firms plan f
    × IsFirmWith firms f (HasImpossiblePart plan f)
RefutesPlan firms trades plan over (Balance t) = HaveShares plan over (length firms)
    × ArePossibleParts firms plan (length firms) × AreBalanced trades plan t
    × (trade : Ends) × (slice_get trades t ≡ Some trade) × (IsBalanced plan trade → ⊥)
RefutesPlan firms trades plan over (Whole on surplus) = HaveShares plan over (length firms)
    × ArePossibleParts firms plan (length firms) × AreBalanced trades plan (length trades)
    × IsWholeAsGreat firms trades over (worth_of_plan firms plan over) on surplus
RefutesPlan firms trades plan over reason = ⊥

-- no prices over any denominator make a set of trades an equilibrium
abbrev pub HaveNoPrices : List Firm → List Ends → Type 0
HaveNoPrices firms trades = (scale : ℤ) (on : ℕ) (prices : ℕ → ℤ) → pos 1 ≤ℤ scale
    → IsEquilibrium firms trades scale on prices → ⊥

-- where a plan in parts is worth more than every set of trades, there are no prices
pub record PlansBarPrices : Type 0 where
  pub bars : (firms : List Firm) (trades : List Ends) (plan : List Part) (over : ℤ) → IsNetwork firms trades
      → All (λ part. pos 0 ≤ℤ part.weight) plan
      → IsPlanAgainst firms trades plan over → HaveNoPrices firms trades

-- what the parts of a firm are worth, or that one of them is impossible
abbrev pub FindsWorth : List Part → ℕ → Firm → Option ℤ → Type 0
FindsWorth plan f firm (Some worth) = HasPossibleParts plan f firm
    × (worth ≡ over_parts (λ part. part.weight *ℤ worth_or_zero firm part.bundle) f plan)
FindsWorth plan f firm None = HasImpossiblePart plan f firm

-- what a firm's part of the plan is worth, or that one of its bundles is impossible
abbrev pub FindsPlanned : List Part → ℤ → ℕ → Firm → Option ℤ → Type 0
FindsPlanned plan over f firm (Some worth) = HasPossibleParts plan f firm × (worth ≡ planned_worth plan over f firm)
FindsPlanned plan over f firm None = HasImpossiblePart plan f firm

-- what the plan is worth, or the first firm with an impossible bundle
abbrev pub WeighsPlan : List Firm → List Part → ℤ → Result ℤ ℕ → Type 0
WeighsPlan firms plan over (Ok worth) = ArePossibleParts firms plan (length firms)
    × (worth ≡ worth_of_plan firms plan over)
WeighsPlan firms plan over (Err f) = ArePossibleParts firms plan f × IsFirmWith firms f (HasImpossiblePart plan f)

-- the first firm with too great a share
abbrev pub FindsShares : List Part → ℤ → ℕ → Option ℕ → Type 0
FindsShares plan over n None = HaveShares plan over n
FindsShares plan over n (Some f) = (f < n) × HaveShares plan over f × (over <ℤ share_of plan f)

-- the first trade that isn't balanced
abbrev pub FindsUnbalanced : List Ends → List Part → Option ℕ → Type 0
FindsUnbalanced trades plan None = AreBalanced trades plan (length trades)
FindsUnbalanced trades plan (Some t) = AreBalanced trades plan t × (trade : Ends) × (slice_get trades t ≡ Some trade)
    × (IsBalanced plan trade → ⊥)

-- a set of trades that is worth as much, with its surplus
abbrev pub FindsWhole : List Firm → List Ends → ℤ → ℤ → Option (ℕ × ℤ) → Type 0
FindsWhole firms trades over worth None = IsWorthMore firms trades over worth
FindsWhole firms trades over worth (Some (on, surplus)) = (on < 2 ^ length trades)
    × (surplus_of firms trades on ≡ Some surplus) × (worth ≤ℤ (over *ℤ surplus))
