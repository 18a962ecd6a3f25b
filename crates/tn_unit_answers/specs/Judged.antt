-- What is found of counts and prices in a document whose trades have units.
use Rattle.std.specs.Prelude.{◌≡◌, ℕ, ◌<◌, ℤ, pos, List, length, slice_get, Option, Some, None}
use Rattle.tn_counts.specs.Counts.{CountFirm, count_surplus}
use Rattle.tn_counts.specs.declared.trade.UnitTrade.{UnitTrade}
use Rattle.tn_read_units.specs.Firms.{UnitDocument}
use Rattle.tn_read_units.specs.Worths.{written_firms}
use Rattle.tn_said.specs.declared.units.UnitHolding.{UnitHolding}
use Rattle.tn_tree.specs.Held.{IsHeld, IsSmall, gain_at}
use Rattle.tn_tree.specs.Lists.{count_in, own_counts}
use Rattle.tn_tree.specs.declared.held.FirmCount.{FirmCount}
use Rattle.tn_unit_answers.specs.Bundles.{unit_bundle}
use Rattle.tn_unit_answers.specs.declared.judged.Verdict.{Verdict}
use Rattle.tn_unit_answers.specs.declared.judged.Verdict.TheVariants.{Content, Impossible, Better}

-- what is found of each firm, with best counts of all, and the surplus of the counts
pub record IsJudged (doc : UnitDocument) (counts : List ℕ) (prices : List ℤ) (firms : List FirmCount)
    (sold bought : List ℕ) (surplus : Option ℤ) : Type 0 where
  pub one_each : length firms ≡ length (written_firms doc)
  pub sold_all : length sold ≡ length doc.head.trades
  pub bought_all : length bought ≡ length doc.head.trades
  pub each : (f : ℕ) (firm : CountFirm) (said : FirmCount) → slice_get (written_firms doc) f ≡ Some firm
      → slice_get firms f ≡ Some said → IsHeld doc.head.trades f firm counts prices sold bought said
  pub surplus_is : surplus ≡ count_surplus (written_firms doc) (count_in counts)
  pub small_surplus : IsSmall surplus

-- each firm before f gains nothing
abbrev pub AreContentBefore : List FirmCount → ℕ → Type 0
AreContentBefore firms f = (g : ℕ) → g < f → gain_at firms g ≡ Some (pos 0)

-- firm f is the first that gains something, or for which there is no gain
pub record IsFirstWith (firms : List FirmCount) (f : ℕ) (gain : Option ℤ) : Type 0 where
  pub before : AreContentBefore firms f
  pub inside : f < length firms
  pub is : gain_at firms f ≡ gain
  pub not_content : gain ≡ Some (pos 0) → ⊥

abbrev pub IsVerdict : List FirmCount → Verdict → Type 0
IsVerdict firms Content = AreContentBefore firms (length firms)
IsVerdict firms (Impossible f) = IsFirstWith firms f None
IsVerdict firms (Better f gain) = IsFirstWith firms f (Some gain)

-- what is said of a firm by what is found of it: its own bundle, its best one, and the numbers
pub record IsToldBy (trades : List UnitTrade) (f : ℕ) (counts sold bought : List ℕ) (said : FirmCount)
    (told : UnitHolding) : Type 0 where
  pub has_is : told.has ≡ unit_bundle trades f (own_counts trades counts counts f)
  pub best_is : told.best ≡ unit_bundle trades f (own_counts trades sold bought f)
  pub worth_is : told.worth ≡ said.worth
  pub utility_is : told.utility ≡ said.utility
  pub best_utility_is : told.best_utility ≡ said.best
  pub gain_is : told.gain ≡ said.gain

-- and of all firms
abbrev pub AreToldBy : List UnitTrade → List ℕ → List ℕ → List ℕ → List FirmCount → List UnitHolding → Type 0
AreToldBy trades counts sold bought firms told = (f : ℕ) (said : FirmCount) (holding : UnitHolding)
    → slice_get firms f ≡ Some said → slice_get told f ≡ Some holding
    → IsToldBy trades f counts sold bought said holding
