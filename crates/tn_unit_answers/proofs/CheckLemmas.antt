-- What `check` says by counts keeps the rules of answers.
use Rattle.std.proofs.Common.{◌≡◌, ℕ, ◌^◌, ◌<◌, List, length, slice_get, Some, sym, subst, arith, ℤ}
use Rattle.std.specs.Prelude.{All}
use Rattle.std.proofs.lemmas.List.Elements.{All-weaker}
use Rattle.std.proofs.lemmas.Option.{slice_get_within}
use Rattle.tn_answer.specs.Apart.{IsNamedAnswer, IsNamedEntry}
use Rattle.tn_answer.specs.Kept.{HasAscendingTrades, IsUnitBundle, IsWithinEntry}
use Rattle.tn_counts.specs.Counts.{AreCounts, CountFirm}
use Rattle.tn_names.specs.Named.{IsNamed}
use Rattle.tn_read_units.specs.Documents.{IsUnitDocument}
use Rattle.tn_read_units.specs.Firms.{UnitDocument}
use Rattle.tn_read_units.specs.Worths.{written_firms}
use Rattle.tn_said.specs.declared.said.Fault.{Fault as FaultIs}
use Rattle.tn_said.specs.declared.said.Said.{Said}
use Rattle.tn_said.specs.declared.said.Said.TheVariants.{BetterByCounts, Equilibrium, Fault, Impossible}
use Rattle.tn_said.specs.declared.units.TradeUnits.{TradeUnits}
use Rattle.tn_unit_answers.specs.Bundles.{unit_bundle}
use Rattle.tn_unit_answers.specs.Check.{ChecksByCounts}
use Rattle.tn_unit_answers.proofs.BundleLemmas.{bundle_few, bundle_is, bundle_known}
use Rattle.tn_unit_answers.proofs.SolutionLemmas.{firms_count, trade_is}

module _ (doc : UnitDocument) (is : IsUnitDocument doc) where
  -- a firm that is written has a name
  pub firm_named : (f : ℕ) (firm : CountFirm) → slice_get (written_firms doc) f ≡ Some firm → IsNamed doc.head.names.firms f
  firm_named f firm at =
      let inside = slice_get_within (written_firms doc) f firm at in
      let count = firms_count doc.head.trades 0 doc.firms in
      let named = is.named in
      omega (arith, inside, count, named)

  module _ (f : ℕ) (counts : ℕ → ℕ) (bundle : List TradeUnits) (made : bundle ≡ unit_bundle doc.head.trades f counts) where
    -- the trades of a bundle have names
    pub bundle_named : All (IsNamedEntry doc.head.names.trades) bundle
    bundle_named = subst (All (IsNamedEntry doc.head.names.trades)) (sym made)
        (All-weaker (λ entry. entry.trade < length doc.head.trades) (IsNamedEntry doc.head.names.trades)
        (λ entry below. let named = is.head.named in omega (arith, below, named)) (unit_bundle doc.head.trades f counts)
        (bundle_known doc.head.trades f counts))

    -- and its units are short numbers
    pub bundle_short : AreCounts doc.head.trades counts → All IsWithinEntry bundle
    bundle_short within = subst (All IsWithinEntry) (sym made) (bundle_few doc.head.trades f counts (2 ^ 32) (λ t below.
        let units = within t below in
        let few = (trade_is doc is t below).few in
        omega (arith, units, few)))

    pub bundle_kept : IsUnitBundle bundle
    bundle_kept = subst IsUnitBundle (sym made) (bundle_is doc.head.trades f counts)

-- firms and trades of the answer have names
pub check_named : (doc : UnitDocument) (counts : List ℕ) (prices : List ℤ) (said : Said) → IsUnitDocument doc
    → ChecksByCounts doc counts prices said → IsNamedAnswer doc.head.names said
check_named doc counts prices (Equilibrium surplus) is answer = tt
check_named doc counts prices (BetterByCounts f bundle gain) is answer =
    (firm_named doc is f answer.firm answer.is, bundle_named doc is f answer.best_counts bundle answer.bundle_is)
check_named doc counts prices (Impossible f) is answer = firm_named doc is f answer.firm answer.is
check_named doc counts prices said is answer = absurd answer

-- the trades of its bundle ascend
pub check_ascends : (doc : UnitDocument) (counts : List ℕ) (prices : List ℤ) (said : Said) → IsUnitDocument doc
    → ChecksByCounts doc counts prices said → HasAscendingTrades said
check_ascends doc counts prices (Equilibrium surplus) is answer = tt
check_ascends doc counts prices (BetterByCounts f bundle gain) is answer =
    bundle_kept doc is f answer.best_counts bundle answer.bundle_is
check_ascends doc counts prices (Impossible f) is answer = tt
check_ascends doc counts prices said is answer = absurd answer

-- no answer is a fault
pub check_no_fault : (doc : UnitDocument) (counts : List ℕ) (prices : List ℤ) (fault : FaultIs)
    → ChecksByCounts doc counts prices (Fault fault) → ⊥
check_no_fault doc counts prices fault answer = answer
