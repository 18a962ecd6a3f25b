-- What `solve`, `range` and `support` say keeps the rules of answers.
use Rattle.std.proofs.Common.{◌≡◌, ℕ, ◌<◌, List, length, map, get_or, Option, Some, None, sym, subst, ◌∙◌, arith, ℤ}
use Rattle.std.specs.Prelude.{All, IfSome}
use Rattle.std.proofs.lemmas.List.{length-map}
use Rattle.std.proofs.lemmas.List.Elements.{All-map, All-nil}
use Rattle.std.proofs.lemmas.Option.{slice_get-get_or, slice_get_within}
use Rattle.tn_model.specs.declared.ends.Ends.{Ends}
use Rattle.tn_answer.specs.Apart.{AreNamedEnds, HasNamedSteps, IsNamedAnswer, IsNamedUnitStep}
use Rattle.tn_answer.specs.Kept.{HasAscendingTrades}
use Rattle.tn_names.specs.Named.{IsNamed}
use Rattle.tn_read_units.specs.Documents.{IsUnitDocument}
use Rattle.tn_read_units.specs.Firms.{UnitDocument}
use Rattle.tn_read_units.specs.Worths.{written_firms}
use Rattle.tn_said.specs.declared.said.Said.{Said}
use Rattle.tn_said.specs.declared.said.Said.TheVariants.{CycleByCounts, Impossible, RangesByCounts, SolvedByCounts, SupportedByCounts}
use Rattle.tn_said.specs.declared.units.UnitRange.{UnitRange}
use Rattle.tn_said.specs.declared.units.UnitStep.{UnitStep}
use Rattle.tn_tree.specs.Lists.{count_in}
use Rattle.tn_unit_answers.specs.Range.{IsRangeOf, ShowsHigh, ShowsLow, TellsRangesByCounts}
use Rattle.tn_unit_answers.specs.Solve.{SolvesByCounts, unit_ends}
use Rattle.tn_unit_answers.specs.Steps.{AreStepsOf}
use Rattle.tn_unit_answers.specs.Support.{SupportsCounts}
use Rattle.tn_unit_answers.proofs.SolutionLemmas.{firms_count}

module _ (doc : UnitDocument) (is : IsUnitDocument doc) where
  -- the ends of its trades have names
  pub named_ends : AreNamedEnds doc.head.names (map unit_ends doc.head.trades)
  named_ends =
      let firms = doc.head.names.firms in
      let each = is.head.each in
      record {
        one_each = length-map doc.head.trades unit_ends ∙ sym is.head.named;
        sellers = All-map (λ (trade : Ends). IsNamed firms trade.seller) unit_ends doc.head.trades
            (λ t d below. (each t d below).between.seller);
        buyers = All-map (λ (trade : Ends). IsNamed firms trade.buyer) unit_ends doc.head.trades
            (λ t d below. (each t d below).between.buyer);
      }

  -- and so have those of steps
  named_steps : (steps : List (Option UnitStep)) → AreStepsOf doc.head.trades steps
      → All (IsNamedUnitStep doc.head.names.trades) steps
  named_steps steps known =
      subst (λ (n : ℕ). All (λ (node : Option UnitStep). IfSome node (λ step. step.trade < n)) steps)
      (sym is.head.named) known

  named_high : (t : ℕ) (counts : ℕ → ℕ) (high : Option ℤ) (steps : List (Option UnitStep))
      → ShowsHigh (written_firms doc) doc.head.trades counts t high steps
      → All (IsNamedUnitStep doc.head.names.trades) steps
  named_high t counts (Some high) steps shown = named_steps steps shown.made.known
  named_high t counts None steps shown =
      subst (All (IsNamedUnitStep doc.head.names.trades)) (sym shown) (All-nil (IsNamedUnitStep doc.head.names.trades))

  named_low : (t : ℕ) (counts : ℕ → ℕ) (low : Option ℤ) (steps : List (Option UnitStep))
      → ShowsLow (written_firms doc) doc.head.trades counts t low steps
      → All (IsNamedUnitStep doc.head.names.trades) steps
  named_low t counts (Some low) steps shown = named_steps steps shown.made.known
  named_low t counts None steps shown =
      subst (All (IsNamedUnitStep doc.head.names.trades)) (sym shown) (All-nil (IsNamedUnitStep doc.head.names.trades))

  named_paths : (t : ℕ) (counts : ℕ → ℕ) (range : UnitRange)
      → IsRangeOf (written_firms doc) doc.head.trades counts t range → HasNamedSteps doc.head.names.trades range
  named_paths t counts range of = record {
    high = named_high t counts range.high range.high_path of.high_shown;
    low = named_low t counts range.low range.low_path of.low_shown;
  }

  pub named_solve : (said : Said) → SolvesByCounts doc said → IsNamedAnswer doc.head.names said
  named_solve (SolvedByCounts counts prices surplus ends) answer = (
    answer.counted ∙ sym is.head.named,
    answer.priced ∙ sym is.head.named,
    subst (AreNamedEnds doc.head.names) (sym answer.ended) named_ends,
  )
  named_solve said answer = absurd answer

  pub named_range : (said : Said) → TellsRangesByCounts doc said → IsNamedAnswer doc.head.names said
  named_range (RangesByCounts counts ranges ends) answer = (
    answer.0.counted ∙ sym is.head.named,
    answer.0.ranged ∙ sym is.head.named,
    λ t d below. named_paths t (count_in counts) (get_or ranges t d)
        (answer.0.each t (get_or ranges t d) (slice_get-get_or ranges t d below)),
    subst (AreNamedEnds doc.head.names) (sym answer.1) named_ends,
  )
  named_range said answer = absurd answer

  pub named_support : (counts : List ℕ) → length counts ≡ length doc.head.trades → (said : Said)
      → SupportsCounts doc counts said → IsNamedAnswer doc.head.names said
  named_support counts counted (Impossible f) answer =
      let inside = slice_get_within (written_firms doc) f answer.0.firm answer.0.is in
      let count = firms_count doc.head.trades 0 doc.firms in
      let named = is.named in
      omega (arith, inside, count, named)
  named_support counts counted (SupportedByCounts listed prices ends) answer = (
    subst (λ (xs : List ℕ). length xs ≡ length doc.head.names.trades) (sym answer.1) (counted ∙ sym is.head.named),
    answer.0.priced ∙ sym is.head.named,
    subst (AreNamedEnds doc.head.names) (sym answer.2) named_ends,
  )
  named_support counts counted (CycleByCounts nodes cost) answer = named_steps nodes answer.0.known
  named_support counts counted said answer = absurd answer

-- ---- their lists ascend

module _ (doc : UnitDocument) where
  pub ascends_solve : (said : Said) → SolvesByCounts doc said → HasAscendingTrades said
  ascends_solve (SolvedByCounts counts prices surplus ends) answer = tt
  ascends_solve said answer = absurd answer

  pub ascends_range : (said : Said) → TellsRangesByCounts doc said → HasAscendingTrades said
  ascends_range (RangesByCounts counts ranges ends) answer = tt
  ascends_range said answer = absurd answer

  pub ascends_support : (counts : List ℕ) (said : Said) → SupportsCounts doc counts said → HasAscendingTrades said
  ascends_support counts (Impossible f) answer = tt
  ascends_support counts (SupportedByCounts listed prices ends) answer = tt
  ascends_support counts (CycleByCounts nodes cost) answer = tt
  ascends_support counts said answer = absurd answer
