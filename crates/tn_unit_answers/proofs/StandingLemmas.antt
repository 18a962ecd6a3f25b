-- How a session stands after one more edit.
use Rattle.std.proofs.Common.{◌≡◌, ℕ, ◌+◌, Bool, List, [], ◌∷◌, ◌++◌, length, take, get_or, slice_get, Some, sym, ap, ◌∙◌, subst, arith, inl, inr}
use Rattle.std.proofs.lemmas.List.{take_more}
use Rattle.std.proofs.lemmas.Option.{same_Some, slice_get-get_or, slice_get_within}
use Rattle.tn_counts.specs.declared.market.UnitMarket.{UnitMarket}
use Rattle.tn_counts.specs.declared.trade.UnitTrade.{UnitTrade}
use Rattle.tn_names.proofs.NameLemmas.{push_cases}
use Rattle.tn_read_units.specs.Documents.{IsUnitDocument}
use Rattle.tn_read_units.specs.Firms.{UnitDocument}
use Rattle.tn_read_units.specs.Worths.{written_firms}
use Rattle.tn_said.specs.declared.session.UnitEdit.{UnitEdit}
use Rattle.tn_said.specs.declared.session.UnitState.{UnitState}
use Rattle.tn_tree.specs.Lists.{count_in}
use Rattle.tn_unit_answers.specs.Session.{IsUnitState, usable_after, usable_trades}
use Rattle.tn_unit_answers.specs.Standing.{IsMarketBetween, IsStanding, StandsAfter, away_in, usable_now}
use Rattle.tn_unit_answers.specs.declared.session.Standing.{Standing}
use Rattle.tn_unit_answers.proofs.EditedLemmas.{usable_is}
use Rattle.tn_unit_answers.proofs.SolutionLemmas.{trade_is}
use Rattle.tn_unit_answers.proofs.UsableLemmas.{usable_market}

-- the first items, and the next one
pub take_one : {A : Type 0} (xs : List A) (k : ℕ) (x : A) → slice_get xs k ≡ Some x
    → take (k + 1) xs ≡ take k xs ++ x ∷ []
take_one xs k x at =
    let inside = slice_get_within xs k x at in
    take_more xs k x inside
    ∙ ap (λ (y : _). take k xs ++ y ∷ []) (same_Some (get_or xs k x) x (sym (slice_get-get_or xs k x inside) ∙ at))

-- trades that are made of what is kept
pub made_usable : (doc : UnitDocument) (standing : Standing) (trades made : List UnitTrade) (admitted : List ℕ)
    (away : List Bool) → made ≡ usable_trades (count_in admitted) (away_in away) trades
    → admitted ≡ standing.admitted.items → away ≡ standing.away.items → trades ≡ doc.head.trades
    → made ≡ usable_now doc standing
made_usable doc standing trades made admitted away is units gone ends =
    is ∙ (λ i. usable_trades (count_in (units i)) (away_in (gone i)) (ends i))

-- the market with these is between the same firms
pub lowered : (doc : UnitDocument) → IsUnitDocument doc → (standing : Standing) → IsStanding doc standing
    → (after : UnitMarket) → after.firms ≡ standing.market.firms → after.trades.items ≡ usable_now doc standing
    → after.amounts.items ≡ standing.market.amounts.items → after.sets.items ≡ standing.market.sets.items
    → IsMarketBetween doc after
lowered doc is standing stands after firms units amounts sets =
    usable_market doc (count_in standing.admitted.items) (away_in standing.away.items) stands.within is standing.market
    after stands.market firms units amounts sets

module _ (doc : UnitDocument) (is : IsUnitDocument doc) (edits : List UnitEdit) (k : ℕ) where
  -- the state of what stands after the edits is a state after them
  pub state_after : (before : List UnitEdit) (standing : Standing) (state : UnitState) → StandsAfter doc before standing
      → before ≡ take (k + 1) edits → IsUnitState (written_firms doc) (usable_now doc standing) state
      → IsUnitState (written_firms doc) (usable_after (take (k + 1) edits) doc.head.trades) state
  state_after before standing state stands all told =
      subst (λ (list : List UnitEdit). IsUnitState (written_firms doc) (usable_after list doc.head.trades) state) all
      (subst (λ (trades : List UnitTrade). IsUnitState (written_firms doc) trades state)
      (usable_is doc before standing stands (λ t below. (trade_is doc is t below).between.seller)
      (λ t below. (trade_is doc is t below).between.buyer)) told)

  -- one state more
  pub states_more : (states after : List UnitState) (state : UnitState) → length states ≡ k
      → ((j : ℕ) (one : UnitState) → slice_get states j ≡ Some one
      → IsUnitState (written_firms doc) (usable_after (take (j + 1) edits) doc.head.trades) one)
      → IsUnitState (written_firms doc) (usable_after (take (k + 1) edits) doc.head.trades) state
      → after ≡ states ++ state ∷ [] → (j : ℕ) (one : UnitState) → slice_get after j ≡ Some one
      → IsUnitState (written_firms doc) (usable_after (take (j + 1) edits) doc.head.trades) one
  states_more states after state count each last more j one at =
      elim (push_cases states state one j (sym (ap (λ (xs : List UnitState). slice_get xs j) more) ∙ at)) [
        | inl before ↦ each j one before
        | inr here ↦
            let place : k ≡ j = let end = here.0 in omega (arith, end, count) in
            subst (λ (n : ℕ). IsUnitState (written_firms doc) (usable_after (take (n + 1) edits) doc.head.trades) one) place
            (subst (IsUnitState (written_firms doc) (usable_after (take (k + 1) edits) doc.head.trades)) here.1 last)
      ]
