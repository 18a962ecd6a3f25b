-- From a best bundle to how a firm stands.
use Rattle.std.proofs.Common.{◌≡◌, ◌⊎◌, ℕ, ℤ, pos, Option, Some, sym, ap, ◌∙◌, subst, inl, inr, arith}
use Rattle.tn_base.specs.Firm.{Firm, IsBest, utility}
use Rattle.tn_base.specs.Widths.{most_amount}
use Rattle.tn_exchange.specs.Rows.{TableRows, IsTableWithinLimits, firm_of_table}
use Rattle.tn_exchange.proofs.RowLemmas.{worth_is_small}
use Rattle.tn_market.specs.Valued.{IsWorthAtMost}
use Rattle.tn_market.specs.Widths.{most_worth}
use Rattle.tn_market.proofs.AscentLemmas.{smaller}
use Rattle.tn_laminar.specs.declared.laminar.Laminar.{Laminar}
use Rattle.tn_laminar.specs.Firms.{firm_of as laminar_firm_of}
use Rattle.tn_laminar.specs.LawLemmas.{laminar_laws}
use Rattle.tn_middle.specs.declared.middle.Middle.{Middle}
use Rattle.tn_middle.specs.Firms.{firm_of as middle_firm_of}
use Rattle.tn_middle.specs.LawLemmas.{middle_laws}
use Rattle.tn_dealer.specs.declared.dealer.Dealer.{Dealer}
use Rattle.tn_dealer.specs.Firms.{firm_of as dealer_firm_of}
use Rattle.tn_dealer.specs.LawLemmas.{dealer_laws}
use Rattle.tn_raw_answers.specs.declared.stand.Stand.{Stand}
use Rattle.tn_raw_answers.specs.Stands.{IsStandAtPrices}

-- the firm's own bundle is best where its utility is that of a best one
best_kept : (value_of : ℕ → Option ℤ) (own found best : ℕ) (most : ℤ) (mine : Option ℤ) → mine ≡ value_of own
    → IsBest value_of found most
    → (best ≡ found) ⊎ ((best ≡ own) × (mine ≡ Some most)) → IsBest value_of best most
best_kept value_of own found best most mine mine_is is_best (inl e) =
    subst (λ (x : ℕ). IsBest value_of x most) (sym e) is_best
best_kept value_of own found best most mine mine_is is_best (inr (e, as_great)) =
    subst (λ (x : ℕ). IsBest value_of x most) (sym e) (record { is = sym mine_is ∙ as_great; most = is_best.most })

pub stands : (firm : Firm) (prices : ℕ → ℤ) (own found : ℕ) (most : ℤ) (mine : Option ℤ) (told : Stand)
    → told.worth ≡ firm.worth own → told.utility ≡ mine → mine ≡ utility (pos 1) prices firm own
    → IsBest (utility (pos 1) prices firm) found most → told.best_utility ≡ most → (mine ≡ Some most → told.best ≡ own)
    → (told.best ≡ found) ⊎ ((told.best ≡ own) × (mine ≡ Some most)) → IsStandAtPrices firm prices own told
stands firm prices own found most mine told worth_is told_mine mine_is is_best value_is kept best = record {
  worth_is = worth_is;
  utility_is = told_mine ∙ mine_is;
  best = subst (λ (z : ℤ). IsBest (utility (pos 1) prices firm) told.best z) (sym value_is)
      (best_kept (utility (pos 1) prices firm) own found told.best most mine mine_is is_best best);
  kept_own = λ e. kept (sym told_mine ∙ e ∙ ap (λ (z : ℤ). Some z) value_is);
}

-- no worth of a firm of any kind is above (60 + 64) * 10^9
pub table_worths : (table : TableRows) → IsTableWithinLimits table → IsWorthAtMost most_worth (firm_of_table table)
table_worths table within x a is = smaller a most_amount most_worth (omega arith) (worth_is_small table within x a is)

pub laminar_worths : (firm : Laminar) → IsWorthAtMost most_worth (laminar_firm_of firm)
laminar_worths firm = (laminar_laws firm).within

pub middle_worths : (firm : Middle) → IsWorthAtMost most_worth (middle_firm_of firm)
middle_worths firm = (middle_laws firm).within

pub dealer_worths : (firm : Dealer) → IsWorthAtMost most_worth (dealer_firm_of firm)
dealer_worths firm = (dealer_laws firm).within
