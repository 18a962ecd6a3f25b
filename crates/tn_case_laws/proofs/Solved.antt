-- What `solve` says where there are no trades and one firm has a worth of 7.
use Rattle.std.proofs.Common.{◌≡◌, ℕ, refl, sym, ◌∙◌, arith, List, [], ◌∷◌, length}
use Rattle.std.specs.Prelude.{ℤ, pos, Option, Some, None}
use Rattle.std.proofs.lemmas.Option.{same_Some}
use Rattle.tn_base.specs.Sets.{has, sum_over, set_of, toggle, union, meet, minus, size, size_below}
use Rattle.tn_base.specs.Firm.{Firm, up, net}
use Rattle.tn_base.specs.Exchange.{MeetsExchange}
use Rattle.tn_exchange.specs.Rows.{TableRows, firm_of_table, worth_in}
use Rattle.tn_exchange.proofs.RowLemmas.{own_bundles}
use Rattle.tn_commands.specs.Solve.{Solves}
use Rattle.tn_commands.proofs.CheckLemmas.{implied_by}
use Rattle.tn_model.specs.declared.ends.Ends.{Ends}
use Rattle.tn_said.specs.declared.said.Said.{Said}
use Rattle.tn_said.specs.declared.said.Said.TheVariants.{Solved}
use Rattle.tn_model.specs.Prices.{price_at}
use Rattle.tn_model.specs.Network.{IsNetwork}
use Rattle.tn_market.specs.Equilibrium.{utility_at, HasBest, IsEquilibrium, surplus_of}
use Rattle.tn_case_laws.proofs.Decided.{all_below, some_below, meets}
use Rattle.tn_case_laws.proofs.Finite.{best_by, own_utilities, two_firms}

-- a firm without trades, and what it is worth
abbrev pub idle_table : Option ℤ → TableRows
idle_table row = record { sides = []; rows = row ∷ [] }

abbrev pub idle : Option ℤ → Firm
idle row = firm_of_table (idle_table row)

abbrev pub idle_firms : List Firm
idle_firms = idle (Some (pos 7)) ∷ idle None ∷ []

abbrev pub no_ends : List Ends
no_ends = []

pub idle_meets_7 : MeetsExchange (idle (Some (pos 7)))
unfolding all_below some_below worth_in has toggle union meet minus size size_below up net
idle_meets_7 = meets (idle (Some (pos 7))) (own_bundles (idle_table (Some (pos 7)))) refl

pub idle_meets_none : MeetsExchange (idle None)
unfolding all_below some_below worth_in has toggle union meet minus size size_below up net
idle_meets_none = meets (idle None) (own_bundles (idle_table None)) refl

idle_surplus : (set : ℕ) → surplus_of idle_firms no_ends set ≡ Some (pos 7)
unfolding set_of worth_in
idle_surplus set = refl

idle_equilibrium : IsEquilibrium idle_firms no_ends (pos 1) 0 (price_at [])
unfolding all_below has sum_over set_of worth_in
idle_equilibrium =
    two_firms (λ f firm. HasBest no_ends (pos 1) 0 (price_at []) f firm) (idle (Some (pos 7))) (idle None) (
      pos 7,
      best_by 1 (utility_at no_ends (pos 1) (price_at []) 0 (idle (Some (pos 7))))
          (own_utilities no_ends (pos 1) (price_at []) 0 (idle (Some (pos 7)))
          (own_bundles (idle_table (Some (pos 7)))))
          0 (pos 7) refl refl,
    ) (
      pos 0,
      best_by 1 (utility_at no_ends (pos 1) (price_at []) 1 (idle None))
          (own_utilities no_ends (pos 1) (price_at []) 1 (idle None) (own_bundles (idle_table None)))
          0 (pos 0) refl refl,
    )

pub is_solved : IsNetwork idle_firms no_ends → Solves idle_firms no_ends (Solved [] [] (pos 7) no_ends)
is_solved network = (
  record {
    set = 0;
    on_is = refl;
    one_each = refl;
    equilibrium = idle_equilibrium;
    surplus_is = idle_surplus 0;
    implied = implied_by idle_firms no_ends 0 (price_at []) network idle_equilibrium;
  },
  refl,
)

no_prices : (prices : List ℤ) → length prices ≡ 0 → prices ≡ []
no_prices [] e = refl
no_prices (p ∷ prices) e = absurd (omega (arith, e))

pub only_solved : (said : Said) → Solves idle_firms no_ends said → said ≡ Solved [] [] (pos 7) no_ends
only_solved (Solved on prices surplus ends) solves =
    let none_on : on ≡ [] = solves.0.on_is in
    let none_priced = no_prices prices solves.0.one_each in
    let worth = same_Some surplus (pos 7) (sym solves.0.surplus_is ∙ idle_surplus solves.0.set) in
    let none_ends = solves.1 in
    λ i. Solved (none_on i) (none_priced i) (worth i) (none_ends i)
only_solved said solves = absurd solves
