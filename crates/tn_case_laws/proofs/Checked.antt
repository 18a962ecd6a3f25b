-- What `check` says of the deal at the prices 4 and 6.
use Rattle.std.proofs.Common.{◌≡◌, ℕ, zero, suc, ◌<◌, refl, sym, ap, ◌∙◌, subst, arith, List, [], ◌∷◌, slice_get}
use Rattle.std.specs.Prelude.{ℤ, pos, negsuc, ◌≤ℤ◌, ◌<ℤ◌, ◌-ℤ◌, ◌+ℤ◌, ◌*ℤ◌, option_map, Some, None}
use Rattle.std.proofs.lemmas.Int.{ints}
use Rattle.std.proofs.lemmas.Option.{same_Some, none-some}
use Rattle.tn_base.specs.Sets.{has, sum_over, toggle, set_of}
use Rattle.tn_base.specs.Firm.{Firm, IsBest, payments}
use Rattle.tn_exchange.specs.Rows.{worth_in}
use Rattle.tn_model.specs.declared.ends.Ends.{Ends}
use Rattle.tn_said.specs.declared.said.Said.{Said}
use Rattle.tn_said.specs.declared.said.Said.TheVariants.{Equilibrium, Better, Impossible}
use Rattle.tn_model.specs.Prices.{price_at}
use Rattle.tn_model.specs.Network.{part, trades_of}
use Rattle.tn_market.specs.Equilibrium.{utility_at, prices_at, HasBest, IsEquilibrium, surplus_of}
use Rattle.tn_market.specs.Judged.{IsFirstBettered}
use Rattle.tn_commands.specs.Check.{ChecksArrangement}
use Rattle.tn_case_laws.proofs.Decided.{all_below}
use Rattle.tn_case_laws.proofs.Finite.{best_by, only_best}
use Rattle.tn_case_laws.proofs.Deal.{asks_3, buyer, seller, deal_firms, deal_trades, seller_below, buyer_below}

-- a firm with a best bundle has a possible one
pub possible_best : (trades : List Ends) (scale : ℤ) (on : ℕ) (prices : ℕ → ℤ) (f : ℕ) (firm : Firm)
    → HasBest trades scale on prices f firm → firm.worth (part trades f firm.count on) ≡ None → ⊥
possible_best trades scale on prices f firm best none =
    none-some best.0
    (sym (ap (option_map (λ a. scale *ℤ a +ℤ sum_over (payments firm.buys (prices_at trades prices f)) firm.count
    (part trades f firm.count on))) none) ∙ best.1.is)

-- and isn't bettered
pub not_bettered : (firms : List Firm) (trades : List Ends) (scale : ℤ) (on : ℕ) (prices : ℕ → ℤ) (f x : ℕ) (gain : ℤ)
    → (at : IsFirstBettered firms trades scale on prices f x gain) → HasBest trades scale on prices f at.firm → ⊥
not_bettered firms trades scale on prices f x gain at best =
    let own : best.0 ≡ at.own_value = same_Some _ _ (sym best.1.is ∙ at.own_is) in
    let most : at.best_value ≤ℤ best.0 = best.1.most x at.best_value at.best.is in
    let gain_is : gain ≡ at.best_value -ℤ at.own_value = at.gain_is in
    let gains : pos 0 <ℤ gain = at.gains in
    absurd (omega (arith, ints, own, most, gain_is, gains))

-- of an equilibrium nothing but its surplus is said
pub only_equilibrium : (firms : List Firm) (trades : List Ends) (on : ℕ) (prices : ℕ → ℤ) (surplus : ℤ)
    → IsEquilibrium firms trades (pos 1) on prices → surplus_of firms trades on ≡ Some surplus
    → (said : Said) → ChecksArrangement firms trades (pos 1) on prices said → said ≡ Equilibrium surplus
only_equilibrium firms trades on prices surplus equilibrium is (Equilibrium other) judges =
    ap (λ s. Equilibrium s) (same_Some other surplus (sym judges.1 ∙ is))
only_equilibrium firms trades on prices surplus equilibrium is (Better f bundle gain) judges =
    absurd (not_bettered firms trades (pos 1) on prices f judges.0 gain judges.1
    (equilibrium f judges.1.firm judges.1.is))
only_equilibrium firms trades on prices surplus equilibrium is (Impossible f) judges =
    absurd (possible_best trades (pos 1) on prices f judges.firm (equilibrium f judges.firm judges.is)
    judges.impossible)
only_equilibrium firms trades on prices surplus equilibrium is said judges = absurd judges

-- ---- at the price 6 the buyer would rather not buy

abbrev at_6 : ℕ → ℤ
at_6 = price_at (pos 6 ∷ [])

seller_best : HasBest deal_trades (pos 1) 1 at_6 0 (seller asks_3)
unfolding all_below has sum_over set_of worth_in toggle
seller_best = (
  pos 3,
  best_by 2 (utility_at deal_trades (pos 1) at_6 0 (seller asks_3)) (seller_below asks_3 (pos 1) at_6) 1
      (pos 3) refl refl,
)

buyer_best : IsBest (utility_at deal_trades (pos 1) at_6 1 buyer) 0 (pos 0)
unfolding all_below has sum_over set_of worth_in toggle
buyer_best = best_by 2 (utility_at deal_trades (pos 1) at_6 1 buyer) (buyer_below (pos 1) at_6) 0 (pos 0) refl refl

buyer_only : (x : ℕ) (value : ℤ) → IsBest (utility_at deal_trades (pos 1) at_6 1 buyer) x value → (x ≡ 0)
    × (value ≡ pos 0)
unfolding all_below has sum_over set_of worth_in toggle
buyer_only = only_best 2 (utility_at deal_trades (pos 1) at_6 1 buyer) (buyer_below (pos 1) at_6) 0 (pos 0) refl refl

buyer_own : utility_at deal_trades (pos 1) at_6 1 buyer (part deal_trades 1 buyer.count 1) ≡ Some (negsuc 0)
unfolding has sum_over set_of worth_in toggle
buyer_own = refl

buyer_lacks : HasBest deal_trades (pos 1) 1 at_6 1 buyer → ⊥
buyer_lacks best =
    let own : best.0 ≡ negsuc 0 = same_Some _ _ (sym best.1.is ∙ buyer_own) in
    let most : pos 0 ≤ℤ best.0 = best.1.most 0 (pos 0) buyer_best.is in
    absurd (omega (arith, ints, own, most))

pub is_better : ChecksArrangement (deal_firms asks_3) deal_trades (pos 1) 1 at_6 (Better 1 [] (pos 1))
unfolding has
is_better = (
  0,
  record {
    before = λ g firm below is. before g firm below is;
    firm = buyer;
    is = refl;
    own_value = negsuc 0;
    own_is = buyer_own;
    best_value = pos 0;
    best = buyer_best;
    gain_is = refl;
    gains = omega (arith, ints);
  },
  refl,
)
  where
    before : (g : ℕ) (firm : Firm) → g < 1 → slice_get (deal_firms asks_3) g ≡ Some firm
        → HasBest deal_trades (pos 1) 1 at_6 g firm
    before zero firm below is = subst (HasBest deal_trades (pos 1) 1 at_6 0) (same_Some _ _ is) seller_best
    before (suc g) firm below is = absurd (omega (arith, below))

buyer_gains : (x : ℕ) (gain : ℤ) (bundle : List ℕ) (at : IsFirstBettered (deal_firms asks_3) deal_trades (pos 1) 1 at_6
    1 x gain) → bundle ≡ trades_of deal_trades 1 at.firm.count x → Better 1 bundle gain ≡ Better 1 [] (pos 1)
unfolding has
buyer_gains x gain bundle at bundle_is =
    let same : at.firm ≡ buyer = same_Some _ _ (sym at.is) in
    let own_is : utility_at deal_trades (pos 1) at_6 1 buyer (part deal_trades 1 buyer.count 1) ≡ Some at.own_value =
    subst (λ firm. utility_at deal_trades (pos 1) at_6 1 firm (part deal_trades 1 firm.count 1) ≡ Some at.own_value)
    same at.own_is in
    let best : IsBest (utility_at deal_trades (pos 1) at_6 1 buyer) x at.best_value =
    subst (λ firm. IsBest (utility_at deal_trades (pos 1) at_6 1 firm) x at.best_value) same at.best in
    let only = buyer_only x at.best_value best in
    let none : bundle ≡ [] = bundle_is ∙ ap (λ firm. trades_of deal_trades 1 firm.count x) same
    ∙ ap (trades_of deal_trades 1 1) only.0 in
    let own : negsuc 0 ≡ at.own_value = same_Some _ _ (sym buyer_own ∙ own_is) in
    let value : at.best_value ≡ pos 0 = only.1 in
    let gain_is : gain ≡ at.best_value -ℤ at.own_value = at.gain_is in
    let one : gain ≡ pos 1 = omega (arith, ints, own, value, gain_is) in
    λ i. Better 1 (none i) (one i)

buyer_possible : buyer.worth (part deal_trades 1 buyer.count 1) ≡ None → ⊥
unfolding has set_of worth_in toggle
buyer_possible e = none-some (pos 5) (sym e)

pub only_better : (said : Said) → ChecksArrangement (deal_firms asks_3) deal_trades (pos 1) 1 at_6 said
    → said ≡ Better 1 [] (pos 1)
only_better (Equilibrium surplus) judges = absurd (buyer_lacks (judges.0 1 buyer refl))
only_better (Better zero bundle gain) judges =
    absurd (not_bettered (deal_firms asks_3) deal_trades (pos 1) 1 at_6 0 judges.0 gain judges.1
    (subst (HasBest deal_trades (pos 1) 1 at_6 0) (same_Some _ _ judges.1.is) seller_best))
only_better (Better (suc zero) bundle gain) judges = buyer_gains judges.0 gain bundle judges.1 judges.2
only_better (Better (suc (suc f)) bundle gain) judges =
    absurd (buyer_lacks (judges.1.before 1 buyer (omega arith) refl))
only_better (Impossible zero) judges =
    absurd (possible_best deal_trades (pos 1) 1 at_6 0 judges.firm
    (subst (HasBest deal_trades (pos 1) 1 at_6 0) (same_Some _ _ judges.is) seller_best) judges.impossible)
only_better (Impossible (suc zero)) judges =
    absurd (buyer_possible (subst (λ firm. firm.worth (part deal_trades 1 firm.count 1) ≡ None)
    (same_Some _ _ (sym judges.is)) judges.impossible))
only_better (Impossible (suc (suc f))) judges = absurd (buyer_lacks (judges.before 1 buyer (omega arith) refl))
only_better said judges = absurd judges
