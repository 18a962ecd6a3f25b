-- From how a firm stands to what is said of it, and of all firms.
use Rattle.std.proofs.Common.{◌≡◌, ℕ, zero, suc, ◌+◌, ◌*◌, ◌≤◌, cond, ℤ, pos, ◌+ℤ◌, ◌-ℤ◌, ◌*ℤ◌, List, [], ◌∷◌, ◌++◌, length, take, slice_get, count_by, refl, sym, ap, ◌∙◌, subst, arith, inl, inr}
use Rattle.std.specs.Prelude.{Option, Some, None, All, IfSome, option_map, option_and_then}
use Rattle.std.proofs.lemmas.Int.{ints}
use Rattle.std.proofs.lemmas.Bool.{cases_eq, cases_lt}
use Rattle.std.proofs.lemmas.List.{length-append, get_or_past}
use Rattle.std.proofs.lemmas.List.Elements.{All-append, All-get_or}
use Rattle.std.proofs.lemmas.List.Sums.{sum_by-append}
use Rattle.std.proofs.lemmas.Option.{none-some, same_Some, slice_get_within}
use Rattle.tn_base.specs.Arcs.{IsAtMost}
use Rattle.tn_base.specs.Sets.{sum_over}
use Rattle.tn_base.specs.Firm.{Firm, IsBest, payments, utility}
use Rattle.tn_firm_laws.proofs.BoundLemmas.{sum_over_small}
use Rattle.tn_firm_laws.proofs.KeepLemmas.{option_map-some}
use Rattle.tn_model.specs.declared.ends.Ends.{Ends}
use Rattle.tn_said.specs.declared.holding.Holding.{Holding}
use Rattle.tn_said.specs.declared.said.Said.TheVariants.{Firms}
use Rattle.tn_model.specs.Network.{own, part, trades_of, IsNetwork}
use Rattle.tn_model.specs.Prices.{price_at}
use Rattle.tn_market.specs.Equilibrium.{surplus_of, utility_at}
use Rattle.tn_market.specs.Valued.{IsWorthAtMost}
use Rattle.tn_market.proofs.AscentLemmas.{smaller}
use Rattle.tn_market.proofs.AskLemmas.{payment_small}
use Rattle.tn_price.specs.Standings.{AreOwnPrices}
use Rattle.tn_price.proofs.JudgeLemmas.{utility_there}
use Rattle.tn_price.proofs.SurplusLemmas.{AreAdded, one_added, all_added, none_at}
use Rattle.tn_answer.specs.Kept.{IsWithinClaim, IsWithinHolding}
use Rattle.tn_raw_answers.specs.declared.stand.Stand.{Stand}
use Rattle.tn_raw_answers.specs.Limits.{most_told_utility}
use Rattle.tn_market.specs.Widths.{most_own, most_worth}
use Rattle.tn_model.specs.Limits.{most_firms, most_number, most_price}
use Rattle.tn_raw_answers.specs.Stands.{IsStandAtPrices}
use Rattle.tn_raw_answers.specs.Firms.{is_content, TellsFirm, TellsFirms, TellsHoldings}
use Rattle.tn_commands.proofs.CheckLemmas.{implied_by}
use Rattle.tn_raw_answers.proofs.ContentLemmas.{content_is_equilibrium, count_one}

-- ---- sizes

-- each price is small, and so is that of a trade that isn't there
price_small : (prices : List ℤ) (t limit : ℕ) → All (λ p. IsAtMost p limit) prices → IsAtMost (price_at prices t) limit
price_small prices t limit small = elim (cases_lt t (length prices)) [
  | inl h ↦ All-get_or (λ p. IsAtMost p limit) prices t (pos 0) h small
  | inr h ↦ subst (λ (z : ℤ). IsAtMost z limit) (sym (get_or_past prices t (pos 0) h)) (record {
    low =
        omega (arith, ints);
    high = omega (arith, ints);
  })
]

-- the utility of a bundle at prices of an arrangement
utility_small : (firm : Firm) (prices : ℕ → ℤ) (x : ℕ) (value : ℤ) → firm.count ≤ most_own
    → IsWorthAtMost most_worth firm → ((k : ℕ) → IsAtMost (prices k) most_price)
    → utility (pos 1) prices firm x ≡ Some value → IsAtMost value most_told_utility
utility_small firm prices x value few worths small is =
    let worth = option_map-some (λ a. pos 1 *ℤ a +ℤ sum_over (payments firm.buys prices) firm.count x) (firm.worth x)
    value is in
    let amount = worths x worth.0 worth.1 in
    let paid = sum_over_small (payments firm.buys prices) firm.count x most_price
    (λ k below. payment_small firm.buys prices k most_price (small k)) in
    let total = worth.2 in
    record {
      low = omega (arith, ints, total, few, amount.low, paid.low);
      high = omega (arith, ints, total, few, amount.high, paid.high);
    }

-- ---- one firm

-- how a firm stands at prices by trade
pub record StandsThere (trades : List Ends) (prices : ℕ → ℤ) (f own : ℕ) (firm : Firm) (stand : Stand) : Type 0 where
  pub worth_is : stand.worth ≡ firm.worth own
  pub utility_is : stand.utility ≡ utility_at trades (pos 1) prices f firm own
  pub best : IsBest (utility_at trades (pos 1) prices f firm) stand.best stand.best_utility
  pub kept_own : stand.utility ≡ Some stand.best_utility → stand.best ≡ own

-- the prices that are listed for it are those
pub stands_there : (trades : List Ends) (prices : ℕ → ℤ) (f n own : ℕ) (list : List ℤ) (firm : Firm) (stand : Stand)
    → n ≡ firm.count → AreOwnPrices trades prices f n list
    → IsStandAtPrices firm (price_at (take n list)) own stand → StandsThere trades prices f own firm stand
stands_there trades prices f n own list firm stand counted listed is =
    let same = utility_there trades (pos 1) prices f n list firm counted listed in
    record {
      worth_is = is.worth_is;
      utility_is = is.utility_is ∙ same own;
      best = record {
        is = sym (same stand.best) ∙ is.best.is;
        most =
            λ y other y_is. is.best.most y other (same y ∙ y_is);
      };
      kept_own = is.kept_own;
    }

-- no number is large
pub record IsSmallStand (stand : Stand) : Type 0 where
  pub worth : IfSome stand.worth (λ z. IsAtMost z most_worth)
  pub utility : IfSome stand.utility (λ z. IsAtMost z most_told_utility)
  pub best : IsAtMost stand.best_utility most_told_utility

if_some : (o : Option ℤ) (limit : ℕ) → ((z : ℤ) → o ≡ Some z → IsAtMost z limit) → IfSome o (λ z. IsAtMost z limit)
if_some None limit small = tt
if_some (Some z) limit small = small z refl

pub stand_small : (trades : List Ends) (prices : List ℤ) (f own_bundle : ℕ) (firm : Firm) (stand : Stand)
    → firm.count ≤ most_own → IsWorthAtMost most_worth firm
    → All (λ p. IsAtMost p most_price) prices → StandsThere trades (price_at prices) f own_bundle firm stand
    → IsSmallStand stand
stand_small trades prices f own_bundle firm stand few worths small is = record {
  worth = if_some stand.worth most_worth (λ z z_is. worths own_bundle z (sym is.worth_is ∙ z_is));
  utility = if_some stand.utility most_told_utility (λ z z_is. within own_bundle z (sym is.utility_is ∙ z_is));
  best = within stand.best stand.best_utility is.best.is;
}
  where
    within : (x : ℕ) (z : ℤ) → utility_at trades (pos 1) (price_at prices) f firm x ≡ Some z
        → IsAtMost z most_told_utility
    within x z z_is =
        utility_small firm (λ k. price_at prices (own trades f k)) x z few worths
        (λ k. price_small prices (own trades f k) most_price small) z_is

-- what is said of a firm that stands so
pub told_there : (trades : List Ends) (on : ℕ) (prices : ℕ → ℤ) (f n : ℕ) (firm : Firm) (stand : Stand) (told : Holding)
    → n ≡ firm.count
    → StandsThere trades prices f (part trades f n on) firm stand → told.has ≡ trades_of trades f n (part trades f n on)
    → told.best ≡ trades_of trades f n stand.best
    → told.worth ≡ stand.worth → told.utility ≡ stand.utility → told.best_utility ≡ stand.best_utility
    → told.gain ≡ option_map (λ value. stand.best_utility -ℤ value) stand.utility
    → TellsFirm trades (pos 1) on prices f firm told
told_there trades on prices f n firm stand told counted is has_is best_is worth_is utility_is value_is gain_is =
    let at : part trades f n on ≡ part trades f firm.count on = ap (λ (m : ℕ). part trades f m on) counted in
    record {
      has_is = has_is ∙ ap (λ (m : ℕ). trades_of trades f m (part trades f m on)) counted;
      worth_is = worth_is ∙ is.worth_is ∙ ap firm.worth at;
      utility_is = utility_is ∙ is.utility_is ∙ ap (utility_at trades (pos 1) prices f firm) at;
      bundle = stand.best;
      best_is = best_is ∙ ap (λ (m : ℕ). trades_of trades f m stand.best) counted;
      best = subst (λ (z : ℤ). IsBest (utility_at trades (pos 1) prices f firm) stand.best z) (sym value_is) is.best;
      kept_own = λ e. is.kept_own (sym utility_is ∙ e ∙ ap (λ (z : ℤ). Some z) value_is) ∙ at;
      gain_is = gain_is
          ∙ ap (λ (z : ℤ). option_map (λ value. z -ℤ value) stand.utility) (sym value_is)
          ∙ ap (option_map (λ value. told.best_utility -ℤ value)) (sym utility_is);
    }

pub worth_small : (stand : Stand) (told : Holding) → IsSmallStand stand → told.worth ≡ stand.worth
    → IfSome told.worth (λ z. IsAtMost z most_worth)
worth_small stand told small worth_is =
    subst (λ (o : Option ℤ). IfSome o (λ z. IsAtMost z most_worth)) (sym worth_is) small.worth

pub told_within : (stand : Stand) (told : Holding) → IsSmallStand stand → told.worth ≡ stand.worth
    → told.utility ≡ stand.utility → told.best_utility ≡ stand.best_utility
    → told.gain ≡ option_map (λ value. stand.best_utility -ℤ value) stand.utility → IsWithinHolding told
told_within stand told small worth_is utility_is value_is gain_is = record {
  best_utility =
      subst IsWithinClaim (sym value_is) (smaller stand.best_utility most_told_utility most_number (omega arith)
      small.best);
  gain = subst (λ (o : Option ℤ). IfSome o IsWithinClaim) (sym gain_is) (difference stand.utility small.utility);
  utility = subst (λ (o : Option ℤ). IfSome o IsWithinClaim) (sym utility_is)
      (wide stand.utility most_told_utility (omega arith) small.utility);
  worth = subst (λ (o : Option ℤ). IfSome o IsWithinClaim) (sym worth_is)
      (wide stand.worth most_worth (omega arith) small.worth);
}
  where
    wide : (o : Option ℤ) (limit : ℕ) → limit ≤ most_number → IfSome o (λ z. IsAtMost z limit) → IfSome o IsWithinClaim
    wide None limit below h = tt
    wide (Some z) limit below h = smaller z limit most_number below h

    difference : (o : Option ℤ) → IfSome o (λ z. IsAtMost z most_told_utility)
        → IfSome (option_map (λ value. stand.best_utility -ℤ value) o) IsWithinClaim
    difference None h = tt
    difference (Some z) h = let best = small.best in record {
      low =
          omega (arith, ints, h.low, h.high, best.low, best.high);
      high =
          omega (arith, ints, h.low, h.high, best.low, best.high);
    }

-- ---- all firms

-- the sum of the worths of the firms before f; none where one of them is none, and so is then the surplus
abbrev pub IsSumBefore : List Firm → List Ends → ℕ → ℕ → Option ℤ → Type 0
IsSumBefore firms trades on f (Some sum) = AreAdded firms trades on f sum
IsSumBefore firms trades on f None = None ≡ surplus_of firms trades on

-- what is said of the firms before f
pub record AreTold (firms : List Firm) (trades : List Ends) (on : ℕ) (prices : ℕ
    → ℤ) (f : ℕ) (told : List Holding) (content : ℕ) (surplus : Option ℤ) : Type 0 where
  pub one_each : length told ≡ f
  pub each : (g : ℕ) (firm : Firm) (holding : Holding) → slice_get firms g ≡ Some firm → slice_get told g ≡ Some holding
      → TellsFirm trades (pos 1) on prices g firm holding
  pub counted : content ≡ count_by is_content told
  pub sum : IsSumBefore firms trades on f surplus
  pub within : All IsWithinHolding told
  pub inside : f ≤ length firms
  pub small : IfSome surplus (λ z. IsAtMost z (f * most_worth))

-- an item of a list with one more
last_or_before : {A : Type 0} (xs : List A) (x : A) (g : ℕ) (y : A) → slice_get (xs ++ x ∷ []) g ≡ Some y
    → (g ≡ length xs → y ≡ x) × ((g ≡ length xs → ⊥) → slice_get xs g ≡ Some y)
last_or_before [] x zero y is = ((λ e. sym (same_Some x y is)), (λ d. absurd (d refl)))
last_or_before [] x (suc g) y is = absurd (none-some y is)
last_or_before (first ∷ xs) x zero y is = ((λ e. absurd (omega (arith, e))), (λ d. is))
last_or_before (first ∷ xs) x (suc g) y is =
    let rest = last_or_before xs x g y is in
    ((λ e. rest.0 (omega (arith, e))), (λ d. rest.1 (λ e. d (ap suc e))))

more_sum : (firms : List Firm) (trades : List Ends) (on f : ℕ) (surplus worth : Option ℤ) (firm : Firm)
    → IsSumBefore firms trades on f surplus → slice_get firms f ≡ Some firm
    → worth ≡ firm.worth (part trades f firm.count on) → IfSome worth IsWithinClaim
    → IsSumBefore firms trades on (f + 1) (option_and_then (λ a. option_map (λ b. a +ℤ b) worth) surplus)
more_sum firms trades on f None worth firm sum is worth_is small = sum
more_sum firms trades on f (Some a) None firm sum is worth_is small = none_at firms trades on f firm is (sym worth_is)
more_sum firms trades on f (Some a) (Some b) firm sum is worth_is small =
    one_added firms trades on f a b firm sum is (sym worth_is) small

pub one_told : (firms : List Firm) (trades : List Ends) (on : ℕ) (prices : ℕ
    → ℤ) (f : ℕ) (told longer : List Holding) (content more : ℕ) (surplus total : Option ℤ) (firm : Firm)
    (holding : Holding)
    → AreTold firms trades on prices f told content surplus → slice_get firms f ≡ Some firm
    → TellsFirm trades (pos 1) on prices f firm holding → IsWithinHolding holding
    → IfSome holding.worth (λ z. IsAtMost z most_worth)
    → longer ≡ told ++ holding ∷ [] → more ≡ content + cond (is_content holding) 1 0
    → total ≡ option_and_then (λ a. option_map (λ b. a +ℤ b) holding.worth) surplus
    → AreTold firms trades on prices (f + 1) longer more total
one_told firms trades on prices f told longer content more surplus total firm holding before is tells within small
    longer_is more_is total_is =
    let counted = before.counted in
    let one_each = before.one_each in
    let added = sum_by-append (λ h. cond (is_content h) 1 0) told (holding ∷ []) in
    record {
      one_each = ap length longer_is ∙ length-append told (holding ∷ []) ∙ ap (λ (n : ℕ). n + 1) one_each;
      each = λ g other other_holding other_is there.
          let place = last_or_before told holding g other_holding
          (ap (λ (l : List Holding). slice_get l g) (sym longer_is) ∙ there) in
          elim (cases_eq g f) [
            | inl e ↦
                let same_firm : firm ≡ other = same_Some firm other (sym is ∙ ap (slice_get firms) (sym e) ∙ other_is)
                in
                let same_holding : other_holding ≡ holding = place.0 (e ∙ sym one_each) in
                subst (λ (h : ℕ). TellsFirm trades (pos 1) on prices h other other_holding) (sym e)
                (subst (λ (x : Holding). TellsFirm trades (pos 1) on prices f other x) (sym same_holding)
                (subst (λ (x : Firm). TellsFirm trades (pos 1) on prices f x holding) same_firm tells))
            | inr d ↦ before.each g other other_holding other_is (place.1 (λ e. d (e ∙ one_each)))
          ];
      counted = more_is ∙ ap (λ (n : ℕ). n + cond (is_content holding) 1 0) counted
          ∙ ap (λ (n : ℕ). count_by is_content told + n) (sym (count_one is_content holding)) ∙ sym added
          ∙ ap (count_by is_content) (sym longer_is);
      sum = subst (IsSumBefore firms trades on (f + 1)) (sym total_is)
          (more_sum firms trades on f surplus holding.worth firm before.sum is tells.worth_is within.worth);
      within = subst (All IsWithinHolding) (sym longer_is)
          (All-append IsWithinHolding told (holding ∷ []) before.within (one holding within));
      small = subst (λ (o : Option ℤ). IfSome o (λ z. IsAtMost z ((f + 1) * most_worth))) (sym total_is)
          (wider surplus holding.worth before.small small);
      inside = let there = slice_get_within firms f firm is in omega (arith, there);
    }
  where
    one : (x : Holding) → IsWithinHolding x → All IsWithinHolding (x ∷ [])
    one x h zero d below = h
    one x h (suc k) d below = absurd (omega (arith, below))

    wider : (a b : Option ℤ) → IfSome a (λ z. IsAtMost z (f * most_worth)) → IfSome b (λ z. IsAtMost z most_worth)
        → IfSome (option_and_then (λ x. option_map (λ y. x +ℤ y) b) a) (λ z. IsAtMost z ((f + 1) * most_worth))
    wider None b h k = tt
    wider (Some x) None h k = tt
    wider (Some x) (Some y) h k = record {
      low = omega (arith, ints, h.low, k.low);
      high =
          omega (arith, ints, h.high, k.high);
    }

-- the sum so far is small
pub sum_small : (f limit : ℕ) (surplus : Option ℤ) → f ≤ most_firms → most_firms * most_worth ≤ limit
    → IfSome surplus (λ z. IsAtMost z (f * most_worth)) → IfSome surplus (λ z. IsAtMost z limit)
sum_small f limit None few wide small = tt
sum_small f limit (Some z) few wide small = smaller z (f * most_worth) limit (omega (arith, few, wide)) small

all_are_told : (firms : List Firm) (trades : List Ends) (on : ℕ) (prices : ℕ
    → ℤ) (f : ℕ) (told : List Holding) (content : ℕ) (surplus : Option ℤ)
    → AreTold firms trades on prices f told content surplus → length firms ≤ f
    → TellsFirms firms trades (pos 1) on prices content told surplus
all_are_told firms trades on prices f told content surplus before end = record {
  one_each = before.one_each ∙ (let most = before.inside in let same : f ≡ length firms = omega (arith, end, most) in
      same);
  each = before.each;
  counted = before.counted;
  surplus_is = whole surplus before.sum;
}
  where
    whole : (o : Option ℤ) → IsSumBefore firms trades on f o → o ≡ surplus_of firms trades on
    whole None sum = sum
    whole (Some z) sum = all_added firms trades on f z sum end before.inside

-- and where all are content, these are an equilibrium
pub all_told : (firms : List Firm) (trades : List Ends) (on : ℕ) (prices : ℕ
    → ℤ) (f : ℕ) (told : List Holding) (content : ℕ) (surplus : Option ℤ) → IsNetwork firms trades
    → AreTold firms trades on prices f told content surplus → length firms ≤ f
    → TellsHoldings firms trades on prices (Firms content told surplus)
all_told firms trades on prices f told content surplus network before end =
    let tells = all_are_told firms trades on prices f told content surplus before end in (
      tells,
      λ all. let equilibrium =
          (content_is_equilibrium firms trades (pos 1) on prices content told surplus tells).0 all in
          (equilibrium, implied_by firms trades on prices network equilibrium),
    )
