-- What `judge` says of outcomes of the deal.
use Rattle.std.proofs.Common.{◌≡◌, ℕ, zero, suc, ◌^◌, ◌<◌, true, refl, sym, ap, ◌∙◌, subst, arith, List, [], ◌∷◌, slice_get, length}
use Rattle.std.specs.Prelude.{ℤ, pos, negsuc, ◌≤ℤ◌, ◌-ℤ◌, option_map, Option, Some}
use Rattle.std.proofs.lemmas.Int.{ints}
use Rattle.std.proofs.lemmas.Option.{same_Some, none-some}
use Rattle.std.proofs.lemmas.List.Elements.{All-cons, All-nil}
use Rattle.tn_base.specs.Arcs.{IsAtMost}
use Rattle.tn_base.specs.Sets.{has, sum_over, toggle, set_of}
use Rattle.tn_base.specs.Firm.{Firm}
use Rattle.tn_exchange.specs.Rows.{worth_in}
use Rattle.tn_model.specs.declared.contract.Contract.{Contract}
use Rattle.tn_model.specs.declared.ends.Ends.{Ends}
use Rattle.tn_said.specs.declared.said.Said.{Said}
use Rattle.tn_said.specs.declared.said.Said.TheVariants.{Drops, Completes, Blocks}
use Rattle.tn_model.specs.Prices.{price_at}
use Rattle.tn_model.specs.Choices.{IsPart, IsChoice, IsIndividuallyRational, is_of, own_part, part_utility, bundle_by}
use Rattle.tn_model.specs.Network.{trades_of}
use Rattle.tn_market.specs.Equilibrium.{utility_at, HasBest, IsEquilibrium}
use Rattle.tn_market.specs.Signed.{signed}
use Rattle.tn_commands.specs.Judge.{JudgesOutcome}
use Rattle.tn_judge.specs.Verdict.{WouldDrop, IsCompletedBy}
use Rattle.tn_case_laws.proofs.Decided.{all_below, each_below, ordered}
use Rattle.tn_case_laws.proofs.Finite.{best_by, is_at_most, two_firms}
use Rattle.tn_case_laws.proofs.Deal.{asks_3, asks_5, buyer, seller, deal_firms, deal_trades, seller_below, buyer_below, off_at_least_5, off_at_most_5}

-- ---- choices from no contracts, and from one

no_part : (trades : List Ends) (f x : ℕ) → x < 1 → IsPart trades f [] x
no_part trades f x below = record {
  within = below;
  own = λ k contract e h. absurd (none-some contract e);
  once = λ j k one other p q h i e. absurd (none-some one p);
}

only_index : (contract other : Contract) (k : ℕ) → slice_get (contract ∷ []) k ≡ Some other → (k ≡ 0)
    × (contract ≡ other)
only_index contract other zero e = (refl, same_Some contract other e)
only_index contract other (suc k) e = absurd (none-some other e)

pub one_part : (trades : List Ends) (f : ℕ) (contract : Contract) → is_of trades f contract ≡ true → (x : ℕ) → x < 2
    → IsPart trades f (contract ∷ []) x
one_part trades f contract own x below = record {
  within = below;
  own = λ k other e h. subst (λ c. is_of trades f c ≡ true) (only_index contract other k e).1 own;
  once = λ j k one other p q h i e. (only_index contract one j p).0 ∙ sym (only_index contract other k q).0;
}

-- a part whose utility is the greatest is a choice
pub choice_by : (trades : List Ends) (scale : ℤ) (f : ℕ) (firm : Firm) (contracts : List Contract) (x : ℕ) (value : ℤ)
    → IsPart trades f contracts x
    → part_utility trades scale f firm contracts x ≡ Some value
    → all_below (λ y. is_at_most value (part_utility trades scale f firm contracts y)) (2 ^ length contracts) ≡ true
    → IsChoice trades scale f firm contracts x
choice_by trades scale f firm contracts x value part is e = record {
  part = part;
  value = value;
  is = is;
  most = λ y other y_part y_is.
      let test = each_below (λ y. is_at_most value (part_utility trades scale f firm contracts y))
      (2 ^ length contracts) e y y_part.within in
      ordered other value (rw y_is at test);
}

-- prices for one trade
pub one_price : (prices : List ℤ) → length prices ≡ 1 → prices ≡ price_at prices 0 ∷ []
one_price [] e = absurd (omega (arith, e))
one_price (p ∷ []) e = refl
one_price (p ∷ q ∷ prices) e = absurd (omega (arith, e))

-- ---- where the outcome is individually rational, and completed by these prices alone

pub only_completes : (firms : List Firm) (trades : List Ends) (over : ℤ) (contracts : List Contract) (prices : List ℤ)
    → IsIndividuallyRational firms trades over contracts
    → IsCompletedBy firms trades over contracts prices → ((other : List ℤ)
    → IsCompletedBy firms trades over contracts other → other ≡ prices)
    → (said : Said) → JudgesOutcome firms trades over contracts said → said ≡ Completes prices over
only_completes firms trades over contracts prices rational completed only (Drops f keeps gain told) judges =
    absurd (judges.1.drops.fails (rational f judges.1.firm judges.1.is))
only_completes firms trades over contracts prices rational completed only (Completes other told) judges =
    let same = only other judges.1 in let same_over = judges.2 in λ i. Completes (same i) (same_over i)
only_completes firms trades over contracts prices rational completed only (Blocks offers told) judges =
    absurd (judges.incomplete (price_at prices) completed.completes)
only_completes firms trades over contracts prices rational completed only said judges = absurd judges

-- ---- no contract, and an ask of 5

pub rational_5 : IsIndividuallyRational (deal_firms asks_5) deal_trades (pos 1) []
unfolding all_below has sum_over set_of worth_in
rational_5 =
    two_firms (λ f firm. IsChoice deal_trades (pos 1) f firm [] (own_part deal_trades f [])) (seller asks_5) buyer
    (choice_by deal_trades (pos 1) 0 (seller asks_5) [] 0 (pos 0) (no_part deal_trades 0 0 (omega arith)) refl refl)
    (choice_by deal_trades (pos 1) 1 buyer [] 0 (pos 0) (no_part deal_trades 1 0 (omega arith)) refl refl)

equilibrium_at_5 : IsEquilibrium (deal_firms asks_5) deal_trades (pos 1) 0 (price_at (pos 5 ∷ []))
unfolding all_below has sum_over set_of worth_in toggle
equilibrium_at_5 =
    two_firms (λ f firm. HasBest deal_trades (pos 1) 0 (price_at (pos 5 ∷ [])) f firm) (seller asks_5) buyer (
      pos 0,
      best_by 2 (utility_at deal_trades (pos 1) (price_at (pos 5 ∷ [])) 0 (seller asks_5))
          (seller_below asks_5 (pos 1) (price_at (pos 5 ∷ []))) 0 (pos 0) refl refl,
    ) (
      pos 0,
      best_by 2 (utility_at deal_trades (pos 1) (price_at (pos 5 ∷ [])) 1 buyer)
          (buyer_below (pos 1) (price_at (pos 5 ∷ []))) 0 (pos 0) refl refl,
    )

none_signed : signed 1 [] ≡ 0
unfolding set_of
none_signed = refl

small_price : (n : ℕ) → n < 10 → IsAtMost (pos n) (10 ^ 17)
small_price n below = record { low = omega (arith, ints); high = omega (arith, ints, below) }

pub completed_5 : IsCompletedBy (deal_firms asks_5) deal_trades (pos 1) [] (pos 5 ∷ [])
completed_5 = record {
  one_each = refl;
  small = All-cons (λ p. IsAtMost p (10 ^ 17)) (pos 5) [] (small_price 5 (omega arith))
      (All-nil (λ p. IsAtMost p (10 ^ 17)));
  completes = record {
    agree = λ k contract e. absurd (none-some contract e);
    equilibrium =
        subst (λ on. IsEquilibrium (deal_firms asks_5) deal_trades (pos 1) on (price_at (pos 5 ∷ []))) (sym none_signed)
        equilibrium_at_5;
  };
}

pub only_5 : (prices : List ℤ) → IsCompletedBy (deal_firms asks_5) deal_trades (pos 1) [] prices → prices ≡ pos 5 ∷ []
only_5 prices completed =
    let off = subst (λ on. IsEquilibrium (deal_firms asks_5) deal_trades (pos 1) on (price_at prices)) none_signed
    completed.completes.equilibrium in
    let low = off_at_least_5 asks_5 (price_at prices) off in
    let high = off_at_most_5 (price_at prices) off in
    let five : price_at prices 0 ≡ pos 5 = omega (arith, ints, low, high) in
    one_price prices completed.one_each ∙ ap (λ p. p ∷ []) five

-- ---- the trade signed at 9/2, and an ask of 3

abbrev pub at_9 : List Contract
at_9 = record { trade = 0; price = pos 9 } ∷ []

pub rational_9 : IsIndividuallyRational (deal_firms asks_3) deal_trades (pos 2) at_9
unfolding all_below has sum_over set_of worth_in toggle
rational_9 =
    two_firms (λ f firm. IsChoice deal_trades (pos 2) f firm at_9 (own_part deal_trades f at_9)) (seller asks_3) buyer
    (choice_by deal_trades (pos 2) 0 (seller asks_3) at_9 1 (pos 3)
    (one_part deal_trades 0 (record { trade = 0; price = pos 9 }) refl 1 (omega arith)) refl refl)
    (choice_by deal_trades (pos 2) 1 buyer at_9 1 (pos 1)
    (one_part deal_trades 1 (record { trade = 0; price = pos 9 }) refl 1 (omega arith)) refl refl)

equilibrium_at_9 : IsEquilibrium (deal_firms asks_3) deal_trades (pos 2) (signed 1 at_9) (price_at (pos 9 ∷ []))
unfolding all_below has sum_over set_of worth_in toggle
equilibrium_at_9 =
    two_firms (λ f firm. HasBest deal_trades (pos 2) (signed 1 at_9) (price_at (pos 9 ∷ [])) f firm) (seller asks_3)
    buyer (
      pos 3,
      best_by 2 (utility_at deal_trades (pos 2) (price_at (pos 9 ∷ [])) 0 (seller asks_3))
          (seller_below asks_3 (pos 2) (price_at (pos 9 ∷ []))) 1 (pos 3) refl refl,
    ) (
      pos 1,
      best_by 2 (utility_at deal_trades (pos 2) (price_at (pos 9 ∷ [])) 1 buyer)
          (buyer_below (pos 2) (price_at (pos 9 ∷ []))) 1 (pos 1) refl refl,
    )

pub completed_9 : IsCompletedBy (deal_firms asks_3) deal_trades (pos 2) at_9 (pos 9 ∷ [])
completed_9 = record {
  one_each = refl;
  small = All-cons (λ p. IsAtMost p (10 ^ 17)) (pos 9) [] (small_price 9 (omega arith))
      (All-nil (λ p. IsAtMost p (10 ^ 17)));
  completes = record { agree = agree; equilibrium = equilibrium_at_9 };
}
  where
    agree : (k : ℕ) (contract : Contract) → slice_get at_9 k ≡ Some contract
        → price_at (pos 9 ∷ []) contract.trade ≡ contract.price
    agree zero contract e =
        subst (λ (c : Contract). price_at (pos 9 ∷ []) c.trade ≡ c.price) (same_Some _ contract e) refl
    agree (suc k) contract e = absurd (none-some contract e)

pub only_9 : (prices : List ℤ) → IsCompletedBy (deal_firms asks_3) deal_trades (pos 2) at_9 prices → prices ≡ pos 9 ∷ []
only_9 prices completed = one_price prices completed.one_each
    ∙ ap (λ p. p ∷ []) (completed.completes.agree 0 (record { trade = 0; price = pos 9 }) refl)

-- ---- the trade signed at 2, and an ask of 3

abbrev pub at_2 : List Contract
at_2 = record { trade = 0; price = pos 2 } ∷ []

seller_nothing : part_utility deal_trades (pos 1) 0 (seller asks_3) at_2 0 ≡ Some (pos 0)
unfolding has sum_over set_of worth_in toggle
seller_nothing = refl

seller_all : part_utility deal_trades (pos 1) 0 (seller asks_3) at_2 1 ≡ Some (negsuc 0)
unfolding has sum_over set_of worth_in toggle
seller_all = refl

seller_owns : own_part deal_trades 0 at_2 ≡ 1
unfolding set_of toggle
seller_owns = refl

seller_parts : (x : ℕ) → x < 2 → IsPart deal_trades 0 at_2 x
seller_parts = one_part deal_trades 0 (record { trade = 0; price = pos 2 }) refl

chooses_nothing : IsChoice deal_trades (pos 1) 0 (seller asks_3) at_2 0
unfolding all_below has sum_over set_of worth_in toggle
chooses_nothing =
    choice_by deal_trades (pos 1) 0 (seller asks_3) at_2 0 (pos 0) (seller_parts 0 (omega arith)) refl refl

not_all : IsChoice deal_trades (pos 1) 0 (seller asks_3) at_2 1 → ⊥
not_all choice =
    let value : choice.value ≡ negsuc 0 = same_Some _ _ (sym choice.is ∙ seller_all) in
    let most : pos 0 ≤ℤ choice.value = choice.most 0 (pos 0) (seller_parts 0 (omega arith)) seller_nothing in
    absurd (omega (arith, ints, value, most))

not_own : IsChoice deal_trades (pos 1) 0 (seller asks_3) at_2 (own_part deal_trades 0 at_2) → ⊥
not_own choice = not_all (subst (IsChoice deal_trades (pos 1) 0 (seller asks_3) at_2) seller_owns choice)

only_nothing : (x : ℕ) (choice : IsChoice deal_trades (pos 1) 0 (seller asks_3) at_2 x) → (x ≡ 0)
    × (choice.value ≡ pos 0)
only_nothing zero choice = (refl, same_Some _ _ (sym choice.is ∙ seller_nothing))
only_nothing (suc zero) choice = absurd (not_all choice)
only_nothing (suc (suc x)) choice = let within : suc (suc x) < 2 = choice.part.within in absurd (omega (arith, within))

no_bundle : bundle_by deal_trades 0 1 at_2 0 ≡ 0
unfolding has set_of
no_bundle = refl

pub is_drop : JudgesOutcome (deal_firms asks_3) deal_trades (pos 1) at_2 (Drops 0 [] (Some (pos 1)) (pos 1))
unfolding has
is_drop = (
  0,
  record {
    before = λ g firm below is. absurd (omega (arith, below));
    firm = seller asks_3;
    is = refl;
    drops = record {
      fails = not_own;
      kept = 0;
      choice = chooses_nothing;
      bundle = no_bundle;
      gains = gains;
    };
  },
  refl,
  refl,
)
  where
    value : chooses_nothing.value ≡ pos 0
    value = (only_nothing 0 chooses_nothing).1

    gains : Some (pos 1) ≡ option_map (λ own. chooses_nothing.value -ℤ own)
        (part_utility deal_trades (pos 1) 0 (seller asks_3) at_2 (own_part deal_trades 0 at_2))
    gains = ap (λ z. option_map (λ own. z -ℤ own) (Some (negsuc 0))) (sym value)
        ∙ ap (option_map (λ own. chooses_nothing.value -ℤ own))
        (sym (ap (part_utility deal_trades (pos 1) 0 (seller asks_3) at_2) seller_owns ∙ seller_all))

dropped : (keeps : ℕ) (gain : Option ℤ) → WouldDrop deal_trades (pos 1) at_2 0 (seller asks_3) keeps gain → (keeps ≡ 0)
    × (gain ≡ Some (pos 1))
dropped keeps gain drop =
    let only = only_nothing drop.kept drop.choice in (
      sym drop.bundle ∙ ap (bundle_by deal_trades 0 1 at_2) only.0 ∙ no_bundle,
      drop.gains ∙ ap
          (λ z. option_map (λ own. z -ℤ own) (part_utility deal_trades (pos 1) 0 (seller asks_3) at_2
          (own_part deal_trades 0 at_2))) only.1
          ∙ ap (option_map (λ own. pos 0 -ℤ own)) (ap (part_utility deal_trades (pos 1) 0 (seller asks_3) at_2)
          seller_owns ∙ seller_all),
    )

pub only_drop : (said : Said) → JudgesOutcome (deal_firms asks_3) deal_trades (pos 1) at_2 said
    → said ≡ Drops 0 [] (Some (pos 1)) (pos 1)
unfolding has
only_drop (Drops zero keeps gain told) judges =
    let same : judges.1.firm ≡ seller asks_3 = same_Some _ _ (sym judges.1.is) in
    let known = dropped judges.0 gain (subst (λ firm. WouldDrop deal_trades (pos 1) at_2 0 firm judges.0 gain) same
    judges.1.drops) in
    let none : keeps ≡ [] = judges.2 ∙ ap (λ firm. trades_of deal_trades 0 firm.count judges.0) same
    ∙ ap (trades_of deal_trades 0 1) known.0 in
    let one = known.1 in
    let over_is = judges.3 in
    λ i. Drops 0 (none i) (one i) (over_is i)
only_drop (Drops (suc f) keeps gain told) judges =
    absurd (not_own (judges.1.before 0 (seller asks_3) (omega arith) refl))
only_drop (Completes prices told) judges = absurd (not_own (judges.0 0 (seller asks_3) refl))
only_drop (Blocks offers told) judges = absurd (not_own (judges.rational 0 (seller asks_3) refl))
only_drop said judges = absurd judges
