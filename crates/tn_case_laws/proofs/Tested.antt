-- What `test` says where each firm meets exchange, and where the first that doesn't is a table.
use Rattle.std.proofs.Common.{◌≡◌, ℕ, zero, suc, ◌^◌, ◌<◌, ◌≤◌, refl, sym, ap, ◌∙◌, subst, arith, ◌⊎◌, inl, inr, List, [], ◌∷◌, slice_get, length}
use Rattle.std.specs.Prelude.{ℤ, pos, negsuc, ◌≤ℤ◌, ◌+ℤ◌, true, not, ◌||◌, nat_lt, is_none, option_map, Option, Some, None}
use Rattle.std.proofs.lemmas.Int.{ints}
use Rattle.std.proofs.lemmas.Bool.{cases_order, or_cases, false≢true, lt-ltb}
use Rattle.std.proofs.lemmas.Option.{same_Some, none-some, slice_get_within}
use Rattle.tn_base.specs.declared.side.Side.TheVariants.{Buy, Sell}
use Rattle.tn_base.specs.Sets.{has, sum_over, toggle, union, meet, minus, size, size_below}
use Rattle.tn_base.specs.Firm.{Firm, HasOwnBundles, up, down, net}
use Rattle.tn_base.specs.Exchange.{AreEnough, Exchanges, MeetsExchange, Fails}
use Rattle.tn_base.proofs.ExchangeLemmas.{none_fails_from_exchange}
use Rattle.tn_base.proofs.SetLemmas.{has-zero, has_below}
use Rattle.tn_cert.specs.Reasons.{IsFirstToFail}
use Rattle.tn_exchange.specs.Rows.{TableRows, firm_of_table, worth_in}
use Rattle.tn_exchange.specs.TestOrder.{Triple, IsTestedBefore, IsEarlier, TripleFails, IsFirstFailure}
use Rattle.tn_exchange.proofs.RowLemmas.{own_bundles}
use Rattle.tn_local.specs.First.{IsFirstTriple}
use Rattle.tn_local.proofs.FirstLemmas.{triple_fails}
use Rattle.tn_laminar.specs.Sum.{laminar_firm}
use Rattle.tn_model.specs.declared.ends.Ends.{Ends}
use Rattle.tn_said.specs.declared.said.Said.{Said}
use Rattle.tn_said.specs.declared.said.Said.TheVariants.{Accepted, ExchangeFails}
use Rattle.tn_model.specs.Network.{own, trades_of}
use Rattle.tn_raw_answers.specs.Test.{Tests}
use Rattle.tn_case_laws.proofs.Decided.{all_below, some_below, each_below, exchanges_at, holds_at, never_at, never_fails_at, meets}
use Rattle.tn_case_laws.proofs.Finite.{three_firms}

-- ---- a firm has one first failing triple

before_or_after : (a b : Option ℕ) → (a ≡ b) ⊎ (IsTestedBefore a b ⊎ IsTestedBefore b a)
before_or_after (Some i) (Some j) = elim (cases_order i j) [
  | inl e ↦ inl (ap (λ (k : ℕ). Some k) e)
  | inr other ↦
      inr other
]
before_or_after (Some i) None = inr (inl tt)
before_or_after None (Some j) = inr (inr tt)
before_or_after None None = inl refl

earlier_or_later : (s t : Triple) → (s ≡ t) ⊎ (IsEarlier s t ⊎ IsEarlier t s)
earlier_or_later s t = by_x (cases_order s.x t.x)
  where
    by_at : s.x ≡ t.x → s.y ≡ t.y → (s.at ≡ t.at) ⊎ (IsTestedBefore s.at t.at ⊎ IsTestedBefore t.at s.at) → (s ≡ t)
        ⊎ (IsEarlier s t ⊎ IsEarlier t s)
    by_at same_x same_y (inl same) = inl (λ i. record { x = same_x i; y = same_y i; at = same i })
    by_at same_x same_y (inr (inl before)) = inr (inl (inr (same_x, inr (same_y, before))))
    by_at same_x same_y (inr (inr after)) = inr (inr (inr (sym same_x, inr (sym same_y, after))))

    by_y : s.x ≡ t.x → (s.y ≡ t.y) ⊎ ((s.y < t.y) ⊎ (t.y < s.y)) → (s ≡ t) ⊎ (IsEarlier s t ⊎ IsEarlier t s)
    by_y same_x (inl same) = by_at same_x same (before_or_after s.at t.at)
    by_y same_x (inr (inl less)) = inr (inl (inr (same_x, inl less)))
    by_y same_x (inr (inr more)) = inr (inr (inr (sym same_x, inl more)))

    by_x : (s.x ≡ t.x) ⊎ ((s.x < t.x) ⊎ (t.x < s.x)) → (s ≡ t) ⊎ (IsEarlier s t ⊎ IsEarlier t s)
    by_x (inl same) = by_y same (cases_order s.y t.y)
    by_x (inr (inl less)) = inr (inr (inl less))
    by_x (inr (inr more)) = inr (inl (inl more))

same_first : (firm : Firm) (s t : Triple) → IsFirstFailure firm s → IsFirstFailure firm t → s ≡ t
same_first firm s t first other = elim (earlier_or_later s t) [
  | inl same ↦ same
  | inr (inl before) ↦ absurd (other.first s before first.fails)
  | inr (inr after) ↦ absurd (first.first t after other.fails)
]

never_meets : (firm : Firm) (triple : Triple) → TripleFails firm triple → MeetsExchange firm → ⊥
never_meets firm triple fails meets = none_fails_from_exchange firm meets triple.x triple.y triple.at fails

-- ---- each firm meets exchange

abbrev pub AllMeet : List Firm → Type 0
AllMeet firms = (f : ℕ) (firm : Firm) → slice_get firms f ≡ Some firm → MeetsExchange firm

pub is_accepted : (firms : List Firm) (trades : List Ends) → AllMeet firms → Tests firms trades Accepted
is_accepted firms trades all f firm below is = all f firm is

pub only_accepted : (firms : List Firm) (trades : List Ends) → AllMeet firms → (said : Said) → Tests firms trades said
    → said ≡ Accepted
only_accepted firms trades all Accepted tests = refl
only_accepted firms trades all (ExchangeFails f x y at) tests =
    absurd (never_meets tests.firm tests.triple (triple_fails tests.firm tests.triple tests.first)
    (all f tests.firm tests.is))
only_accepted firms trades all said tests = absurd tests

-- ---- firm f is a small table that fails exchange, and the firms before it meet it

pub record FailsFirst (firms : List Firm) (f : ℕ) (table : TableRows) (triple : Triple) : Type 0 where
  pub before : (g : ℕ) (firm : Firm) → g < f → slice_get firms g ≡ Some firm → MeetsExchange firm
  pub is : slice_get firms f ≡ Some (firm_of_table table)
  pub small : length table.sides ≤ 10
  pub first : IsFirstFailure (firm_of_table table) triple

abbrev pub failure : List Ends → ℕ → ℕ → Triple → Said
failure trades f count triple =
    ExchangeFails f (trades_of trades f count triple.x) (trades_of trades f count triple.y)
    (option_map (own trades f) triple.at)

pub is_failure : (firms : List Firm) (trades : List Ends) (f : ℕ) (table : TableRows) (triple : Triple)
    → FailsFirst firms f table triple → Tests firms trades (failure trades f (length table.sides) triple)
is_failure firms trades f table triple fails = record {
  before = fails.before;
  firm = firm_of_table table;
  is = fails.is;
  triple = triple;
  first = record { small = λ few. fails.first; large = λ many. absurd (omega (arith, many, fails.small)) };
  x_is = refl;
  y_is = refl;
  at_is = refl;
}

same_failure : (firms : List Firm) (trades : List Ends) (f : ℕ) (table : TableRows) (triple : Triple)
    → FailsFirst firms f table triple → (x y : List ℕ) (at : Option ℕ) → IsFirstToFail firms trades f x y at
    → ExchangeFails f x y at ≡ failure trades f (length table.sides) triple
same_failure firms trades f table triple fails x y at told =
    let same : told.firm ≡ firm_of_table table = same_Some _ _ (sym told.is ∙ fails.is) in
    let first : IsFirstTriple (firm_of_table table) told.triple =
    subst (λ firm. IsFirstTriple firm told.triple) same told.first in
    let one : told.triple ≡ triple =
    same_first (firm_of_table table) told.triple triple (first.small fails.small) fails.first in
    let x_is = told.x_is ∙ (λ i. trades_of trades f (same i).count (one i).x) in
    let y_is = told.y_is ∙ (λ i. trades_of trades f (same i).count (one i).y) in
    let at_is = told.at_is ∙ (λ i. option_map (own trades f) (one i).at) in
    λ i. ExchangeFails f (x_is i) (y_is i) (at_is i)

pub only_failure : (firms : List Firm) (trades : List Ends) (f : ℕ) (table : TableRows) (triple : Triple)
    → FailsFirst firms f table triple → (said : Said) → Tests firms trades said
    → said ≡ failure trades f (length table.sides) triple
only_failure firms trades f table triple fails Accepted tests =
    absurd (never_meets (firm_of_table table) triple fails.first.fails
    (tests f (firm_of_table table) (slice_get_within firms f (firm_of_table table) fails.is) fails.is))
only_failure firms trades f table triple fails (ExchangeFails g x y at) tests = elim (cases_order g f) [
  | inl e ↦ ap (λ (h : ℕ). ExchangeFails h x y at) e ∙ same_failure firms trades f table triple fails x y at
      (subst (λ h. IsFirstToFail firms trades h x y at) e tests)
  | inr (inl earlier) ↦
      absurd (never_meets tests.firm tests.triple (triple_fails tests.firm tests.triple tests.first)
      (fails.before g tests.firm earlier tests.is))
  | inr (inr later) ↦
      absurd (never_meets (firm_of_table table) triple fails.first.fails
      (tests.before f (firm_of_table table) later fails.is))
]
only_failure firms trades f table triple fails said tests = absurd tests

-- ---- complements

abbrev pub both_table : TableRows
both_table = record { sides = Buy ∷ Buy ∷ []; rows = None ∷ Some (pos 0) ∷ Some (pos 0) ∷ Some (pos 10) ∷ [] }

abbrev pub both_seller : Firm
both_seller = laminar_firm (Sell ∷ Sell ∷ []) (negsuc 0 ∷ negsuc 0 ∷ []) []

abbrev pub both_firms : List Firm
both_firms = both_seller ∷ firm_of_table both_table ∷ []

abbrev pub both_trades : List Ends
both_trades = record { seller = 0; buyer = 1; at_seller = 0; at_buyer = 0 } ∷ record {
  seller = 0;
  buyer =
      1;
  at_seller = 1;
  at_buyer = 1;
} ∷ []

abbrev pub both_triple : Triple
both_triple = record { x = 3; y = 0; at = Some 0 }

seller_meets : HasOwnBundles both_seller → MeetsExchange both_seller
unfolding all_below some_below sum_over has toggle union meet minus size size_below up net
seller_meets own = meets both_seller own refl

both_worths : ((firm_of_table both_table).worth 3 ≡ Some (pos 10)) × ((firm_of_table both_table).worth 0 ≡ Some (pos 0))
    × ((firm_of_table both_table).worth 2 ≡ Some (pos 0)) × ((firm_of_table both_table).worth 1 ≡ Some (pos 0))
unfolding worth_in
both_worths = (refl, refl, refl, refl)

both_up : has (up 3 3 0) 0 ≡ true
unfolding has up union meet minus
both_up = refl

both_down : down 3 3 0 ≡ 0
unfolding up union meet minus
both_down = refl

too_little : AreEnough (firm_of_table both_table) (toggle 3 0) (toggle 0 0) (pos 10) → ⊥
unfolding toggle
too_little enough =
    let first : enough.first ≡ pos 0 = same_Some _ _ (sym enough.first_is ∙ both_worths.2) in
    let second : enough.second ≡ pos 0 = same_Some _ _ (sym enough.second_is ∙ both_worths.3) in
    let most : pos 10 ≤ℤ (enough.first +ℤ enough.second) = enough.enough in
    absurd (omega (arith, ints, first, second, most))

both_wrong : Exchanges (firm_of_table both_table) 3 0 (pos 10) 0 → ⊥
both_wrong (inl swap) = false≢true (sym (has-zero swap.at) ∙ ap (λ s. has s swap.at) (sym both_down) ∙ swap.is_down)
both_wrong (inr alone) = too_little alone.enough

none_before : (s : Triple) → IsEarlier s both_triple → TripleFails (firm_of_table both_table) s → ⊥
none_before s (inl above) f =
    let within : s.x < 4 = own_bundles both_table s.x f.first f.first_is in
    omega (arith, above, within)
none_before s (inr (same, inl below)) f = omega (arith, below)
none_before s (inr (same, inr (same_y, before))) f = by s.at before
  where
    by : (at : Option ℕ) → IsTestedBefore at (Some 0) → ⊥
    by (Some i) below = omega (arith, below)
    by None never = never

pub both_fail : HasOwnBundles both_seller → FailsFirst both_firms 1 both_table both_triple
both_fail own = record {
  before = before;
  is = refl;
  small = omega arith;
  first = record {
    fails = record {
      first = pos 10;
      second = pos 0;
      first_is = both_worths.0;
      second_is = both_worths.1;
      wrong =
          (both_up, both_wrong);
    };
    first = none_before;
  };
}
  where
    before : (g : ℕ) (firm : Firm) → g < 1 → slice_get both_firms g ≡ Some firm → MeetsExchange firm
    before zero firm below is = subst MeetsExchange (same_Some _ _ is) (seller_meets own)
    before (suc g) firm below is = absurd (omega (arith, below))

-- ---- a dealer that buys and sells or does neither

abbrev pub source_table : TableRows
source_table = record { sides = Sell ∷ []; rows = None ∷ Some (negsuc 0) ∷ [] }

abbrev pub middle_table : TableRows
middle_table = record { sides = Buy ∷ Sell ∷ []; rows = Some (pos 0) ∷ None ∷ None ∷ Some (pos 5) ∷ [] }

abbrev pub target_table : TableRows
target_table = record { sides = Buy ∷ []; rows = None ∷ Some (pos 6) ∷ [] }

abbrev pub dealer_firms : List Firm
dealer_firms = firm_of_table source_table ∷ firm_of_table middle_table ∷ firm_of_table target_table ∷ []

abbrev pub dealer_trades : List Ends
dealer_trades = record { seller = 0; buyer = 1; at_seller = 0; at_buyer = 0 } ∷ record {
  seller = 1;
  buyer =
      2;
  at_seller = 1;
  at_buyer = 0;
} ∷ []

pub dealers_meet : AllMeet dealer_firms
unfolding all_below some_below worth_in has toggle union meet minus size size_below up net
dealers_meet =
    three_firms (λ f firm. MeetsExchange firm) (firm_of_table source_table) (firm_of_table middle_table)
    (firm_of_table target_table)
    (meets (firm_of_table source_table) (own_bundles source_table) refl)
    (meets (firm_of_table middle_table) (own_bundles middle_table) refl)
    (meets (firm_of_table target_table) (own_bundles target_table) refl)

-- ---- two purchases, each tied to a sale

abbrev pub tied_table : TableRows
tied_table = record {
  sides = Buy ∷ Buy ∷ Sell ∷ Sell ∷ [];
  rows = None ∷ None ∷ None ∷ None ∷ None ∷ Some (pos 5) ∷ None ∷ None ∷ None ∷ None ∷ Some (pos 5) ∷ None ∷ None ∷ None
      ∷ None ∷ None ∷ [];
}

abbrev tied : Firm
tied = firm_of_table tied_table

abbrev pub free_seller : Firm
free_seller = laminar_firm (Sell ∷ Sell ∷ []) (pos 0 ∷ pos 0 ∷ []) []

abbrev pub free_buyer : Firm
free_buyer = laminar_firm (Buy ∷ Buy ∷ []) (pos 0 ∷ pos 0 ∷ []) []

abbrev pub tied_firms : List Firm
tied_firms = free_seller ∷ tied ∷ free_buyer ∷ []

abbrev pub tied_trades : List Ends
tied_trades = record { seller = 0; buyer = 1; at_seller = 0; at_buyer = 0 } ∷ record {
  seller = 0;
  buyer =
      1;
  at_seller = 1;
  at_buyer = 1;
}
    ∷ record { seller = 1; buyer = 2; at_seller = 2; at_buyer = 0 } ∷ record {
      seller = 1;
      buyer = 2;
      at_seller =
          3;
      at_buyer = 1;
    } ∷ []

abbrev pub tied_triple : Triple
tied_triple = record { x = 10; y = 5; at = Some 1 }

free_meets : HasOwnBundles free_seller → MeetsExchange free_seller
unfolding all_below some_below sum_over has toggle union meet minus size size_below up net
free_meets own = meets free_seller own refl

tied_ten : tied.worth 10 ≡ Some (pos 5)
unfolding worth_in
tied_ten = refl

tied_five : tied.worth 5 ≡ Some (pos 5)
unfolding worth_in
tied_five = refl

tied_up : has (up 3 10 5) 1 ≡ true
unfolding has up union meet minus
tied_up = refl

-- where a2 goes from the second pair to the first, no other trade that goes with it leaves both bundles possible
no_swap : (at : ℕ) → has (down 3 10 5) at ≡ true
    → AreEnough tied (toggle (toggle 10 1) at) (toggle (toggle 5 1) at) (pos 10) → at < 4 → ⊥
unfolding has up union meet minus toggle worth_in
no_swap zero is_down enough within = none-some enough.first enough.first_is
no_swap (suc zero) is_down enough within = false≢true is_down
no_swap (suc (suc zero)) is_down enough within = false≢true is_down
no_swap (suc (suc (suc zero))) is_down enough within = none-some enough.second enough.second_is
no_swap (suc (suc (suc (suc at)))) is_down enough within = omega (arith, within)

down_within : down 3 10 5 < 2 ^ 4
unfolding up union meet minus
down_within = omega arith

no_move : AreEnough tied (toggle 10 1) (toggle 5 1) (pos 10) → ⊥
unfolding toggle worth_in
no_move enough = none-some enough.first enough.first_is

tied_wrong : Exchanges tied 10 5 (pos 10) 1 → ⊥
tied_wrong (inl swap) =
    no_swap swap.at swap.is_down swap.enough (has_below (down 3 10 5) 4 swap.at down_within swap.is_down)
tied_wrong (inr alone) = no_move alone.enough

-- no bundle above 10 is possible
tied_above : (x : ℕ) (a : ℤ) → tied.worth x ≡ Some a → 10 < x → ⊥
unfolding all_below worth_in
tied_above x a is above =
    let test = each_below (λ x. not (nat_lt 10 x) || is_none (tied.worth x)) 16 refl x (own_bundles tied_table x a is)
    in
    elim (or_cases (not (nat_lt 10 x)) (is_none (tied.worth x)) test) [
      | inl at_most ↦ false≢true (sym (ap not (lt-ltb 10 x above)) ∙ at_most)
      | inr none ↦ false≢true (sym (ap (λ o. is_none o) is) ∙ none)
    ]

pairs_hold : (y : ℕ) → y < 5 → holds_at tied 10 y ≡ true
unfolding all_below some_below worth_in has toggle union meet minus size size_below up net
pairs_hold = each_below (holds_at tied 10) 5 refl

first_holds : exchanges_at tied 10 5 (pos 5 +ℤ pos 5) 0 ≡ true
unfolding all_below some_below worth_in has toggle union meet minus size size_below up net
first_holds = refl

none_earlier : (s : Triple) → IsEarlier s tied_triple → TripleFails tied s → ⊥
none_earlier s (inl above) f = tied_above s.x f.first f.first_is above
none_earlier s (inr (same, inl below)) f =
    never_fails_at tied (own_bundles tied_table) 10 s.y (pairs_hold s.y below) s.at
    (subst (λ x. Fails tied x s.y s.at) same f)
none_earlier s (inr (same, inr (same_y, before))) f =
    by s.at before (subst (λ y. Fails tied 10 y s.at) same_y (subst (λ x. Fails tied x s.y s.at) same f))
  where
    by : (at : Option ℕ) → IsTestedBefore at (Some 1) → Fails tied 10 5 at → ⊥
    by (Some zero) below fails =
        never_at tied (own_bundles tied_table) 10 5 0 (pos 5) (pos 5) tied_ten tied_five first_holds fails
    by (Some (suc i)) below fails = omega (arith, below)
    by None never fails = never

pub tied_fail : HasOwnBundles free_seller → FailsFirst tied_firms 1 tied_table tied_triple
tied_fail own = record {
  before = before;
  is = refl;
  small = omega arith;
  first = record {
    fails = record {
      first = pos 5;
      second = pos 5;
      first_is = tied_ten;
      second_is = tied_five;
      wrong =
          (tied_up, tied_wrong);
    };
    first = none_earlier;
  };
}
  where
    before : (g : ℕ) (firm : Firm) → g < 1 → slice_get tied_firms g ≡ Some firm → MeetsExchange firm
    before zero firm below is = subst MeetsExchange (same_Some _ _ is) (free_meets own)
    before (suc g) firm below is = absurd (omega (arith, below))
