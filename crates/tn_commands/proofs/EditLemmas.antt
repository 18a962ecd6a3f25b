-- From a session to the states after edits.
use Rattle.std.proofs.Common.{◌≡◌, ℕ, zero, suc, ◌+◌, ◌*◌, ◌<◌, ◌≤◌, ◌≢◌, ◌⊎◌, inl, inr, ℤ, Bool, false, not, ◌&&◌, List, [], ◌∷◌, ◌++◌, length, map, take, slice_get, Some, refl, sym, ap, ◌∙◌, subst, ap₂, arith, add-one, length-append}
use Rattle.std.specs.Prelude.{All}
use Rattle.std.proofs.lemmas.Bool.{cases_eq}
use Rattle.std.proofs.lemmas.Option.{none-some, same_Some, slice_get_within, get_or_from_slice_get}
use Rattle.std.proofs.Math.Seq.{take-suc}
use Rattle.tn_base.specs.Sets.{has}
use Rattle.tn_base.proofs.SetLemmas.{has-zero}
use Rattle.tn_firm.specs.declared.value.FirmValue.{FirmValue}
use Rattle.tn_firm.specs.Firms.{firm_of}
use Rattle.tn_model.specs.declared.ends.Ends.{Ends}
use Rattle.tn_said.specs.declared.session.Edit.{Edit}
use Rattle.tn_said.specs.declared.session.State.{State}
use Rattle.tn_market.specs.Traded.{Traded}
use Rattle.tn_flow.specs.Solved.{AreSmallPrices, IsSolution}
use Rattle.tn_session.specs.Standing.{HasSmallPrices, HoldsEquilibrium, Standing}
use Rattle.std.proofs.lemmas.List.Elements.{All-append, All-cons, All-nil}
use Rattle.tn_model.specs.declared.contract.Contract.{Contract}
use Rattle.tn_market.specs.Admitted.{admitted}
use Rattle.tn_model.specs.Prices.{price_at}
use Rattle.tn_model.specs.Choices.{contracts_of}
use Rattle.tn_market.specs.Equilibrium.{surplus_of}
use Rattle.tn_market.specs.Graph.{ArePossible}
use Rattle.tn_model.specs.Network.{trades_on, IsNetwork}
use Rattle.tn_model.proofs.ContractLemmas.{contracts_within}
use Rattle.tn_network_laws.proofs.AdmittedLemmas.{possible_from_admitted, admitted_most}
use Rattle.tn_network_laws.proofs.RoundLemmas.{equilibrium_possible}
use Rattle.tn_answer.specs.Kept.{IsWithinPrices, IsWithinState}
use Rattle.tn_commands.proofs.SolveLemmas.{small_prices}
use Rattle.tn_commands.specs.Limits.{AreWorthsAnswered, most_answered_trades}
use Rattle.tn_model.specs.Limits.{most_price, most_worth_among}
use Rattle.tn_commands.specs.declared.session.Kept.{Kept}
use Rattle.tn_commands.specs.Session.{AreAfter, AreStates, IsAfter, IsStateAfter, IsStateOf, StandsAfter, StandsOn, after, is_admitted_after, is_admitted_by, is_away_after, is_away_by, is_usable_after}

-- ---- where a session stands

pub stands_from : (firms : List FirmValue) (trades : List Ends) (session : Standing FirmValue)
    → session.market ≡ record { firms = firms; trades = trades }
    → AreWorthsAnswered (map firm_of firms) trades
    → HoldsEquilibrium firm_of session → HasSmallPrices firm_of session → StandsOn firms trades session
stands_from firms trades session market worths equilibrium small = record {
  market = market;
  equilibrium =
      subst (λ (m : Traded FirmValue). IsSolution (map firm_of m.firms) m.trades session.admitted session.solution)
      market equilibrium;
  worths = worths;
  small =
      subst (λ (m : Traded FirmValue). AreWorthsAnswered (map firm_of m.firms) m.trades
      → AreSmallPrices (2 * most_worth_among (length m.trades) * length m.trades) session.solution.prices) market
      (small (most_worth_among (length session.market.trades))) worths;
}

-- ---- one more edit

after_more : (by : Edit → Bool → Bool) (edits : List Edit) (edit : Edit) (before : Bool)
    → after by (edits ++ edit ∷ []) before ≡ by edit (after by edits before)
after_more by [] edit before = refl
after_more by (first ∷ edits) edit before = after_more by edits edit (by first before)

take_more : {A : Type 0} (xs : List A) (k : ℕ) (x : A) → slice_get xs k ≡ Some x → take (k + 1) xs ≡ take k xs ++ x ∷ []
take_more xs k x is =
    ap (λ n. take n xs) (add-one k) ∙ take-suc xs k x (slice_get_within xs k x is)
    ∙ ap (λ y. take k xs ++ y ∷ []) (get_or_from_slice_get xs k x x is)

-- what is kept of a trade follows an edit, and so does its use
module _ (edits : List Edit) (edit : Edit) (t : ℕ) (trade : Ends) (kept next : Kept) (used after_it : ℕ) where
  pub after_here : IsAfter edits t trade kept used → has next.admitted t ≡ is_admitted_by t edit (has kept.admitted t)
      → has next.seller_away t ≡ is_away_by trade.seller edit (has kept.seller_away t)
      → has next.buyer_away t ≡ is_away_by trade.buyer edit (has kept.buyer_away t)
      → has after_it t ≡ ((has next.admitted t && not (has next.seller_away t)) && not (has next.buyer_away t))
      → IsAfter (edits ++ edit ∷ []) t trade next after_it
  after_here before admitted_is seller_is buyer_is usable_is = record {
    admitted = now_admitted;
    seller = now_seller;
    buyer = now_buyer;
    usable = usable_is ∙ ap (λ (b : Bool). (b && not (has next.seller_away t)) && not (has next.buyer_away t))
        now_admitted
        ∙ ap (λ (b : Bool). (is_admitted_after (edits ++ edit ∷ []) t && not b) && not (has next.buyer_away t))
        now_seller
        ∙ ap (λ (b : Bool). (is_admitted_after (edits ++ edit ∷ []) t
        && not (is_away_after (edits ++ edit ∷ []) trade.seller)) && not b) now_buyer;
  }
    where
      now_admitted : has next.admitted t ≡ is_admitted_after (edits ++ edit ∷ []) t
      now_admitted = admitted_is ∙ ap (is_admitted_by t edit) before.admitted
          ∙ sym (after_more (is_admitted_by t) edits edit false)

      now_seller : has next.seller_away t ≡ is_away_after (edits ++ edit ∷ []) trade.seller
      now_seller = seller_is ∙ ap (is_away_by trade.seller edit) before.seller
          ∙ sym (after_more (is_away_by trade.seller) edits edit false)

      now_buyer : has next.buyer_away t ≡ is_away_after (edits ++ edit ∷ []) trade.buyer
      now_buyer = buyer_is ∙ ap (is_away_by trade.buyer edit) before.buyer
          ∙ sym (after_more (is_away_by trade.buyer) edits edit false)

-- what is kept of a trade that stays is as it was
pub after_elsewhere : (edits : List Edit) (t : ℕ) (trade : Ends) (kept next : Kept) (used after_it : ℕ)
    → IsAfter edits t trade kept used → has next.admitted t ≡ has kept.admitted t
    → has next.seller_away t ≡ has kept.seller_away t → has next.buyer_away t ≡ has kept.buyer_away t
    → has after_it t ≡ has used t → IsAfter edits t trade next after_it
after_elsewhere edits t trade kept next used after_it before admitted_is seller_is buyer_is usable_is = record {
  admitted = admitted_is ∙ before.admitted;
  seller = seller_is ∙ before.seller;
  buyer = buyer_is ∙ before.buyer;
  usable = usable_is ∙ before.usable;
}

-- the trades below t are as after an edit, the others as before it
pub record AreBelow (trades : List Ends) (edits : List Edit) (edit : Edit) (t : ℕ) (kept : Kept) (used : ℕ) : Type
    0 where
  pub done : (k : ℕ) (trade : Ends) → k < t → slice_get trades k ≡ Some trade
      → IsAfter (edits ++ edit ∷ []) k trade kept used
  pub others : (k : ℕ) (trade : Ends) → t ≤ k → slice_get trades k ≡ Some trade → IsAfter edits k trade kept used

pub none_edited : (trades : List Ends) (edits : List Edit) (edit : Edit) (kept : Kept) (used : ℕ)
    → AreAfter trades edits kept used → AreBelow trades edits edit 0 kept used
none_edited trades edits edit kept used after_it = record {
  done = λ k trade below. absurd (omega (arith, below));
  others = λ k trade above is. after_it k trade is;
}

pub one_more_edited : (trades : List Ends) (edits : List Edit) (edit : Edit) (t : ℕ) (trade : Ends) (kept next : Kept)
    (used moved : ℕ) → slice_get trades t ≡ Some trade → AreBelow trades edits edit t kept used
    → (IsAfter edits t trade kept used → IsAfter (edits ++ edit ∷ []) t trade next moved)
    → ((seen : List Edit) (k : ℕ) (other : Ends) → k ≢ t → IsAfter seen k other kept used
    → IsAfter seen k other next moved)
    → AreBelow trades edits edit (t + 1) next moved
one_more_edited trades edits edit t trade kept next used moved is before here elsewhere = record {
  done = λ k other below at. elim (cases_eq k t) [
    | inl same ↦
        subst (λ (one : Ends). IsAfter (edits ++ edit ∷ []) k one next moved)
        (same_Some trade other (sym is ∙ ap (slice_get trades) (sym same) ∙ at))
        (subst (λ (n : ℕ). IsAfter (edits ++ edit ∷ []) n trade next moved) (sym same)
        (here (before.others t trade (omega arith) is)))
    | inr apart ↦ elsewhere (edits ++ edit ∷ []) k other apart (before.done k other (omega (arith, below, apart)) at)
  ];
  others = λ k other above at. elsewhere edits k other (λ same. absurd (omega (arith, above, same)))
      (before.others k other (omega (arith, above)) at);
}

pub all_edited : (trades : List Ends) (edits : List Edit) (edit : Edit) (t : ℕ) (kept : Kept) (used : ℕ)
    → length trades ≤ t → AreBelow trades edits edit t kept used → AreAfter trades (edits ++ edit ∷ []) kept used
all_edited trades edits edit t kept used end below = λ j trade at.
    let inside = slice_get_within trades j trade at in
    below.done j trade (omega (arith, inside, end)) at

-- and a session stands on the market with these
pub record AreBelowAfter (firms : List FirmValue) (trades : List Ends) (edits : List Edit) (edit : Edit) (t : ℕ)
    (kept : Kept) (session : Standing FirmValue) : Type 0 where
  pub stands : StandsOn firms trades session
  pub each : AreBelow trades edits edit t kept session.admitted

pub none_below : (firms : List FirmValue) (trades : List Ends) (edits : List Edit) (edit : Edit) (kept : Kept)
    (session : Standing FirmValue) → StandsAfter firms trades edits kept session
    → AreBelowAfter firms trades edits edit 0 kept session
none_below firms trades edits edit kept session stands = record {
  stands = stands.stands;
  each = none_edited trades edits edit kept session.admitted stands.each;
}

pub one_more_trade : (firms : List FirmValue) (trades : List Ends) (edits : List Edit) (edit : Edit) (t : ℕ)
    (trade : Ends) (kept next : Kept) (session moved : Standing FirmValue)
    → slice_get trades t ≡ Some trade → AreBelowAfter firms trades edits edit t kept session
    → StandsOn firms trades moved
    → (IsAfter edits t trade kept session.admitted → IsAfter (edits ++ edit ∷ []) t trade next moved.admitted)
    → ((seen : List Edit) (k : ℕ) (other : Ends) → k ≢ t → IsAfter seen k other kept session.admitted
    → IsAfter seen k other next moved.admitted)
    → AreBelowAfter firms trades edits edit (t + 1) next moved
one_more_trade firms trades edits edit t trade kept next session moved is before stands here elsewhere = record {
  stands = stands;
  each = one_more_edited trades edits edit t trade kept next session.admitted moved.admitted is before.each here
      elsewhere;
}

pub all_below : (firms : List FirmValue) (trades : List Ends) (edits : List Edit) (k : ℕ) (edit : Edit) (t : ℕ)
    (kept : Kept) (session : Standing FirmValue) → slice_get edits k ≡ Some edit → length trades ≤ t
    → AreBelowAfter firms trades (take k edits) edit t kept session
    → StandsAfter firms trades (take (k + 1) edits) kept session
all_below firms trades edits k edit t kept session is end below =
    subst (λ (seen : List Edit). StandsAfter firms trades seen kept session) (sym (take_more edits k edit is))
    (record {
      stands = below.stands;
      each = all_edited trades (take k edits) edit t kept session.admitted end below.each;
    })

-- a session that admits just the trades that can be used after one more edit
pub stands_together : (firms : List FirmValue) (trades : List Ends) (edits : List Edit) (k : ℕ) (edit : Edit)
    (kept next : Kept) (used : ℕ) (session moved : Standing FirmValue) → slice_get edits k ≡ Some edit
    → StandsAfter firms trades (take k edits) kept session → moved.market ≡ session.market
    → HoldsEquilibrium firm_of moved → HasSmallPrices firm_of moved
    → (AreAfter trades (take k edits) kept session.admitted → AreAfter trades (take k edits ++ edit ∷ []) next used)
    → ((t : ℕ) → t < length session.market.trades → has moved.admitted t ≡ has used t)
    → StandsAfter firms trades (take (k + 1) edits) next moved
stands_together firms trades edits k edit kept next used session moved is before market equilibrium small edited
    admits =
    subst (λ (seen : List Edit). StandsAfter firms trades seen next moved) (sym (take_more edits k edit is))
    (record {
      stands = stands_from firms trades moved (market ∙ before.stands.market) before.stands.worths equilibrium
          small;
      each = λ t trade at.
          let one = edited before.each t trade at in
          let inside = slice_get_within trades t trade at in record {
            admitted = one.admitted;
            seller = one.seller;
            buyer = one.buyer;
            usable = admits t (subst (λ (m : Traded FirmValue). t < length m.trades) (sym before.stands.market)
                inside) ∙ one.usable;
          };
    })

-- before all edits nothing is admitted and no firm is away
pub stands_at_first : (firms : List FirmValue) (trades : List Ends) (session : Standing FirmValue)
    → session.admitted ≡ 0 → StandsOn firms trades session
    → StandsAfter firms trades [] (record { admitted = 0; seller_away = 0; buyer_away = 0 }) session
stands_at_first firms trades session none stands = record {
  stands = stands;
  each = λ t trade is. record {
    admitted = has-zero t;
    seller = has-zero t;
    buyer = has-zero t;
    usable =
        ap (λ (used : ℕ). has used t) none ∙ has-zero t;
  };
}

-- ---- the states so far

last_cases : {A : Type 0} (xs : List A) (x y : A) (j : ℕ) → slice_get (xs ++ x ∷ []) j ≡ Some y
    → (slice_get xs j ≡ Some y) ⊎ ((j ≡ length xs) × (x ≡ y))
last_cases [] x y zero e = inr (refl, same_Some x y e)
last_cases [] x y (suc j) e = absurd (none-some y e)
last_cases (z ∷ xs) x y zero e = inl e
last_cases (z ∷ xs) x y (suc j) e = elim (last_cases xs x y j e) [
  | inl before ↦ inl before
  | inr last ↦
      inr (ap suc last.0, last.1)
]

-- a state for each of the first k edits
pub record AreStatesBefore (firms : List FirmValue) (trades : List Ends) (edits : List Edit) (k : ℕ)
    (states : List State) : Type 0 where
  pub counted : length states ≡ k
  pub each : (j : ℕ) (state : State) → slice_get states j ≡ Some state
      → IsStateAfter (map firm_of firms) trades (take (j + 1) edits) state

pub one_more_state : (firms : List FirmValue) (trades : List Ends) (edits : List Edit) (k : ℕ) (states : List State)
    (state : State) (session : Standing FirmValue)
    → AreStatesBefore firms trades edits k states → ((t : ℕ) (trade : Ends) → slice_get trades t ≡ Some trade
    → has session.admitted t ≡ is_usable_after (take (k + 1) edits) t trade)
    → IsStateOf (map firm_of firms) trades session.admitted state
    → AreStatesBefore firms trades edits (k + 1) (states ++ state ∷ [])
one_more_state firms trades edits k states state session before usable is = record {
  counted = let counted = before.counted in length_more states counted;
  each = λ j other at. elim (last_cases states state other j at) [
    | inl earlier ↦ before.each j other earlier
    | inr last ↦
        let here : j ≡ k = last.0 ∙ before.counted in
        subst (λ (s : State). IsStateAfter (map firm_of firms) trades (take (j + 1) edits) s) last.1
        (subst (λ (n : ℕ). IsStateAfter (map firm_of firms) trades (take (n + 1) edits) state) (sym here)
        (record { allowed = session.admitted; allowed_is = usable; is = is }))
  ];
}
  where
    length_more : (xs : List State) → length xs ≡ k → length (xs ++ state ∷ []) ≡ k + 1
    length_more xs counted = length-append xs (state ∷ []) ∙ ap (λ n. n + 1) counted

pub all_states : (firms : List FirmValue) (trades : List Ends) (edits : List Edit) (k : ℕ) (states : List State)
    → AreStatesBefore firms trades edits k states → k ≤ length edits → length edits ≤ k
    → AreStates (map firm_of firms) trades edits states
all_states firms trades edits k states before most end = record {
  one_each = let counted = before.counted in omega (arith, counted, most, end);
  each = before.each;
}

pub no_states : (firms : List FirmValue) (trades : List Ends) (edits : List Edit) (states : List State) → states ≡ []
    → AreStatesBefore firms trades edits 0 states
no_states firms trades edits states none =
    subst (AreStatesBefore firms trades edits 0) (sym none) (record {
      counted = refl;
      each =
          λ j state e. absurd (none-some state e);
    })

pub one_more_within : (states : List State) (state : State) → All IsWithinState states → IsWithinState state
    → All IsWithinState (states ++ state ∷ [])
one_more_within states state within is =
    All-append IsWithinState states (state ∷ []) within (All-cons IsWithinState state [] is (All-nil IsWithinState))

-- ---- one state

module _ (firms : List FirmValue) (trades : List Ends) (session : Standing FirmValue)
    (stands : StandsOn firms trades session) where
  pub bundles_possible : ArePossible (map firm_of firms) trades session.solution.on
  bundles_possible =
      possible_from_admitted (map firm_of firms) trades session.admitted session.solution.on
      (equilibrium_possible (admitted trades session.admitted (map firm_of firms)) trades session.solution.on
      (price_at session.solution.prices) stands.equilibrium.equilibrium)

  pub state_from : (on other count : ℕ) (listed : List ℕ) (contracts : List Contract) (surplus told : ℤ)
      → on ≡ session.solution.on → other ≡ session.solution.on → count ≡ length trades
      → listed ≡ trades_on on count → contracts ≡ contracts_of session.admitted (price_at session.solution.prices) count
      → told ≡ surplus
      → surplus_of (map firm_of firms) trades other ≡ Some surplus → IsNetwork (map firm_of firms) trades
      → IsStateOf (map firm_of firms) trades session.admitted (record {
        on = listed;
        prices = contracts;
        surplus =
            told;
      })
  state_from on other count listed contracts surplus told on_is other_is counted listed_is contracts_are same surplus_is
      network = record {
        set = session.solution.on;
        inside = stands.equilibrium.inside;
        on_is = listed_is ∙ ap₂ trades_on on_is counted;
        prices = session.solution.prices;
        one_each = stands.equilibrium.one_each;
        prices_are = contracts_are ∙ ap (contracts_of session.admitted (price_at session.solution.prices)) counted;
        equilibrium = stands.equilibrium.equilibrium;
        surplus_is = told_is;
        most = admitted_most (map firm_of firms) trades session.admitted session.solution.on
            (price_at session.solution.prices) told network stands.equilibrium.inside
            stands.equilibrium.equilibrium told_is;
      }
    where
      told_is : surplus_of (map firm_of firms) trades session.solution.on ≡ Some told
      told_is = ap (surplus_of (map firm_of firms) trades) (sym other_is) ∙ surplus_is ∙ ap Some (sym same)

  pub state_small : (count : ℕ) (contracts : List Contract) → length trades ≤ most_answered_trades
      → count ≡ length trades → contracts ≡ contracts_of session.admitted (price_at session.solution.prices) count
      → All (λ contract. IsWithinPrices contract.price) contracts
  state_small count contracts few counted contracts_are =
      subst (All (λ contract. IsWithinPrices contract.price)) (sym contracts_are)
      (contracts_within session.admitted session.solution.prices count most_price (stands.equilibrium.one_each
      ∙ sym counted)
      (small_prices (length trades) session.solution.prices few stands.small)).small
