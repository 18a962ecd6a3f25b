-- Lists of trades as an answer writes them are read back: sets, bundles, positions and nodes.
use Rattle.std.proofs.Common.{◌≡◌, ◌≢◌, ℕ, zero, suc, ◌<◌, ◌^◌, Bool, true, false, ◌&&◌, ◌||◌, List, [], ◌∷◌, ◌++◌, map, length, slice_get, Option, Some, None, Result, Ok, Err, refl, sym, ap, ◌∙◌, arith, true≢false}
use Rattle.std.specs.Prelude.{All, IfSome, cond, nat_eq, nat_lt, option_and_then, option_map, if◌then◌else◌}
use Rattle.std.proofs.lemmas.Bool.{eqb-true}
use Rattle.std.proofs.lemmas.List.{append-nil, append_assoc, map-append}
use Rattle.std.proofs.lemmas.List.Elements.{All-head, All-tail}
use Rattle.serde_json.specs.Data.{Data, no_items, item}
use Rattle.serde_json.specs.Events.{items_len}
use Rattle.serde_json.specs.View.{items_of}
use Rattle.tn_base.specs.Sets.{has, set_of, size, toggle}
use Rattle.tn_base.proofs.SetLemmas.{has-set_of, same_below, set_of_within}
use Rattle.tn_base.specs.Firm.{Firm}
use Rattle.tn_model.specs.Limits.{AreLimits}
use Rattle.tn_model.specs.declared.ends.Ends.{Ends}
use Rattle.tn_said.specs.declared.place.PlaceStep.{PlaceStep}
use Rattle.tn_said.specs.declared.place.PlaceStep.TheVariants.{Index}
use Rattle.tn_said.specs.declared.place.Word.TheVariants.{Nodes}
use Rattle.tn_said.specs.declared.said.Fault.{Fault}
use Rattle.tn_model.specs.InOrder.{position_in}
use Rattle.tn_model.specs.Network.{IsNetwork, own, stands_at, trades_of, trades_on}
use Rattle.tn_model.proofs.NetworkLemmas.{own_stands}
use Rattle.tn_names.specs.Names.{IsNameList}
use Rattle.tn_read_shapes.specs.Reading.{◌>>=◌, each}
use Rattle.tn_read_references.specs.Ordered.{Listed}
use Rattle.tn_read_references.specs.References.{bundle_at, new_own, own_position, own_reference, new_trade, position_on}
use Rattle.tn_read_parts.specs.Lists.{one_on}
use Rattle.tn_read_claims.specs.Members.{member_place, one_node, own_or_null}
use Rattle.tn_answer.specs.Values.{name_data, names_data, option_data}
use Rattle.tn_replay_laws.proofs.NameLemmas.{trade_back}

-- ---- reading a list after another

module _ {A : Type 0} (step : A → Data → Result A Fault) where
  pub each-append : (xs ys : List Data) (start : A) → each step start (items_of (xs ++ ys))
      ≡ (each step start (items_of xs) >>= λ middle. each step middle (items_of ys))
  unfolding each
  each-append [] ys start = refl
  each-append (d ∷ xs) ys start = by_step (step start d) (each-append xs ys)
    where
      by_step : (r : Result A Fault)
          → ((next : A) → each step next (items_of (xs ++ ys))
          ≡ (each step next (items_of xs) >>= λ middle. each step middle (items_of ys)))
          → (r >>= λ next. each step next (items_of (xs ++ ys)))
          ≡ ((r >>= λ next. each step next (items_of xs)) >>= λ middle. each step middle (items_of ys))
      by_step (Ok next) rest = rest next
      by_step (Err e) rest = refl

pub items_len-of : (ds : List Data) → items_len (items_of ds) ≡ length ds
items_len-of [] = refl
items_len-of (d ∷ ds) = ap suc (items_len-of ds)

-- ---- the members of a set, ascending

-- what a function gives for the numbers below n that are in a set
abbrev chosen : {B : Type 0} → (ℕ → B) → ℕ → ℕ → List B
chosen g x zero = []
chosen g x (suc n) = chosen g x n ++ (if has x n then g n ∷ [] else [])

on-chosen : (x n : ℕ) → trades_on x n ≡ chosen (λ k. k) x n
on-chosen x zero = refl
on-chosen x (suc n) = ap (λ front. front ++ (if has x n then n ∷ [] else [])) (on-chosen x n)

of-chosen : (trades : List Ends) (f n x : ℕ) → trades_of trades f n x ≡ chosen (own trades f) x n
of-chosen trades f zero x = refl
of-chosen trades f (suc n) x =
    ap (λ front. front ++ (if has x n then own trades f n ∷ [] else [])) (of-chosen trades f n x)

-- k isn't among the members below it
not_yet : (x k : ℕ) → has (set_of (has x) k) k ≡ false
not_yet x k =
    let self : nat_lt k k ≡ false = grind arith in
    has-set_of (has x) k k ∙ ap (λ b. b && has x k) self

pub set_whole : (x n : ℕ) → x < 2 ^ n → set_of (has x) n ≡ x
set_whole x n below = same_below (set_of (has x) n) x n (set_of_within (has x) n) below (λ k inside.
    let less : nat_lt k n ≡ true = grind (arith, inside) in
    has-set_of (has x) n k ∙ ap (λ b. b && has x k) less)

-- a step that adds number k from the data of k reads the members below n as their set
module _ {B : Type 0} (step : ℕ → Data → Result ℕ Fault) (data_of : B → Data) (g : ℕ → B) (x : ℕ) where
  each_chosen : (n : ℕ) → ((k : ℕ) → k < n → step (set_of (has x) k) (data_of (g k)) ≡ Ok (toggle (set_of (has x) k) k))
      → each step 0 (items_of (map data_of (chosen g x n))) ≡ Ok (set_of (has x) n)
  unfolding each set_of
  each_chosen zero one = refl
  each_chosen (suc n) one = by_test (has x n) (each_chosen n (λ k below. one k (omega (arith, below))))
    where
      by_test : (b : Bool) → each step 0 (items_of (map data_of (chosen g x n))) ≡ Ok (set_of (has x) n)
          → each step 0 (items_of (map data_of (chosen g x n ++ cond b (g n ∷ []) [])))
          ≡ Ok (cond b (toggle (set_of (has x) n) n) (set_of (has x) n))
      by_test true front =
          ap (λ l. each step 0 (items_of l)) (map-append data_of (chosen g x n) (g n ∷ []))
          ∙ each-append step (map data_of (chosen g x n)) (data_of (g n) ∷ []) 0
          ∙ ap (λ r. r >>= λ middle. each step middle (item (data_of (g n)) no_items)) front
          ∙ ap (λ r. r >>= λ next. each step next no_items) (one n (omega arith))
      by_test false front = ap (λ l. each step 0 (items_of (map data_of l))) (append-nil (chosen g x n)) ∙ front

-- ---- a set of trades

module _ (names : List (List ℕ)) (are : IsNameList names) (place : List PlaceStep) where
  pub new_trade_back : (at : List PlaceStep) (named t : ℕ) → t < length names → has named t ≡ false
      → new_trade names at named (name_data names t) ≡ Ok t
  unfolding new_trade
  new_trade_back at named t below new = rw (trade_back names are at t below, new)

  on_step : (x k : ℕ) → k < length names → one_on names place (set_of (has x) k) (name_data names k)
      ≡ Ok (toggle (set_of (has x) k) k)
  unfolding one_on
  on_step x k below =
      rw (new_trade_back (place ++ Index (size (set_of (has x) k)) ∷ []) (set_of (has x) k) k below (not_yet x k))

  pub set_back : (x : ℕ) → each (one_on names place) 0 (items_of (map (name_data names) (trades_on x (length names))))
      ≡ Ok (set_of (has x) (length names))
  set_back x =
      ap (λ l. each (one_on names place) 0 (items_of (map (name_data names) l))) (on-chosen x (length names))
      ∙ each_chosen (one_on names place) (name_data names) (λ k. k) x (length names) (on_step x)

-- ---- bundles and positions of a firm

-- where a trade stands is its position
position_of : (f k : ℕ) (trade : Ends) → trade.seller ≢ trade.buyer → stands_at trade f k ≡ true
    → position_in f trade ≡ Some k
position_of f k trade different stands = by_tests (nat_eq trade.seller f) (nat_eq trade.buyer f) refl refl stands
  where
    by_tests : (sells buys : Bool) → nat_eq trade.seller f ≡ sells → nat_eq trade.buyer f ≡ buys
        → ((sells && nat_eq trade.at_seller k) || (buys && nat_eq trade.at_buyer k)) ≡ true
        → cond sells (Some trade.at_seller) (cond buys (Some trade.at_buyer) None) ≡ Some k
    by_tests true true seller buyer stands =
        absurd (different (eqb-true trade.seller f seller ∙ sym (eqb-true trade.buyer f buyer)))
    by_tests true false seller buyer stands =
        ap Some (eqb-true trade.at_seller k (at_first (nat_eq trade.at_seller k) stands))
      where
        at_first : (b : Bool) → (b || false) ≡ true → b ≡ true
        at_first true e = refl
        at_first false e = absurd (true≢false (sym e))
    by_tests false true seller buyer stands = ap Some (eqb-true trade.at_buyer k stands)
    by_tests false false seller buyer stands = absurd (true≢false (sym stands))

pub record AreRead (listed : Listed) (firms : List Firm) : Type 0 where
  pub limits : AreLimits listed.limits
  pub firm_names : IsNameList listed.names.firms
  pub trade_names : IsNameList listed.names.trades
  pub firms_named : length listed.names.firms ≡ length firms
  pub trades_named : length listed.names.trades ≡ length listed.ends
  pub network : IsNetwork firms listed.ends

module _ (listed : Listed) (firms : List Firm) (are : AreRead listed firms) (f : ℕ) (firm : Firm)
    (is : slice_get firms f ≡ Some firm) where
  own_at : (k : ℕ) → k < firm.count → option_and_then (position_on None f) (slice_get listed.ends (own listed.ends f k))
      ≡ Some k
  own_at k below =
      let there = own_stands listed.ends f k (are.network.whole f k firm is below) in
      ap (option_and_then (position_in f)) there.is ∙ position_of f k there.trade
      (are.network.apart (own listed.ends f k) there.trade there.is) there.stands

  pub own_named : (k : ℕ) → k < firm.count → own listed.ends f k < length listed.names.trades
  own_named k below = let inside = are.network.whole f k firm is below in let counted = are.trades_named in
      omega (arith, inside, counted)

  pub position_back : (place : List PlaceStep) (k : ℕ) → k < firm.count
      → own_position listed f None place (name_data listed.names.trades (own listed.ends f k)) ≡ Ok k
  unfolding own_position
  position_back place k below =
      rw (
        trade_back listed.names.trades are.trade_names place (own listed.ends f k) (own_named k below),
        own_at k below,
      )

  own_step : (place : List PlaceStep) (x k : ℕ) → k < firm.count
      → own_reference listed f place (set_of (has x) k) (name_data listed.names.trades (own listed.ends f k))
      ≡ Ok (toggle (set_of (has x) k) k)
  unfolding own_reference new_own
  own_step place x k below = rw (position_back (place ++ Index (size (set_of (has x) k)) ∷ []) k below, not_yet x k)

  pub bundle_back : (place : List PlaceStep) (x : ℕ) → x < 2 ^ firm.count
      → bundle_at listed f place (Some (names_data listed.names.trades (trades_of listed.ends f firm.count x))) ≡ Ok x
  unfolding bundle_at
  bundle_back place x below =
      ap (λ l. each (own_reference listed f place) 0 (items_of (map (name_data listed.names.trades) l)))
      (of-chosen listed.ends f firm.count x)
      ∙ each_chosen (own_reference listed f place) (name_data listed.names.trades) (own listed.ends f) x firm.count
      (own_step place x)
      ∙ ap Ok (set_whole x firm.count below)

  -- a position as its trade, or null
  pub at_back : (place : List PlaceStep) (at : Option ℕ) → IfSome at (λ k. k < firm.count)
      → own_or_null listed f place (Some (option_data listed.names.trades (option_map (own listed.ends f) at))) ≡ Ok at
  at_back place None within = refl
  at_back place (Some k) within = rw (position_back place k within)

-- ---- nodes

module _ (names : List (List ℕ)) (are : IsNameList names) where
  abbrev IsKnown : Option ℕ → Type 0
  IsKnown node = IfSome node (λ t. t < length names)

  one_node_back : (nodes : List (Option ℕ)) (node : Option ℕ) → IsKnown node
      → one_node names nodes (option_data names node) ≡ Ok (nodes ++ node ∷ [])
  unfolding one_node
  one_node_back nodes None known = refl
  one_node_back nodes (Some t) known =
      rw (trade_back names are (member_place Nodes ++ Index (length nodes) ∷ []) t known)

  pub each_node_back : (before nodes : List (Option ℕ)) → All IsKnown nodes
      → each (one_node names) before (items_of (map (option_data names) nodes)) ≡ Ok (before ++ nodes)
  unfolding each
  each_node_back before [] known = ap Ok (sym (append-nil before))
  each_node_back before (node ∷ nodes) known =
      ap (λ r. r >>= λ next. each (one_node names) next (items_of (map (option_data names) nodes)))
      (one_node_back before node (All-head IsKnown node nodes known))
      ∙ each_node_back (before ++ node ∷ []) nodes (All-tail IsKnown node nodes known)
      ∙ ap Ok (append_assoc before (node ∷ []) nodes)
