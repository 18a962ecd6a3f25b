-- The arcs of the reduced graph, read from the ends of trades.
use Rattle.std.proofs.Common.{◌≡◌, ◌≢◌, ℕ, ◌*◌, ◌^◌, ◌<◌, ◌≤◌, Bool, true, false, not, ◌==◌, ◌&&◌, if◌then◌else◌, List, length, map, slice_get, Option, Some, None, option_map, refl, suc, [], ◌∷◌, sym, ap, ap₂, ◌∙◌, subst, arith, ℤ, ◌+ℤ◌, ◌*ℤ◌, neg_ℤ}
use Rattle.std.specs.Prelude.{option_and_then, All}
use Rattle.std.proofs.lemmas.Int.{ints}
use Rattle.std.proofs.lemmas.Nat.{pow_pos, mul-le}
use Rattle.std.proofs.lemmas.Bool.{le-leb, eqb-true}
use Rattle.std.proofs.lemmas.Option.{same_Some, slice_get-map}
use Rattle.tn_base.specs.Widths.{most_cost}
use Rattle.tn_chain.specs.Limits.{most_reduced_cost, most_reduced_worth}
use Rattle.tn_base.specs.Arcs.{IsAtMost, AreSmall}
use Rattle.tn_base.specs.Options.{both}
use Rattle.tn_base.specs.Sets.{has, toggle, meet, minus, sum_over}
use Rattle.tn_base.specs.Firm.{Firm, plus_sum, payments}
use Rattle.tn_base.proofs.SetLemmas.{same_set, has-zero, has-meet, has-minus, toggle_within}
use Rattle.tn_firm_laws.proofs.KeepLemmas.{option_map-some}
use Rattle.tn_firm_laws.proofs.BoundLemmas.{times_small, sum_over_small}
use Rattle.tn_model.specs.declared.ends.Ends.{Ends}
use Rattle.tn_model.specs.declared.contract.Contract.{Contract}
use Rattle.tn_model.specs.Network.{own, part, IsNetwork}
use Rattle.tn_market.specs.Valued.{IsWorthAtMost}
use Rattle.tn_market.specs.Widths.{most_own, most_worth}
use Rattle.tn_model.specs.Limits.{most_numerator, most_over}
use Rattle.tn_market.specs.Traded.{Traded}
use Rattle.tn_market.specs.Limits.{IsOutcomeOf, IsWithinLimits}
use Rattle.tn_market.specs.Equilibrium.{prices_at}
use Rattle.tn_market.specs.Graph.{raised, raised_by, lowered_by, loss, loss_at, arc_between, exchange_arc}
use Rattle.tn_market.specs.Signed.{signed_price, signed_bundle}
use Rattle.tn_market.specs.Reduced.{reduced, reduced_firms, reduced_arc}
use Rattle.tn_market.proofs.GraphLemmas.{buyer_end, seller_end, IsEnd}
use Rattle.tn_market.proofs.AskLemmas.{payment_small}
use Rattle.tn_network_laws.proofs.SupportLemmas.{arcs_small}
use Rattle.tn_outcome_laws.proofs.AddingLemmas.{adding_one}
use Rattle.tn_outcome_laws.proofs.CompletionLemmas.{no_part, reduced_from_firm, reduced_network}
use Rattle.tn_chain.specs.Moves.{move_between, arc_move}

-- ---- an arc where nothing is on

-- what a move costs
abbrev pub move_cost : List Firm → Option (ℕ × ℕ) → Option ℤ
move_cost firms None = None
move_cost firms (Some m) = option_and_then (λ firm. loss firm 0 m.1) (slice_get firms m.0)

lost_at : (firms : List Firm) (trades : List Ends) (f : ℕ) (changed : ℕ → ℕ)
    → loss_at firms trades 0 f changed ≡ option_and_then (λ firm. loss firm 0 (changed 0)) (slice_get firms f)
lost_at firms trades f changed = by_case (slice_get firms f)
  where
    by_case : (o : Option Firm)
        → option_and_then (λ firm. loss firm (part trades f firm.count 0) (changed (part trades f firm.count 0))) o
        ≡ option_and_then (λ firm. loss firm 0 (changed 0)) o
    by_case None = refl
    by_case (Some firm) = ap (λ (x : ℕ). loss firm x (changed x)) (no_part trades f firm.count)

pub arc_of_move : (firms : List Firm) (trades : List Ends) (u v : ℕ) → u ≤ length trades → v ≤ length trades
    → exchange_arc firms trades 0 u v ≡ move_cost firms (arc_move trades u v)
unfolding exchange_arc
arc_of_move firms trades u v from to =
    ap₂ (λ (a b : Bool). if a && b then arc_between firms trades 0 (raised_by trades 0 u) (lowered_by trades 0 v)
    else None) (le-leb u (length trades) from) (le-leb v (length trades) to)
    ∙ ap₂ (λ (a b : Bool). arc_between firms trades 0 (option_map (λ trade. raised trade a) (slice_get trades u))
    (option_map (λ trade. raised trade (not b)) (slice_get trades v))) (has-zero u) (has-zero v)
    ∙ by_case (slice_get trades u) (slice_get trades v)
  where
    by_case : (o p : Option Ends)
        → arc_between firms trades 0 (option_map (λ trade. raised trade false) o)
        (option_map (λ trade. raised trade true) p) ≡ move_cost firms (move_between o p)
    by_case None None = refl
    by_case None (Some down) = lost_at firms trades down.seller (λ x. toggle x down.at_seller)
    by_case (Some up) None = lost_at firms trades up.buyer (λ x. toggle x up.at_buyer)
    by_case (Some up) (Some down) = by_test (up.buyer == down.seller)
      where
        by_test : (b : Bool)
            → (if b then loss_at firms trades 0 up.buyer (λ x. toggle (toggle x up.at_buyer) down.at_seller) else None)
            ≡ move_cost firms (if b then Some (up.buyer, toggle (toggle 0 up.at_buyer) down.at_seller) else None)
        by_test true = lost_at firms trades up.buyer (λ x. toggle (toggle x up.at_buyer) down.at_seller)
        by_test false = refl

-- ---- a bundle with signed trades has no reduced worth

pub worth_none : (trades : List Ends) (over : ℤ) (contracts : List Contract) (f : ℕ) (firm : Firm) (x : ℕ)
    → meet x (signed_bundle trades contracts f firm) ≢ 0 → (reduced trades over contracts f firm).worth x ≡ None
worth_none trades over contracts f firm x signed = by_case ((reduced trades over contracts f firm).worth x) refl
  where
    given : ℕ
    given = signed_bundle trades contracts f firm

    none : (y g : Bool) → ((y && not g) && g) ≡ false
    none true true = refl
    none true false = refl
    none false g = refl

    apart : (y : ℕ) → meet (minus y given) given ≡ 0
    apart y = same_set (meet (minus y given) given) 0 (λ k. has-meet (minus y given) given k
        ∙ ap (λ (b : Bool). b && has given k) (has-minus y given k) ∙ none (has y k) (has given k)
        ∙ sym (has-zero k))

    by_case : (o : Option ℤ) → (reduced trades over contracts f firm).worth x ≡ o
        → (reduced trades over contracts f firm).worth x ≡ None
    by_case None is = is
    by_case (Some a) is =
        let found = adding_one given (plus_sum over (payments firm.buys (prices_at trades (signed_price contracts) f))
        firm) x a is in
        absurd (signed (ap (λ (z : ℕ). meet z given) (sym found.1) ∙ apart found.0))

pub loss_none : (firm : Firm) (x y : ℕ) → firm.worth y ≡ None → loss firm x y ≡ None
loss_none firm x y none = ap (λ (o : Option ℤ). both (firm.worth x) (option_map neg_ℤ o)) none ∙ by_case (firm.worth x)
  where
    by_case : (o : Option ℤ) → both o None ≡ None
    by_case None = refl
    by_case (Some a) = refl

-- ---- the bundle of a move

-- a firm with a bundle of its own positions
pub record IsMove (firms : List Firm) (f x : ℕ) : Type 0 where
  pub firm : Firm
  pub is : slice_get firms f ≡ Some firm
  pub within : x < 2 ^ firm.count

empty_move : (firms : List Firm) (f : ℕ) (firm : Firm) → slice_get firms f ≡ Some firm → IsMove firms f 0
empty_move firms f firm is = record { firm = firm; is = is; within = pow_pos firm.count }

with_end : (firms : List Firm) (trades : List Ends) (t f k : ℕ) (bought : Bool) → IsEnd firms trades t f k bought
    → (x : ℕ) → IsMove firms f x → IsMove firms f (toggle x k)
with_end firms trades t f k bought end x moved =
    let same = same_Some _ _ (sym moved.is ∙ end.is) in
    let inside : k < moved.firm.count = subst (λ (z : Firm). k < z.count) (sym same) end.inside in
    record { firm = moved.firm; is = moved.is; within = toggle_within x k moved.firm.count moved.within inside }

-- a move is one of a firm of the network
pub move_is : (firms : List Firm) (trades : List Ends) → IsNetwork firms trades → (u v : ℕ) (m : ℕ × ℕ)
    → arc_move trades u v ≡ Some m → IsMove firms m.0 m.1
move_is firms trades network u v m is = by_case (slice_get trades u) (slice_get trades v) refl refl is
  where
    whole : (f x : ℕ) → IsMove firms f x → ◌≡◌ {A = Option (ℕ × ℕ)} (Some (f, x)) (Some m) → IsMove firms m.0 m.1
    whole f x moved e = subst (λ (p : ℕ × ℕ). IsMove firms p.0 p.1) (same_pair f x e) moved
      where
        same_pair : (f x : ℕ) → ◌≡◌ {A = Option (ℕ × ℕ)} (Some (f, x)) (Some m) → ◌≡◌ {A = ℕ × ℕ} (f, x) m
        same_pair f x e = cc e

    buys : (up : Ends) → slice_get trades u ≡ Some up → IsMove firms up.buyer (toggle 0 up.at_buyer)
    buys up there =
        let end = buyer_end firms trades network u up there in
        with_end firms trades u up.buyer up.at_buyer true end 0 (empty_move firms up.buyer end.firm end.is)

    sells : (down : Ends) → slice_get trades v ≡ Some down → (x : ℕ) → IsMove firms down.seller x
        → IsMove firms down.seller (toggle x down.at_seller)
    sells down there x moved = with_end firms trades v down.seller down.at_seller false
        (seller_end firms trades network v down there) x moved

    by_case : (o p : Option Ends) → slice_get trades u ≡ o → slice_get trades v ≡ p → move_between o p ≡ Some m
        → IsMove firms m.0 m.1
    by_case None None a b e = absurd (cc e)
    by_case None (Some down) a b e =
        let end = seller_end firms trades network v down b in
        whole down.seller (toggle 0 down.at_seller) (sells down b 0 (empty_move firms down.seller end.firm end.is)) e
    by_case (Some up) None a b e = whole up.buyer (toggle 0 up.at_buyer) (buys up a) e
    by_case (Some up) (Some down) a b e = by_test (up.buyer == down.seller) refl e
      where
        by_test : (t : Bool) → (up.buyer == down.seller) ≡ t
            → ◌≡◌ {A = Option (ℕ × ℕ)} (if t then Some (up.buyer, toggle (toggle 0 up.at_buyer) down.at_seller)
            else None) (Some m)
            → IsMove firms m.0 m.1
        by_test false test e = absurd (cc e)
        by_test true test e =
            let same = eqb-true up.buyer down.seller test in
            whole up.buyer (toggle (toggle 0 up.at_buyer) down.at_seller)
            (subst (λ (f : ℕ). IsMove firms f (toggle (toggle 0 up.at_buyer) down.at_seller)) (sym same)
            (sells down b (toggle 0 up.at_buyer)
            (subst (λ (f : ℕ). IsMove firms f (toggle 0 up.at_buyer)) same (buys up a)))) e

-- ---- sizes

pub price_small : (contracts : List Contract) → All (λ contract. IsAtMost contract.price most_numerator) contracts
    → (t : ℕ) → IsAtMost (signed_price contracts t) most_numerator
price_small [] small t = record { low = omega (arith, ints); high = omega (arith, ints) }
price_small (contract ∷ contracts) small t =
    by_test (contract.trade == t) (price_small contracts (λ k d below. small (suc k) d (omega (arith, below))) t)
  where
    by_test : (b : Bool) → IsAtMost (signed_price contracts t) most_numerator
        → IsAtMost (if b then contract.price else signed_price contracts t) most_numerator
    by_test true rest = small 0 contract (omega arith)
    by_test false rest = rest

-- reduced worths are small
pub reduced_small : (trades : List Ends) (over : ℤ) (contracts : List Contract) (f : ℕ) (firm : Firm)
    → IsOutcomeOf trades over contracts → firm.count ≤ most_own → IsWorthAtMost most_worth firm
    → IsWorthAtMost most_reduced_worth (reduced trades over contracts f firm)
reduced_small trades over contracts f firm outcome few within x a is =
    let found = adding_one (signed_bundle trades contracts f firm)
    (plus_sum over (payments firm.buys (prices_at trades (signed_price contracts) f)) firm) x a is in
    let worth = option_map-some (λ w. over *ℤ w +ℤ sum_over
    (payments firm.buys (prices_at trades (signed_price contracts) f)) firm.count found.0) (firm.worth found.0) a
    found.2 in
    let low = outcome.least in
    let high = outcome.most in
    let product =
    times_small over worth.0 most_over most_worth (record { low = omega (arith, ints, low); high = high })
    (within found.0 worth.0 worth.1) in
    let sum = sum_over_small (payments firm.buys (prices_at trades (signed_price contracts) f)) firm.count found.0
    most_numerator
    (λ k below. payment_small firm.buys (prices_at trades (signed_price contracts) f) k most_numerator
    (price_small contracts outcome.contracts.small (own trades f k))) in
    let many = mul-le firm.count most_numerator most_own most_numerator few (omega arith) in
    together (over *ℤ worth.0) _ a (firm.count * most_numerator) product sum many worth.2
  where
    together : (p s a : ℤ) (n : ℕ) → IsAtMost p (most_over * most_worth) → IsAtMost s n → n ≤ most_own * most_numerator
        → p +ℤ s ≡ a → IsAtMost a most_reduced_worth
    together p s a n product sum many is = record {
      low = omega (arith, ints, product.low, sum.low, many, is);
      high = omega (arith, ints, product.high, sum.high, many, is);
    }

-- what an item of a market has, its reduced worth is small
pub item_small : {V : Type 0} (firm_of : V → Firm) (limit_of : V
    → ℕ) (market : Traded V) (over : ℤ) (contracts : List Contract) → IsWithinLimits firm_of limit_of market
    → IsOutcomeOf market.trades over contracts → ((v : V) → IsWorthAtMost (limit_of v) (firm_of v)) → (f : ℕ) (v : V)
    → slice_get market.firms f ≡ Some v
    → IsWorthAtMost most_reduced_worth (reduced market.trades over contracts f (firm_of v))
item_small firm_of limit_of market over contracts limits outcome within f v is =
    reduced_small market.trades over contracts f (firm_of v) outcome (limits.few_own f v is)
    (λ x a worth. wider (limit_of v) a (within v x a worth) (limits.small_worths f v is))
  where
    wider : (limit : ℕ) (a : ℤ) → IsAtMost a limit → limit ≤ most_worth → IsAtMost a most_worth
    wider limit a small le = record {
      low = omega (arith, ints, small.low, le);
      high =
          omega (arith, ints, small.high, le);
    }

-- and so are the costs of their graph
pub reduced_arcs_small : {V : Type 0} (firm_of : V → Firm) (limit_of : V
    → ℕ) (market : Traded V) (over : ℤ) (contracts : List Contract) → IsNetwork (map firm_of market.firms) market.trades
    → IsWithinLimits firm_of limit_of market → IsOutcomeOf market.trades over contracts
    → ((v : V) → IsWorthAtMost (limit_of v) (firm_of v))
    → AreSmall (reduced_arc (map firm_of market.firms) market.trades over contracts) most_reduced_cost
reduced_arcs_small {V} firm_of limit_of market over contracts network limits outcome within u v cost is =
    wider cost (arcs_small (reduced_firms market.trades over contracts (map firm_of market.firms)) market.trades
    (reduced_network (map firm_of market.firms) market.trades over contracts network)
    most_reduced_worth 0 each u v cost is)
  where
    wider : (cost : ℤ) → IsAtMost cost most_reduced_cost → IsAtMost cost most_reduced_cost
    wider cost small = record { low = omega (arith, ints, small.low); high = omega (arith, ints, small.high) }

    each : (f : ℕ) (firm : Firm) → slice_get (reduced_firms market.trades over contracts (map firm_of market.firms)) f
        ≡ Some firm → IsWorthAtMost most_reduced_worth firm
    each f firm is =
        let found = reduced_from_firm market.trades over contracts (map firm_of market.firms) f firm is in
        subst (IsWorthAtMost most_reduced_worth) (sym found.2)
        (by (slice_get market.firms f) refl found.0 (sym (slice_get-map firm_of market.firms f) ∙ found.1))
      where
        by : (o : Option V) → slice_get market.firms f ≡ o → (z : Firm) → option_map firm_of o ≡ Some z
            → IsWorthAtMost most_reduced_worth (reduced market.trades over contracts f z)
        by None there z e = absurd (cc e)
        by (Some v) there z e =
            subst (λ (w : Firm). IsWorthAtMost most_reduced_worth (reduced market.trades over contracts f w))
            (same_Some _ _ e) (item_small firm_of limit_of market over contracts limits outcome within f v there)

-- ---- one loss

pub meet_empty : (x y : ℕ) → x ≡ 0 → meet x y ≡ 0
meet_empty x y none =
    same_set (meet x y) 0 (λ k. has-meet x y k ∙ ap (λ (b : Bool). b && has y k) (ap (λ (z : ℕ). has z k) none
    ∙ has-zero k) ∙ sym (has-zero k))

-- a reduced worth that is known is small
pub known_small : (worth : ℕ → Option ℤ) (x : ℕ) (known : Option ℤ) (a : ℤ)
    → ((x : ℕ) (a : ℤ) → worth x ≡ Some a → IsAtMost a most_reduced_worth)
    → known ≡ worth x → known ≡ Some a → IsAtMost a most_cost × (worth x ≡ Some a)
known_small worth x known a small is there =
    let at : worth x ≡ Some a = sym is ∙ there in
    (wider a (small x a at), at)
  where
    wider : (a : ℤ) → IsAtMost a most_reduced_worth → IsAtMost a most_cost
    wider a h = record { low = omega (arith, ints, h.low); high = omega (arith, ints, h.high) }

-- and so is one that is found with its bundle
pub found_small : (worth : ℕ → Option ℤ) (x : ℕ) (found : Option (ℕ × ℤ)) (bundle : ℕ) (a : ℤ)
    → ((x : ℕ) (a : ℤ) → worth x ≡ Some a → IsAtMost a most_reduced_worth)
    → option_map (λ p. p.1) found ≡ worth x → found ≡ Some (bundle, a) → IsAtMost a most_cost × (worth x ≡ Some a)
found_small worth x found bundle a small is there =
    known_small worth x (option_map (λ p. p.1) found) a small is (ap (option_map (λ p. p.1)) there)
