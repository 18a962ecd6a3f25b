-- Some set of trades of a residual market has the surplus that the reduced worths of its unsigned part come to: each
-- end of a contract is on where its own firm likes it.
use Rattle.std.proofs.Common.{◌≡◌, ℕ, zero, suc, ◌+◌, ◌*◌, ◌^◌, ◌<◌, ◌≤◌, Bool, true, false, not, ltb, ◌&&◌, ◌||◌, List, [], ◌∷◌, length, map, slice_get, Option, Some, None, refl, sym, ap, ap₂, ◌∙◌, subst, arith, inl, inr, ℤ, pos, ◌+ℤ◌, ◌-ℤ◌, ◌*ℤ◌, ◌≤ℤ◌}
use Rattle.std.proofs.lemmas.Int.{ints}
use Rattle.std.proofs.lemmas.Bool.{cases_Bool, lt-ltb, le-ltb, true≢false}
use Rattle.std.proofs.lemmas.Option.{same_Some, slice_get_cases, slice_get_within}
use Rattle.tn_base.specs.Sets.{has, set_of, minus, size}
use Rattle.tn_base.specs.Firm.{Firm}
use Rattle.tn_base.proofs.SetLemmas.{same_set, same_below, has-set_of, has-minus, has_below, set_of_within, within_from}
use Rattle.tn_base.proofs.ExchangeLemmas.{cases_worth}
use Rattle.tn_base.proofs.SumLemmas.{times-plus}
use Rattle.tn_firm_laws.proofs.KeepLemmas.{option_map-some}
use Rattle.tn_model.specs.declared.ends.Ends.{Ends}
use Rattle.tn_model.specs.declared.contract.Contract.{Contract}
use Rattle.tn_model.specs.Network.{own, part, stands_at}
use Rattle.tn_market.specs.Best.{IsSubset}
use Rattle.tn_market.specs.Equilibrium.{surplus_from, surplus_of}
use Rattle.tn_market.specs.Signed.{is_signed, signed_bundle}
use Rattle.tn_market.specs.Reduced.{reduced, reduced_from, reduced_firms}
use Rattle.tn_model.proofs.NetworkLemmas.{own_stands}
use Rattle.tn_model.proofs.NetworkLemmas.{one_trade}
use Rattle.tn_market.proofs.GraphLemmas.{has-part}
use Rattle.tn_network_laws.proofs.SumLemmas.{sum_list}
use Rattle.tn_outcome_laws.proofs.AddingLemmas.{adding_one}
use Rattle.tn_outcome_laws.proofs.SignedLemmas.{has-signed_bundle}
use Rattle.tn_outcome_laws.proofs.CompletionLemmas.{reduced_is}
use Rattle.tn_residual.specs.Residual.{sold_to, bought_from, number_from, unsigned, unsigned_part, outsides, residual_of, residual_trades}
use Rattle.tn_residual.specs.Surplus.{IsGreatestSurplus, IsSurplusOfReduced, SurplusIsReducedWorth}
use Rattle.tn_residual.proofs.TradeLemmas.{have_trades, trade_from, free_trade}
use Rattle.tn_residual.proofs.ResidualLemmas.{ends_at, stands_sold, stands_bought}
use Rattle.tn_residual.proofs.PositionLemmas.{Setting, parties, made, party, made_network, party_at, market_value}
use Rattle.tn_residual.proofs.CountLemmas.{sizes_total}
use Rattle.tn_residual.proofs.SurplusLemmas.{surplus_first, surplus_with, surplus_joined, got, members, taxed_count, AreFirms, all_firms, contracted, got_total, all_outside, surplus_most}

-- ---- what each firm likes

-- a bundle with the given unsigned trades that reaches their reduced worth
pub record IsLiked (z : Setting) (x f : ℕ) (firm : Firm) (y : ℕ) : Type 0 where
  pub beside : minus y (signed_bundle z.trades z.contracts f firm) ≡ part z.trades f firm.count x
  pub worth : ℤ
  pub reduced_worth : (reduced z.trades z.over z.contracts f firm).worth (part z.trades f firm.count x) ≡ Some worth
  pub utility_is : (contracted z f firm).worth y ≡ Some worth

-- where the reduced worths have a sum, each is a number
each_worth : (trades : List Ends) (x s i : ℕ) (firms : List Firm) (total : ℤ) (firm : Firm)
    → surplus_from trades x s firms ≡ Some total → slice_get firms i ≡ Some firm
    → (worth : ℤ) × (firm.worth (part trades (s + i) firm.count x) ≡ Some worth)
each_worth trades x s i [] total firm is there = absurd (cc there)
each_worth trades x s zero (first ∷ firms) total firm is there =
    let found = surplus_first trades x s first firms total is in
    let at : s ≡ s + 0 = omega arith in (
      found.worth,
      ap₂ (λ (n : ℕ) (g : Firm). g.worth (part trades n g.count x)) (sym at)
          (sym (same_Some first firm there)) ∙ found.worth_is,
    )
each_worth trades x s (suc i) (first ∷ firms) total firm is there =
    let found = surplus_first trades x s first firms total is in
    let rest = each_worth trades x (s + 1) i firms found.rest firm found.rest_is there in
    let at : s + suc i ≡ s + 1 + i = omega arith in
    (rest.0, ap (λ (n : ℕ). firm.worth (part trades n firm.count x)) at ∙ rest.1)

-- so each firm likes some bundle
liked : (z : Setting) (x : ℕ) (total : ℤ) → surplus_of (reduced_firms z.trades z.over z.contracts z.firms) z.trades x
    ≡ Some total → (f : ℕ) (o : Option Firm) → slice_get z.firms f ≡ o
    → (y : ℕ) × ((firm : Firm) → o ≡ Some firm → IsLiked z x f firm y)
liked z x total is f None there = (0, λ firm e. absurd (cc e))
liked z x total is f (Some firm) there =
    let worth = each_worth z.trades x 0 f (reduced_firms z.trades z.over z.contracts z.firms) total
    (reduced z.trades z.over z.contracts f firm) is
    (reduced_is z.trades z.over z.contracts z.firms f firm there) in
    let at : 0 + f ≡ f = omega arith in
    let here : (reduced z.trades z.over z.contracts f firm).worth (part z.trades f firm.count x) ≡ Some worth.0 =
    ap (λ (n : ℕ). (reduced z.trades z.over z.contracts f firm).worth (part z.trades n firm.count x)) (sym at) ∙ worth.1
    in
    let found = adding_one (signed_bundle z.trades z.contracts f firm) (contracted z f firm)
    (part z.trades f firm.count x) worth.0 here in (
      found.0,
      λ other e. subst (λ (g : Firm). IsLiked z x f g found.0) (same_Some firm other e)
          (record { beside = found.1; worth = worth.0; reduced_worth = here; utility_is = found.2 }),
    )

-- a bundle for each firm
pub record AreLiked (z : Setting) (x : ℕ) (bundle_of : ℕ → ℕ) : Type 0 where
  pub each : (f : ℕ) (firm : Firm) → slice_get z.firms f ≡ Some firm → IsLiked z x f firm (bundle_of f)

all_liked : (z : Setting) (x : ℕ) (total : ℤ)
    → surplus_of (reduced_firms z.trades z.over z.contracts z.firms) z.trades x ≡ Some total → (bundle_of : ℕ → ℕ)
    × AreLiked z x bundle_of
all_liked z x total is = (
  λ f. (liked z x total is f (slice_get z.firms f) refl).0,
  record { each = λ f firm there. (liked z x total is f (slice_get z.firms f) refl).1 firm there },
)

-- an unsigned position is in it where its trade is in the set
liked_free : (z : Setting) (x : ℕ) (bundle_of : ℕ → ℕ) → AreLiked z x bundle_of → (f k : ℕ) (firm : Firm)
    → slice_get z.firms f ≡ Some firm → k < firm.count
    → is_signed z.contracts (own z.trades f k) ≡ false → has (bundle_of f) k ≡ has x (own z.trades f k)
liked_free z x bundle_of likes f k firm is below free =
    sym (has-minus (bundle_of f) (signed_bundle z.trades z.contracts f firm) k
    ∙ ap (λ (b : Bool). has (bundle_of f) k && not b) (has-signed_bundle z.firms z.trades z.network z.contracts f k firm
    is below ∙ free) ∙ always (has (bundle_of f) k))
    ∙ ap (λ (y : ℕ). has y k) (likes.each f firm is).beside
    ∙ has-part z.trades f firm.count x k below
  where
    always : (b : Bool) → (b && not false) ≡ b
    always true = refl
    always false = refl

-- ---- the set of trades

-- whether firm f has position k in its bundle, if it is one of the market
wants : Setting → (ℕ → ℕ) → ℕ → ℕ → Bool
wants z bundle_of f k = ltb f (length z.firms) && has (bundle_of f) k

-- whether an end of a trade wants it
wanted : Setting → (ℕ → ℕ) → Option Ends → Bool
wanted z bundle_of None = false
wanted z bundle_of (Some ends) = wants z bundle_of ends.seller ends.at_seller
    || wants z bundle_of ends.buyer ends.at_buyer

-- the trades that an end wants
wanted_trades : Setting → (ℕ → ℕ) → ℕ
wanted_trades z bundle_of = set_of (λ s. wanted z bundle_of (slice_get (made z) s)) (length (made z))

wants_here : (z : Setting) (bundle_of : ℕ → ℕ) (f k : ℕ) (firm : Firm) → slice_get z.firms f ≡ Some firm
    → wants z bundle_of f k ≡ has (bundle_of f) k
unfolding wants
wants_here z bundle_of f k firm is =
    ap (λ (b : Bool). b && has (bundle_of f) k) (lt-ltb f (length z.firms) (slice_get_within z.firms f firm is))

wants_not : (z : Setting) (bundle_of : ℕ → ℕ) (f k : ℕ) → length z.firms ≤ f → wants z bundle_of f k ≡ false
unfolding wants
wants_not z bundle_of f k above = ap (λ (b : Bool). b && has (bundle_of f) k) (le-ltb f (length z.firms) above)

-- an unsigned trade is wanted by both its ends where it is in the set
wants_free : (z : Setting) (x : ℕ) (bundle_of : ℕ → ℕ) → AreLiked z x bundle_of → (t : ℕ) (trade : Ends)
    → slice_get z.trades t ≡ Some trade → is_signed z.contracts t ≡ false
    → (wants z bundle_of trade.seller trade.at_seller ≡ has x t)
    × (wants z bundle_of trade.buyer trade.at_buyer ≡ has x t)
wants_free z x bundle_of likes t trade is free =
    let sold = z.network.sold t trade is in
    let bought = z.network.bought t trade is in
    let at_seller = (one_trade z.firms z.trades trade.seller trade.at_seller t sold.0 z.network sold.1 sold.2).1
    (record { trade = trade; is = is; stands = stands_sold trade trade.seller trade.at_seller refl refl }) in
    let at_buyer = (one_trade z.firms z.trades trade.buyer trade.at_buyer t bought.0 z.network bought.1 bought.2).1
    (record { trade = trade; is = is; stands = stands_bought trade trade.buyer trade.at_buyer refl refl }) in (
      wants_here z bundle_of trade.seller trade.at_seller sold.0 sold.1
          ∙ liked_free z x bundle_of likes trade.seller trade.at_seller sold.0 sold.1 sold.2
          (ap (is_signed z.contracts) at_seller ∙ free) ∙ ap (has x) at_seller,
      wants_here z bundle_of trade.buyer trade.at_buyer bought.0 bought.1
          ∙ liked_free z x bundle_of likes trade.buyer trade.at_buyer bought.0 bought.1 bought.2
          (ap (is_signed z.contracts) at_buyer ∙ free) ∙ ap (has x) at_buyer,
    )

-- a trade at a position of the market is wanted where the position is in the firm's bundle
wanted_here : (z : Setting) (x : ℕ) (bundle_of : ℕ → ℕ) → AreLiked z x bundle_of
    → (f k s : ℕ) (firm : Firm) (ends : Ends) → slice_get z.firms f ≡ Some firm
    → slice_get (made z) s ≡ Some ends → stands_at ends f k ≡ true
    → wanted z bundle_of (Some ends) ≡ has (bundle_of f) k
unfolding wanted
wanted_here z x bundle_of likes f k s firm ends is there stands =
    elim (trade_from z.trades z.contracts (have_trades z.trades z.contracts z.feasible) (length z.firms) s ends there) [
      | inl free ↦
          let both = wants_free z x bundle_of likes free.t ends free.is (let at : free.t ≡ 0 + free.t = omega arith in
          ap (is_signed z.contracts) at ∙ free.free) in
          elim (ends_at ends f k stands) [
            | inl sold ↦
                let mine : wants z bundle_of ends.seller ends.at_seller ≡ has (bundle_of f) k =
                ap₂ (wants z bundle_of) sold.0 sold.1 ∙ wants_here z bundle_of f k firm is in
                ap₂ (λ (a b : Bool). a || b) mine (both.1 ∙ sym both.0 ∙ mine) ∙ twice (has (bundle_of f) k)
            | inr bought ↦
                let mine : wants z bundle_of ends.buyer ends.at_buyer ≡ has (bundle_of f) k =
                ap₂ (wants z bundle_of) bought.0 bought.1 ∙ wants_here z bundle_of f k firm is in
                ap₂ (λ (a b : Bool). a || b) (both.0 ∙ sym both.1 ∙ mine) mine ∙ twice (has (bundle_of f) k)
          ]
      | inr half ↦ elim half.half.which [
        | inl sold ↦
            elim (ends_at (sold_to (length z.firms + half.half.c) half.half.trade) f k
            (ap (λ (e : Ends). stands_at e f k) (sym sold.0) ∙ stands)) [
              | inl here ↦
                  ap (λ (e : Ends). wants z bundle_of e.seller e.at_seller
                  || wants z bundle_of e.buyer e.at_buyer) sold.0
                  ∙ ap₂ (λ (a b : Bool). a || b)
                  (ap₂ (wants z bundle_of) here.0 here.1 ∙ wants_here z bundle_of f k firm is)
                  (wants_not z bundle_of (length z.firms + half.half.c) 0 (omega arith))
                  ∙ or_false (has (bundle_of f) k)
              | inr out ↦ absurd (let below = slice_get_within z.firms f firm is in
                  let at = out.0 in omega (arith, below, at))
            ]
        | inr bought ↦
            elim (ends_at (bought_from (length z.firms + half.half.c) half.half.trade) f k
            (ap (λ (e : Ends). stands_at e f k) (sym bought.0) ∙ stands)) [
              | inl out ↦ absurd (let below = slice_get_within z.firms f firm is in
                  let at = out.0 in omega (arith, below, at))
              | inr here ↦
                  ap (λ (e : Ends). wants z bundle_of e.seller e.at_seller
                  || wants z bundle_of e.buyer e.at_buyer) bought.0
                  ∙ ap₂ (λ (a b : Bool). a || b) (wants_not z bundle_of (length z.firms + half.half.c) 1 (omega arith))
                  (ap₂ (wants z bundle_of) here.0 here.1 ∙ wants_here z bundle_of f k firm is)
            ]
      ]
    ]
  where
    twice : (b : Bool) → (b || b) ≡ b
    twice true = refl
    twice false = refl

    or_false : (b : Bool) → (b || false) ≡ b
    or_false true = refl
    or_false false = refl

-- so each firm has the bundle that it likes
wanted_bundle : (z : Setting) (x : ℕ) (bundle_of : ℕ → ℕ) → AreLiked z x bundle_of → (f : ℕ) (firm : Firm)
    → slice_get z.firms f ≡ Some firm
    → part (made z) f firm.count (wanted_trades z bundle_of) ≡ bundle_of f
unfolding wanted_trades
wanted_bundle z x bundle_of likes f firm is =
    let utility =
    option_map-some _ (firm.worth (bundle_of f)) (likes.each f firm is).worth (likes.each f firm is).utility_is in
    same_below (part (made z) f firm.count (wanted_trades z bundle_of)) (bundle_of f) firm.count
    (set_of_within (λ k. has (wanted_trades z bundle_of) (own (made z) f k)) firm.count)
    (z.own_bundles f firm is (bundle_of f) utility.0 utility.1)
    (λ k below.
    let inside = (made_network z).whole f k (party z f firm) (party_at z f firm is) below in
    let there = own_stands (made z) f k inside in
    has-part (made z) f firm.count (wanted_trades z bundle_of) k below
    ∙ has-set_of (λ s. wanted z bundle_of (slice_get (made z) s)) (length (made z)) (own (made z) f k)
    ∙ ap (λ (b : Bool). b && wanted z bundle_of (slice_get (made z) (own (made z) f k)))
    (lt-ltb (own (made z) f k) (length (made z)) inside)
    ∙ ap (wanted z bundle_of) there.is
    ∙ wanted_here z x bundle_of likes f k (own (made z) f k) firm there.trade is there.is there.stands)

-- and the unsigned part is the given set
wanted_part : (z : Setting) (x : ℕ) (bundle_of : ℕ → ℕ) → AreLiked z x bundle_of
    → IsSubset x (unsigned (length z.trades) z.contracts)
    → unsigned_part z.contracts (length z.trades) (wanted_trades z bundle_of) ≡ x
unfolding wanted_trades wanted
wanted_part z x bundle_of likes inside =
    same_set (unsigned_part z.contracts (length z.trades) (wanted_trades z bundle_of)) x (λ t.
    has-set_of (λ i. not (is_signed z.contracts i) && has (wanted_trades z bundle_of) (number_from z.contracts 0 i))
    (length z.trades) t ∙ at t)
  where
    no_member : (t : ℕ) → (has (unsigned (length z.trades) z.contracts) t ≡ false) → has x t ≡ false
    no_member t away = elim (cases_Bool (has x t)) [
      | inr out ↦ out
      | inl there ↦ absurd (true≢false (sym (inside t there) ∙ away))
    ]

    twice : (b : Bool) → (b || b) ≡ b
    twice true = refl
    twice false = refl

    is_unsigned : (t : ℕ) → has (unsigned (length z.trades) z.contracts) t
        ≡ (ltb t (length z.trades) && not (is_signed z.contracts t))
    is_unsigned t = has-set_of (λ i. not (is_signed z.contracts i)) (length z.trades) t

    at : (t : ℕ)
        → (ltb t (length z.trades) && (not (is_signed z.contracts t)
        && has (wanted_trades z bundle_of) (number_from z.contracts 0 t))) ≡ has x t
    at t = elim (slice_get_cases z.trades t).1 [
      | inr past ↦
          let away : ltb t (length z.trades) ≡ false = le-ltb t (length z.trades) past.0 in
          ap (λ (b : Bool). b && (not (is_signed z.contracts t)
          && has (wanted_trades z bundle_of) (number_from z.contracts 0 t))) away
          ∙ sym (no_member t (is_unsigned t ∙ ap (λ (b : Bool). b && not (is_signed z.contracts t)) away))
      | inl found ↦
          let here : ltb t (length z.trades) ≡ true = lt-ltb t (length z.trades) found.1 in
          elim (cases_Bool (is_signed z.contracts t)) [
            | inl signed ↦
                ap₂ (λ (a b : Bool). a && (not b && has (wanted_trades z bundle_of) (number_from z.contracts 0 t))) here
                signed
                ∙ sym (no_member t (is_unsigned t ∙ ap₂ (λ (a b : Bool). a && not b) here signed))
            | inr free ↦
                let there = free_trade z.trades z.contracts (length z.firms) t found.0 found.2 free in
                let both = wants_free z x bundle_of likes t found.0 found.2 free in
                ap₂ (λ (a b : Bool). a && (not b && has (wanted_trades z bundle_of) (number_from z.contracts 0 t))) here
                free
                ∙ has-set_of (λ s. wanted z bundle_of (slice_get (made z) s)) (length (made z))
                (number_from z.contracts 0 t)
                ∙ ap (λ (b : Bool). b && wanted z bundle_of (slice_get (made z) (number_from z.contracts 0 t)))
                (lt-ltb (number_from z.contracts 0 t) (length (made z))
                (slice_get_within (made z) (number_from z.contracts 0 t) found.0 there))
                ∙ ap (wanted z bundle_of) there
                ∙ ap₂ (λ (a b : Bool). a || b) both.0 both.1 ∙ twice (has x t)
          ]
    ]

-- ---- its surplus

-- one firm has what its reduced worth comes to
firm_reaches : (z : Setting) (x on f : ℕ) (firm : Firm) → slice_get z.firms f ≡ Some firm
    → IsLiked z x f firm (part (made z) f firm.count on) → unsigned_part z.contracts (length z.trades) on ≡ x
    → (worth : ℤ) → (reduced z.trades z.over z.contracts f firm).worth (part z.trades f firm.count x) ≡ Some worth
    → (value : ℤ) × ((party z f firm).worth (part (made z) f firm.count on) ≡ Some value)
    × (value +ℤ got z on f (party z f firm) ≡ z.scale *ℤ worth -ℤ z.tax *ℤ taxed_count z x f firm)
firm_reaches z x on f firm is likes x_is worth worth_is =
    let utility = option_map-some _ (firm.worth (part (made z) f firm.count on)) likes.worth likes.utility_is in
    let value = market_value z f on firm is utility.0 utility.1 in
    let same : likes.worth ≡ worth = same_Some likes.worth worth (sym likes.reduced_worth ∙ worth_is) in (
      value.0,
      value.1,
      value.2 ∙ ap₂ (λ (u : ℤ) (y : ℕ). z.scale *ℤ u -ℤ z.tax *ℤ pos (size (part z.trades f firm.count y))) (utility.2
          ∙ same) x_is,
    )

market_reaches : (z : Setting) (x on : ℕ) → ((f : ℕ) (firm : Firm) → slice_get z.firms f ≡ Some firm
    → IsLiked z x f firm (part (made z) f firm.count on))
    → unsigned_part z.contracts (length z.trades) on ≡ x → (b : ℕ) (xs : List Firm) → AreFirms z b xs → (total : ℤ)
    → surplus_from z.trades x b (reduced_from z.trades z.over z.contracts b xs) ≡ Some total
    → (value : ℤ) × (surplus_from (made z) on b (members z b xs) ≡ Some value)
    × (value +ℤ sum_list (got z on) b (members z b xs) ≡ z.scale *ℤ total -ℤ z.tax *ℤ sum_list (taxed_count z x) b xs)
market_reaches z x on likes x_is b [] are total is = (
  pos 0,
  refl,
  nothing (z.scale *ℤ total) (z.tax *ℤ pos 0) (ap (λ (t : ℤ). z.scale *ℤ t) (same_Some total (pos 0) (sym is))
      ∙ omega (arith, ints)) (omega (arith, ints)),
)
  where
    nothing : (r t : ℤ) → r ≡ pos 0 → t ≡ pos 0 → pos 0 +ℤ pos 0 ≡ r -ℤ t
    nothing r t a b = omega (arith, ints, a, b)
market_reaches z x on likes x_is b (firm ∷ xs) are total is =
    let first = surplus_first z.trades x b (reduced z.trades z.over z.contracts b firm)
    (reduced_from z.trades z.over z.contracts (b + 1) xs) total is in
    let here = firm_reaches z x on b firm are.0 (likes b firm are.0) x_is first.worth first.worth_is in
    let rest = market_reaches z x on likes x_is (b + 1) xs are.1 first.rest first.rest_is in (
      here.0 +ℤ rest.0,
      surplus_with (made z) on b (party z b firm) (members z (b + 1) xs) here.0 rest.0 here.1 rest.1,
      add here.0 rest.0 (got z on b (party z b firm)) (sum_list (got z on) (b + 1) (members z (b + 1) xs))
          (z.scale *ℤ first.worth) (z.tax *ℤ taxed_count z x b firm) (z.scale *ℤ first.rest)
          (z.tax *ℤ sum_list (taxed_count z x) (b + 1) xs) (z.scale *ℤ total)
          (z.tax *ℤ (taxed_count z x b firm +ℤ sum_list (taxed_count z x) (b + 1) xs)) here.2 rest.2
          (ap (λ (t : ℤ). z.scale *ℤ t) first.sum ∙ times-plus z.scale first.worth first.rest)
          (times-plus z.tax (taxed_count z x b firm) (sum_list (taxed_count z x) (b + 1) xs)),
    )
  where
    add : (w r p q u x v y uv xy : ℤ) → w +ℤ p ≡ u -ℤ x → r +ℤ q ≡ v -ℤ y → uv ≡ u +ℤ v → xy ≡ x +ℤ y
        → (w +ℤ r) +ℤ (p +ℤ q) ≡ uv -ℤ xy
    add w r p q u x v y uv xy here rest scaled taxed = omega (arith, ints, here, rest, scaled, taxed)

-- the set that the firms like has the surplus
reached : (z : Setting) (x : ℕ) (total : ℤ) → surplus_of (reduced_firms z.trades z.over z.contracts z.firms) z.trades x
    ≡ Some total → IsSubset x (unsigned (length z.trades) z.contracts)
    → (on : ℕ) × (unsigned_part z.contracts (length z.trades) on ≡ x)
    × (surplus_of (parties z) (made z) on ≡ Some (z.scale *ℤ total -ℤ z.tax *ℤ sum_list (taxed_count z x) 0 z.firms))
reached z x total is inside =
    let likes = all_liked z x total is in
    let on = wanted_trades z likes.0 in
    let x_is = wanted_part z x likes.0 likes.1 inside in
    let market = market_reaches z x (wanted_trades z likes.0)
    (λ f firm there. subst (IsLiked z x f firm) (sym (wanted_bundle z x likes.0 likes.1 f firm there))
    (likes.1.each f firm there)) x_is 0 z.firms (all_firms z) total is in
    let out = all_outside z (wanted_trades z likes.0) in (
      on,
      x_is,
      surplus_joined (made z) (wanted_trades z likes.0) 0 (members z 0 z.firms) (outsides z.scale z.contracts) market.0
          out.0 market.1 out.1
          ∙ ap (λ (v : ℤ). Some v)
          (add market.0 out.0 (sum_list (got z (wanted_trades z likes.0)) 0 (members z 0 z.firms))
          (sum_list (got z (wanted_trades z likes.0)) (length z.firms) (outsides z.scale z.contracts)) (z.scale *ℤ total
          -ℤ z.tax *ℤ sum_list (taxed_count z x) 0 z.firms)
          market.2 out.2 (got_total z (wanted_trades z likes.0))),
    )
  where
    add : (a b p q m : ℤ) → a +ℤ p ≡ m → b +ℤ q ≡ pos 0 → p +ℤ q ≡ pos 0 → a +ℤ b ≡ m
    add a b p q m most nothing cancel = omega (arith, ints, most, nothing, cancel)

-- ---- the law

unsigned_below : (n x : ℕ) (contracts : List Contract) → IsSubset x (unsigned n contracts) → x < 2 ^ n
unsigned_below n x contracts inside = within_from x n (λ k above. elim (cases_Bool (has x k)) [
  | inr out ↦ out
  | inl there ↦
      absurd (let below =
      has_below (unsigned n contracts) n k (set_of_within (λ t. not (is_signed contracts t)) n) (inside k there) in
      omega (arith, above, below))
])

greatest : (z : Setting) (x : ℕ) → pos 0 ≤ℤ z.scale → IsSubset x (unsigned (length z.trades) z.contracts)
    → (o : Option ℤ)
    → surplus_of (reduced_firms z.trades z.over z.contracts z.firms) z.trades x ≡ o
    → IsGreatestSurplus (parties z) (made z) z.contracts (length z.trades) z.scale z.tax x o
greatest z x from_zero inside None none = λ on x_is. elim (cases_worth (surplus_of (parties z) (made z) on)) [
  | inr away ↦ away
  | inl some ↦ absurd (
      let most = surplus_most z from_zero on some.0 some.1 in
      let there = ap (λ (y : ℕ). surplus_of (reduced_firms z.trades z.over z.contracts z.firms) z.trades y) (sym x_is)
      ∙ most.1 in
      cc (there, none))
]
greatest z x from_zero inside (Some total) is = (
  (
    found.0,
    found.1,
    found.2 ∙ ap (λ (t : ℤ). Some (z.scale *ℤ total -ℤ z.tax *ℤ t))
        (sizes x (unsigned_below (length z.trades) x z.contracts inside)),
  ),
  λ on other x_is other_is.
      let most = surplus_most z from_zero on other other_is in
      let there = ap (λ (y : ℕ). surplus_of (reduced_firms z.trades z.over z.contracts z.firms) z.trades y) (sym x_is)
      ∙ most.1 in
      let same : most.0 ≡ total = same_Some most.0 total (sym there ∙ is) in
      subst (λ (m : ℤ). other ≤ℤ m)
      (ap₂ (λ (r : ℤ) (y : ℕ). z.scale *ℤ r -ℤ z.tax *ℤ sum_list (taxed_count z y) 0 z.firms) same x_is
      ∙ ap (λ (t : ℤ). z.scale *ℤ total -ℤ z.tax *ℤ t) (sizes x
      (unsigned_below (length z.trades) x z.contracts inside))) most.2,
)
  where
    found : (on : ℕ) × (unsigned_part z.contracts (length z.trades) on ≡ x)
        × (surplus_of (parties z) (made z) on ≡ Some (z.scale *ℤ total
        -ℤ z.tax *ℤ sum_list (taxed_count z x) 0 z.firms))
    found = reached z x total is inside

    sizes : (y : ℕ) → y < 2 ^ length z.trades → sum_list (taxed_count z y) 0 z.firms ≡ pos (2 * size y)
    sizes y below = sizes_total z.firms z.trades z.network y below

pub surplus_is_reduced_worth : SurplusIsReducedWorth
surplus_is_reduced_worth firms trades over contracts scale tax network feasible own_bundles from_zero x inside =
    let z : Setting = record {
      firms = firms;
      trades = trades;
      over = over;
      contracts = contracts;
      scale = scale;
      tax = tax;
      network = network;
      feasible = feasible;
      own_bundles = own_bundles;
    } in
    greatest z x from_zero inside (surplus_of (reduced_firms trades over contracts firms) trades x) refl

-- of lists that are its firms and its trades
pub made_surplus : {A : Type 0} (firm_of : A → Firm) (items : List A) (ends : List Ends) (firms : List Firm)
    (trades : List Ends) (over : ℤ) (contracts : List Contract) (scale tax : ℤ)
    → map firm_of items ≡ residual_of firms trades over contracts scale tax
    → ends ≡ residual_trades (length firms) trades contracts
    → IsSurplusOfReduced (residual_of firms trades over contracts scale tax)
    (residual_trades (length firms) trades contracts) firms trades over contracts scale tax
    → IsSurplusOfReduced (map firm_of items) ends firms trades over contracts scale tax
made_surplus firm_of items ends firms trades over contracts scale tax firms_are trades_are law =
    subst (λ (xs : List Firm). IsSurplusOfReduced xs ends firms trades over contracts scale tax) (sym firms_are)
    (subst (λ (es : List Ends). IsSurplusOfReduced (residual_of firms trades over contracts scale tax) es firms trades
    over contracts scale tax) (sym trades_are) law)
