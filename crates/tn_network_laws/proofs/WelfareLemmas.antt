-- In the sum of the firms' utilities each price is paid once and received once, so an equilibrium has the greatest
-- surplus.
use Rattle.std.proofs.Common.{◌≡◌, ℕ, zero, suc, ◌+◌, ◌<◌, Bool, true, false, ◌==◌, ◌&&◌, ◌||◌, if◌then◌else◌, List, [], ◌∷◌, length, Some, option_map, slice_get, refl, sym, ap, ap₂, ◌∙◌, subst, arith, inl, inr, ℤ, pos, ◌+ℤ◌, neg_ℤ, ◌≤ℤ◌, ◌*ℤ◌}
use Rattle.std.specs.Prelude.{option_and_then}
use Rattle.std.proofs.lemmas.Int.{ints, by_lt_z}
use Rattle.std.proofs.lemmas.Bool.{cases_Bool, eqb-true, and_parts, or_parts, lt-ltb}
use Rattle.std.proofs.lemmas.Option.{same_Some, option_and_then_some}
use Rattle.tn_base.specs.Sets.{has, sum_over}
use Rattle.tn_base.specs.Firm.{Firm, payments}
use Rattle.tn_base.proofs.SetLemmas.{has-set_of}
use Rattle.tn_base.proofs.SumLemmas.{times-plus}
use Rattle.tn_firm_laws.proofs.KeepLemmas.{option_map-some, times-le}
use Rattle.tn_model.specs.declared.ends.Ends.{Ends}
use Rattle.tn_model.specs.Network.{own, part, stands_at, IsNetwork}
use Rattle.tn_market.specs.Equilibrium.{prices_at, HasBest, IsEquilibrium, surplus_from, IsEfficient}
use Rattle.tn_network_laws.proofs.SumLemmas.{sum_to, sum_to-same, AllFrom, all_from, all_at, sum_list, sum_list-same, sum_list-none, over_all, over_all-plus, over_all-zero, placed_at, over_all-placed}

-- ---- an amount at each end of a trade

-- what stands at a position for a trade: one amount at its seller's end, and another at its buyer's
abbrev pub moved : (ℕ → ℤ) → (ℕ → ℤ) → ℕ → Ends → ℕ → ℕ → ℤ
moved a b t trade f k = placed_at trade.seller trade.at_seller (a t) f k
    +ℤ placed_at trade.buyer trade.at_buyer (b t) f k

-- both ends are positions of firms
record IsPlaced (firms : List Firm) (trade : Ends) : Type 0 where
  seller : Firm
  sold_is : slice_get firms trade.seller ≡ Some seller
  sold_at : trade.at_seller < seller.count
  buyer : Firm
  bought_is : slice_get firms trade.buyer ≡ Some buyer
  bought_at : trade.at_buyer < buyer.count

one_total : (firms : List Firm) (a b : ℕ → ℤ) (t : ℕ) (trade : Ends) → IsPlaced firms trade
    → over_all (moved a b t trade) 0 firms ≡ a t +ℤ b t
one_total firms a b t trade placed =
    let parts = over_all-plus (placed_at trade.seller trade.at_seller (a t))
    (placed_at trade.buyer trade.at_buyer (b t)) 0 firms in
    let sold = over_all-placed trade.seller trade.at_seller 0 trade.seller (a t) firms placed.seller (omega arith)
    placed.sold_is placed.sold_at in
    let bought =
    over_all-placed trade.buyer trade.at_buyer 0 trade.buyer (b t) firms placed.buyer (omega arith) placed.bought_is
    placed.bought_at in
    add _ _ _ _ _ parts sold bought
  where
    add : (x y whole first second : ℤ) → whole ≡ first +ℤ second → first ≡ x → second ≡ y → whole ≡ x +ℤ y
    add x y whole first second parts sold bought = omega (arith, ints, parts, sold, bought)

all_total : (firms : List Firm) (a b : ℕ → ℤ) (s : ℕ) (trades : List Ends)
    → AllFrom (λ t trade. IsPlaced firms trade) s trades
    → over_all (λ f k. sum_list (λ t trade. moved a b t trade f k) s trades) 0 firms
    ≡ sum_list (λ t trade. a t +ℤ b t) s trades
all_total firms a b s [] placed = over_all-zero 0 firms
all_total firms a b s (trade ∷ trades) placed =
    let parts = over_all-plus (moved a b s trade) (λ f k. sum_list (λ t trade. moved a b t trade f k) (s + 1) trades) 0
    firms in
    let first = one_total firms a b s trade placed.0 in
    let rest = all_total firms a b (s + 1) trades placed.1 in
    add _ _ _ _ _ parts first rest
  where
    add : (whole first rest x y : ℤ) → whole ≡ first +ℤ rest → first ≡ x → rest ≡ y → whole ≡ x +ℤ y
    add whole first rest x y parts p q = omega (arith, ints, parts, p, q)

-- ---- what stands at a position

-- where the trade stands at a position, its side there is the position's
record IsSided (bought : Bool) (f k : ℕ) (trade : Ends) : Type 0 where
  sells : (trade.seller == f && trade.at_seller == k) ≡ true → bought ≡ false
  buys : (trade.buyer == f && trade.at_buyer == k) ≡ true → bought ≡ true

moved-away : (a b : ℕ → ℤ) (t : ℕ) (trade : Ends) (f k : ℕ) → stands_at trade f k ≡ false
    → moved a b t trade f k ≡ pos 0
moved-away a b t trade f k away =
    let parts = or_parts (trade.seller == f && trade.at_seller == k) (trade.buyer == f && trade.at_buyer == k) away in
    ap₂ (λ (x y : Bool). (if x then a t else pos 0) +ℤ (if y then b t else pos 0)) parts.0 parts.1

moved-here : (a b : ℕ → ℤ) (t : ℕ) (trade : Ends) (f k : ℕ) (bought : Bool) → IsSided bought f k trade
    → stands_at trade f k ≡ true
    → moved a b t trade f k ≡ (if bought then b t else a t)
moved-here a b t trade f k bought sided stands =
    by_case (trade.seller == f && trade.at_seller == k) (trade.buyer == f && trade.at_buyer == k) bought sided.sells
    sided.buys stands (a t) (b t)
  where
    by_case : (x y c : Bool) → (x ≡ true → c ≡ false) → (y ≡ true → c ≡ true) → (x || y) ≡ true → (u v : ℤ)
        → (if x then u else pos 0) +ℤ (if y then v else pos 0) ≡ (if c then v else u)
    by_case true true c sells buys s u v = let x = sells refl in let y = buys refl in absurd (cc (x, y))
    by_case true false true sells buys s u v = let x = sells refl in absurd (cc x)
    by_case true false false sells buys s u v = omega (arith, ints)
    by_case false true true sells buys s u v = omega (arith, ints)
    by_case false true false sells buys s u v = let y = buys refl in absurd (cc y)
    by_case false false c sells buys s u v = absurd (cc s)

-- at a position the trade that stands there counts, and no other
moved_at : (a b : ℕ → ℤ) (f k : ℕ) (bought : Bool) (s : ℕ) (trades : List Ends) → own trades f k < length trades
    → ((t : ℕ) (trade : Ends) → slice_get trades t ≡ Some trade → IsSided bought f k trade)
    → ((t u : ℕ) (one other : Ends) → slice_get trades t ≡ Some one → slice_get trades u ≡ Some other
    → stands_at one f k ≡ true → stands_at other f k ≡ true → t ≡ u)
    → sum_list (λ t trade. moved a b t trade f k) s trades ≡ (if bought then b (s + own trades f k)
    else a (s + own trades f k))
moved_at a b f k bought s [] inside sided once = absurd (omega (arith, inside))
moved_at a b f k bought s (trade ∷ trades) inside sided once = by_case (stands_at trade f k) refl
    (λ below. moved_at a b f k bought (s + 1) trades below (λ t other is. sided (suc t) other is)
    (λ t u one other one_is other_is p q. let e = once (suc t) (suc u) one other one_is other_is p q in
    omega (arith, e)))
  where
    by_case : (h : Bool) → stands_at trade f k ≡ h
        → (own trades f k < length trades → sum_list (λ t trade. moved a b t trade f k) (s + 1) trades
        ≡ (if bought then b (s + 1 + own trades f k) else a (s + 1 + own trades f k)))
        → moved a b s trade f k +ℤ sum_list (λ t trade. moved a b t trade f k) (s + 1) trades
        ≡ (if bought then b (s + own (trade ∷ trades) f k) else a (s + own (trade ∷ trades) f k))
    by_case true e rest =
        let at : own (trade ∷ trades) f k ≡ 0 = ap (λ (h : Bool). if h then 0 else own trades f k + 1) e in
        let first = moved-here a b s trade f k bought (sided 0 trade refl) e in
        let others =
        sum_list-none (λ t trade. moved a b t trade f k) (s + 1) trades
        (all_from _ (s + 1) trades (λ i t other t_is is.
        moved-away a b t other f k (elim (cases_Bool (stands_at other f k)) [
          | inr away ↦ away
          | inl here ↦ let same = once 0 (suc i) trade other refl is e here in absurd (omega (arith, same))
        ]))) in
        let here : s ≡ s + own (trade ∷ trades) f k = omega (arith, at) in
        subst (λ (t : ℕ). moved a b s trade f k +ℤ sum_list (λ t trade. moved a b t trade f k) (s + 1) trades
        ≡ (if bought then b t else a t)) here (alone _ _ _ first others)
      where
        alone : (first others whole : ℤ) → first ≡ whole → others ≡ pos 0 → first +ℤ others ≡ whole
        alone first others whole p q = omega (arith, ints, p, q)
    by_case false e rest =
        let at : own (trade ∷ trades) f k ≡ own trades f k + 1 =
        ap (λ (h : Bool). if h then 0 else own trades f k + 1) e in
        let first = moved-away a b s trade f k e in
        let others = rest (omega (arith, inside, at)) in
        let there : s + 1 + own trades f k ≡ s + own (trade ∷ trades) f k = omega (arith, at) in
        subst (λ (t : ℕ). moved a b s trade f k +ℤ sum_list (λ t trade. moved a b t trade f k) (s + 1) trades
        ≡ (if bought then b t else a t)) there (nothing _ _ _ first others)
      where
        nothing : (first others whole : ℤ) → first ≡ pos 0 → others ≡ whole → first +ℤ others ≡ whole
        nothing first others whole p q = omega (arith, ints, p, q)

-- a trade of a network has places, with their sides
network_placed : (firms : List Firm) (trades : List Ends) → IsNetwork firms trades → (t : ℕ) (trade : Ends)
    → slice_get trades t ≡ Some trade
    → IsPlaced firms trade
network_placed firms trades network t trade is =
    let sold = network.sold t trade is in
    let bought = network.bought t trade is in
    record {
      seller = sold.0;
      sold_is = sold.1;
      sold_at = sold.2;
      buyer = bought.0;
      bought_is = bought.1;
      bought_at =
          bought.2;
    }

network_sided : (firms : List Firm) (trades : List Ends) → IsNetwork firms trades → (f k : ℕ) (firm : Firm)
    → slice_get firms f ≡ Some firm
    → (t : ℕ) (trade : Ends) → slice_get trades t ≡ Some trade → IsSided (has firm.buys k) f k trade
network_sided firms trades network f k firm firm_is t trade is = record {
  sells = λ here.
      let parts = and_parts (trade.seller == f) (trade.at_seller == k) here in
      let sold = network.sold t trade is in
      same_side f k firm firm_is trade.seller trade.at_seller sold.0 (eqb-true _ _ parts.0) (eqb-true _ _ parts.1)
      sold.1 ∙ sold.3;
  buys = λ here.
      let parts = and_parts (trade.buyer == f) (trade.at_buyer == k) here in
      let bought = network.bought t trade is in
      same_side f k firm firm_is trade.buyer trade.at_buyer bought.0 (eqb-true _ _ parts.0) (eqb-true _ _ parts.1)
      bought.1 ∙ bought.3;
}
  where
    same_side : (f k : ℕ) (firm : Firm) → slice_get firms f ≡ Some firm → (g i : ℕ) (other : Firm) → g ≡ f → i ≡ k
        → slice_get firms g ≡ Some other
        → has firm.buys k ≡ has other.buys i
    same_side f k firm firm_is g i other same at is =
        let one : firm ≡ other = same_Some _ _ (sym firm_is ∙ ap (slice_get firms) (sym same) ∙ is) in
        ap₂ (λ (x : Firm) (j : ℕ). has x.buys j) one (sym at)

-- an amount for each trade, by the side of the position at which it stands
abbrev pub at_side : List Ends → (ℕ → ℤ) → (ℕ → ℤ) → ℕ → Firm → ℕ → ℤ
at_side trades a b f firm k = if has firm.buys k then b (own trades f k) else a (own trades f k)

-- over all positions of all firms each trade counts once as sold and once as bought
pub ends_total : (firms : List Firm) (trades : List Ends) → IsNetwork firms trades → (a b : ℕ → ℤ)
    → sum_list (λ f firm. sum_to (at_side trades a b f firm) firm.count) 0 firms
    ≡ sum_list (λ t trade. a t +ℤ b t) 0 trades
ends_total firms trades network a b =
    sum_list-same (λ f firm. sum_to (at_side trades a b f firm) firm.count)
    (λ f firm. sum_to (λ k. sum_list (λ t trade. moved a b t trade f k) 0 trades) firm.count) 0 firms
    (all_from _ 0 firms (λ i f firm at is.
    let same : i ≡ f = omega (arith, at) in
    let firm_is = ap (slice_get firms) (sym same) ∙ is in
    sum_to-same (at_side trades a b f firm) (λ k. sum_list (λ t trade. moved a b t trade f k) 0 trades) firm.count
    (λ k below.
    let t : 0 + own trades f k ≡ own trades f k = omega arith in
    ap (λ (j : ℕ). if has firm.buys k then b j else a j) (sym t)
    ∙ sym (moved_at a b f k (has firm.buys k) 0 trades (network.whole f k firm firm_is below)
    (network_sided firms trades network f k firm firm_is)
    (λ t u one other one_is other_is p q. network.once f k t u one other one_is other_is p q)))))
    ∙ all_total firms a b 0 trades (all_from _ 0 trades
    (λ i t trade at is. network_placed firms trades network i trade is))

-- ---- what the firms pay and get

-- the price of a trade of the set
abbrev pub price_in : ℕ → (ℕ → ℤ) → ℕ → ℤ
price_in on prices t = if has on t then prices t else pos 0

-- the sum over a bundle is one over its positions
pub sum_over-sum_to : (c : ℕ → ℤ) (n x : ℕ) → sum_over c n x ≡ sum_to (λ k. if has x k then c k else pos 0) n
unfolding sum_over
sum_over-sum_to c zero x = refl
sum_over-sum_to c (suc n) x = ap (λ (z : ℤ). z +ℤ (if has x n then c n else pos 0)) (sum_over-sum_to c n x)

-- what firm f gets in all
abbrev pub paid : List Ends → (ℕ → ℤ) → ℕ → ℕ → Firm → ℤ
paid trades prices on f firm =
    sum_over (payments firm.buys (prices_at trades prices f)) firm.count (part trades f firm.count on)

-- the payments of a firm are those at its positions
paid_is : (trades : List Ends) (on : ℕ) (prices : ℕ → ℤ) (f : ℕ) (firm : Firm)
    → paid trades prices on f firm
    ≡ sum_to (at_side trades (price_in on prices) (λ t. neg_ℤ (price_in on prices t)) f firm) firm.count
paid_is trades on prices f firm =
    sum_over-sum_to _ _ _ ∙ sum_to-same _ _ firm.count (λ k below.
    let member : has (part trades f firm.count on) k ≡ has on (own trades f k) =
    has-set_of (λ j. has on (own trades f j)) firm.count k
    ∙ ap (λ (b : Bool). b && has on (own trades f k)) (lt-ltb k firm.count below) in
    ap (λ (b : Bool). if b then payments firm.buys (prices_at trades prices f) k else pos 0) member
    ∙ by_case (has firm.buys k) (has on (own trades f k)) (prices (own trades f k)))
  where
    by_case : (bought there : Bool) (price : ℤ) → (if there then (if bought then neg_ℤ price else price) else pos 0)
        ≡ (if bought then neg_ℤ (if there then price else pos 0) else (if there then price else pos 0))
    by_case true true price = refl
    by_case true false price = refl
    by_case false true price = refl
    by_case false false price = refl

-- each price is paid once and received once
pub paid_cancels : (firms : List Firm) (trades : List Ends) → IsNetwork firms trades → (on : ℕ) (prices : ℕ → ℤ)
    → sum_list (paid trades prices on) 0 firms ≡ pos 0
paid_cancels firms trades network on prices =
    sum_list-same (paid trades prices on) (λ f firm. sum_to
    (at_side trades (price_in on prices) (λ t. neg_ℤ (price_in on prices t)) f firm) firm.count) 0 firms
    (all_from _ 0 firms (λ i f firm at is. paid_is trades on prices f firm))
    ∙ ends_total firms trades network (price_in on prices) (λ t. neg_ℤ (price_in on prices t))
    ∙ sum_list-none (λ t trade. price_in on prices t +ℤ neg_ℤ (price_in on prices t)) 0 trades
    (all_from _ 0 trades (λ i t trade at is. cancel (price_in on prices t)))
  where
    cancel : (z : ℤ) → z +ℤ neg_ℤ z ≡ pos 0
    cancel z = omega (arith, ints)

-- ---- the greatest surplus

-- the set has a surplus, and any other one has at most as much, with what is paid beside it
record IsMost (trades : List Ends) (scale : ℤ) (on : ℕ) (prices : ℕ → ℤ) (s : ℕ) (firms : List Firm) : Type 0 where
  surplus : ℤ
  is : surplus_from trades on s firms ≡ Some surplus
  most : (other_on : ℕ) (other : ℤ) → surplus_from trades other_on s firms ≡ Some other
      → (scale *ℤ other +ℤ sum_list (paid trades prices other_on) s firms)
      ≤ℤ (scale *ℤ surplus +ℤ sum_list (paid trades prices on) s firms)

no_firms : (trades : List Ends) (scale : ℤ) (on : ℕ) (prices : ℕ → ℤ) (s : ℕ) → IsMost trades scale on prices s []
no_firms trades scale on prices s = record {
  surplus = pos 0;
  is = refl;
  most = λ other_on other is.
      let same : other ≡ pos 0 = same_Some _ _ (sym is) in
      let product : scale *ℤ other ≡ scale *ℤ pos 0 = ap (λ (z : ℤ). scale *ℤ z) same in
      equal _ _ product;
}
  where
    equal : (a b : ℤ) → a ≡ b → (a +ℤ pos 0) ≤ℤ (b +ℤ pos 0)
    equal a b e = omega (arith, ints, e)

-- with a firm before the others
with_firm : (trades : List Ends) (scale : ℤ) (on : ℕ) (prices : ℕ → ℤ) (s : ℕ) (firm : Firm) (firms : List Firm)
    → HasBest trades scale on prices s firm → IsMost trades scale on prices (s + 1) firms
    → IsMost trades scale on prices s (firm ∷ firms)
with_firm trades scale on prices s firm firms best rest =
    let mine = option_map-some (λ a. scale *ℤ a +ℤ paid trades prices on s firm)
    (firm.worth (part trades s firm.count on)) best.0 best.1.is in
    record {
      surplus = mine.0 +ℤ rest.surplus;
      is =
          ap (option_and_then (λ worth. option_map (λ more. worth +ℤ more) (surplus_from trades on (s + 1) firms)))
          mine.1
          ∙ ap (option_map (λ more. mine.0 +ℤ more)) rest.is;
      most = λ other_on other is.
          option_and_then_some (λ worth. option_map (λ more. worth +ℤ more)
          (surplus_from trades other_on (s + 1) firms))
          (firm.worth (part trades s firm.count other_on)) other is (λ worth worth_is sum_is.
          let more = option_map-some (λ z. worth +ℤ z) (surplus_from trades other_on (s + 1) firms) other sum_is in
          let here = best.1.most (part trades s firm.count other_on) (scale *ℤ worth
          +ℤ paid trades prices other_on s firm)
          (ap (option_map (λ a. scale *ℤ a +ℤ paid trades prices other_on s firm)) worth_is) in
          let there = rest.most other_on more.0 more.1 in
          let left : scale *ℤ other ≡ scale *ℤ worth +ℤ scale *ℤ more.0 =
          ap (λ (z : ℤ). scale *ℤ z) (sym more.2) ∙ times-plus scale worth more.0 in
          let right = times-plus scale mine.0 rest.surplus in
          add (scale *ℤ worth) (paid trades prices other_on s firm) (scale *ℤ more.0)
          (sum_list (paid trades prices other_on) (s + 1) firms)
          (scale *ℤ rest.surplus) (sum_list (paid trades prices on) (s + 1) firms) (scale *ℤ other)
          (scale *ℤ (mine.0 +ℤ rest.surplus)) (scale *ℤ mine.0)
          (paid trades prices on s firm) best.0 here there left right mine.2);
    }
  where
    add : (a b c d e f g h w x value : ℤ) → (a +ℤ b) ≤ℤ value → (c +ℤ d) ≤ℤ (e +ℤ f) → g ≡ a +ℤ c → h ≡ w +ℤ e
        → w +ℤ x ≡ value
        → (g +ℤ (b +ℤ d)) ≤ℤ (h +ℤ (x +ℤ f))
    add a b c d e f g h w x value here there left right is = omega (arith, ints, here, there, left, right, is)

all_most : (trades : List Ends) (scale : ℤ) (on : ℕ) (prices : ℕ → ℤ) (s : ℕ) (firms : List Firm)
    → AllFrom (λ f firm. HasBest trades scale on prices f firm) s firms → IsMost trades scale on prices s firms
all_most trades scale on prices s [] best = no_firms trades scale on prices s
all_most trades scale on prices s (firm ∷ firms) best =
    with_firm trades scale on prices s firm firms best.0 (all_most trades scale on prices (s + 1) firms best.1)

-- a scale of at least 1 may be left out
pub le_from_times : (scale a b : ℤ) → pos 1 ≤ℤ scale → (scale *ℤ a) ≤ℤ (scale *ℤ b) → a ≤ℤ b
le_from_times scale a b from_one below = by_lt_z {P = a ≤ℤ b} b a
    (λ less.
    let step = times-le scale (b +ℤ pos 1) a (omega (arith, ints, from_one)) (omega (arith, ints, less)) in
    let parts = times-plus scale b (pos 1) in
    let one : scale *ℤ pos 1 ≡ scale = omega (arith, ints) in
    absurd (against (scale *ℤ (b +ℤ pos 1)) (scale *ℤ a) (scale *ℤ pos 1) (scale *ℤ b) step parts one below from_one))
    (λ most. most)
  where
    against : (x y z w : ℤ) → x ≤ℤ y → x ≡ w +ℤ z → z ≡ scale → y ≤ℤ w → pos 1 ≤ℤ scale → ⊥
    against x y z w step parts one below from = absurd (omega (arith, ints, step, parts, one, below, from))

pub equilibrium_is_efficient : (firms : List Firm) (trades : List Ends) (scale : ℤ) (on : ℕ) (prices : ℕ → ℤ)
    → IsNetwork firms trades
    → pos 1 ≤ℤ scale → IsEquilibrium firms trades scale on prices → IsEfficient firms trades on
equilibrium_is_efficient firms trades scale on prices network from_one best =
    let most = all_most trades scale on prices 0 firms (all_from _ 0 firms (λ i f firm at is.
    let same : i ≡ f = omega (arith, at) in
    best f firm (ap (slice_get firms) (sym same) ∙ is))) in (
      most.surplus,
      record {
        is = most.is;
        most = λ other_on other is.
            let step = most.most other_on other is in
            let mine = paid_cancels firms trades network on prices in
            let others = paid_cancels firms trades network other_on prices in
            le_from_times scale other most.surplus from_one
            (without (scale *ℤ other) (sum_list (paid trades prices other_on) 0 firms) (scale *ℤ most.surplus)
            (sum_list (paid trades prices on) 0 firms) step mine others);
      },
    )
  where
    without : (a b c d : ℤ) → (a +ℤ b) ≤ℤ (c +ℤ d) → d ≡ pos 0 → b ≡ pos 0 → a ≤ℤ c
    without a b c d step mine others = omega (arith, ints, step, mine, others)

-- ---- the prices of an equilibrium fit every set of the greatest surplus

-- where each firm's bundle of one set is best, and another set is worth as much to all together, its bundles are best
-- too
each_best : (trades : List Ends) (scale : ℤ) (on other : ℕ) (prices : ℕ
    → ℤ) (s : ℕ) (firms : List Firm) (mine theirs : ℤ)
    → AllFrom (λ f firm. HasBest trades scale on prices f firm) s firms → surplus_from trades on s firms ≡ Some mine
    → surplus_from trades other s firms ≡ Some theirs
    → (scale *ℤ mine +ℤ sum_list (paid trades prices on) s firms)
    ≤ℤ (scale *ℤ theirs +ℤ sum_list (paid trades prices other) s firms)
    → AllFrom (λ f firm. HasBest trades scale other prices f firm) s firms
each_best trades scale on other prices s [] mine theirs best mine_is theirs_is enough = tt
each_best trades scale on other prices s (firm ∷ firms) mine theirs best mine_is theirs_is enough =
    option_and_then_some (λ worth. option_map (λ more. worth +ℤ more) (surplus_from trades on (s + 1) firms))
    (firm.worth (part trades s firm.count on)) mine mine_is (λ a a_is sum_is.
    option_and_then_some (λ worth. option_map (λ more. worth +ℤ more) (surplus_from trades other (s + 1) firms))
    (firm.worth (part trades s firm.count other)) theirs theirs_is (λ b b_is other_is.
    let rest = option_map-some (λ z. a +ℤ z) (surplus_from trades on (s + 1) firms) mine sum_is in
    let more = option_map-some (λ z. b +ℤ z) (surplus_from trades other (s + 1) firms) theirs other_is in
    let value = option_map-some (λ w. scale *ℤ w +ℤ paid trades prices on s firm)
    (firm.worth (part trades s firm.count on)) best.0.0 best.0.1.is in
    let worth : value.0 ≡ a = same_Some _ _ (sym value.1 ∙ a_is) in
    let mine_at : scale *ℤ a +ℤ paid trades prices on s firm ≡ best.0.0 =
    ap (λ (w : ℤ). scale *ℤ w +ℤ paid trades prices on s firm) (sym worth) ∙ value.2 in
    let other_at : option_map (λ w. scale *ℤ w +ℤ paid trades prices other s firm)
    (firm.worth (part trades s firm.count other)) ≡ Some (scale *ℤ b +ℤ paid trades prices other s firm) =
    ap (option_map (λ w. scale *ℤ w +ℤ paid trades prices other s firm)) b_is in
    let here = best.0.1.most (part trades s firm.count other) (scale *ℤ b +ℤ paid trades prices other s firm) other_at
    in
    let most = all_most trades scale on prices (s + 1) firms best.1 in
    let same : most.surplus ≡ rest.0 = same_Some _ _ (sym most.is ∙ rest.1) in
    let there = subst (λ (z : ℤ). (scale *ℤ more.0 +ℤ sum_list (paid trades prices other) (s + 1) firms)
    ≤ℤ (scale *ℤ z +ℤ sum_list (paid trades prices on) (s + 1) firms)) same (most.most other more.0 more.1) in
    let left : scale *ℤ mine ≡ scale *ℤ a +ℤ scale *ℤ rest.0 =
    ap (λ (z : ℤ). scale *ℤ z) (sym rest.2) ∙ times-plus scale a rest.0 in
    let right : scale *ℤ theirs ≡ scale *ℤ b +ℤ scale *ℤ more.0 =
    ap (λ (z : ℤ). scale *ℤ z) (sym more.2) ∙ times-plus scale b more.0 in
    let both = split (scale *ℤ a) (paid trades prices on s firm) (scale *ℤ rest.0)
    (sum_list (paid trades prices on) (s + 1) firms) (scale *ℤ b) (paid trades prices other s firm)
    (scale *ℤ more.0)
    (sum_list (paid trades prices other) (s + 1) firms) (scale *ℤ mine) (scale *ℤ theirs) best.0.0 mine_at here there
    left right enough in (
      (
        scale *ℤ b +ℤ paid trades prices other s firm,
        record { is = other_at; most = λ y z z_is. let below = best.0.1.most y z z_is in up z _ _ below both.0 },
      ),
      each_best trades scale on other prices (s + 1) firms rest.0 more.0 best.1 rest.1 more.1 both.1,
    )))
  where
    up : (x y z : ℤ) → x ≤ℤ y → y ≤ℤ z → x ≤ℤ z
    up x y z p q = omega (arith, ints, p, q)

    split : (a p r q b o m n mine theirs value : ℤ) → a +ℤ p ≡ value → (b +ℤ o) ≤ℤ value → (m +ℤ n) ≤ℤ (r +ℤ q)
        → mine ≡ a +ℤ r → theirs ≡ b +ℤ m
        → (mine +ℤ (p +ℤ q)) ≤ℤ (theirs +ℤ (o +ℤ n)) → (value ≤ℤ (b +ℤ o)) × ((r +ℤ q) ≤ℤ (m +ℤ n))
    split a p r q b o m n mine theirs value is here there left right enough = (
      omega (arith, ints, is, here, there, left, right, enough),
      omega (arith, ints, is, here, there, left, right, enough),
    )

pub efficient_sets_share_prices : (firms : List Firm) (trades : List Ends) (scale : ℤ) (on other : ℕ) (prices : ℕ → ℤ)
    → IsNetwork firms trades
    → pos 1 ≤ℤ scale → IsEquilibrium firms trades scale on prices → IsEfficient firms trades other
    → IsEquilibrium firms trades scale other prices
efficient_sets_share_prices firms trades scale on other prices network from_one best efficient =
    let mine = equilibrium_is_efficient firms trades scale on prices network from_one best in
    let less = efficient.1.most on mine.0 mine.1.is in
    let more = mine.1.most other efficient.0 efficient.1.is in
    let same : mine.0 ≡ efficient.0 = omega (arith, ints, less, more) in
    let first = paid_cancels firms trades network on prices in
    let second = paid_cancels firms trades network other prices in
    let product : scale *ℤ mine.0 ≡ scale *ℤ efficient.0 = ap (λ (z : ℤ). scale *ℤ z) same in
    let all = each_best trades scale on other prices 0 firms mine.0 efficient.0
    (all_from _ 0 firms (λ i f firm at is.
    let here : i ≡ f = omega (arith, at) in
    best f firm (ap (slice_get firms) (sym here) ∙ is)))
    mine.1.is efficient.1.is (equal _ _ _ _ product first second) in
    λ f firm is. all_at (λ g z. HasBest trades scale other prices g z) 0 firms all f f firm (omega arith) is
  where
    equal : (a b p q : ℤ) → a ≡ b → p ≡ pos 0 → q ≡ pos 0 → (a +ℤ p) ≤ℤ (b +ℤ q)
    equal a b p q same first second = omega (arith, ints, same, first, second)
