-- How many worths a round asks for: no more than there are in the graphs of all firms.
use Rattle.std.proofs.Common.{◌≡◌, ◌≢◌, ℕ, zero, suc, ◌+◌, ◌*◌, ◌<◌, ◌≤◌, Bool, true, false, ◌==◌, if◌then◌else◌, List, [], ◌∷◌, length, map, slice_get, Some, option_map, refl, sym, ap, ◌∙◌, subst, arith, inl, inr}
use Rattle.std.proofs.lemmas.Bool.{cases_eq, eq-eqb, ne_eqb}
use Rattle.std.proofs.lemmas.List.{length-map}
use Rattle.std.proofs.lemmas.Option.{same_Some, slice_get-map, slice_get_within}
use Rattle.tn_base.specs.Firm.{Firm}
use Rattle.tn_base.specs.Sets.{has}
use Rattle.tn_base.proofs.SetLemmas.{set_of_within}
use Rattle.tn_base.proofs.SizeLemmas.{size_le}
use Rattle.tn_model.specs.declared.ends.Ends.{Ends}
use Rattle.tn_model.specs.Network.{own, part, IsNetwork}
use Rattle.tn_market.specs.Graph.{graph_worths}
use Rattle.tn_graph.specs.Reading.{IsAskedPosition, admitted_count, block_worths, changed_worths_from, line_worths}
use Rattle.tn_graph.proofs.AskedLemmas.{block_fits, block_and_line_fit, line_fits}
use Rattle.tn_graph.proofs.ReadingLemmas.{some_item}
use Rattle.tn_graph.proofs.AdmitLemmas.{asked_some, seller_asked, buyer_asked}

-- ---- sums over firms

-- the sum of a number of each firm, where they are counted from s
abbrev sum_from : (ℕ → Firm → ℕ) → ℕ → List Firm → ℕ
sum_from size s [] = 0
sum_from size s (firm ∷ firms) = size s firm + sum_from size (s + 1) firms

-- a bound on each is one on the sum
sum-mono : (size more : ℕ → Firm → ℕ) (s : ℕ) (firms : List Firm)
    → ((k g : ℕ) (firm : Firm) → slice_get firms k ≡ Some firm → g ≡ s + k → size g firm ≤ more g firm)
    → sum_from size s firms ≤ sum_from more s firms
sum-mono size more s [] each = omega arith
sum-mono size more s (firm ∷ firms) each =
    let here = each 0 s firm refl (omega arith) in
    let rest = sum-mono size more (s + 1) firms (λ k g other is at. each (suc k) g other is (omega (arith, at))) in
    omega (arith, here, rest)

sum-add : (size more : ℕ → Firm → ℕ) (s : ℕ) (firms : List Firm)
    → sum_from (λ g firm. size g firm + more g firm) s firms ≡ sum_from size s firms + sum_from more s firms
sum-add size more s [] = refl
sum-add size more s (firm ∷ firms) = let rest = sum-add size more (s + 1) firms in omega (arith, rest)

-- no firm's number is above the sum
sum-at : (size : ℕ → Firm → ℕ) (s : ℕ) (firms : List Firm) (k : ℕ) (firm : Firm) → slice_get firms k ≡ Some firm
    → (g : ℕ) → g ≡ s + k → size g firm ≤ sum_from size s firms
sum-at size s [] k firm is g at = absurd (cc is)
sum-at size s (first ∷ firms) zero firm is g at =
    let same : first ≡ firm = same_Some first firm is in
    let here : size g firm ≡ size s first = subst (λ (x : Firm). size g firm ≡ size s x) (sym same)
    (ap (λ (n : ℕ). size n firm) (omega (arith, at))) in
    omega (arith, here)
sum-at size s (first ∷ firms) (suc k) firm is g at =
    let rest = sum-at size (s + 1) firms k firm is g (omega (arith, at)) in omega (arith, rest)

-- ---- the worths of a round

-- those of a firm whose bundle has changed
abbrev changed_at : List Ends → ℕ → ℕ → ℕ → ℕ → Firm → ℕ
changed_at trades before on admitted f firm = if part trades f firm.count before == part trades f firm.count on then 0
    else block_worths (admitted_count trades admitted f firm)

-- those of a line of firm p
abbrev line_at : List Ends → ℕ → ℕ → ℕ → Firm → ℕ
line_at trades admitted p f firm = if f == p then line_worths (admitted_count trades admitted f firm) else 0

-- those of all places of a firm
abbrev all_at : ℕ → Firm → ℕ
all_at f firm = (firm.count + 1) * (firm.count + 1)

changed_sum : (trades : List Ends) (before on admitted s : ℕ) (firms : List Firm)
    → changed_worths_from trades before on admitted s firms ≡ sum_from (changed_at trades before on admitted) s firms
changed_sum trades before on admitted s [] = refl
changed_sum trades before on admitted s (firm ∷ firms) =
    ap (λ (rest : ℕ). changed_at trades before on admitted s firm + rest)
    (changed_sum trades before on admitted (s + 1) firms)

all_sum : (s : ℕ) (firms : List Firm) → graph_worths firms ≡ sum_from all_at s firms
all_sum s [] = refl
all_sum s (firm ∷ firms) = ap (λ (rest : ℕ). (firm.count + 1) * (firm.count + 1) + rest) (all_sum (s + 1) firms)

few_admitted : (trades : List Ends) (admitted f : ℕ) (firm : Firm) → admitted_count trades admitted f firm ≤ firm.count
few_admitted trades admitted f firm =
    size_le firm.count (part trades f firm.count admitted) (set_of_within (λ k. has admitted
    (own trades f k)) firm.count)

changed_small : (trades : List Ends) (before on admitted f : ℕ) (firm : Firm)
    → changed_at trades before on admitted f firm ≤ all_at f firm
changed_small trades before on admitted f firm =
    by (part trades f firm.count before == part trades f firm.count on)
  where
    by : (b : Bool) → (if b then 0 else block_worths (admitted_count trades admitted f firm)) ≤ all_at f firm
    by true = omega arith
    by false = block_fits (admitted_count trades admitted f firm) firm.count (few_admitted trades admitted f firm)

-- at most as many worths are asked anew as in all
pub changed_le : (trades : List Ends) (before on admitted : ℕ) (firms : List Firm)
    → changed_worths_from trades before on admitted 0 firms ≤ graph_worths firms
changed_le trades before on admitted firms =
    let changed = changed_sum trades before on admitted 0 firms in
    let all = all_sum 0 firms in
    let each = sum-mono (changed_at trades before on admitted) all_at 0 firms
    (λ k g firm is at. changed_small trades before on admitted g firm) in
    omega (arith, changed, all, each)

-- a firm's block and its lines, of which it has one at most
both_small : (trades : List Ends) (before on admitted p q f : ℕ) (firm : Firm) → p ≢ q
    → (f ≡ p → 1 ≤ admitted_count trades admitted f firm) → (f ≡ q → 1 ≤ admitted_count trades admitted f firm)
    → changed_at trades before on admitted f firm
    + (line_at trades admitted p f firm + line_at trades admitted q f firm) ≤ all_at f firm
both_small trades before on admitted p q f firm apart p_some q_some = elim (cases_eq f p) [
  | inl at_p ↦
      let p_line = line_here p at_p in
      let q_line = line_there q (λ at_q. apart (sym at_p ∙ at_q)) in
      with_line (p_some at_p) (line_at trades admitted p f firm + line_at trades admitted q f firm)
      (omega (arith, p_line, q_line))
  | inr off_p ↦ elim (cases_eq f q) [
    | inl at_q ↦
        let p_line = line_there p off_p in
        let q_line = line_here q at_q in
        with_line (q_some at_q) (line_at trades admitted p f firm + line_at trades admitted q f firm)
        (omega (arith, p_line, q_line))
    | inr off_q ↦
        let p_line = line_there p off_p in
        let q_line = line_there q off_q in
        let small = changed_small trades before on admitted f firm in
        omega (arith, p_line, q_line, small)
  ]
]
  where
    line_here : (p : ℕ) → f ≡ p → line_at trades admitted p f firm ≡ admitted_count trades admitted f firm + 1
    line_here p is = ap (λ (b : Bool). if b then admitted_count trades admitted f firm + 1 else 0) (eq-eqb f p is)

    line_there : (p : ℕ) → f ≢ p → line_at trades admitted p f firm ≡ 0
    line_there p is = ap (λ (b : Bool). if b then admitted_count trades admitted f firm + 1 else 0) (ne_eqb f p is)

    with_line : 1 ≤ admitted_count trades admitted f firm → (lines : ℕ)
        → lines ≡ admitted_count trades admitted f firm + 1
        → changed_at trades before on admitted f firm + lines ≤ all_at f firm
    with_line some lines is = by (part trades f firm.count before == part trades f firm.count on)
      where
        by : (b : Bool) → (if b then 0 else block_worths (admitted_count trades admitted f firm)) + lines
            ≤ all_at f firm
        by true = (let small = line_fits (admitted_count trades admitted f firm) firm.count
            (few_admitted trades admitted f firm) in omega (arith, small, is))
        by false = (let small = block_and_line_fit (admitted_count trades admitted f firm) firm.count
            (few_admitted trades admitted f firm) some in omega (arith, small, is))

-- the lines of a trade at its two firms, and the blocks of the firms that have changed
pub round_le : (firms : List Firm) (trades : List Ends) → IsNetwork firms trades → (before on admitted t : ℕ)
    → has before t ≡ false → has admitted t ≡ true
    → (trade : Ends) → slice_get trades t ≡ Some trade
    → (seller buyer : Firm) → slice_get firms trade.seller ≡ Some seller → slice_get firms trade.buyer ≡ Some buyer
    → line_worths (admitted_count trades admitted trade.seller seller)
    + line_worths (admitted_count trades admitted trade.buyer buyer)
    + changed_worths_from trades before on admitted 0 firms ≤ graph_worths firms
round_le firms trades network before on admitted t off there trade is seller buyer seller_is buyer_is =
    let changed = changed_sum trades before on admitted 0 firms in
    let all = all_sum 0 firms in
    let sold = sum-at (line_at trades admitted trade.seller) 0 firms trade.seller seller seller_is trade.seller
    (omega arith) in
    let bought = sum-at (line_at trades admitted trade.buyer) 0 firms trade.buyer buyer buyer_is trade.buyer
    (omega arith) in
    let sold_is : line_at trades admitted trade.seller trade.seller seller
    ≡ admitted_count trades admitted trade.seller seller + 1 =
    ap (λ (b : Bool). if b then admitted_count trades admitted trade.seller seller + 1 else 0)
    (eq-eqb trade.seller trade.seller refl) in
    let bought_is : line_at trades admitted trade.buyer trade.buyer buyer
    ≡ admitted_count trades admitted trade.buyer buyer + 1 =
    ap (λ (b : Bool). if b then admitted_count trades admitted trade.buyer buyer + 1 else 0)
    (eq-eqb trade.buyer trade.buyer refl) in
    let each = sum-mono
    (λ g firm. changed_at trades before on admitted g firm
    + (line_at trades admitted trade.seller g firm + line_at trades admitted trade.buyer g firm)) all_at 0 firms
    (λ k g firm listed at. both_small trades before on admitted trade.seller trade.buyer g firm
    (network.apart t trade is)
    (λ same. asked_some trades g firm before admitted false trade.at_seller
    (subst (λ (p : ℕ). IsAskedAt p firm false trade.at_seller) (sym same)
    (seller_asked firms trades network before admitted t trade is off there firm
    (listed_at k g firm listed at trade.seller same))))
    (λ same. asked_some trades g firm before admitted true trade.at_buyer
    (subst (λ (p : ℕ). IsAskedAt p firm true trade.at_buyer) (sym same)
    (buyer_asked firms trades network before admitted t trade is off there firm
    (listed_at k g firm listed at trade.buyer same))))) in
    let outer = sum-add (changed_at trades before on admitted)
    (λ g firm. line_at trades admitted trade.seller g firm + line_at trades admitted trade.buyer g firm) 0 firms in
    let inner = sum-add (line_at trades admitted trade.seller) (line_at trades admitted trade.buyer) 0 firms in
    omega (arith, changed, all, sold, bought, sold_is, bought_is, each, outer, inner)
  where
    IsAskedAt : ℕ → Firm → Bool → ℕ → Type 0
    IsAskedAt f firm rises k = IsAskedPosition trades f firm before admitted rises k

    listed_at : (k g : ℕ) (firm : Firm) → slice_get firms k ≡ Some firm → g ≡ 0 + k → (p : ℕ) → g ≡ p
        → slice_get firms p ≡ Some firm
    listed_at k g firm listed at p same = ap (slice_get firms) (let e : p ≡ k = omega (arith, at, same) in e) ∙ listed

-- so a round asks for no more worths than there are
pub round_asked : {V : Type 0} (firm_of : V → Firm) (values : List V) (trades : List Ends)
    → IsNetwork (map firm_of values) trades → (before on admitted t : ℕ)
    → has before t ≡ false → has admitted t ≡ true → t < length trades
    → (start more last : ℕ)
    → ((trade : Ends) (seller buyer : V) → slice_get trades t ≡ Some trade
    → slice_get values trade.seller ≡ Some seller → slice_get values trade.buyer ≡ Some buyer
    → more ≤ start + line_worths (admitted_count trades admitted trade.seller (firm_of seller))
    + line_worths (admitted_count trades admitted trade.buyer (firm_of buyer)))
    → last ≤ more + changed_worths_from trades before on admitted 0 (map firm_of values)
    → last ≤ start + graph_worths (map firm_of values)
round_asked firm_of values trades network before on admitted t off there inside start more last lines changed =
    let trade = some_item trades t inside in
    let sold = network.sold t trade.0 trade.1 in
    let bought = network.bought t trade.0 trade.1 in
    let seller = some_item values trade.0.seller (within trade.0.seller sold.0 sold.1) in
    let buyer = some_item values trade.0.buyer (within trade.0.buyer bought.0 bought.1) in
    let few = round_le (map firm_of values) trades network before on admitted t off there trade.0 trade.1
    (firm_of seller.0) (firm_of buyer.0)
    (slice_get-map firm_of values trade.0.seller ∙ ap (option_map firm_of) seller.1)
    (slice_get-map firm_of values trade.0.buyer ∙ ap (option_map firm_of) buyer.1) in
    let asked = lines trade.0 seller.0 buyer.0 trade.1 seller.1 buyer.1 in
    omega (arith, few, asked, changed)
  where
    within : (f : ℕ) (firm : Firm) → slice_get (map firm_of values) f ≡ Some firm → f < length values
    within f firm is =
        let below = slice_get_within (map firm_of values) f firm is in
        omega (arith, below, length-map values firm_of)
