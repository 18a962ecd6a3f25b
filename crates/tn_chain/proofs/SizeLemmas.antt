-- How large the residual market and its prices are.
use Rattle.std.proofs.Common.{ap, subst, ◌≡◌, ℕ, zero, suc, ◌+◌, ◌-◌, ◌*◌, ◌^◌, ◌<◌, ◌≤◌, nat_le, Bool, true, false, not, ◌&&◌, if◌then◌else◌, List, length, map, slice_get, get_or, Option, Some, None, option_map, refl, sym, ap₂, ◌∙◌, arith, add-mul, mul-add, mul_assoc, inl, inr, ℤ, pos, ◌*ℤ◌, ◌≤ℤ◌}
use Rattle.std.specs.Prelude.{unsigned_abs, All}
use Rattle.std.proofs.Math.Nat.{mul_comm, mul_left_comm, mul_right_comm}
use Rattle.std.proofs.lemmas.Int.{ints}
use Rattle.std.proofs.lemmas.Nat.{mul-le}
use Rattle.std.proofs.lemmas.Bool.{leb-true, lt-ltb}
use Rattle.std.proofs.lemmas.List.{length-append, length-map, get_or_past}
use Rattle.std.proofs.lemmas.Option.{same_Some, slice_get-map, slice_get_cases, slice_get_within, get_or_from_slice_get}
use Rattle.tn_base.specs.Arcs.{IsAtMost}
use Rattle.tn_base.specs.Sets.{has, toggle, set_of, size}
use Rattle.tn_base.specs.Firm.{Firm}
use Rattle.tn_base.specs.Walks.{AreDifferent}
use Rattle.tn_base.specs.Widths.{most_cost}
use Rattle.tn_base.proofs.SetLemmas.{has_above, has-set_of, set_of_within}
use Rattle.tn_base.proofs.SizeLemmas.{size-toggle_in, size-zero}
use Rattle.tn_firm_laws.proofs.BoundLemmas.{abs_small, times_small}
use Rattle.tn_model.specs.declared.ends.Ends.{Ends}
use Rattle.tn_model.specs.declared.contract.Contract.{Contract}
use Rattle.tn_model.specs.Prices.{price_at}
use Rattle.tn_model.specs.Limits.{few_trades, most_claimed_over, most_number, most_numerator, most_over, most_own_trades, most_sets, most_worth_among}
use Rattle.tn_model.specs.Choices.{IsFeasible}
use Rattle.tn_market.specs.Limits.{IsOutcomeOf}
use Rattle.tn_market.specs.Traded.{Traded}
use Rattle.tn_market.specs.Widths.{most_worth}
use Rattle.tn_market.specs.Signed.{is_signed, signed}
use Rattle.tn_flow.specs.Solved.{AreSmallPrices}
use Rattle.tn_outcome_laws.proofs.SignedLemmas.{signed_by}
use Rattle.tn_residual.specs.Residual.{residual_limit, residual_of, residual_trades, unsigned, unsigned_from, halves_from}
use Rattle.tn_residual.proofs.MakingLemmas.{halves_few, outcome_feasible}
use Rattle.tn_blocking_laws.proofs.CycleLemmas.{few, visits-all}
use Rattle.tn_chain.proofs.NumberLemmas.{numbers_all, unsigned_size}
use Rattle.tn_chain.specs.Limits.{most_judged_trades, most_residual_trades}
use Rattle.tn_chain.specs.Search.{chain_scale, IsResidual}

-- signed and unsigned trades are all trades
both_sizes : (contracts : List Contract) (n : ℕ) → size (signed n contracts) + size (unsigned n contracts) ≡ n
unfolding set_of
both_sizes contracts zero = let none = size-zero in omega (arith, none)
both_sizes contracts (suc n) = by_case (is_signed contracts n) (both_sizes contracts n)
  where
    by_case : (s : Bool) → size (signed n contracts) + size (unsigned n contracts) ≡ n
        → size (if s then toggle (set_of (is_signed contracts) n) n else set_of (is_signed contracts) n)
        + size (if not s then toggle (set_of (λ t. not (is_signed contracts t)) n) n
        else set_of (λ t. not (is_signed contracts t)) n) ≡ suc n
    by_case true rest =
        let more = size-toggle_in (set_of (is_signed contracts) n) n
        (has_above (set_of (is_signed contracts) n) n n (set_of_within (is_signed contracts) n) (omega arith)) in
        omega (arith, rest, more)
    by_case false rest =
        let more = size-toggle_in (set_of (λ t. not (is_signed contracts t)) n) n
        (has_above (set_of (λ t. not (is_signed contracts t)) n) n n
        (set_of_within (λ t. not (is_signed contracts t)) n) (omega arith)) in
        omega (arith, rest, more)

-- there are at most as many contracts as signed trades
contracts_signed : (trades : List Ends) (contracts : List Contract) → IsFeasible trades contracts
    → length contracts ≤ size (signed (length trades) contracts)
contracts_signed trades contracts feasible =
    let counted =
    few (length trades) (map (λ (c : Contract). c.trade) contracts) (signed (length trades) contracts) different
    (λ k v is below. member k v is) in
    let all = visits-all (length trades) (map (λ (c : Contract). c.trade) contracts) (λ k v is. (found k v is).2) in
    let mapped : length (map (λ (c : Contract). c.trade) contracts) ≡ length contracts =
    length-map contracts (λ (c : Contract). c.trade) in
    omega (arith, counted, all, mapped)
  where
    found : (k v : ℕ) → slice_get (map (λ (c : Contract). c.trade) contracts) k ≡ Some v → (contract : Contract)
        × (slice_get contracts k ≡ Some contract) × (v < length trades) × (contract.trade ≡ v)
    found k v is = by (slice_get contracts k) refl (sym (slice_get-map (λ (c : Contract). c.trade) contracts k) ∙ is)
      where
        by : (o : Option Contract) → slice_get contracts k ≡ o → option_map (λ (c : Contract). c.trade) o ≡ Some v
            → (contract : Contract) × (slice_get contracts k ≡ Some contract) × (v < length trades)
            × (contract.trade ≡ v)
        by None there e = absurd (cc e)
        by (Some contract) there e = let same = same_Some contract.trade v e in let known =
            feasible.known k contract there in (contract, there, omega (arith, same, known), same)

    different : AreDifferent (map (λ (c : Contract). c.trade) contracts)
    different j k v j_is k_is = let one = found j v j_is in let other = found k v k_is in
        feasible.once j k one.0 other.0 one.1 other.1 (one.3 ∙ sym other.3)

    member : (k v : ℕ) → slice_get (map (λ (c : Contract). c.trade) contracts) k ≡ Some v
        → has (signed (length trades) contracts) v ≡ true
    member k v is =
        let one = found k v is in
        has-set_of (is_signed contracts) (length trades) v
        ∙ ap₂ (λ (a b : Bool). a && b) (lt-ltb v (length trades) one.2) (signed_by contracts k v one.0 one.1 one.3)

-- the residual market has the unsigned trades and at most two for each contract
pub made_few : (g : ℕ) (trades : List Ends) (contracts : List Contract) → IsFeasible trades contracts
    → length (residual_trades g trades contracts) + size (unsigned (length trades) contracts) ≤ 2 * length trades
made_few g trades contracts feasible =
    let parts = length-append (unsigned_from contracts 0 trades) (halves_from trades g contracts) in
    let halves = halves_few trades g contracts in
    let free = numbers_all contracts 0 trades in
    let counted = unsigned_size contracts (length trades) in
    let both = both_sizes contracts (length trades) in
    let some = contracts_signed trades contracts feasible in
    omega (arith, parts, halves, free, counted, both, some)

-- ---- its worths are small enough to solve it

-- a product doesn't shrink where the second factor gives some and the first, at most twice as great, gets twice that
gives_twice : (a d k : ℕ) → a ≤ 2 * k → a * (k + d) ≤ (a + 2 * d) * k
gives_twice a d k half =
    let parts = mul-add a k d in
    let more = add-mul a (2 * d) k in
    let turned = mul_comm a d in
    let twice : 2 * d * k ≡ d * (2 * k) = mul_assoc 2 d k ∙ sym (mul_left_comm d 2 k) in
    let product = mul-le d a d (2 * k) (omega arith) half in
    omega (arith, parts, more, turned, twice, product)

-- the scale times one more than the trades is greatest where all n trades are unsigned
most_at_all : (l m n : ℕ) → l + m ≤ 2 * n → m ≤ n → (2 * m + 1) * (l + 1) ≤ (2 * n + 1) * (n + 1)
most_at_all l m n made few =
    let step = mul-le (2 * m + 1) (l + 1) (2 * m + 1) (n + 1 + (n - m)) (omega arith) (omega (arith, made, few)) in
    let all = gives_twice (2 * m + 1) (n - m) (n + 1) (omega (arith, few)) in
    let scale : 2 * m + 1 + 2 * (n - m) ≡ 2 * n + 1 = omega (arith, few) in
    let same = ap (λ (s : ℕ). s * (n + 1)) scale in
    omega (arith, step, all, same)

-- worths that count s times make prices of l trades that fit, where s * (l + 1) and the worths are within these bounds
fits : (s l each p q : ℕ) → s * (l + 1) ≤ p → each ≤ q → l ≤ 2 * most_judged_trades
    → 2 * (p * q) + 128 * most_residual_trades + 128 < most_cost → 2 * (s * each + 64) * (l + 1) < most_cost
fits s l each p q times small few most =
    let parts : 2 * (s * each + 64) * (l + 1) ≡ 2 * (s * each) * (l + 1) + 128 * (l + 1) =
    ap (λ (k : ℕ). k * (l + 1)) (mul-add 2 (s * each) 64) ∙ add-mul (2 * (s * each)) 128 (l + 1) in
    let turned : 2 * (s * each) * (l + 1) ≡ 2 * (s * (l + 1) * each) =
    mul_assoc 2 (s * each) (l + 1) ∙ ap (λ (k : ℕ). 2 * k) (mul_right_comm s each (l + 1)) in
    let product = mul-le (s * (l + 1)) each p q times small in
    omega (arith, parts, turned, product, few, most)

-- few trades may have great worths, and many trades have smaller ones
fits_among : (l m n over : ℕ) → l + m ≤ 2 * n → m ≤ n → n ≤ most_judged_trades → over ≤ most_over
    → 2 * ((2 * m + 1) * (over * most_worth_among n + most_numerator) + 64) * (l + 1) < most_cost
unfolding most_worth_among
fits_among l m n over made some judged small_over = by_count (nat_le n few_trades) refl
  where
    by_count : (few : Bool) → nat_le n few_trades ≡ few
        → 2 * ((2 * m + 1) * (over * (if few then most_worth else (most_own_trades + most_sets) * 10 ^ 7)
        + most_numerator) + 64) * (l + 1) < most_cost
    by_count true is =
        let few = leb-true n few_trades is in
        let all = most_at_all l m n made some in
        let product = mul-le (2 * n + 1) (n + 1) 257 129 (omega (arith, few)) (omega (arith, few)) in
        let worths = mul-le over most_worth most_over most_worth small_over (omega arith) in
        fits (2 * m + 1) l (over * most_worth + most_numerator) (257 * 129) (most_over * most_worth + most_numerator)
        (omega (arith, all, product)) (omega (arith, worths)) (omega (arith, made, judged)) (omega arith)
    by_count false is =
        let all = most_at_all l m n made some in
        let product = mul-le (2 * n + 1) (n + 1) 2049 1025 (omega (arith, judged)) (omega (arith, judged)) in
        let worths = mul-le over ((most_own_trades + most_sets) * 10 ^ 7) most_over
        ((most_own_trades + most_sets) * 10 ^ 7) small_over (omega arith) in
        fits (2 * m + 1) l (over * ((most_own_trades + most_sets) * 10 ^ 7) + most_numerator) (2049 * 1025)
        (most_over * ((most_own_trades + most_sets) * 10 ^ 7) + most_numerator)
        (omega (arith, all, product)) (omega (arith, worths)) (omega (arith, made, judged)) (omega arith)

pub made_small : (over : ℤ) (g : ℕ) (trades : List Ends) (contracts : List Contract) → IsFeasible trades contracts
    → length trades ≤ most_judged_trades → pos 1 ≤ℤ over → over ≤ℤ pos most_over
    → 2 * residual_limit (length trades) over (chain_scale (length trades) contracts)
    * (length (residual_trades g trades contracts) + 1) < most_cost
made_small over g trades contracts feasible judged low high =
    let both = both_sizes contracts (length trades) in
    fits_among (length (residual_trades g trades contracts)) (size (unsigned (length trades) contracts))
    (length trades) (unsigned_abs over) (made_few g trades contracts feasible) (omega (arith, both)) judged
    (abs_small over most_over (record { low = omega (arith, ints, low); high = high }))

-- a price of a list of small prices
pub price_small : (prices : List ℤ) (bound : ℕ) → AreSmallPrices bound prices → bound < most_cost → (t : ℕ)
    → IsAtMost (price_at prices t) (most_number - 1)
price_small prices bound small below t = elim (slice_get_cases prices t).1 [
  | inl found ↦ wider (get_or prices t (pos 0)) (small t (pos 0) found.1)
  | inr past ↦
      subst (λ (z : ℤ). IsAtMost z (most_number - 1)) (sym (get_or_past prices t (pos 0) past.0)) (record {
        low =
            omega (arith, ints);
        high = omega (arith, ints);
      })
]
  where
    wider : (z : ℤ) → IsAtMost z bound → IsAtMost z (most_number - 1)
    wider z h = record { low = omega (arith, ints, h.low, below); high = omega (arith, ints, h.high, below) }

-- and it has at least the unsigned trades
pub made_more : (g : ℕ) (trades : List Ends) (contracts : List Contract)
    → size (unsigned (length trades) contracts) ≤ length (residual_trades g trades contracts)
made_more g trades contracts =
    let parts = length-append (unsigned_from contracts 0 trades) (halves_from trades g contracts) in
    let free = numbers_all contracts 0 trades in
    let counted = unsigned_size contracts (length trades) in
    omega (arith, parts, free, counted)

-- the denominator of what blocks is small, the smaller the fewer trades there are
pub scale_within : (over : ℤ) (n : ℕ) (contracts : List Contract) → pos 1 ≤ℤ over → over ≤ℤ pos most_over
    → IsAtMost (over *ℤ chain_scale n contracts) (most_over * (2 * n + 1))
scale_within over n contracts low high =
    let both = both_sizes contracts n in
    times_small over (chain_scale n contracts) most_over (2 * n + 1) (record {
      low = omega (arith, ints, low);
      high = high;
    })
    (record { low = omega (arith, ints); high = omega (arith, ints, both) })

pub scale_bound : (over : ℤ) (n : ℕ) (contracts : List Contract) → n ≤ most_judged_trades → pos 1 ≤ℤ over
    → over ≤ℤ pos most_over → IsAtMost (over *ℤ chain_scale n contracts) (most_over * (2 * most_judged_trades + 1))
scale_bound over n contracts judged low high =
    let within = scale_within over n contracts low high in
    record {
      low = omega (arith, ints, judged, within.low);
      high = omega (arith, ints, judged, within.high);
    }

pub scale_small : (over : ℤ) (n : ℕ) (contracts : List Contract) → n ≤ most_judged_trades → pos 1 ≤ℤ over
    → over ≤ℤ pos most_over → (over *ℤ chain_scale n contracts) ≤ℤ pos most_claimed_over
scale_small over n contracts judged low high = let most = (scale_bound over n contracts judged low high).high in
    omega (arith, ints, most)

-- a residual market of an outcome within the limits is one that can be solved
pub is_residual : {P : Type 0} (firm_of : P → Firm) (limit_of : P
    → ℕ) (firms : List Firm) (count : ℕ) (trades : List Ends) (over : ℤ) (contracts : List Contract) (scale : ℤ)
    → count ≡ length firms
    → length trades ≤ most_judged_trades → IsOutcomeOf trades over contracts
    → scale ≡ chain_scale (length trades) contracts → (residual : Traded P)
    → map firm_of residual.firms ≡ residual_of firms trades over contracts scale (pos 1)
    → residual.trades ≡ residual_trades count trades contracts
    → All (λ party. limit_of party ≤ residual_limit (length trades) over scale) residual.firms
    → IsResidual firm_of limit_of firms trades over contracts residual
is_residual {P} firm_of limit_of firms count trades over contracts scale count_is judged outcome scale_is residual
    parties ends limits = record {
      parties = parties ∙ ap (λ (s : ℤ). residual_of firms trades over contracts s (pos 1)) scale_is;
      ends = all_ends;
      limits = λ f party is.
          subst (λ (s : ℤ). limit_of party ≤ residual_limit (length trades) over s) scale_is
          (subst (λ (p : P). limit_of p ≤ residual_limit (length trades) over scale)
          (get_or_from_slice_get residual.firms f party party is)
          (limits f party (slice_get_within residual.firms f party is)));
      few =
          let size_is = ap length all_ends in
          let most = made_few (length firms) trades contracts feasible in
          omega (arith, size_is, most, judged);
      small = subst (λ (ts : List Ends). 2 * residual_limit (length trades) over (chain_scale (length trades)
          contracts) * (length ts + 1) < most_cost) (sym all_ends)
          (made_small over (length firms) trades contracts feasible judged outcome.least outcome.most);
    }
  where
    feasible : IsFeasible trades contracts
    feasible = outcome_feasible trades over contracts outcome

    all_ends : residual.trades ≡ residual_trades (length firms) trades contracts
    all_ends = ends ∙ ap (λ (n : ℕ). residual_trades n trades contracts) count_is
