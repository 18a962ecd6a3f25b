-- No set of trades of a residual market has more surplus than the reduced worths of its unsigned part come to.
use Rattle.std.proofs.Common.{◌≡◌, ℕ, suc, ◌+◌, List, [], ◌∷◌, ◌++◌, length, slice_get, Some, option_map, refl, sym, ap, ◌∙◌, subst, arith, ℤ, pos, ◌+ℤ◌, ◌-ℤ◌, ◌*ℤ◌, ◌≤ℤ◌}
use Rattle.std.specs.Prelude.{option_and_then}
use Rattle.std.proofs.lemmas.Int.{ints}
use Rattle.std.proofs.lemmas.Option.{same_Some, option_and_then_some}
use Rattle.tn_base.specs.Sets.{size, sum_over}
use Rattle.tn_base.specs.Firm.{Firm, payments, plus_sum}
use Rattle.tn_base.proofs.SumLemmas.{times-plus}
use Rattle.tn_firm_laws.proofs.KeepLemmas.{option_map-some, times-le}
use Rattle.tn_model.specs.declared.ends.Ends.{Ends}
use Rattle.tn_model.specs.declared.contract.Contract.{Contract}
use Rattle.tn_model.specs.Network.{part}
use Rattle.tn_market.specs.Equilibrium.{prices_at, surplus_from, surplus_of}
use Rattle.tn_market.specs.Outside.{outside}
use Rattle.tn_market.specs.Signed.{signed_price, signed_bundle}
use Rattle.tn_market.specs.Reduced.{reduced, reduced_from}
use Rattle.tn_network_laws.proofs.SumLemmas.{AllFrom, all_from, sum_list}
use Rattle.tn_network_laws.proofs.WelfareLemmas.{paid, paid_cancels}
use Rattle.tn_outcome_laws.proofs.AddingLemmas.{adding_most}
use Rattle.tn_outcome_laws.proofs.SplitLemmas.{own_priced}
use Rattle.tn_residual.specs.Residual.{levied_from, outsides, unsigned_part}
use Rattle.tn_residual.proofs.TradeLemmas.{levied_count}
use Rattle.tn_residual.proofs.PositionLemmas.{Setting, parties, made, party, made_network, part_beside, half_prices, market_value, outside_value}

-- ---- sums over lists of firms

-- a surplus with a first firm
pub record HasFirst (trades : List Ends) (on s : ℕ) (firm : Firm) (firms : List Firm) (total : ℤ) : Type 0 where
  pub worth : ℤ
  pub worth_is : firm.worth (part trades s firm.count on) ≡ Some worth
  pub rest : ℤ
  pub rest_is : surplus_from trades on (s + 1) firms ≡ Some rest
  pub sum : total ≡ worth +ℤ rest

pub surplus_first : (trades : List Ends) (on s : ℕ) (firm : Firm) (firms : List Firm) (total : ℤ)
    → surplus_from trades on s (firm ∷ firms) ≡ Some total → HasFirst trades on s firm firms total
surplus_first trades on s firm firms total is =
    option_and_then_some (λ worth. option_map (λ more. worth +ℤ more) (surplus_from trades on (s + 1) firms))
    (firm.worth (part trades s firm.count on)) total is (λ worth worth_is sum_is.
    let rest = option_map-some (λ more. worth +ℤ more) (surplus_from trades on (s + 1) firms) total sum_is in
    record { worth = worth; worth_is = worth_is; rest = rest.0; rest_is = rest.1; sum = sym rest.2 })

pub surplus_with : (trades : List Ends) (on s : ℕ) (firm : Firm) (firms : List Firm) (worth rest : ℤ)
    → firm.worth (part trades s firm.count on) ≡ Some worth
    → surplus_from trades on (s + 1) firms ≡ Some rest → surplus_from trades on s (firm ∷ firms) ≡ Some (worth +ℤ rest)
surplus_with trades on s firm firms worth rest worth_is rest_is =
    ap (option_and_then (λ w. option_map (λ more. w +ℤ more) (surplus_from trades on (s + 1) firms))) worth_is
    ∙ ap (option_map (λ more. worth +ℤ more)) rest_is

-- a surplus of two lists in a row
pub record HasParts (trades : List Ends) (on s : ℕ) (xs ys : List Firm) (total : ℤ) : Type 0 where
  pub front : ℤ
  pub front_is : surplus_from trades on s xs ≡ Some front
  pub behind : ℤ
  pub behind_is : surplus_from trades on (s + length xs) ys ≡ Some behind
  pub sum : total ≡ front +ℤ behind

pub surplus_parts : (trades : List Ends) (on s : ℕ) (xs ys : List Firm) (total : ℤ)
    → surplus_from trades on s (xs ++ ys) ≡ Some total → HasParts trades on s xs ys total
surplus_parts trades on s [] ys total is =
    let at : s + 0 ≡ s = omega arith in
    record {
      front = pos 0;
      front_is = refl;
      behind = total;
      behind_is =
          ap (λ (n : ℕ). surplus_from trades on n ys) at ∙ is;
      sum = omega (arith, ints);
    }
surplus_parts trades on s (firm ∷ xs) ys total is =
    let first = surplus_first trades on s firm (xs ++ ys) total is in
    let rest = surplus_parts trades on (s + 1) xs ys first.rest first.rest_is in
    let at : s + suc (length xs) ≡ s + 1 + length xs = omega arith in
    record {
      front = first.worth +ℤ rest.front;
      front_is = surplus_with trades on s firm xs first.worth rest.front first.worth_is rest.front_is;
      behind = rest.behind;
      behind_is = ap (λ (n : ℕ). surplus_from trades on n ys) at ∙ rest.behind_is;
      sum = (let a = first.sum in let b = rest.sum in omega (arith, ints, a, b));
    }

pub surplus_joined : (trades : List Ends) (on s : ℕ) (xs ys : List Firm) (front behind : ℤ)
    → surplus_from trades on s xs ≡ Some front
    → surplus_from trades on (s + length xs) ys ≡ Some behind
    → surplus_from trades on s (xs ++ ys) ≡ Some (front +ℤ behind)
surplus_joined trades on s [] ys front behind front_is behind_is =
    let at : s ≡ s + 0 = omega arith in
    let none : front ≡ pos 0 = same_Some front (pos 0) (sym front_is) in
    ap (λ (n : ℕ). surplus_from trades on n ys) at ∙ behind_is ∙ ap (λ (v : ℤ). Some v) (omega (arith, ints, none))
surplus_joined trades on s (firm ∷ xs) ys front behind front_is behind_is =
    let first = surplus_first trades on s firm xs front front_is in
    let at : s + 1 + length xs ≡ s + suc (length xs) = omega arith in
    let rest = surplus_joined trades on (s + 1) xs ys first.rest behind first.rest_is
    (ap (λ (n : ℕ). surplus_from trades on n ys) at ∙ behind_is) in
    surplus_with trades on s firm (xs ++ ys) first.worth (first.rest +ℤ behind) first.worth_is rest
    ∙ ap (λ (v : ℤ). Some v) (let sum = first.sum in omega (arith, ints, sum))

pub sum_list-joined : {A : Type 0} (g : ℕ → A → ℤ) (s : ℕ) (xs ys : List A)
    → sum_list g s (xs ++ ys) ≡ sum_list g s xs +ℤ sum_list g (s + length xs) ys
sum_list-joined g s [] ys = let at : s ≡ s + 0 = omega arith in ap (λ (n : ℕ). sum_list g n ys) at ∙ omega (arith, ints)
sum_list-joined g s (x ∷ xs) ys =
    let rest = sum_list-joined g (s + 1) xs ys in
    let at : s + 1 + length xs ≡ s + suc (length xs) = omega arith in
    let same : sum_list g (s + 1 + length xs) ys ≡ sum_list g (s + suc (length xs)) ys =
    ap (λ (n : ℕ). sum_list g n ys) at in
    omega (arith, ints, rest, same)

-- ---- what is paid for the halves, and the taxes

-- what firm f gets for the halves that are on
abbrev pub got : Setting → ℕ → ℕ → Firm → ℤ
got z on = paid (made z) (half_prices z) on

-- the firms of the market in the residual one, from number b on
abbrev pub members : Setting → ℕ → List Firm → List Firm
members z b xs = levied_from z.trades z.contracts (z.over *ℤ z.scale) z.tax b xs

-- how many unsigned trades a firm has on
abbrev pub taxed_count : Setting → ℕ → ℕ → Firm → ℤ
taxed_count z x f firm = pos (size (part z.trades f firm.count x))

-- the firms are those of the market, from number b on
abbrev pub AreFirms : Setting → ℕ → List Firm → Type 0
AreFirms z b xs = AllFrom (λ f firm. slice_get z.firms f ≡ Some firm) b xs

pub all_firms : (z : Setting) → AreFirms z 0 z.firms
all_firms z =
    all_from _ 0 z.firms (λ i f firm at is. (let same : f ≡ i = omega (arith, at) in ap (slice_get z.firms) same ∙ is))

-- ---- the firms of the market

-- the firm at the contracts' prices
abbrev pub contracted : Setting → ℕ → Firm → Firm
contracted z f firm = plus_sum z.over (payments firm.buys (prices_at z.trades (signed_price z.contracts) f)) firm

-- one firm has at most what its reduced worth comes to
firm_most : (z : Setting) → pos 0 ≤ℤ z.scale → (f on : ℕ) (firm : Firm) → slice_get z.firms f ≡ Some firm → (value : ℤ)
    → (party z f firm).worth (part (made z) f firm.count on) ≡ Some value
    → (r : ℤ) × ((reduced z.trades z.over z.contracts f firm).worth
    (part z.trades f firm.count (unsigned_part z.contracts (length z.trades) on)) ≡ Some r)
    × ((value +ℤ got z on f (party z f firm)) ≤ℤ (z.scale *ℤ r
    -ℤ z.tax *ℤ taxed_count z (unsigned_part z.contracts (length z.trades) on) f firm))
firm_most z from_zero f on firm is value value_is =
    let worth = option_map-some _ (firm.worth (part (made z) f firm.count on)) value value_is in
    let has_value = market_value z f on firm is worth.0 worth.1 in
    let same : value ≡ has_value.0 = same_Some value has_value.0 (sym value_is ∙ has_value.1) in
    let utility =
    z.over *ℤ worth.0 +ℤ sum_over (payments firm.buys (prices_at z.trades (signed_price z.contracts) f)) firm.count
    (part (made z) f firm.count on) in
    let more = adding_most (signed_bundle z.trades z.contracts f firm) (contracted z f firm)
    (own_priced z.over (payments firm.buys (prices_at z.trades (signed_price z.contracts) f)) firm
    (z.own_bundles f firm is))
    (part z.trades f firm.count (unsigned_part z.contracts (length z.trades) on)) (part (made z) f firm.count on)
    (z.over *ℤ worth.0 +ℤ sum_over (payments firm.buys (prices_at z.trades (signed_price z.contracts) f)) firm.count
    (part (made z) f firm.count on)) (part_beside z f on firm is)
    (ap (option_map (λ a. z.over *ℤ a +ℤ sum_over (payments firm.buys (prices_at z.trades (signed_price z.contracts) f))
    firm.count (part (made z) f firm.count on))) worth.1) in
    let scaled = times-le z.scale utility more.0 from_zero more.2 in
    (more.0, more.1, most _ _ _ _ _ _ same has_value.2 scaled)
  where
    most : (v v' p u r t : ℤ) → v ≡ v' → v' +ℤ p ≡ u -ℤ t → u ≤ℤ r → (v +ℤ p) ≤ℤ (r -ℤ t)
    most v v' p u r t same sum scaled = omega (arith, ints, same, sum, scaled)

-- and so do all
market_most : (z : Setting) → pos 0 ≤ℤ z.scale → (on b : ℕ) (xs : List Firm) → AreFirms z b xs → (total : ℤ)
    → surplus_from (made z) on b (members z b xs) ≡ Some total
    → (r : ℤ) × (surplus_from z.trades (unsigned_part z.contracts (length z.trades) on) b
    (reduced_from z.trades z.over z.contracts b xs) ≡ Some r)
    × ((total +ℤ sum_list (got z on) b (members z b xs))
    ≤ℤ (z.scale *ℤ r -ℤ z.tax *ℤ sum_list (taxed_count z (unsigned_part z.contracts (length z.trades) on)) b xs))
market_most z from_zero on b [] are total is = (
  pos 0,
  refl,
  nothing total (z.scale *ℤ pos 0) (z.tax *ℤ pos 0) (same_Some total (pos 0) (sym is)) (omega (arith, ints))
      (omega (arith, ints)),
)
  where
    nothing : (t r x : ℤ) → t ≡ pos 0 → r ≡ pos 0 → x ≡ pos 0 → (t +ℤ pos 0) ≤ℤ (r -ℤ x)
    nothing t r x a b c = omega (arith, ints, a, b, c)
market_most z from_zero on b (firm ∷ xs) are total is =
    let first = surplus_first (made z) on b (party z b firm) (members z (b + 1) xs) total is in
    let here = firm_most z from_zero b on firm are.0 first.worth first.worth_is in
    let rest = market_most z from_zero on (b + 1) xs are.1 first.rest first.rest_is in (
      here.0 +ℤ rest.0,
      surplus_with z.trades (unsigned_part z.contracts (length z.trades) on) b
          (reduced z.trades z.over z.contracts b firm) (reduced_from z.trades z.over z.contracts (b + 1) xs)
          here.0 rest.0 here.1 rest.1,
      add total first.worth first.rest (got z on b (party z b firm))
          (sum_list (got z on) (b + 1) (members z (b + 1) xs)) (z.scale *ℤ here.0)
          (z.tax *ℤ taxed_count z (unsigned_part z.contracts (length z.trades) on) b firm) (z.scale *ℤ rest.0)
          (z.tax *ℤ sum_list (taxed_count z (unsigned_part z.contracts (length z.trades) on)) (b + 1) xs)
          (z.scale *ℤ (here.0 +ℤ rest.0))
          (z.tax *ℤ (taxed_count z (unsigned_part z.contracts (length z.trades) on) b firm
          +ℤ sum_list (taxed_count z (unsigned_part z.contracts (length z.trades) on)) (b + 1) xs))
          first.sum here.2 rest.2 (times-plus z.scale here.0 rest.0)
          (times-plus z.tax (taxed_count z (unsigned_part z.contracts (length z.trades) on) b firm)
          (sum_list (taxed_count z (unsigned_part z.contracts (length z.trades) on)) (b + 1) xs)),
    )
  where
    add : (t w r p q u x v y uv xy : ℤ) → t ≡ w +ℤ r → (w +ℤ p) ≤ℤ (u -ℤ x) → (r +ℤ q) ≤ℤ (v -ℤ y) → uv ≡ u +ℤ v
        → xy ≡ x +ℤ y → (t +ℤ (p +ℤ q)) ≤ℤ (uv -ℤ xy)
    add t w r p q u x v y uv xy sum here rest scaled taxed = omega (arith, ints, sum, here, rest, scaled, taxed)

-- ---- the firms outside

-- with what they get for the halves they have nothing
pub outsides_nothing : (z : Setting) (on c n : ℕ) (cs : List Contract) → n ≡ length z.firms + c
    → ((i : ℕ) (contract : Contract) → slice_get cs i ≡ Some contract → slice_get z.contracts (c + i) ≡ Some contract)
    → (value : ℤ) × (surplus_from (made z) on n (outsides z.scale cs) ≡ Some value)
    × (value +ℤ sum_list (got z on) n (outsides z.scale cs) ≡ pos 0)
outsides_nothing z on c n [] at there = (pos 0, refl, omega (arith, ints))
outsides_nothing z on c n (contract ∷ cs) at there =
    let same : c + 0 ≡ c = omega arith in
    let here = outside_value z c on contract (ap (slice_get z.contracts) (sym same) ∙ there 0 contract refl) in
    let mine = subst (λ (m : ℕ). ((outside (z.scale *ℤ contract.price)).worth (part (made z) m 2 on) ≡ Some here.0)
    × (here.0 +ℤ got z on m (outside (z.scale *ℤ contract.price)) ≡ pos 0)) (sym at)
    (here.1, here.2) in
    let next : n + 1 ≡ length z.firms + (c + 1) = omega (arith, at) in
    let rest = outsides_nothing z on (c + 1) (n + 1) cs next (λ i other is. (let more : c + 1 + i ≡ c + suc i =
    omega arith in ap (slice_get z.contracts) more ∙ there (suc i) other is)) in (
      here.0 +ℤ rest.0,
      surplus_with (made z) on n (outside (z.scale *ℤ contract.price)) (outsides z.scale cs) here.0 rest.0 mine.0
          rest.1,
      add here.0 rest.0 (got z on n (outside (z.scale *ℤ contract.price)))
          (sum_list (got z on) (n + 1) (outsides z.scale cs)) mine.1 rest.2,
    )
  where
    add : (v r p q : ℤ) → v +ℤ p ≡ pos 0 → r +ℤ q ≡ pos 0 → (v +ℤ r) +ℤ (p +ℤ q) ≡ pos 0
    add v r p q a b = omega (arith, ints, a, b)

-- ---- all firms

-- what the firms of the market get for the halves, and what those outside get
pub got_total : (z : Setting) (on : ℕ) → sum_list (got z on) 0 (members z 0 z.firms)
    +ℤ sum_list (got z on) (length z.firms) (outsides z.scale z.contracts) ≡ pos 0
got_total z on =
    let at : 0 + length (members z 0 z.firms) ≡ length z.firms =
    (let count = levied_count z.trades z.contracts (z.over *ℤ z.scale) z.tax 0 z.firms in omega (arith, count)) in
    ap (λ (n : ℕ). sum_list (got z on) 0 (members z 0 z.firms) +ℤ sum_list (got z on) n (outsides z.scale z.contracts))
    (sym at)
    ∙ sym (sum_list-joined (got z on) 0 (members z 0 z.firms) (outsides z.scale z.contracts))
    ∙ paid_cancels (parties z) (made z) (made_network z) on (half_prices z)

pub all_outside : (z : Setting) (on : ℕ) → (value : ℤ)
    × (surplus_from (made z) on (0 + length (members z 0 z.firms)) (outsides z.scale z.contracts) ≡ Some value)
    × (value +ℤ sum_list (got z on) (length z.firms) (outsides z.scale z.contracts) ≡ pos 0)
all_outside z on =
    let count = levied_count z.trades z.contracts (z.over *ℤ z.scale) z.tax 0 z.firms in
    let at : length z.firms ≡ 0 + length (members z 0 z.firms) = omega (arith, count) in
    let start : length z.firms ≡ length z.firms + 0 = omega arith in
    let found = outsides_nothing z on 0 (length z.firms) z.contracts start (λ i contract is. (let same : 0 + i ≡ i =
    omega arith in ap (slice_get z.contracts) same ∙ is)) in
    (found.0, ap (λ (n : ℕ). surplus_from (made z) on n (outsides z.scale z.contracts)) (sym at) ∙ found.1, found.2)

-- a surplus is at most what the reduced worths come to
pub surplus_most : (z : Setting) → pos 0 ≤ℤ z.scale → (on : ℕ) (total : ℤ)
    → surplus_of (parties z) (made z) on ≡ Some total
    → (r : ℤ) × (surplus_from z.trades (unsigned_part z.contracts (length z.trades) on) 0
    (reduced_from z.trades z.over z.contracts 0 z.firms) ≡ Some r)
    × (total ≤ℤ (z.scale *ℤ r -ℤ z.tax *ℤ sum_list (taxed_count z (unsigned_part z.contracts (length z.trades) on)) 0
    z.firms))
surplus_most z from_zero on total is =
    let parts = surplus_parts (made z) on 0 (members z 0 z.firms) (outsides z.scale z.contracts) total is in
    let market = market_most z from_zero on 0 z.firms (all_firms z) parts.front parts.front_is in
    let out = all_outside z on in
    let same : parts.behind ≡ out.0 = same_Some parts.behind out.0 (sym parts.behind_is ∙ out.1) in (
      market.0,
      market.1,
      add total parts.front parts.behind out.0 (sum_list (got z on) 0 (members z 0 z.firms))
          (sum_list (got z on) (length z.firms) (outsides z.scale z.contracts))
          (z.scale *ℤ market.0 -ℤ z.tax *ℤ sum_list (taxed_count z (unsigned_part z.contracts (length z.trades) on)) 0
          z.firms) parts.sum market.2 same out.2 (got_total z on),
    )
  where
    add : (t a b b' p q m : ℤ) → t ≡ a +ℤ b → (a +ℤ p) ≤ℤ m → b ≡ b' → b' +ℤ q ≡ pos 0 → p +ℤ q ≡ pos 0 → t ≤ℤ m
    add t a b b' p q m sum most same nothing cancel = omega (arith, ints, sum, most, same, nothing, cancel)
