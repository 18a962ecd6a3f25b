-- The surplus of a set of trades, added up firm by firm.
use Rattle.std.proofs.Common.{◌≡◌, ℕ, zero, suc, ◌+◌, ◌*◌, ◌<◌, ◌≤◌, List, [], ◌∷◌, ◌++◌, length, take, slice_get, Some, None, Option, option_map, refl, sym, ap, ◌∙◌, arith, ℤ, pos, ◌+ℤ◌, add-one}
use Rattle.std.specs.Prelude.{option_and_then}
use Rattle.std.proofs.lemmas.Int.{ints}
use Rattle.std.proofs.lemmas.Option.{none-some, same_Some, option_and_then_some, slice_get_within, get_or_from_slice_get}
use Rattle.std.proofs.lemmas.List.{length-take-le}
use Rattle.std.proofs.Math.Seq.{take-suc, take-length}
use mir.Syntax.{w128}
use mir.Val.{SFits}
use Rattle.tn_base.specs.Arcs.{IsAtMost}
use Rattle.tn_base.specs.Firm.{Firm}
use Rattle.tn_firm_laws.proofs.KeepLemmas.{option_map-some}
use Rattle.tn_model.specs.declared.ends.Ends.{Ends}
use Rattle.tn_model.specs.Network.{part}
use Rattle.tn_market.specs.Equilibrium.{surplus_from, surplus_of}
use Rattle.tn_market.specs.Widths.{most_limit, most_market_firms}

surplus_from-append : (trades : List Ends) (on s : ℕ) (firms : List Firm) (firm : Firm) (f : ℕ) (a b : ℤ)
    → f ≡ s + length firms
    → surplus_from trades on s firms ≡ Some a → firm.worth (part trades f firm.count on) ≡ Some b
    → surplus_from trades on s (firms ++ firm ∷ []) ≡ Some (a +ℤ b)
surplus_from-append trades on s [] firm f a b at sum is =
    let here : f ≡ s = omega (arith, at) in
    let zero_is : pos 0 ≡ a = same_Some _ _ sum in
    ap (option_and_then (λ worth. option_map (λ more. worth +ℤ more) (Some (pos 0))))
    (ap (λ (g : ℕ). firm.worth (part trades g firm.count on)) (sym here) ∙ is)
    ∙ ap (λ (z : ℤ). Some z) (swap a b zero_is)
  where
    swap : (a b : ℤ) → pos 0 ≡ a → b +ℤ pos 0 ≡ a +ℤ b
    swap a b e = omega (arith, ints, e)
surplus_from-append trades on s (first ∷ firms) firm f a b at sum is =
    option_and_then_some (λ worth. option_map (λ more. worth +ℤ more) (surplus_from trades on (s + 1) firms))
    (first.worth (part trades s first.count on)) a sum (λ worth worth_is rest_is.
    let more = option_map-some (λ z. worth +ℤ z) (surplus_from trades on (s + 1) firms) a rest_is in
    let rest = surplus_from-append trades on (s + 1) firms firm f more.0 b (omega (arith, at)) more.1 is in
    ap (option_and_then (λ w. option_map (λ z. w +ℤ z) (surplus_from trades on (s + 1) (firms ++ firm ∷ [])))) worth_is
    ∙ ap (option_map (λ z. worth +ℤ z)) rest
    ∙ ap (λ (z : ℤ). Some z) (regroup worth more.0 a b more.2))
  where
    regroup : (w r a b : ℤ) → w +ℤ r ≡ a → w +ℤ (r +ℤ b) ≡ a +ℤ b
    regroup w r a b e = omega (arith, ints, e)

-- the sum over the first firms, with one more
pub sum_more : (firms : List Firm) (trades : List Ends) (on f : ℕ) (surplus amount : ℤ) (firm : Firm)
    → surplus_from trades on 0 (take f firms) ≡ Some surplus
    → slice_get firms f ≡ Some firm → firm.worth (part trades f firm.count on) ≡ Some amount
    → surplus_from trades on 0 (take (f + 1) firms) ≡ Some (surplus +ℤ amount)
sum_more firms trades on f surplus amount firm sum is worth_is =
    let inside = slice_get_within firms f firm is in
    let longer : take (f + 1) firms ≡ take f firms ++ firm ∷ [] =
    ap (λ (n : ℕ). take n firms) (add-one f) ∙ take-suc firms f firm inside
    ∙ ap (λ (x : Firm). take f firms ++ x ∷ []) (get_or_from_slice_get firms f firm firm is) in
    ap (surplus_from trades on 0) longer
    ∙ surplus_from-append trades on 0 (take f firms) firm f surplus amount
    (omega (arith, length-take-le f firms (omega (arith, inside)))) sum worth_is

-- where a firm's bundle is impossible, there is no sum
none_from : (trades : List Ends) (on s f : ℕ) (firms : List Firm) (firm : Firm) → slice_get firms f ≡ Some firm
    → firm.worth (part trades (s + f) firm.count on) ≡ None
    → surplus_from trades on s firms ≡ None
none_from trades on s f [] firm is worth_is = absurd (none-some firm is)
none_from trades on s zero (first ∷ firms) firm is worth_is =
    let same = same_Some first firm is in
    let here : s + 0 ≡ s = omega arith in
    ap (λ (x : Firm). option_and_then (λ worth. option_map (λ rest. worth +ℤ rest)
    (surplus_from trades on (s + 1) firms)) (x.worth (part trades s x.count on))) same
    ∙ ap (λ (n : ℕ). option_and_then (λ worth. option_map (λ rest. worth +ℤ rest)
    (surplus_from trades on (s + 1) firms)) (firm.worth (part trades n firm.count on))) (sym here)
    ∙ ap (option_and_then (λ worth. option_map (λ rest. worth +ℤ rest) (surplus_from trades on (s + 1) firms))) worth_is
none_from trades on s (suc f) (first ∷ firms) firm is worth_is =
    let there : s + suc f ≡ (s + 1) + f = omega arith in
    let rest = none_from trades on (s + 1) f firms firm is
    (ap (λ (n : ℕ). firm.worth (part trades n firm.count on)) (sym there) ∙ worth_is) in
    ap (λ (more : Option ℤ). option_and_then (λ worth. option_map (λ rest. worth +ℤ rest) more)
    (first.worth (part trades s first.count on))) rest
    ∙ never (first.worth (part trades s first.count on))
  where
    never : (o : Option ℤ) → option_and_then (λ worth. option_map (λ rest. worth +ℤ rest) None) o ≡ None
    never None = refl
    never (Some worth) = refl

-- the worths of the firms before f have this sum
pub record AreAdded (firms : List Firm) (trades : List Ends) (on f : ℕ) (surplus : ℤ) : Type 0 where
  pub sum : surplus_from trades on 0 (take f firms) ≡ Some surplus
  pub small : IsAtMost surplus (f * most_limit)

pub one_added : (firms : List Firm) (trades : List Ends) (on f : ℕ) (surplus amount : ℤ) (firm : Firm)
    → AreAdded firms trades on f surplus → slice_get firms f ≡ Some firm
    → firm.worth (part trades f firm.count on) ≡ Some amount → IsAtMost amount most_limit
    → AreAdded firms trades on (f + 1) (surplus +ℤ amount)
one_added firms trades on f surplus amount firm added is worth_is small = record {
  sum = sum_more firms trades on f surplus amount firm added.sum is worth_is;
  small = let low = added.small.low in let high = added.small.high in let a = small.low in let b = small.high in
      record { low = omega (arith, ints, low, high, a, b); high = omega (arith, ints, low, high, a, b) };
}

pub all_added : (firms : List Firm) (trades : List Ends) (on f : ℕ) (surplus : ℤ) → AreAdded firms trades on f surplus
    → length firms ≤ f → f ≤ length firms
    → Some surplus ≡ surplus_of firms trades on
all_added firms trades on f surplus added end most =
    let same : f ≡ length firms = omega (arith, end, most) in
    sym (ap (surplus_from trades on 0) (sym (ap (λ (n : ℕ). take n firms) same ∙ take-length firms)) ∙ added.sum)

pub none_at : (firms : List Firm) (trades : List Ends) (on f : ℕ) (firm : Firm) → slice_get firms f ≡ Some firm
    → firm.worth (part trades f firm.count on) ≡ None
    → None ≡ surplus_of firms trades on
none_at firms trades on f firm is worth_is =
    sym (none_from trades on 0 f firms firm is (ap (λ (n : ℕ). firm.worth (part trades n firm.count on)) (let same : 0
    + f ≡ f = omega arith in same) ∙ worth_is))

pub added_fits : (surplus amount : ℤ) (f n : ℕ) → IsAtMost surplus (f * most_limit) → IsAtMost amount most_limit → f < n
    → n ≤ most_market_firms → SFits w128 (surplus +ℤ amount)
added_fits surplus amount f n small more below few =
    let low = small.low in
    let high = small.high in
    let more_low = more.low in
    let more_high = more.high in
    omega (arith, ints, low, high, more_low, more_high, below, few)
