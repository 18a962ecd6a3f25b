-- Offers and an outcome together: their prices and trades.
use Rattle.std.proofs.Common.{◌≡◌, ℕ, ◌+◌, ◌*◌, ◌<◌, ◌≤◌, List, [], ◌∷◌, ◌++◌, length, length-append, take, slice_get, Some, refl, sym, ap, ap₂, ◌∙◌, subst, arith, ℤ, pos, ◌*ℤ◌, ◌≤ℤ◌}
use Rattle.std.specs.List.{All}
use Rattle.std.proofs.lemmas.Int.{ints}
use mir.Syntax.{w128}
use mir.Val.{SFits}
use Rattle.std.proofs.lemmas.List.{length-map, map-append, take_more}
use Rattle.std.proofs.lemmas.List.Elements.{All-append, All-weaker}
use Rattle.std.proofs.lemmas.Option.{slice_get_within, get_or_from_slice_get, slice_get-get_or}
use Rattle.tn_base.specs.Arcs.{IsAtMost}
use Rattle.tn_market.specs.Widths.{most_asked_price}
use Rattle.tn_model.specs.Limits.{most_claimed_over, most_number, most_numerator, most_over}
use Rattle.tn_firm_laws.proofs.BoundLemmas.{times_small}
use Rattle.tn_model.specs.declared.contract.Contract.{Contract}
use Rattle.tn_model.specs.Choices.{counted, together}
use Rattle.tn_network_laws.proofs.PoolLemmas.{counted_at}

-- the contracts counted so far, with one more
pub counted_more : (times : ℤ) (contracts items now : List Contract) (k : ℕ) (contract next : Contract)
    → now ≡ items ++ counted times (take k contracts) → slice_get contracts k ≡ Some contract
    → next.trade ≡ contract.trade → next.price ≡ times *ℤ contract.price
    → now ++ (next ∷ []) ≡ items ++ counted times (take (k + 1) contracts)
counted_more times contracts items now k contract next before is trade price =
    ap (λ (xs : List Contract). xs ++ (next ∷ [])) before
    ∙ assoc items (counted times (take k contracts)) (next ∷ [])
    ∙ ap (λ (c : Contract). items ++ (counted times (take k contracts) ++ (c ∷ [])))
    (ap₂ (λ (t : ℕ) (p : ℤ). record { trade = t; price = p }) trade price)
    ∙ ap (λ (xs : List Contract). items ++ xs) (sym (ap (counted times) taken
    ∙ map-append (λ (c : Contract). record { trade = c.trade; price = times *ℤ c.price }) (take k contracts)
    (contract ∷ [])))
  where
    taken : take (k + 1) contracts ≡ take k contracts ++ (contract ∷ [])
    taken = take_more contracts k contract (slice_get_within contracts k contract is)
        ∙ ap (λ (c : Contract). take k contracts ++ (c ∷ [])) (get_or_from_slice_get contracts k contract contract is)

    assoc : (xs ys zs : List Contract) → (xs ++ ys) ++ zs ≡ xs ++ (ys ++ zs)
    assoc [] ys zs = refl
    assoc (x ∷ xs) ys zs = ap (λ (ws : List Contract). x ∷ ws) (assoc xs ys zs)

-- what holds of each counted contract
counted_all : (P Q : Contract → Type 0) (times : ℤ) (contracts : List Contract)
    → ((contract : Contract) → Q contract → P (record { trade = contract.trade; price = times *ℤ contract.price }))
    → ((k : ℕ) (contract : Contract) → slice_get contracts k ≡ Some contract → Q contract)
    → All P (counted times contracts)
counted_all P Q times contracts step each = λ k d below.
    let found = counted_at times contracts k _ (slice_get-get_or (counted times contracts) k d below) in
    subst P (sym found.2) (step found.0 (each k found.0 found.1))

pub all_at : (P : Contract → Type 0) (contracts : List Contract) → All P contracts → (k : ℕ) (contract : Contract)
    → slice_get contracts k ≡ Some contract → P contract
all_at P contracts each k contract is =
    subst P (get_or_from_slice_get contracts k contract contract is)
    (each k contract (slice_get_within contracts k contract is))

-- the trades of the pool are known
pub pool_known : (count : ℕ) (e d : ℤ) (offers contracts : List Contract)
    → ((k : ℕ) (offer : Contract) → slice_get offers k ≡ Some offer → offer.trade < count)
    → All (λ contract. contract.trade < count) contracts
    → All (λ contract. contract.trade < count) (together e offers d contracts)
pool_known count e d offers contracts known outcome_known =
    All-append (λ contract. contract.trade < count) (counted d offers) (counted e contracts)
    (counted_all (λ contract. contract.trade < count) (λ contract. contract.trade < count) d offers
    (λ contract below. below) known)
    (counted_all (λ contract. contract.trade < count) (λ contract. contract.trade < count) e contracts
    (λ contract below. below) (all_at (λ contract. contract.trade < count) contracts outcome_known))

product_small : (times price : ℤ) (most limit whole : ℕ) → pos 0 ≤ℤ times → times ≤ℤ pos most → IsAtMost price limit
    → most * limit ≤ whole → IsAtMost (times *ℤ price) whole
product_small times price most limit whole least above small fits =
    let product = times_small times price most limit (record { low = omega (arith, ints, least); high = above }) small
    in
    record { low = omega (arith, ints, product.low, fits); high = omega (arith, ints, product.high, fits) }

-- the offers stand first in the pool
pub pool_room : (e d : ℤ) (offers contracts : List Contract) → length offers ≤ length (together e offers d contracts)
pool_room e d offers contracts =
    let both = length-append (counted d offers) (counted e contracts) in
    let first : length (counted d offers) ≡ length offers = length-map offers _ in
    omega (arith, both, first)

-- a numerator of an outcome is a number of a claim
pub numerators_small : (contracts : List Contract) → All (λ contract. IsAtMost contract.price most_numerator) contracts
    → All (λ contract. IsAtMost contract.price most_number) contracts
numerators_small contracts small =
    All-weaker (λ contract. IsAtMost contract.price most_numerator) (λ contract. IsAtMost contract.price most_number)
    (λ contract at_most. wider contract.price at_most) contracts small
  where
    wider : (z : ℤ) → IsAtMost z most_numerator → IsAtMost z most_number
    wider z at_most = record { low = omega (arith, ints, at_most.low); high = omega (arith, ints, at_most.high) }

-- a counted price has room
pub counted_fits : (times price : ℤ) → pos 0 ≤ℤ times → times ≤ℤ pos most_claimed_over → IsAtMost price most_number
    → SFits w128 (times *ℤ price)
counted_fits times price least most small =
    let product = product_small times price most_claimed_over most_number (most_claimed_over * most_number) least most
    small (omega arith) in
    omega (arith, ints, product.low, product.high)

-- and its prices are within the limit of the search for best bundles
pub pool_small : (e d : ℤ) (offers contracts : List Contract) → pos 0 ≤ℤ e → e ≤ℤ pos most_claimed_over → pos 0 ≤ℤ d
    → d ≤ℤ pos most_over
    → All (λ contract. IsAtMost contract.price most_number) offers
    → All (λ contract. IsAtMost contract.price most_numerator) contracts
    → All (λ contract. IsAtMost contract.price most_asked_price) (together e offers d contracts)
pool_small e d offers contracts e_least e_most d_least d_most small_offers small_contracts =
    All-append (λ contract. IsAtMost contract.price most_asked_price) (counted d offers) (counted e contracts)
    (counted_all (λ contract. IsAtMost contract.price most_asked_price)
    (λ contract. IsAtMost contract.price most_number) d offers
    (λ contract small. product_small d contract.price most_over most_number most_asked_price d_least d_most small
    (omega arith)) (all_at (λ contract. IsAtMost contract.price most_number) offers small_offers))
    (counted_all (λ contract. IsAtMost contract.price most_asked_price)
    (λ contract. IsAtMost contract.price most_numerator) e contracts
    (λ contract small. product_small e contract.price most_claimed_over most_numerator most_asked_price e_least e_most
    small (omega arith)) (all_at (λ contract. IsAtMost contract.price most_numerator) contracts small_contracts))
