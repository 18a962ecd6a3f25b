-- Contracts: trades at prices, each price a numerator over the denominator of its list. A part of a list is the set of
-- the indices of its contracts (choices and blocking sets: Hatfield, Kominers, Nichifor, Ostrovsky and Westkamp, 2013).
use Rattle.std.specs.Prelude.{◌≡◌, ℕ, zero, suc, ◌^◌, ◌<◌, ℤ, pos, neg_ℤ, ◌+ℤ◌, ◌*ℤ◌, ◌≤ℤ◌, List, [], ◌∷◌, ◌++◌, length, map, slice_get, Bool, true, false, ◌==◌, ◌&&◌, ◌||◌, if◌then◌else◌, Option, Some, option_map, unwrap_or}
use Rattle.tn_base.specs.Sets.{has, set_of, sum_over}
use Rattle.tn_base.specs.Firm.{Firm}
use Rattle.tn_model.specs.declared.ends.Ends.{Ends}
use Rattle.tn_model.specs.declared.contract.Contract.{Contract}
use Rattle.tn_model.specs.Network.{own}

-- whether firm f is one of the two ends
abbrev pub is_end : ℕ → Ends → Bool
is_end f trade = trade.seller == f || trade.buyer == f

-- whether a contract is one of firm f
abbrev pub is_of : List Ends → ℕ → Contract → Bool
is_of trades f contract = unwrap_or (option_map (is_end f) (slice_get trades contract.trade)) false

-- what firm f gets by a contract: the seller is paid, the buyer pays
abbrev pub paid_to : ℕ → ℤ → Ends → ℤ
paid_to f price trade = if trade.seller == f then price else (if trade.buyer == f then neg_ℤ price else pos 0)

abbrev pub paid_by : List Ends → ℕ → Contract → ℤ
paid_by trades f contract = unwrap_or (option_map (paid_to f contract.price) (slice_get trades contract.trade)) (pos 0)

-- what firm f gets by the contract with an index of the list
abbrev pub payment : List Ends → ℕ → List Contract → ℕ → ℤ
payment trades f contracts k = unwrap_or (option_map (paid_by trades f) (slice_get contracts k)) (pos 0)

-- whether one of the first n contracts is in the part x and on trade t
abbrev pub is_traded : List Contract → ℕ → ℕ → ℕ → Bool
is_traded contracts x t zero = false
is_traded contracts x t (suc n) =
    (has x n && unwrap_or (option_map (λ contract. contract.trade == t) (slice_get contracts n)) false)
    || is_traded contracts x t n

-- the bundle that firm f of n own trades has by a part of the list
abbrev pub bundle_by : List Ends → ℕ → ℕ → List Contract → ℕ → ℕ
bundle_by trades f n contracts x = set_of (λ k. is_traded contracts x (own trades f k) (length contracts)) n

-- the utility that firm f has by a part, at a scale and the prices of the contracts
abbrev pub part_utility : List Ends → ℤ → ℕ → Firm → List Contract → ℕ → Option ℤ
part_utility trades scale f firm contracts x =
    option_map (λ worth. scale *ℤ worth +ℤ sum_over (payment trades f contracts) (length contracts) x)
    (firm.worth (bundle_by trades f firm.count contracts x))

-- contracts that can be signed together: each on a trade of the network, and no two on one
pub record IsFeasible (trades : List Ends) (contracts : List Contract) : Type 0 where
  pub known : (k : ℕ) (contract : Contract) → slice_get contracts k ≡ Some contract → contract.trade < length trades
  pub once : (j k : ℕ) (one other : Contract) → slice_get contracts j ≡ Some one → slice_get contracts k ≡ Some other
      → one.trade ≡ other.trade → j ≡ k

-- a part that firm f can sign: contracts of its own, and no two on one trade
pub record IsPart (trades : List Ends) (f : ℕ) (contracts : List Contract) (x : ℕ) : Type 0 where
  pub within : x < 2 ^ length contracts
  pub own : (k : ℕ) (contract : Contract) → slice_get contracts k ≡ Some contract → has x k ≡ true
      → is_of trades f contract ≡ true
  pub once : (j k : ℕ) (one other : Contract) → slice_get contracts j ≡ Some one → slice_get contracts k ≡ Some other
      → has x j ≡ true → has x k ≡ true → one.trade ≡ other.trade → j ≡ k

-- a choice of firm f from a list: a part that it can sign, of greatest utility among these
pub record IsChoice (trades : List Ends) (scale : ℤ) (f : ℕ) (firm : Firm) (contracts : List Contract) (x : ℕ) : Type
    0 where
  pub part : IsPart trades f contracts x
  pub value : ℤ
  pub is : part_utility trades scale f firm contracts x ≡ Some value
  pub most : (y : ℕ) (other : ℤ) → IsPart trades f contracts y
      → part_utility trades scale f firm contracts y ≡ Some other → other ≤ℤ value

-- all contracts of firm f in a list
abbrev pub own_part : List Ends → ℕ → List Contract → ℕ
own_part trades f contracts =
    set_of (λ k. unwrap_or (option_map (is_of trades f) (slice_get contracts k)) false) (length contracts)

-- individually rational: no firm would rather drop some of its contracts
abbrev pub IsIndividuallyRational : List Firm → List Ends → ℤ → List Contract → Type 0
IsIndividuallyRational firms trades over contracts = (f : ℕ) (firm : Firm) → slice_get firms f ≡ Some firm
    → IsChoice trades over f firm contracts (own_part trades f contracts)

-- the contracts with all prices counted that many times
abbrev pub counted : ℤ → List Contract → List Contract
counted times contracts = map (λ contract. record { trade = contract.trade; price = times *ℤ contract.price }) contracts

-- contracts over e, and after them those of an outcome over d, all over the product of the two
abbrev pub together : ℤ → List Contract → ℤ → List Contract → List Contract
together e offers d outcome = counted d offers ++ counted e outcome

-- offers over e block an outcome over d: there is one, they can be signed together, none is a contract of the outcome,
-- and each firm, whatever it chooses from the offers and the outcome together, takes all offers that are its own
pub record Blocks (firms : List Firm) (trades : List Ends) (d : ℤ) (outcome : List Contract) (e : ℤ)
    (offers : List Contract) : Type 0 where
  pub some : 0 < length offers
  pub feasible : IsFeasible trades offers
  pub unsigned : (j k : ℕ) (offer signed : Contract) → slice_get offers j ≡ Some offer
      → slice_get outcome k ≡ Some signed
      → offer.trade ≡ signed.trade → offer.price *ℤ d ≡ signed.price *ℤ e → ⊥
  pub chosen : (f : ℕ) (firm : Firm) (x : ℕ) → slice_get firms f ≡ Some firm
      → IsChoice trades (d *ℤ e) f firm (together e offers d outcome) x
      → (k : ℕ) (offer : Contract) → slice_get offers k ≡ Some offer → is_of trades f offer ≡ true → has x k ≡ true

-- stable: no contracts over any denominator block the outcome over d
abbrev pub IsStable : List Firm → List Ends → ℤ → List Contract → Type 0
IsStable firms trades d outcome = (e : ℤ) (offers : List Contract) → pos 1 ≤ℤ e → Blocks firms trades d outcome e offers
    → ⊥

-- the outcome of an arrangement: its trades below n at their prices, ascending
abbrev pub contracts_of : ℕ → (ℕ → ℤ) → ℕ → List Contract
contracts_of on prices zero = []
contracts_of on prices (suc n) = contracts_of on prices n ++ (if has on n
    then record { trade = n; price = prices n } ∷ [] else [])
