-- The contracts that a firm takes whatever it chooses, by greatest utilities.
use Rattle.std.specs.Prelude.{◌≡◌, ◌≢◌, ℕ, ◌<◌, ℤ, ◌≤ℤ◌, List, slice_get, Bool, true, false, Option, Some, None}
use Rattle.tn_base.specs.Sets.{has}
use Rattle.tn_base.specs.Firm.{Firm}
use Rattle.tn_model.specs.declared.contract.Contract.{Contract}
use Rattle.tn_model.specs.declared.contract.Outcome.{Outcome}
use Rattle.tn_model.specs.declared.ends.Ends.{Ends}
use Rattle.tn_model.specs.Choices.{is_of, part_utility, IsPart, IsChoice}
use Rattle.tn_cert.specs.Reasons.{IsContractOf, NoneIsSigned, IsFirstSigned, IsInEveryChoice, IsFirstToLeave}

-- a part lacks the contract that is left out
abbrev pub LeavesOut : Option ℕ → ℕ → Type 0
LeavesOut left_out x = (k : ℕ) → has x k ≡ true → left_out ≢ Some k

-- firm f has this utility by a part without the contract that is left out, and by no such part more
pub record IsGreatest (trades : List Ends) (scale : ℤ) (f : ℕ) (firm : Firm) (contracts : List Contract)
    (left_out : Option ℕ) (value : ℤ) : Type 0 where
  pub part : ℕ
  pub signs : IsPart trades f contracts part
  pub avoids : LeavesOut left_out part
  pub is : part_utility trades scale f firm contracts part ≡ Some value
  pub most : (y : ℕ) (other : ℤ) → IsPart trades f contracts y → LeavesOut left_out y
      → part_utility trades scale f firm contracts y ≡ Some other → other ≤ℤ value

-- some choice of firm f lacks the contract with index k
pub record MayLeave (trades : List Ends) (scale : ℤ) (f : ℕ) (firm : Firm) (contracts : List Contract) (k : ℕ) : Type
    0 where
  pub choice : ℕ
  pub chosen : IsChoice trades scale f firm contracts choice
  pub without : has choice k ≡ false

-- whether some choice lacks it, or each one has it
abbrev pub DecidesLeave : List Ends → ℤ → ℕ → Firm → List Contract → ℕ → Bool → Type 0
DecidesLeave trades scale f firm contracts k true = MayLeave trades scale f firm contracts k
DecidesLeave trades scale f firm contracts k false = (x : ℕ) → IsChoice trades scale f firm contracts x → has x k ≡ true

-- whether it is one of firm f that some choice lacks, or not
abbrev pub DecidesOwn : List Ends → ℤ → ℕ → Firm → List Contract → ℕ → Bool → Type 0
DecidesOwn trades scale f firm contracts k true = (contract : Contract) × (slice_get contracts k ≡ Some contract)
    × (is_of trades f contract ≡ true) × MayLeave trades scale f firm contracts k
DecidesOwn trades scale f firm contracts k false = (contract : Contract) → slice_get contracts k ≡ Some contract
    → is_of trades f contract ≡ true
    → DecidesLeave trades scale f firm contracts k false

-- the first n contracts of the list: t is the first trade of those of firm f that some choice of it lacks
pub record IsFirstLeft (trades : List Ends) (scale : ℤ) (f : ℕ) (firm : Firm) (contracts : List Contract)
    (n t : ℕ) : Type 0 where
  pub at : ℕ
  pub below : at < n
  pub contract : Contract
  pub is : slice_get contracts at ≡ Some contract
  pub trade : contract.trade ≡ t
  pub own : is_of trades f contract ≡ true
  pub left : MayLeave trades scale f firm contracts at
  pub earlier : (k : ℕ) (other : Contract) → k < n → slice_get contracts k ≡ Some other → is_of trades f other ≡ true
      → other.trade < t
      → DecidesLeave trades scale f firm contracts k false

-- such a trade, none where each choice has each of these contracts of the firm
abbrev pub FindsLeft : List Ends → ℤ → ℕ → Firm → List Contract → ℕ → Option ℕ → Type 0
FindsLeft trades scale f firm contracts n (Some t) = IsFirstLeft trades scale f firm contracts n t
FindsLeft trades scale f firm contracts n None = (k : ℕ) (contract : Contract) → k < n
    → slice_get contracts k ≡ Some contract → is_of trades f contract ≡ true
    → DecidesLeave trades scale f firm contracts k false

-- whether two numbers are equal
abbrev pub DecidesEqual : ℤ → ℤ → Bool → Type 0
DecidesEqual a b true = a ≡ b
DecidesEqual a b false = a ≢ b

-- no two contracts are on one trade
abbrev pub HaveTradesOnce : List Contract → Type 0
HaveTradesOnce contracts = (j k : ℕ) (one other : Contract) → slice_get contracts j ≡ Some one
    → slice_get contracts k ≡ Some other → one.trade ≡ other.trade → j ≡ k

-- whether an offer over e is one of the outcome's contracts
abbrev pub DecidesContract : Outcome → ℤ → Contract → Bool → Type 0
DecidesContract outcome e offer true = IsContractOf outcome e offer
DecidesContract outcome e offer false = IsContractOf outcome e offer → ⊥

-- the first trade of the offers that are the outcome's contracts, none where none is
abbrev pub FindsSigned : Outcome → ℤ → List Contract → Option ℕ → Type 0
FindsSigned outcome e offers None = NoneIsSigned outcome e offers
FindsSigned outcome e offers (Some t) = IsFirstSigned outcome e offers t

-- the first firm with an own offer that some choice of it lacks, and the first trade of these; none where each choice
-- of each firm has each offer of it
abbrev pub FindsLeaver : List Firm → List Ends → Outcome → ℤ → List Contract → Option (ℕ × ℕ) → Type 0
FindsLeaver firms trades outcome e offers (Some found) = IsFirstToLeave firms trades outcome e offers found.0 found.1
FindsLeaver firms trades outcome e offers None = (f : ℕ) (firm : Firm) (k : ℕ) (offer : Contract)
    → slice_get firms f ≡ Some firm → slice_get offers k ≡ Some offer
    → is_of trades f offer ≡ true → IsInEveryChoice trades outcome e offers f firm k
