-- Chains of contracts (Hatfield, Kominers, Nichifor, Ostrovsky and Westkamp, 2021).
use Rattle.std.specs.Prelude.{◌≡◌, ℕ, ◌+◌, List, slice_get, Some}
use Rattle.tn_model.specs.declared.ends.Ends.{Ends}
use Rattle.tn_model.specs.declared.contract.Contract.{Contract}

-- contracts are a chain in the listed order: the buyer of each is the seller of the next one
abbrev pub IsChain : List Ends → List Contract → Type 0
IsChain trades contracts = (k : ℕ) (one next : Contract) (first second : Ends) → slice_get contracts k ≡ Some one
    → slice_get contracts (k + 1) ≡ Some next
    → slice_get trades one.trade ≡ Some first → slice_get trades next.trade ≡ Some second → first.buyer ≡ second.seller
