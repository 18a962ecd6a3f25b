-- No contracts block an outcome that prices complete: its contracts are those of an equilibrium, in any order.
use Rattle.std.proofs.Common.{ℕ, ◌&&◌, Bool, ltb, List, length, refl, sym, ap₂, ◌∙◌, ℤ}
use Rattle.std.proofs.lemmas.Bool.{and_parts, lt-ltb}
use Rattle.tn_base.specs.Firm.{Firm}
use Rattle.tn_base.proofs.SetLemmas.{has-set_of}
use Rattle.tn_model.specs.declared.ends.Ends.{Ends}
use Rattle.tn_model.specs.declared.contract.Contract.{Contract}
use Rattle.tn_model.specs.Network.{IsNetwork}
use Rattle.tn_model.specs.Choices.{IsFeasible, IsStable}
use Rattle.tn_market.specs.Signed.{is_signed, signed, Completes}
use Rattle.tn_network_laws.proofs.PoolLemmas.{AreContractsOf}
use Rattle.tn_network_laws.proofs.BlockLemmas.{signed_is_stable}
use Rattle.tn_outcome_laws.proofs.SignedLemmas.{contract_on, signed_by}

-- a completed outcome has one contract for each signed trade, at the completing prices
completed_contracts : (firms : List Firm) (trades : List Ends) (over : ℤ) (contracts : List Contract) (prices : ℕ → ℤ)
    → IsFeasible trades contracts
    → Completes firms trades over contracts prices
    → AreContractsOf (length trades) (signed (length trades) contracts) prices contracts
completed_contracts firms trades over contracts prices feasible completes = record {
  signed = λ k contract is.
      let below = feasible.known k contract is in
      record {
        below = below;
        there = has-set_of (is_signed contracts) (length trades) contract.trade
            ∙ ap₂ (λ (a b : Bool). a && b) (lt-ltb contract.trade (length trades) below)
            (signed_by contracts k contract.trade contract is refl);
        price = sym (completes.agree k contract is);
      };
  found = λ t below there.
      let test = and_parts (ltb t (length trades)) (is_signed contracts t)
      (sym (has-set_of (is_signed contracts) (length trades) t) ∙ there) in
      let found = contract_on contracts t test.1 in
      (found.place, found.contract, found.is, found.trade);
  once = feasible.once;
}

pub completed_is_stable : (firms : List Firm) (trades : List Ends) (over : ℤ) (contracts : List Contract)
    (prices : ℕ → ℤ) → IsNetwork firms trades → IsFeasible trades contracts
    → Completes firms trades over contracts prices → IsStable firms trades over contracts
completed_is_stable firms trades over contracts prices network feasible completes =
    signed_is_stable firms trades over (signed (length trades) contracts) prices contracts network completes.equilibrium
    (completed_contracts firms trades over contracts prices feasible completes)
