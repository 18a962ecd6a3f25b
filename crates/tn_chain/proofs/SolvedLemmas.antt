-- What the solver finds in the residual market.
use Rattle.std.proofs.Common.{◌≡◌, ℕ, ◌+◌, ◌*◌, ◌<◌, ◌≤◌, true, false, List, length, map, slice_get, Some, refl, sym, ◌∙◌, subst, arith, inl, inr, ℤ, pos}
use Rattle.std.proofs.lemmas.Int.{ints}
use Rattle.std.proofs.lemmas.Nat.{mul-le}
use Rattle.std.proofs.lemmas.Bool.{cases_lt, true≢false}
use Rattle.tn_base.specs.Sets.{has, size}
use Rattle.tn_base.specs.Firm.{Firm, HasOwnBundles}
use Rattle.tn_model.specs.declared.ends.Ends.{Ends}
use Rattle.tn_model.specs.declared.contract.Contract.{Contract}
use Rattle.tn_model.specs.Network.{IsNetwork}
use Rattle.tn_model.specs.Prices.{price_at}
use Rattle.tn_model.specs.Choices.{IsFeasible}
use Rattle.tn_market.specs.Limits.{AreWorthsWithin}
use Rattle.tn_market.specs.Traded.{Traded}
use Rattle.tn_market.specs.Valued.{IsWorthAtMost}
use Rattle.tn_network_laws.proofs.EachLemmas.{each_within}
use Rattle.tn_flow.specs.Solved.{Solution, IsSolution, AreSmallPrices}
use Rattle.tn_residual.specs.Residual.{residual_limit, unsigned}
use Rattle.tn_residual.proofs.TradeLemmas.{free_count}
use Rattle.tn_residual.proofs.PositionLemmas.{Setting, made, parties}
use Rattle.tn_chain.specs.Numbers.{AreNumbers, AreNumbersUpTo}
use Rattle.tn_chain.specs.Search.{chain_scale, IsResidual, IsSolvedAmong}
use Rattle.tn_chain.proofs.SeenLemmas.{seen}
use Rattle.tn_chain.proofs.NumberLemmas.{numbers_admit, numbers_all, unsigned_size}
use Rattle.tn_chain.proofs.SizeLemmas.{price_small}

pub free_is : (trades : List Ends) (contracts : List Contract) (free : ℕ)
    → free ≡ size (unsigned (length trades) contracts) → free ≡ free_count trades contracts
free_is trades contracts free is = is ∙ unsigned_size contracts (length trades) ∙ numbers_all contracts 0 trades

-- what is admitted is one of the trades
pub admitted_below : (contracts : List Contract) (set n numbers from to all : ℕ) → AreNumbers contracts set n numbers
    → AreNumbersUpTo numbers from to all → from ≤ to
    → ((s : ℕ) → from ≤ s → has numbers s ≡ false) → (t : ℕ) → has all t ≡ true → t < to
admitted_below contracts set n numbers from to all are up order none t there = elim (cases_lt t to) [
  | inl below ↦ below
  | inr past ↦ absurd (true≢false (sym there ∙ up.none t (omega (arith, order, past)) past))
]

pub solved_among : {P : Type 0} (firm_of : P → Firm) (limit_of : P
    → ℕ) (firms : List Firm) (trades : List Ends) (over : ℤ) (contracts : List Contract) (residual : Traded P)
    (allowed free numbers all : ℕ) (solution : Solution) → IsNetwork firms trades → IsFeasible trades contracts
    → ((f : ℕ) (firm : Firm) → slice_get firms f ≡ Some firm → HasOwnBundles firm)
    → IsResidual firm_of limit_of firms trades over contracts residual
    → ((party : P) → IsWorthAtMost (limit_of party) (firm_of party))
    → free ≡ size (unsigned (length trades) contracts) → AreNumbers contracts allowed (length trades) numbers
    → AreNumbersUpTo numbers free (length residual.trades) all
    → IsSolution (map firm_of residual.firms) residual.trades all solution
    → ((bound : ℕ) → AreWorthsWithin bound (map firm_of residual.firms)
    → AreSmallPrices (2 * bound * length residual.trades) solution.prices)
    → IsSolvedAmong firms trades over contracts allowed solution
solved_among firm_of limit_of firms trades over contracts residual allowed free numbers all solution network feasible
    own_bundles is_residual lawful free_size are up is_solution within =
    let z : Setting = record {
      firms = firms;
      trades = trades;
      over = over;
      contracts = contracts;
      scale = chain_scale (length trades) contracts;
      tax = pos 1;
      network = network;
      feasible = feasible;
      own_bundles = own_bundles;
    } in
    let first = subst (λ (fs : List Firm). IsSolution fs residual.trades all solution) is_residual.parties is_solution
    in
    let second : IsSolution (parties z) (made z) all solution =
    subst (λ (ts : List Ends). IsSolution (parties z) ts all solution) is_residual.ends first in
    let halves : AreNumbersUpTo numbers (free_count trades contracts) (length (made z)) all =
    subst (λ (n : ℕ). AreNumbersUpTo numbers n (length (made z)) all) (free_is trades contracts free free_size)
    (subst (λ (ts : List Ends). AreNumbersUpTo numbers free (length ts) all) is_residual.ends up) in
    let limit = residual_limit (length trades) over (chain_scale (length trades) contracts) in
    let product =
    mul-le (2 * limit) (length residual.trades) (2 * limit) (length residual.trades + 1) (omega arith) (omega arith)
    in
    let small = is_residual.small in
    record {
      taxed = seen z refl (omega (arith, ints)) allowed all solution.on (price_at solution.prices)
          (numbers_admit z allowed numbers all are halves) second.inside second.equilibrium;
      sized = second.one_each;
      small = price_small solution.prices (2 * limit * length residual.trades) (within limit
          (each_within firm_of limit_of residual.firms lawful limit is_residual.limits))
          (omega (arith, product, small));
    }
