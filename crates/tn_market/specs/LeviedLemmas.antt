-- What the impl for a firm under a levy needs: it is a firm that may be asked.
use Rattle.std.specs.Prelude.{◌≡◌, ℕ, ◌+◌, ◌*◌, ◌≤◌, ℤ, pos, negsuc, neg_ℤ, ◌+ℤ◌, ◌*ℤ◌, unsigned_abs, Bool, true, false, if◌then◌else◌, option_map}
use Rattle.std.proofs.Common.{ap, arith}
use Rattle.std.proofs.lemmas.Int.{ints}
use Rattle.std.proofs.lemmas.Nat.{mul-le}
use Rattle.tn_base.specs.Arcs.{IsAtMost}
use Rattle.tn_base.specs.Sets.{has, sum_over}
use Rattle.tn_base.specs.Firm.{Firm, HasOwnBundles, MayAbstain}
use Rattle.tn_base.specs.Exchange.{MeetsExchange}
use Rattle.tn_firm_laws.proofs.BoundLemmas.{small_abs, times_small, sum_over_small}
use Rattle.tn_firm_laws.proofs.KeepLemmas.{option_map-some, meets-plus_sum}
use Rattle.tn_market.specs.Valued.{ExchangesOne, ExchangesNet, IsWorthAtMost, meets_exchange}
use Rattle.tn_market.specs.Lawful.{IsLawful}
use Rattle.tn_market.specs.Levied.{levy, levied, levied_limit, IsLevy}

levied_meets : (scale tax : ℤ) (taxed limit : ℕ) (firm : Firm) → IsLevy scale tax limit → HasOwnBundles firm
    → ExchangesOne firm → ExchangesNet firm
    → HasOwnBundles (levied scale taxed tax firm) × MeetsExchange (levied scale taxed tax firm)
levied_meets scale tax taxed limit firm is own one net_count =
    let from_one = is.from_one in
    meets-plus_sum firm scale (levy taxed tax) (omega (arith, ints, from_one)) own (meets_exchange firm one net_count)

levied_abstains : (scale tax : ℤ) (taxed : ℕ) (firm : Firm) → MayAbstain firm → MayAbstain (levied scale taxed tax firm)
levied_abstains scale tax taxed firm abstains = (
  scale *ℤ abstains.0 +ℤ sum_over (levy taxed tax) firm.count 0,
  ap (option_map (λ a. scale *ℤ a +ℤ sum_over (levy taxed tax) firm.count 0)) abstains.1,
)

-- a tax is no more than itself
levy_small : (taxed : ℕ) (tax : ℤ) (k : ℕ) → IsAtMost (levy taxed tax k) (unsigned_abs tax)
levy_small taxed tax k = by_case (has taxed k) tax
  where
    by_case : (b : Bool) (z : ℤ) → IsAtMost (if b then neg_ℤ z else pos 0) (unsigned_abs z)
    by_case true (pos n) = record { low = omega (arith, ints); high = omega (arith, ints) }
    by_case true (negsuc n) = record { low = omega (arith, ints); high = omega (arith, ints) }
    by_case false (pos n) = record { low = omega (arith, ints); high = omega (arith, ints) }
    by_case false (negsuc n) = record { low = omega (arith, ints); high = omega (arith, ints) }

levied_within : (scale tax : ℤ) (taxed limit : ℕ) (firm : Firm) → firm.count ≤ 64 → IsWorthAtMost limit firm
    → IsWorthAtMost (levied_limit scale tax limit) (levied scale taxed tax firm)
levied_within scale tax taxed limit firm few within x a is =
    let worth = option_map-some (λ w. scale *ℤ w +ℤ sum_over (levy taxed tax) firm.count x) (firm.worth x) a is in
    let product =
    times_small scale worth.0 (unsigned_abs scale) limit (small_abs scale (unsigned_abs scale) (omega arith))
    (within x worth.0 worth.1) in
    let sum = sum_over_small (levy taxed tax) firm.count x (unsigned_abs tax) (λ k below. levy_small taxed tax k) in
    let most = mul-le firm.count (unsigned_abs tax) 64 (unsigned_abs tax) few (omega arith) in
    let value = worth.2 in
    together (scale *ℤ worth.0) (sum_over (levy taxed tax) firm.count x) a (unsigned_abs scale * limit)
    (firm.count * unsigned_abs tax) (64 * unsigned_abs tax) product sum most value
  where
    together : (p s a : ℤ) (m n n' : ℕ) → IsAtMost p m → IsAtMost s n → n ≤ n' → p +ℤ s ≡ a → IsAtMost a (m + n')
    together p s a m n n' product sum most value = record {
      low = omega (arith, ints, product.low, sum.low, most, value);
      high = omega (arith, ints, product.high, sum.high, most, value);
    }

-- the laws, where no worth is above `worth` in size, whatever limit the firm itself gives
pub levied_laws : (scale tax : ℤ) (taxed worth limit : ℕ) (firm : Firm) → IsLevy scale tax worth
    → IsWorthAtMost worth firm → IsLawful limit firm
    → IsLawful (levied_limit scale tax worth) (levied scale taxed tax firm)
levied_laws scale tax taxed worth limit firm is within laws =
    let meets = levied_meets scale tax taxed worth firm is laws.own_bundles laws.exchange_one laws.exchange_net in
    record {
      few_trades = laws.few_trades;
      own_purchases = laws.own_purchases;
      own_bundles = meets.0;
      empty_is_possible = levied_abstains scale tax taxed firm laws.empty_is_possible;
      exchange_one = meets.1.one;
      exchange_net = meets.1.net_count;
      within = levied_within scale tax taxed worth firm laws.few_trades within;
      small_limit = is.small;
    }
