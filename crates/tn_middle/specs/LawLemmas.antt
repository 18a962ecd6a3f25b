-- The laws of a middleman.
use Rattle.std.proofs.Common.{◌≡◌, ℕ, ◌+◌, ◌*◌, ◌^◌, ◌<◌, not, ◌&&◌, sym, ap, ◌∙◌, arith, if◌then◌else◌, List, Option, Some, None, ℤ, pos}
use Rattle.std.proofs.lemmas.Nat.{pow_pos}
use Rattle.std.proofs.lemmas.Bool.{lt-ltb}
use Rattle.tn_base.specs.Sets.{has, meet, minus, size, sum_over}
use Rattle.tn_base.specs.Firm.{payments}
use Rattle.tn_base.proofs.SetLemmas.{same_set, has-meet, has-minus, has-zero}
use Rattle.tn_base.proofs.SizeLemmas.{size-zero}
use Rattle.tn_market.specs.Valued.{IsWorthAtMost}
use Rattle.tn_market.specs.Lawful.{IsLawful}
use Rattle.tn_market.proofs.AscentLemmas.{smaller}
use Rattle.tn_middle.specs.declared.middle.Middle.{Middle}
use Rattle.tn_middle.specs.Firms.{firm_of}
use Rattle.tn_middle.specs.Pairs.{IsMiddle, by_counts, pair_worth, pairing}
use Rattle.tn_market.specs.OwnNumbers.{own_number}
use Rattle.tn_middle.specs.SetLemmas.{meets}
use Rattle.tn_middle.specs.WithinLemmas.{pairing_within}
use Rattle.tn_base.specs.Widths.{most_amount}
use Rattle.tn_market.specs.Widths.{most_worth}

pub meet-none : (q : ℕ) → meet 0 q ≡ 0
meet-none q = same_set (meet 0 q) 0 (λ k. has-meet 0 q k ∙ ap (λ b. b && has q k) (has-zero k) ∙ sym (has-zero k))

pub minus-none : (q : ℕ) → minus 0 q ≡ 0
minus-none q =
    same_set (minus 0 q) 0 (λ k. has-minus 0 q k ∙ ap (λ b. b && not (has q k)) (has-zero k) ∙ sym (has-zero k))

-- the empty bundle is worth 0
pub pairing-empty : (count buys : ℕ) (numbers : List ℤ) (keep : Option ℤ)
    → pair_worth count buys numbers keep 0 ≡ Some (pos 0)
pairing-empty count buys numbers keep =
    let own : 0 < 2 ^ count = pow_pos count in
    ap (λ b. if b
    then by_counts (size (meet 0 buys)) (size (minus 0 buys)) keep
    (sum_over (payments buys (own_number numbers)) count 0) else None) (lt-ltb 0 (2 ^ count) own)
    ∙ ap (λ (p : ℕ). by_counts p (size (minus 0 buys)) keep (sum_over (payments buys (own_number numbers)) count 0))
    (ap size (meet-none buys) ∙ size-zero)
    ∙ ap (λ (s : ℕ). by_counts 0 s keep (sum_over (payments buys (own_number numbers)) count 0))
    (ap size (minus-none buys) ∙ size-zero)

within_of : (count buys : ℕ) (numbers : List ℤ) (keep : Option ℤ) → IsMiddle count buys numbers keep
    → IsWorthAtMost most_worth (pairing count buys numbers keep)
within_of count buys numbers keep is x a worth_is =
    let few = is.few in
    smaller a ((count + 1) * most_amount) most_worth (omega (arith, few))
    (pairing_within count buys numbers keep most_amount is.as_many is.small is.small_keep x a worth_is)

-- a middleman is a firm that may be asked, and no worth of it is above (60 + 64) * 10^9
pub middle_laws : (firm : Middle) → IsLawful most_worth (firm_of firm)
middle_laws firm =
    let few = firm.middle.few in
    let exchange = meets firm.trades firm.buys firm.numbers.items firm.keep firm.middle.bought in
    record {
      few_trades = omega (arith, few);
      own_purchases = firm.middle.bought;
      own_bundles = exchange.0;
      empty_is_possible = (pos 0, pairing-empty firm.trades firm.buys firm.numbers.items firm.keep);
      exchange_one = exchange.1.one;
      exchange_net = exchange.1.net_count;
      within = within_of firm.trades firm.buys firm.numbers.items firm.keep firm.middle;
      small_limit = omega arith;
    }
