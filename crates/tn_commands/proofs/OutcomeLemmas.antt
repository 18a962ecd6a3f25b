-- The numbers of a verdict on an outcome fit an answer.
use Rattle.std.proofs.Common.{◌*◌, ◌≡◌, ℕ, ◌≤◌, ℤ, pos, neg_ℤ, ◌+ℤ◌, ◌-ℤ◌, ◌*ℤ◌, Bool, true, false, if◌then◌else◌, ◌==◌, List, length, map, refl, sym, ap, ◌∙◌, subst, arith}
use Rattle.std.specs.Prelude.{Option, Some, None, option_map, unwrap_or, slice_get, get_or, All, IfSome}
use Rattle.std.proofs.lemmas.Int.{ints}
use Rattle.std.proofs.lemmas.Option.{slice_get_within, slice_get-get_or, get_or_from_slice_get}
use Rattle.std.proofs.lemmas.List.Elements.{All-get_or}
use Rattle.tn_base.specs.Arcs.{IsAtMost}
use Rattle.tn_base.specs.Firm.{Firm}
use Rattle.tn_base.specs.Sets.{sum_over}
use Rattle.tn_chain.proofs.SizeLemmas.{scale_bound}
use Rattle.tn_firm.specs.declared.value.FirmValue.{FirmValue}
use Rattle.tn_firm.specs.Firms.{firm_of}
use Rattle.tn_firm.specs.FirmLemmas.{firm_laws}
use Rattle.tn_judge.specs.Judges.{IsBlockedBy}
use Rattle.tn_judge.specs.Verdict.{IsFirstDrop}
use Rattle.tn_firm_laws.proofs.BoundLemmas.{times_small, sum_over_small}
use Rattle.tn_firm_laws.proofs.KeepLemmas.{option_map-some}
use Rattle.tn_model.specs.declared.contract.Contract.{Contract}
use Rattle.tn_model.specs.declared.ends.Ends.{Ends}
use Rattle.tn_model.specs.Choices.{bundle_by, own_part, paid_by, paid_to, part_utility, payment}
use Rattle.tn_market.specs.Limits.{IsOutcomeOf}
use Rattle.tn_model.specs.Network.{trades_of}
use Rattle.tn_market.specs.Valued.{IsWorthAtMost}
use Rattle.tn_residual.proofs.MakingLemmas.{contracts_few}
use Rattle.tn_commands.specs.Limits.{most_answered_trades}
use Rattle.tn_model.specs.Limits.{most_number, most_numerator, most_over, most_price}
use Rattle.tn_market.specs.Widths.{most_worth}
use Rattle.tn_commands.proofs.CheckLemmas.{value_at}

none_small : (limit : ℕ) → IsAtMost (pos 0) limit
none_small limit = record { low = omega (arith, ints); high = omega (arith, ints) }

minus_small : (z : ℤ) (limit : ℕ) → IsAtMost z limit → IsAtMost (neg_ℤ z) limit
minus_small z limit small = record { low = omega (arith, ints, small.high); high = omega (arith, ints, small.low) }

if_small : (b : Bool) (y z : ℤ) (limit : ℕ) → IsAtMost y limit → IsAtMost z limit → IsAtMost (if b then y else z) limit
if_small true y z limit small_y small_z = small_y
if_small false y z limit small_y small_z = small_z

paid_small : (f : ℕ) (price : ℤ) (limit : ℕ) → IsAtMost price limit → (o : Option Ends)
    → IsAtMost (unwrap_or (option_map (paid_to f price) o) (pos 0)) limit
paid_small f price limit small None = none_small limit
paid_small f price limit small (Some trade) =
    if_small (trade.seller == f) price (if trade.buyer == f then neg_ℤ price else pos 0) limit small
    (if_small (trade.buyer == f) (neg_ℤ price) (pos 0) limit (minus_small price limit small) (none_small limit))

contract_small : (contracts : List Contract) (limit k : ℕ) (contract : Contract)
    → All (λ contract. IsAtMost contract.price limit) contracts → slice_get contracts k ≡ Some contract
    → IsAtMost contract.price limit
contract_small contracts limit k contract small e =
    subst (λ (c : Contract). IsAtMost c.price limit) (get_or_from_slice_get contracts k contract contract e)
    (All-get_or (λ (c : Contract). IsAtMost c.price limit) contracts k contract
    (slice_get_within contracts k contract e) small)

payment_small : (trades : List Ends) (f : ℕ) (contracts : List Contract) (limit k : ℕ)
    → All (λ contract. IsAtMost contract.price limit) contracts → IsAtMost (payment trades f contracts k) limit
payment_small trades f contracts limit k small = by (slice_get contracts k) refl
  where
    by : (o : Option Contract) → slice_get contracts k ≡ o
        → IsAtMost (unwrap_or (option_map (paid_by trades f) o) (pos 0)) limit
    by None e = none_small limit
    by (Some contract) e =
        paid_small f contract.price limit (contract_small contracts limit k contract small e)
        (slice_get trades contract.trade)

-- the utility of a part of an outcome's contracts
part_small : (trades : List Ends) (over : ℤ) (f : ℕ) (firm : Firm) (contracts : List Contract) (x : ℕ) (value : ℤ)
    → IsOutcomeOf trades over contracts → length trades ≤ most_answered_trades → IsWorthAtMost most_worth firm
    → part_utility trades over f firm contracts x ≡ Some value → IsAtMost value (2 * most_price)
part_small trades over f firm contracts x value outcome few worths is =
    let worth = option_map-some (λ a. over *ℤ a +ℤ sum_over (payment trades f contracts) (length contracts) x)
    (firm.worth (bundle_by trades f firm.count contracts x)) value is in
    let least = outcome.least in
    let most = outcome.most in
    let scaled =
    times_small over worth.0 most_over most_worth (record {
      low = omega (arith, ints, least);
      high =
          omega (arith, ints, most);
    }) (worths (bundle_by trades f firm.count contracts x) worth.0 worth.1) in
    let paid = sum_over_small (payment trades f contracts) (length contracts) x most_numerator
    (λ k below. payment_small trades f contracts most_numerator k outcome.contracts.small) in
    let count = contracts_few trades over contracts outcome in
    let total = worth.2 in
    record {
      low = omega (arith, ints, total, count, few, scaled.low, paid.low);
      high = omega (arith, ints, total, count, few, scaled.high, paid.high);
    }

-- what a firm gains by dropping contracts
pub drop_small : (firms : List FirmValue) (trades : List Ends) (over : ℤ) (contracts : List Contract) (f x : ℕ)
    (gain : Option ℤ) → IsOutcomeOf trades over contracts → length trades ≤ most_answered_trades
    → IsFirstDrop (map firm_of firms) trades over contracts f x gain → IfSome gain (λ z. IsAtMost z most_number)
drop_small firms trades over contracts f x gain outcome few first =
    let there = value_at firms f first.firm first.is in
    let worths : IsWorthAtMost most_worth first.firm =
    subst (IsWorthAtMost most_worth) there.2 (firm_laws there.0).within in
    let kept = part_small trades over f first.firm contracts first.drops.kept first.drops.choice.value outcome few
    worths first.drops.choice.is in
    subst (λ (o : Option ℤ). IfSome o (λ z. IsAtMost z most_number)) (sym first.drops.gains)
    (by kept (λ own is. part_small trades over f first.firm contracts (own_part trades f contracts) own outcome few
    worths is) (part_utility trades over f first.firm contracts (own_part trades f contracts)) refl)
  where
    by : {value : ℤ} {own : Option ℤ} → IsAtMost value (2 * most_price)
        → ((z : ℤ) → own ≡ Some z → IsAtMost z (2 * most_price))
        → (o : Option ℤ) → own ≡ o → IfSome (option_map (λ z. value -ℤ z) o) (λ z. IsAtMost z most_number)
    by kept all None e = tt
    by kept all (Some z) e = let own = all z e in record {
      low = omega (arith, ints, kept.low, own.high);
      high =
          omega (arith, ints, kept.high, own.low);
    }

-- what it keeps, as trades
pub drop_keeps : (firms : List FirmValue) (trades : List Ends) (over : ℤ) (contracts : List Contract) (f x : ℕ)
    (gain : Option ℤ) (keeps : List ℕ)
    → (first : IsFirstDrop (map firm_of firms) trades over contracts f x gain)
    → ((value : FirmValue) → slice_get firms f ≡ Some value → keeps ≡ trades_of trades f (firm_of value).count x)
    → keeps ≡ trades_of trades f first.firm.count x
drop_keeps firms trades over contracts f x gain keeps first are =
    let there = value_at firms f first.firm first.is in
    are there.0 there.1 ∙ ap (λ (firm : Firm). trades_of trades f firm.count x) there.2

-- the denominator of contracts that block, and their prices
pub blocking_over_small : (firms : List Firm) (trades : List Ends) (over : ℤ) (contracts offers : List Contract)
    (told : ℤ) → IsOutcomeOf trades over contracts → length trades ≤ most_answered_trades
    → IsBlockedBy firms trades over contracts offers told → IsAtMost told most_number
blocking_over_small firms trades over contracts offers told outcome few blocked =
    let small = scale_bound over (length trades) contracts few outcome.least outcome.most in
    let same = blocked.over_is in
    record { low = omega (arith, ints, same, small.low); high = omega (arith, ints, same, small.high) }

pub blocking_prices_small : (firms : List Firm) (trades : List Ends) (over : ℤ) (contracts offers : List Contract)
    (told : ℤ) → IsBlockedBy firms trades over contracts offers told
    → All (λ offer. IsAtMost offer.price most_number) offers
blocking_prices_small firms trades over contracts offers told blocked k d below =
    let small = blocked.chain.small k (get_or offers k d) (slice_get-get_or offers k d below) in
    record { low = omega (arith, ints, small.low); high = omega (arith, ints, small.high) }
