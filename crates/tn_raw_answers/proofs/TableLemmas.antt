-- The search for a best bundle over all bundles of a table.
use Rattle.std.proofs.Common.{◌≡◌, ℕ, ◌+◌, ◌^◌, ◌<◌, ◌≤◌, ℤ, pos, ◌+ℤ◌, ◌*ℤ◌, ◌≤ℤ◌, Option, Some, None, IsSome, option_map, sym, ap, ◌∙◌, arith, rules, inl, inr, length}
use Rattle.std.proofs.lemmas.Int.{ints}
use Rattle.std.proofs.lemmas.Bool.{cases_eq}
use Rattle.tn_base.specs.Sets.{sum_over}
use Rattle.tn_base.specs.Firm.{payments, utility, IsBest}
use Rattle.tn_firm_laws.proofs.KeepLemmas.{option_map-some}
use Rattle.tn_exchange.specs.Rows.{TableRows, firm_of_table, worth_in}
use Rattle.tn_exchange.proofs.RowLemmas.{own_bundles, may_abstain}
use Rattle.tn_raw_answers.specs.declared.found.Found.{Found}
use Rattle.tn_raw_answers.specs.Stands.{Tries}

-- the bundle is possible with its value, and none below n has more
pub record IsBestBelow (value_of : ℕ → Option ℤ) (n : ℕ) (found : Found) : Type 0 where
  pub is : value_of found.bundle ≡ Some found.value
  pub most : (y : ℕ) (other : ℤ) → y < n → value_of y ≡ Some other → other ≤ℤ found.value

pub none_below : (value_of : ℕ → Option ℤ) (found : Found) → value_of found.bundle ≡ Some found.value
    → IsBestBelow value_of 0 found
none_below value_of found is = record { is = is; most = λ y other below there. absurd (omega (arith, below)) }

pub one_more : (value_of : ℕ → Option ℤ) (n : ℕ) (before after : Found) → IsBestBelow value_of n before
    → Tries value_of n before after → IsBestBelow value_of (n + 1) after
one_more value_of n before after best tries = record {
  is = tries.valued best.is;
  most = λ y other below there. elim (cases_eq y n) [
    | inl e ↦ tries.tried other (ap value_of (sym e) ∙ there)
    | inr d ↦ let less = best.most y other (omega (arith, below, d)) there in let kept = tries.kept in
        omega (arith, ints, less, kept)
  ];
}

-- no other bundle has a row
pub all_below : (table : TableRows) (prices : ℕ → ℤ) (n : ℕ) (found : Found) → 2 ^ length table.sides ≤ n
    → IsBestBelow (utility (pos 1) prices (firm_of_table table)) n found
    → IsBest (utility (pos 1) prices (firm_of_table table)) found.bundle found.value
all_below table prices n found end best = record {
  is = best.is;
  most = λ y other is.
      let worth = option_map-some (λ a. pos 1 *ℤ a +ℤ sum_over (payments (firm_of_table table).buys prices)
      (length table.sides) y) (worth_in table y) other is in
      best.most y other (let own = own_bundles table y worth.0 worth.1 in omega (arith, end, own)) is;
}

some_there : (o : Option ℤ) (z : ℤ) → o ≡ Some z → IsSome o
some_there (Some y) z is = search rules
some_there None z is = absurd (cc is)

-- the empty bundle is possible
pub empty_valued : (table : TableRows) (prices : ℕ → ℤ) (e : ℕ) → e ≡ 0
    → IsSome (utility (pos 1) prices (firm_of_table table) e)
empty_valued table prices e none =
    let abstains = may_abstain table in
    let is : utility (pos 1) prices (firm_of_table table) e
    ≡ Some (pos 1 *ℤ abstains.0 +ℤ sum_over (payments (firm_of_table table).buys prices) (length table.sides) e) =
    ap (option_map (λ a. pos 1 *ℤ a +ℤ sum_over (payments (firm_of_table table).buys prices) (length table.sides) e))
    (ap (worth_in table) none ∙ abstains.1) in
    some_there _ _ is
