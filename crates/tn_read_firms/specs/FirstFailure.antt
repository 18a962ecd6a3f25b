-- The first triple of a table that fails the exchange property: the first failing one in the order of the test, of all
-- or, for a table of more than 10 own trades, of those with close bundles. Whether one triple fails is decided, so that
-- it can be searched for.
use Rattle.std.specs.Prelude.{◌≡◌, ℕ, zero, suc, ◌^◌, ◌==◌, nat_le, length, Bool, ◌||◌, if◌then◌else◌, Option, Some, None}
use Rattle.std.proofs.Common.{inl, inr}
use Rattle.tn_base.specs.Exchange.{NoneFails}
use Rattle.tn_base.specs.Table.{buys_of}
use Rattle.tn_base.proofs.ExchangeLemmas.{IsDecided}
use Rattle.tn_exchange.specs.Rows.{TableRows, firm_of_table}
use Rattle.tn_exchange.specs.TestOrder.{Triple}
use Rattle.tn_firm_laws.specs.Close.{distance}
use Rattle.tn_local.specs.First.{IsFirstTriple, IsFullIfLarge}
use Rattle.tn_exchange.proofs.DecisionLemmas.{fails_or_not}

-- the first of two that is there
abbrev pub or_else : {A : Type 0} → Option A → Option A → Option A
or_else (Some a) other = Some a
or_else None other = other

-- what is found first when a number goes up from 0, and when it comes down to 0
abbrev pub first_below : {A : Type 0} → (ℕ → Option A) → ℕ → Option A
first_below find zero = None
first_below find (suc n) = or_else (first_below find n) (find n)

abbrev pub last_below : {A : Type 0} → (ℕ → Option A) → ℕ → Option A
last_below find zero = None
last_below find (suc n) = or_else (find n) (last_below find n)

abbrev pub if_decided : {P : Type 0} → IsDecided P → Triple → Option Triple
if_decided (inl fails) t = Some t
if_decided (inr holds) t = None

-- the triple, if it fails
abbrev pub failing : TableRows → ℕ → ℕ → Option ℕ → Option Triple
failing table x y at =
    if_decided (fails_or_not table (record { x = x; y = y; at = at })) (record { x = x; y = y; at = at })

-- positions go up, and none comes last
abbrev pub failing_at_pair : TableRows → ℕ → ℕ → Option Triple
failing_at_pair table x y =
    or_else (first_below (λ i. failing table x y (Some i)) (length table.sides)) (failing table x y None)

-- a pair of bundles of a table is looked at: any one where there are few own trades, and otherwise a close one
abbrev pub is_tested_pair : TableRows → ℕ → ℕ → Bool
is_tested_pair table x y = nat_le (length table.sides) 10 || (distance (buys_of table.sides) x y == 4)

abbrev pub failing_at_looked : TableRows → ℕ → ℕ → Option Triple
failing_at_looked table x y = if is_tested_pair table x y then failing_at_pair table x y else None

-- y goes up
abbrev pub failing_from : TableRows → ℕ → Option Triple
failing_from table x = first_below (failing_at_looked table x) (2 ^ length table.sides)

-- x comes down
unfoldable pub first_failure : TableRows → Option Triple
first_failure table = last_below (failing_from table) (2 ^ length table.sides)

-- the first failure is a table's first triple, and where there is none, no triple fails
pub record IsTheFirstFailure : Type 0 where
  pub found : (table : TableRows) (t : Triple) → IsFirstTriple (firm_of_table table) t → first_failure table ≡ Some t
  pub none : (table : TableRows) → NoneFails (firm_of_table table) → first_failure table ≡ None
  pub first : (table : TableRows) (t : Triple) → first_failure table ≡ Some t → IsFirstTriple (firm_of_table table) t
  pub holds : (table : TableRows) → IsFullIfLarge (firm_of_table table) → first_failure table ≡ None
      → NoneFails (firm_of_table table)
