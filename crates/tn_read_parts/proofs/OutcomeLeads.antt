-- What the outcome is that reading gives.
use Rattle.std.proofs.Common.{◌≡◌, ℕ, ◌&&◌, true, ℤ, pos, ◌≤ℤ◌, List, length, Option, Some, arith}
use Rattle.std.specs.Prelude.{codes, get_or, int_le}
use Rattle.std.proofs.lemmas.Bool.{and_parts}
use Rattle.std.proofs.lemmas.Int.{ints}
use Rattle.serde_json.specs.Data.{Data, Items}
use Rattle.serde_json.specs.Find.{get}
use Rattle.tn_said.specs.declared.fault.FaultKind.TheVariants.{Shape, BadOver}
use Rattle.tn_said.specs.declared.place.PlaceStep.{PlaceStep}
use Rattle.tn_model.specs.Prices.{price_at}
use Rattle.tn_model.specs.Choices.{contracts_of}
use Rattle.tn_model.specs.Limits.{AreLimits, most_numerator}
use Rattle.tn_model.specs.OutcomeLimits.{AreContractsWithin, IsOutcomeWithin}
use Rattle.tn_model.proofs.ContractLemmas.{contracts_within}
use Rattle.tn_read_shapes.specs.declared.members.ObjectKind.TheVariants.{Outcome as OutcomeObject}
use Rattle.tn_read_shapes.specs.Reading.{wanted, holds}
use Rattle.tn_read_shapes.specs.Shapes.{list_at, object_of, whole_at}
use Rattle.tn_read_shapes.proofs.LeadLemmas.{Leads, leads_ok, leads_bind, leads_after, leads_holds}
use Rattle.tn_read_references.specs.Ordered.{Listed}
use Rattle.tn_read_references.proofs.EntryLeads.{AreNumbers, within_more}
use Rattle.tn_read_parts.specs.Lists.{named_prices, contracts_at}
use Rattle.tn_read_parts.specs.Signed.{outcome_place, over_place, contracts_place, over_at, outcome_of}
use Rattle.tn_read_parts.proofs.ListLeads.{named_lead}

-- a denominator from 1 to the limit
pub record IsOver (limit : ℕ) (over : ℤ) : Type 0 where
  pub least : pos 1 ≤ℤ over
  pub most : over ≤ℤ pos limit

over_from_test : (limit : ℕ) (over : ℤ) → int_le (pos 1) over && int_le over (pos limit) ≡ true → IsOver limit over
over_from_test limit over e =
    let parts = and_parts (int_le (pos 1) over) (int_le over (pos limit)) e in
    record { least = search (arith, ints, parts.0); most = search (arith, ints, parts.1) }

pub over_leads : (limit : ℕ) (place : List PlaceStep) (value : Option Data)
    → Leads (IsOver limit) (over_at limit place value)
unfolding over_at
over_leads limit place value =
    leads_after (IsOver limit) (whole_at place value) _ (λ over.
    leads_bind (λ _. int_le (pos 1) over && int_le over (pos limit) ≡ true) (IsOver limit)
    (holds BadOver place (int_le (pos 1) over && int_le over (pos limit))) _
    (leads_holds BadOver place (int_le (pos 1) over && int_le over (pos limit))) (λ u within.
    leads_ok (IsOver limit) over (over_from_test limit over within)))

module _ (trades : List (List ℕ)) where
  pub contracts_lead : (place : List PlaceStep) (limit : ℕ) (entries : Items)
      → Leads (AreContractsWithin (length trades) limit) (contracts_at trades place limit entries)
  unfolding contracts_at
  contracts_lead place limit entries =
      leads_bind (λ end. AreNumbers (length trades) limit end.numbers) (AreContractsWithin (length trades) limit)
      (named_prices trades place limit entries) _ (named_lead trades place limit entries) (λ priced are.
      leads_ok (AreContractsWithin (length trades) limit)
      (contracts_of priced.named (price_at priced.numbers) (length trades))
      (contracts_within priced.named priced.numbers (length trades) limit are.count are.small))

pub outcome_leads : (listed : Listed) → AreLimits listed.limits → (top : Data)
    → Leads (IsOutcomeWithin (length listed.names.trades)) (outcome_of listed top)
unfolding outcome_of
outcome_leads listed limits top =
    let trades = listed.names.trades in
    let most = listed.limits.over in
    let limit = listed.limits.numerator in
    leads_after (IsOutcomeWithin (length trades)) (wanted Shape outcome_place (get (codes "outcome") top)) _ (λ part.
    leads_after (IsOutcomeWithin (length trades)) (object_of OutcomeObject outcome_place (Some part)) _ (λ object.
    leads_bind (IsOver most) (IsOutcomeWithin (length trades)) (over_at most over_place (get (codes "over") part)) _
    (over_leads most over_place (get (codes "over") part)) (λ over is_over.
    leads_after (IsOutcomeWithin (length trades)) (list_at contracts_place (get (codes "contracts") part)) _ (λ entries.
    leads_bind (AreContractsWithin (length trades) limit) (IsOutcomeWithin (length trades))
    (contracts_at trades contracts_place limit entries) _ (contracts_lead trades contracts_place limit entries)
    (λ contracts are.
    leads_ok (IsOutcomeWithin (length trades)) (record { over = over; contracts = contracts }) (record {
      least = is_over.least;
      most = (let least_limit = is_over.most in let more = limits.over in omega (arith, ints, least_limit, more));
      contracts = record {
        known = are.known;
        ascending = are.ascending;
        small = λ k d inside. within_more (get_or contracts k d).price limit most_numerator limits.numerator
            (are.small k d inside);
      };
    }))))))
