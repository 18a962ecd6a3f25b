-- What the sets and the prices are that lists of an extra part give.
use Rattle.std.proofs.Common.{ℕ, ◌^◌, ◌<◌, List, [], ◌∷◌, ◌++◌, length}
use Rattle.std.specs.Prelude.{pos, replicate}
use Rattle.std.proofs.lemmas.Nat.{pow_pos}
use Rattle.serde_json.specs.Data.{Data, Items}
use Rattle.tn_base.specs.Sets.{toggle, size}
use Rattle.tn_base.proofs.SetLemmas.{toggle_within}
use Rattle.tn_said.specs.declared.place.PlaceStep.{PlaceStep}
use Rattle.tn_said.specs.declared.place.PlaceStep.TheVariants.{Index}
use Rattle.tn_read_shapes.specs.Reading.{each}
use Rattle.tn_read_shapes.proofs.LeadLemmas.{Leads, leads_ok, leads_bind, leads_after, leads_each}
use Rattle.tn_read_references.specs.References.{new_trade}
use Rattle.tn_read_references.proofs.ReferenceLeads.{new_trade_leads}
use Rattle.tn_read_references.proofs.EntryLeads.{AreNumbers, zeros, entries_lead}
use Rattle.tn_read_parts.specs.Lists.{one_on, named_prices, prices_of, unless_missing, first_without}

module _ (trades : List (List ℕ)) (place : List PlaceStep) where
  -- a set of these trades
  abbrev pub IsSetOf : ℕ → Type 0
  IsSetOf on = on < 2 ^ length trades

  pub one_on_leads : (on : ℕ) (value : Data) → IsSetOf on → Leads IsSetOf (one_on trades place on value)
  unfolding one_on
  one_on_leads on value below =
      leads_bind (λ t. t < length trades) IsSetOf (new_trade trades (place ++ Index (size on) ∷ []) on value) _
      (new_trade_leads trades (place ++ Index (size on) ∷ []) on value) (λ t known.
      leads_ok IsSetOf (toggle on t) (toggle_within on t (length trades) below known))

  pub set_leads : (references : Items) → Leads IsSetOf (each (one_on trades place) 0 references)
  set_leads references = leads_each IsSetOf (one_on trades place) one_on_leads 0 references (pow_pos (length trades))

  pub named_lead : (limit : ℕ) (entries : Items)
      → Leads (λ end. AreNumbers (length trades) limit end.numbers) (named_prices trades place limit entries)
  unfolding named_prices
  named_lead limit entries =
      entries_lead (new_trade trades) place (length trades) limit (record {
        named = 0;
        numbers =
            replicate (length trades) (pos 0);
      }) entries (zeros (length trades) limit)

  pub prices_lead : (limit : ℕ) (entries : Items)
      → Leads (AreNumbers (length trades) limit) (prices_of trades place limit entries)
  unfolding prices_of
  prices_lead limit entries =
      leads_bind (λ end. AreNumbers (length trades) limit end.numbers) (AreNumbers (length trades) limit)
      (named_prices trades place limit entries) _ (named_lead limit entries) (λ priced are.
      leads_after (AreNumbers (length trades) limit) (unless_missing place
      (first_without priced.named 0 (length trades))) _ (λ u. leads_ok (AreNumbers (length trades) limit)
      priced.numbers are))
