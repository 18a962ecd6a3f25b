-- The extra part of a document that was read.
use Rattle.std.proofs.Common.{◌≡◌, ℕ, Ok, refl, ap, ◌∙◌}
use Rattle.std.specs.Prelude.{codes}
use Rattle.serde_json.specs.Data.{Data}
use Rattle.serde_json.specs.Find.{get}
use Rattle.tn_model.specs.declared.contract.Outcome.{Outcome as OutcomeIs}
use Rattle.tn_read_shapes.specs.Reading.{◌>>=◌}
use Rattle.tn_read_shapes.specs.Shapes.{list_at}
use Rattle.tn_read_shapes.proofs.LeadLemmas.{Leads, leads_after, leads_bind, leads_ok}
use Rattle.tn_read_references.specs.Ordered.{Listed}
use Rattle.tn_read_parts.specs.Arranged.{Arranged, arrangement_of, on_of, prices_place, trades_on_of}
use Rattle.tn_read_parts.specs.Lists.{prices_of}
use Rattle.tn_read_parts.specs.Signed.{outcome_of}
use Rattle.tn_file.specs.declared.command.Command.TheVariants.{Check, Judge, Support}
use Rattle.tn_file.specs.Document.{arrangement, extra_of, on_alone, outcome}
use Rattle.tn_replay_laws.proofs.DocumentLemmas.{itself}

arranged_lead : (listed : Listed) (top : Data) → Leads (λ extra. (at : Arranged) → extra ≡ arrangement at
    → arrangement_of listed top ≡ Ok at) (extra_of Check listed top)
unfolding extra_of
arranged_lead listed top =
    leads_bind (λ part. arrangement_of listed top ≡ Ok part) (λ extra. (at : Arranged) → extra ≡ arrangement at
    → arrangement_of listed top ≡ Ok at) (arrangement_of listed top) _ (itself (arrangement_of listed top))
    (λ part is.
    leads_ok (λ extra. (at : Arranged) → extra ≡ arrangement at
    → arrangement_of listed top ≡ Ok at) (arrangement part) (λ at same. let one : part ≡ at = cc in is ∙ ap Ok one))

pub arranged : (listed : Listed) (top : Data) (at : Arranged) → extra_of Check listed top ≡ Ok (arrangement at)
    → arrangement_of listed top ≡ Ok at
arranged listed top at e = (arranged_lead listed top).at (arrangement at) e at refl

on_read_lead : (listed : Listed) (top : Data) → Leads (λ extra. (on : ℕ) → extra ≡ on_alone on
    → trades_on_of listed.names.trades top ≡ Ok on) (extra_of Support listed top)
unfolding extra_of
on_read_lead listed top =
    leads_bind (λ part. trades_on_of listed.names.trades top ≡ Ok part) (λ extra. (on : ℕ) → extra ≡ on_alone on
    → trades_on_of listed.names.trades top ≡ Ok on) (trades_on_of listed.names.trades top) _
    (itself (trades_on_of listed.names.trades top)) (λ part is.
    leads_ok (λ extra. (on : ℕ) → extra ≡ on_alone on → trades_on_of listed.names.trades top ≡ Ok on) (on_alone part)
    (λ on same. let one : part ≡ on = cc in is ∙ ap Ok one))

pub on_read : (listed : Listed) (top : Data) (on : ℕ) → extra_of Support listed top ≡ Ok (on_alone on)
    → trades_on_of listed.names.trades top ≡ Ok on
on_read listed top on e = (on_read_lead listed top).at (on_alone on) e on refl

outcome_read_lead : (listed : Listed) (top : Data) → Leads (λ extra. (signed : OutcomeIs) → extra ≡ outcome signed
    → outcome_of listed top ≡ Ok signed) (extra_of Judge listed top)
unfolding extra_of
outcome_read_lead listed top =
    leads_bind (λ part. outcome_of listed top ≡ Ok part) (λ extra. (signed : OutcomeIs) → extra ≡ outcome signed
    → outcome_of listed top ≡ Ok signed) (outcome_of listed top) _ (itself (outcome_of listed top)) (λ part is.
    leads_ok (λ extra. (signed : OutcomeIs) → extra ≡ outcome signed
    → outcome_of listed top ≡ Ok signed) (outcome part) (λ signed same. let one : part ≡ signed = cc in
    is ∙ ap Ok one))

pub outcome_read : (listed : Listed) (top : Data) (signed : OutcomeIs)
    → extra_of Judge listed top ≡ Ok (outcome signed) → outcome_of listed top ≡ Ok signed
outcome_read listed top signed e = (outcome_read_lead listed top).at (outcome signed) e signed refl

-- whose arrangement is read, of that the trades alone are read too
on_of_arrangement : (listed : Listed) (top : Data)
    → Leads (λ at. trades_on_of listed.names.trades top ≡ Ok at.on) (arrangement_of listed top)
unfolding arrangement_of trades_on_of
on_of_arrangement listed top =
    let trades = listed.names.trades in
    leads_bind (λ part. on_of trades top ≡ Ok part) (λ at. (on_of trades top >>= λ part. Ok part.1) ≡ Ok at.on)
    (on_of trades top) _ (itself (on_of trades top)) (λ part is.
    leads_after (λ at. (on_of trades top >>= λ part. Ok part.1) ≡ Ok at.on)
    (list_at prices_place (get (codes "prices") part.0)) _ (λ entries.
    leads_after (λ at. (on_of trades top >>= λ part. Ok part.1) ≡ Ok at.on)
    (prices_of trades prices_place listed.limits.price entries) _ (λ prices.
    leads_ok (λ at. (on_of trades top >>= λ part. Ok part.1) ≡ Ok at.on) (record { on = part.1; prices = prices })
    (ap (λ r. r >>= λ part. Ok part.1) is))))

pub on_arranged : (listed : Listed) (top : Data) (at : Arranged) → arrangement_of listed top ≡ Ok at
    → trades_on_of listed.names.trades top ≡ Ok at.on
on_arranged listed top at e = (on_of_arrangement listed top).at at e
