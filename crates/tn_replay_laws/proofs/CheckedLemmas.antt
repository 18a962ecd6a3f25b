-- What `check` and `test` say of a document is a valid claim on it.
use Rattle.std.proofs.Common.{◌≡◌, ℕ, ◌<◌, ◌^◌, ℤ, pos, List, slice_get, Option, Some, None, Ok, refl, sym, ap, subst, ◌∙◌}
use Rattle.std.specs.Prelude.{codes, IfSome, option_map}
use Rattle.std.proofs.lemmas.Option.{none-some, slice_get_within}
use Rattle.serde_json.specs.Data.{Data}
use Rattle.serde_json.specs.Find.{get}
use Rattle.tn_base.specs.Exchange.{Fails, MeetsExchange}
use Rattle.tn_base.specs.Firm.{Firm}
use Rattle.tn_cert.specs.Claims.{IsValid}
use Rattle.tn_cert.specs.Reasons.{IsFirstToFail}
use Rattle.tn_said.specs.Claim.{Claim as ClaimIs, on_market, on_firms}
use Rattle.tn_said.specs.declared.claim.MarketClaim.TheVariants.{Equilibrium as EquilibriumClaim, Better as BetterClaim, Impossible as ImpossibleClaim}
use Rattle.tn_said.specs.declared.claim.FirmClaim.TheVariants.{Accepted as AcceptedClaim, ExchangeFails as FailureClaim}
use Rattle.tn_said.specs.declared.said.Said.{Said}
use Rattle.tn_said.specs.declared.said.Said.TheVariants.{Accepted, Better, Equilibrium, ExchangeFails, Impossible}
use Rattle.tn_model.specs.Prices.{price_at}
use Rattle.tn_market.specs.Judged.{IsFirstBettered, IsFirstImpossible}
use Rattle.tn_commands.specs.Check.{ChecksArrangement}
use Rattle.tn_model.specs.Network.{own, trades_of}
use Rattle.tn_answer.specs.AnswerText.{answer_data}
use Rattle.tn_replay_laws.specs.Fits.{FitsClaim}
use Rattle.tn_local.proofs.FirstLemmas.{triple_fails}
use Rattle.tn_read_firms.proofs.ShownLemmas.{own_position_of}
use Rattle.tn_read_head.proofs.ListingLeads.{listed_leads}
use Rattle.tn_read_parts.specs.Arranged.{Arranged, arrangement_of}
use Rattle.tn_read_claims.specs.Claimed.{claim_of}
use Rattle.tn_file.specs.declared.command.Command.{Command}
use Rattle.tn_file.specs.declared.command.Command.TheVariants.{Check, Replay, Test}
use Rattle.tn_file.specs.Document.{DocumentData, arrangement, claim, document_of, is_accepted, is_tested}
use Rattle.tn_file.specs.Laws.{IsDocument}
use Rattle.tn_file.proofs.DocumentLeads.{claimed_as_told, document_leads}
use Rattle.tn_replay_laws.specs.Laws.{TestsReplay, VerdictsReplay}
use Rattle.tn_replay_laws.specs.Replayed.{IsReplayed, with_claim}
use Rattle.tn_replay_laws.proofs.ClaimLemmas.{accepted_back, better_back, equilibrium_back, failure_back, impossible_back}
use Rattle.tn_replay_laws.proofs.DocumentLemmas.{AreParts, document_back, listed_in, parts}
use Rattle.tn_replay_laws.proofs.ExtraLemmas.{arranged, on_arranged}
use Rattle.tn_replay_laws.proofs.Frame.{arrangement_other, claim_is_there}
use Rattle.tn_replay_laws.proofs.ListLemmas.{AreRead}

-- a document that was read, with its parts
pub record IsReadFrom (command : Command) (top : Data) (doc : DocumentData) : Type 0 where
  pub parts : AreParts command top doc
  pub is : IsDocument command doc

pub read_from : (command : Command) (top : Data) (doc : DocumentData) → document_of command top ≡ Ok doc
    → IsReadFrom command top doc
read_from command top doc e = record { parts = parts command top doc e; is = (document_leads command top).at doc e }

module _ (command : Command) (top : Data) (doc : DocumentData) (from : IsReadFrom command top doc) where
  pub are_read : AreRead (listed_in from.parts.limits doc) doc.firms
  are_read = record {
    limits = ((listed_leads top).at (
      listed_in from.parts.limits doc,
      from.parts.items,
    ) from.parts.listed).trades.limits;
    firm_names = from.is.firm_names;
    trade_names = from.is.trade_names;
    firms_named = from.is.firms_named;
    trades_named = from.is.trades_named;
    network = from.is.network;
  }

  -- the answer is there as the claim
  pub there : (said : Said) → get (codes "claim") (with_claim (answer_data doc.names said) top)
      ≡ Some (answer_data doc.names said)
  there said = claim_is_there (answer_data doc.names said) top (
    listed_in from.parts.limits doc,
    from.parts.items,
  ) from.parts.listed

  -- a claim that is read, whose answer needs the same test of the firms, is the extra part of the document
  pub replayed : (said : Said) (read : ClaimIs) → is_tested command top ≡ is_accepted Replay (claim read)
      → claim_of (listed_in from.parts.limits doc) (with_claim (answer_data doc.names said) top) ≡ Ok read
      → IsValid doc.firms doc.ends read → IsReplayed top doc said
  replayed said read tested claimed valid = record {
    read = read;
    reads = document_back command top (answer_data doc.names said) doc read from.parts (tested
        ∙ claimed_as_told (listed_in from.parts.limits doc) (with_claim (answer_data doc.names said) top) read claimed)
        claimed;
    valid = valid;
  }

-- ---- `check`

-- what has a utility has a worth
pub worth_there : (worth : Option ℤ) (g : ℤ → ℤ) (value : ℤ) → option_map g worth ≡ Some value → (a : ℤ)
    × (worth ≡ Some a)
worth_there (Some a) g value e = (a, refl)
worth_there None g value e = absurd (none-some value e)

module _ (top : Data) (doc : DocumentData) (at : Arranged) (from : IsReadFrom Check top doc)
    (extra : doc.extra ≡ arrangement at) where
  -- the arrangement is still there
  part : (value : Data) → arrangement_of (listed_in from.parts.limits doc) (with_claim value top) ≡ Ok at
  part value = arrangement_other (listed_in from.parts.limits doc) value top
      ∙ arranged (listed_in from.parts.limits doc) top at (from.parts.extra ∙ ap Ok extra)

  equilibrium_replays : (surplus : ℤ)
      → ChecksArrangement doc.firms doc.ends (pos 1) at.on (price_at at.prices) (Equilibrium surplus)
      → FitsClaim (Equilibrium surplus) → IsReplayed top doc (Equilibrium surplus)
  equilibrium_replays surplus judges within =
      let said = Equilibrium surplus in
      replayed Check top doc from said
      (on_market (EquilibriumClaim (record { on = at.on; prices = at.prices }) surplus)) refl
      (equilibrium_back (listed_in from.parts.limits doc) doc.firms (are_read Check top doc from)
      (with_claim (answer_data doc.names said) top) at surplus (there Check top doc from said)
      (part (answer_data doc.names said)) within)
      judges

  better_replays : (f x : ℕ) (gain : ℤ)
      (is : IsFirstBettered doc.firms doc.ends (pos 1) at.on (price_at at.prices) f x gain)
      → FitsClaim (Equilibrium gain)
      → IsReplayed top doc (Better f (trades_of doc.ends f is.firm.count x) gain)
  better_replays f x gain is within =
      let said = Better f (trades_of doc.ends f is.firm.count x) gain in
      let worth = worth_there (is.firm.worth x) _ is.best_value is.best.is in
      let below : x < 2 ^ is.firm.count = from.is.own_bundles f is.firm is.is x worth.0 worth.1 in
      replayed Check top doc from said
      (on_market (BetterClaim (record { on = at.on; prices = at.prices }) f x gain)) refl
      (better_back (listed_in from.parts.limits doc) doc.firms (are_read Check top doc from)
      (with_claim (answer_data doc.names said) top) at f is.firm x gain is.is below
      (there Check top doc from said) (part (answer_data doc.names said)) within) (
        (
          is.firm,
          is.is,
          record {
            value = is.best_value;
            value_is = is.best.is;
            other = is.own_value;
            other_is =
                is.own_is;
            gain_is = is.gain_is;
          },
        ),
        is.gains,
      )

  impossible_replays : (f : ℕ) → IsFirstImpossible doc.firms doc.ends (pos 1) at.on (price_at at.prices) f
      → IsReplayed top doc (Impossible f)
  impossible_replays f is =
      let said = Impossible f in
      let value = answer_data doc.names said in
      replayed Check top doc from said (on_market (ImpossibleClaim at.on f)) refl
      (impossible_back (listed_in from.parts.limits doc) doc.firms (are_read Check top doc from)
      (with_claim value top) at.on f (slice_get_within doc.firms f is.firm is.is)
      (there Check top doc from said)
      (on_arranged (listed_in from.parts.limits doc) (with_claim value top) at (part value)))
      (is.firm, is.is, is.impossible)

-- the answer of `check`
judged : (top : Data) (doc : DocumentData) (at : Arranged) (said : Said) → IsReadFrom Check top doc
    → doc.extra ≡ arrangement at
    → ChecksArrangement doc.firms doc.ends (pos 1) at.on (price_at at.prices) said → FitsClaim said → IsReplayed top doc said
judged top doc at (Equilibrium surplus) from extra judges within =
    equilibrium_replays top doc at from extra surplus judges within
judged top doc at (Better f bundle gain) from extra judges within =
    subst (λ b. IsReplayed top doc (Better f b gain)) (sym judges.2)
    (better_replays top doc at from extra f judges.0 gain judges.1 within)
judged top doc at (Impossible f) from extra judges within = impossible_replays top doc at from extra f judges
judged top doc at said from extra judges within = absurd judges

pub verdicts_replay : VerdictsReplay
verdicts_replay top doc at said read extra judges within =
    judged top doc at said (read_from Check top doc read) extra judges within

-- ---- `test`

module _ (top : Data) (doc : DocumentData) (from : IsReadFrom Test top doc) where
  acceptance_replays : ((f : ℕ) (firm : Firm) → slice_get doc.firms f ≡ Some firm → MeetsExchange firm)
      → IsReplayed top doc Accepted
  acceptance_replays meet =
      replayed Test top doc from Accepted (on_firms AcceptedClaim) refl
      (accepted_back (listed_in from.parts.limits doc) doc.firms (are_read Test top doc from)
      (with_claim (answer_data doc.names Accepted) top) (there Test top doc from Accepted))
      meet

  -- the position of a failing triple is an own one
  own_at : (f : ℕ) (firm : Firm) → slice_get doc.firms f ≡ Some firm → (x y : ℕ) (at : Option ℕ) → Fails firm x y at
      → IfSome at (λ k. k < firm.count)
  own_at f firm is x y None fails = tt
  own_at f firm is x y (Some k) fails =
      own_position_of firm (record { x = x; y = y; at = Some k }) (from.is.own_bundles f firm is) fails k refl

  failure_replays : (f : ℕ) (firm : Firm) (x y : ℕ) (at : Option ℕ) → slice_get doc.firms f ≡ Some firm
      → Fails firm x y at
      → IsReplayed top doc (ExchangeFails f (trades_of doc.ends f firm.count x) (trades_of doc.ends f firm.count y)
      (option_map (own doc.ends f) at))
  failure_replays f firm x y at is fails =
      let said = ExchangeFails f (trades_of doc.ends f firm.count x) (trades_of doc.ends f firm.count y)
      (option_map (own doc.ends f) at) in
      replayed Test top doc from said (on_firms (FailureClaim f x y at)) refl
      (failure_back (listed_in from.parts.limits doc) doc.firms (are_read Test top doc from)
      (with_claim (answer_data doc.names said) top) f firm x y at is
      (from.is.own_bundles f firm is x fails.first fails.first_is)
      (from.is.own_bundles f firm is y fails.second fails.second_is) (own_at f firm is x y at fails)
      (there Test top doc from said))
      (firm, is, fails)

-- a firm that fails, with its first triple
failed : (top : Data) (doc : DocumentData) (f : ℕ) (x y : List ℕ) (at : Option ℕ) → IsReadFrom Test top doc
    → IsFirstToFail doc.firms doc.ends f x y at → IsReplayed top doc (ExchangeFails f x y at)
failed top doc f x y at from first =
    subst (λ l. IsReplayed top doc (ExchangeFails f l y at)) (sym first.x_is)
    (subst (λ l. IsReplayed top doc (ExchangeFails f (trades_of doc.ends f first.firm.count first.triple.x) l at))
    (sym first.y_is)
    (subst (λ t. IsReplayed top doc (ExchangeFails f (trades_of doc.ends f first.firm.count first.triple.x)
    (trades_of doc.ends f first.firm.count first.triple.y) t)) (sym first.at_is)
    (failure_replays top doc from f first.firm first.triple.x first.triple.y first.triple.at first.is
    (triple_fails first.firm first.triple first.first))))

pub tests_replay : TestsReplay
tests_replay = record {
  accepted = λ top doc read meet. acceptance_replays top doc (read_from Test top doc read) meet;
  failing = λ top doc f x y at read first. failed top doc f x y at (read_from Test top doc read) first;
}
