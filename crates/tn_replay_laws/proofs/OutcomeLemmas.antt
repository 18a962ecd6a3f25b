-- What `judge` says of a document's outcome is a valid claim on it.
use Rattle.std.proofs.Common.{◌≡◌, ℕ, ◌<◌, ◌^◌, ℤ, pos, ◌-ℤ◌, Bool, true, false, List, length, Option, Some, None, Ok, refl, sym, ap, subst, ◌∙◌, arith}
use Rattle.std.specs.Prelude.{All, IfSome, ◌≤ℤ◌, ◌*ℤ◌, int_le, option_map}
use Rattle.std.proofs.lemmas.Int.{ints}
use Rattle.serde_json.specs.Data.{Data}
use Rattle.tn_base.specs.Arcs.{IsAtMost}
use Rattle.tn_model.specs.Limits.{AreLimits, most_number}
use Rattle.tn_base.specs.Firm.{Firm}
use Rattle.tn_base.specs.Sets.{has}
use Rattle.tn_base.proofs.SetLemmas.{has_below, set_of_within}
use Rattle.tn_cert.specs.Claims.{AreSigned, GainsByKeeping, IsPositive}
use Rattle.tn_chain.specs.Search.{chain_scale}
use Rattle.tn_chain.proofs.SizeLemmas.{scale_within}
use Rattle.tn_judge.specs.Judges.{IsBlockedBy}
use Rattle.tn_judge.specs.Verdict.{IsCompletedBy, IsFirstDrop}
use Rattle.tn_firm_laws.proofs.KeepLemmas.{times-le}
use Rattle.tn_said.specs.Claim.{on_market}
use Rattle.tn_said.specs.declared.claim.MarketClaim.TheVariants.{Blocks as BlocksClaim, Completes as CompletesClaim, Drops as DropsClaim}
use Rattle.tn_model.specs.declared.contract.Contract.{Contract}
use Rattle.tn_model.specs.declared.contract.Outcome.{Outcome as OutcomeIs}
use Rattle.tn_said.specs.declared.said.Said.{Said}
use Rattle.tn_said.specs.declared.said.Said.TheVariants.{Blocks, Completes, Drops}
use Rattle.tn_model.specs.Choices.{Blocks as DoBlock, IsFeasible, is_traded, own_part, part_utility}
use Rattle.tn_market.specs.Equilibrium.{utility_at}
use Rattle.tn_model.specs.Network.{own, trades_of}
use Rattle.tn_model.specs.OutcomeLimits.{IsOutcomeWithin}
use Rattle.tn_market.specs.Signed.{signed_bundle, signed_price}
use Rattle.tn_market.proofs.AskLemmas.{impossible_worth, possible_worth}
use Rattle.tn_outcome_laws.proofs.RationalLemmas.{IsSigner, bundle_signed, own_bundle, own_is_part, part_is_bundle}
use Rattle.tn_outcome_laws.proofs.SignedLemmas.{has-signed_bundle}
use Rattle.tn_residual.proofs.MakingLemmas.{outcome_feasible}
use Rattle.tn_answer.specs.AnswerText.{answer_data}
use Rattle.tn_replay_laws.specs.Fits.{FitsClaim}
use Rattle.tn_read_parts.specs.Signed.{outcome_of}
use Rattle.tn_commands.specs.Judge.{JudgesOutcome}
use Rattle.tn_file.specs.declared.command.Command.TheVariants.{Judge}
use Rattle.tn_file.specs.Document.{DocumentData, outcome}
use Rattle.tn_file.specs.Laws.{IsExtra}
use Rattle.tn_replay_laws.specs.Laws.{JudgementsReplay}
use Rattle.tn_replay_laws.specs.Replayed.{IsReplayed, with_claim}
use Rattle.tn_read_head.proofs.ListingLeads.{listed_leads}
use Rattle.tn_replay_laws.proofs.CheckedLemmas.{IsReadFrom, are_read, read_from, replayed, there}
use Rattle.tn_replay_laws.proofs.ClaimLemmas.{blocks_back, completes_back, drops_back}
use Rattle.tn_replay_laws.proofs.DocumentLemmas.{listed_in}
use Rattle.tn_replay_laws.proofs.ExtraLemmas.{outcome_read}
use Rattle.tn_replay_laws.proofs.Frame.{outcome_other}

product_least : (d e : ℤ) → pos 1 ≤ℤ d → pos 1 ≤ℤ e → pos 1 ≤ℤ (d *ℤ e)
product_least d e d_least e_least =
    let more = times-le d (pos 1) e (omega (arith, ints, d_least)) e_least in
    let one : d *ℤ pos 1 ≡ d = omega (arith, ints) in
    omega (arith, ints, more, one, d_least)

module _ (top : Data) (doc : DocumentData) (signed : OutcomeIs) (from : IsReadFrom Judge top doc) (extra : doc.extra
    ≡ outcome signed) where
  outcome_there : (value : Data) → outcome_of (listed_in from.parts.limits doc) (with_claim value top) ≡ Ok signed
  outcome_there value = outcome_other (listed_in from.parts.limits doc) value top
      ∙ outcome_read (listed_in from.parts.limits doc) top signed (from.parts.extra ∙ ap Ok extra)

  within_limits : IsOutcomeWithin (length doc.ends) signed
  within_limits = subst (IsExtra doc.firms doc.ends) extra from.is.extra

  feasible : IsFeasible doc.ends signed.contracts
  feasible = outcome_feasible doc.ends signed.over signed.contracts within_limits

  limits_are : AreLimits from.parts.limits
  limits_are = (are_read Judge top doc from).limits

  over_most : signed.over ≤ℤ pos from.parts.limits.claimed_over
  over_most =
      let most = within_limits.most in
      let enough = limits_are.enough_over in
      omega (arith, ints, most, enough)

  -- what blocks is told over no more than the document's version has in claims
  scale_most : (signed.over *ℤ chain_scale (length doc.ends) signed.contracts) ≤ℤ pos from.parts.limits.claimed_over
  scale_most =
      let high = (scale_within signed.over (length doc.ends) signed.contracts within_limits.least
      within_limits.most).high in
      let few = ((listed_leads top).at (listed_in from.parts.limits doc, from.parts.items) from.parts.listed).trades.few in
      let enough = limits_are.enough_over in
      omega (arith, ints, high, few, enough)

  -- ---- a firm that would drop contracts

  module _ (f keeps : ℕ) (gain : Option ℤ) (first : IsFirstDrop doc.firms doc.ends signed.over signed.contracts f keeps
      gain) where
    abbrev firm : Firm
    firm = first.firm

    signer : IsSigner doc.firms doc.ends signed.contracts f firm
    signer = record { network = from.is.network; feasible = feasible; is = first.is }

    keeps_below : keeps < 2 ^ firm.count
    keeps_below =
        subst (λ x. x < 2 ^ firm.count) first.drops.bundle (set_of_within
        (λ k. is_traded signed.contracts first.drops.kept (own doc.ends f k) (length signed.contracts)) firm.count)

    -- it keeps contracts alone
    are_signed : AreSigned doc.ends signed f keeps
    are_signed k kept =
        let inside =
        bundle_signed doc.firms doc.ends signed.contracts f firm signer first.drops.kept k
        (ap (λ x. has x k) first.drops.bundle ∙ kept) in
        sym (has-signed_bundle doc.firms doc.ends from.is.network signed.contracts f k firm first.is
        (has_below keeps firm.count k keeps_below kept)) ∙ inside

    -- its utilities, by bundles
    kept_utility : utility_at doc.ends signed.over (signed_price signed.contracts) f firm keeps
        ≡ Some first.drops.choice.value
    kept_utility =
        subst (λ x. utility_at doc.ends signed.over (signed_price signed.contracts) f firm x
        ≡ Some first.drops.choice.value) first.drops.bundle
        (sym (part_is_bundle doc.firms doc.ends signed.over signed.contracts f firm signer first.drops.kept
        first.drops.choice.part) ∙ first.drops.choice.is)

    own_utility : part_utility doc.ends signed.over f firm signed.contracts (own_part doc.ends f signed.contracts)
        ≡ utility_at doc.ends signed.over (signed_price signed.contracts) f firm
        (signed_bundle doc.ends signed.contracts f firm)
    own_utility =
        part_is_bundle doc.firms doc.ends signed.over signed.contracts f firm signer
        (own_part doc.ends f signed.contracts) (own_is_part doc.ends signed.contracts feasible f)
        ∙ ap (utility_at doc.ends signed.over (signed_price signed.contracts) f firm)
        (own_bundle doc.firms doc.ends signed.contracts f firm signer)

    -- it has more than by all its contracts, since these are no choice
    more : (all : ℤ) → part_utility doc.ends signed.over f firm signed.contracts (own_part doc.ends f signed.contracts)
        ≡ Some all → IsPositive (first.drops.choice.value -ℤ all)
    more all is = by_test (int_le first.drops.choice.value all) refl
      where
        by_test : (b : Bool) → int_le first.drops.choice.value all ≡ b → IsPositive (first.drops.choice.value -ℤ all)
        by_test false e = grind (arith, ints, e)
        by_test true e =
            let le : first.drops.choice.value ≤ℤ all = grind (arith, ints, e) in
            absurd (first.drops.fails (record {
              part = own_is_part doc.ends signed.contracts feasible f;
              value = all;
              is = is;
              most = λ y other part y_is. let most = first.drops.choice.most y other part y_is in
                  omega (arith, ints, le, most);
            }))

    gains_by : (all : Option ℤ)
        → part_utility doc.ends signed.over f firm signed.contracts (own_part doc.ends f signed.contracts) ≡ all
        → GainsByKeeping doc.ends signed f firm keeps (option_map (λ own. first.drops.choice.value -ℤ own) all)
        × IfSome (option_map (λ own. first.drops.choice.value -ℤ own) all) IsPositive
    gains_by (Some all) is = (
      record {
        value = first.drops.choice.value;
        value_is = kept_utility;
        other = all;
        other_is =
            sym own_utility ∙ is;
        gain_is = refl;
      },
      more all is,
    )
    gains_by None is = (
      (
        possible_worth _ (firm.worth keeps) first.drops.choice.value kept_utility,
        impossible_worth _ (firm.worth (signed_bundle doc.ends signed.contracts f firm)) (sym own_utility ∙ is),
      ),
      tt,
    )

    drops_valid : GainsByKeeping doc.ends signed f firm keeps gain × IfSome gain IsPositive
    drops_valid =
        subst (λ g. GainsByKeeping doc.ends signed f firm keeps g × IfSome g IsPositive) (sym first.drops.gains)
        (gains_by (part_utility doc.ends signed.over f firm signed.contracts (own_part doc.ends f signed.contracts))
        refl)

    drops_replay : IfSome gain (λ z. IsAtMost z most_number)
        → IsReplayed top doc (Drops f (trades_of doc.ends f firm.count keeps) gain signed.over)
    drops_replay small =
        let said = Drops f (trades_of doc.ends f firm.count keeps) gain signed.over in
        let value = answer_data doc.names said in
        let valid = drops_valid in
        replayed Judge top doc from said (on_market (DropsClaim signed f keeps gain signed.over)) refl
        (drops_back (listed_in from.parts.limits doc) doc.firms (are_read Judge top doc from) (with_claim value top)
        signed f firm keeps gain signed.over first.is keeps_below small within_limits.least over_most
        (there Judge top doc from said) (outcome_there value))
        (refl, are_signed, (firm, first.is, valid.0), valid.1)

  -- ---- prices that complete the outcome

  completes_replay : (prices : List ℤ) → IsCompletedBy doc.firms doc.ends signed.over signed.contracts prices
      → All (λ z. IsAtMost z most_number) prices → IsReplayed top doc (Completes prices signed.over)
  completes_replay prices completed small =
      let said = Completes prices signed.over in
      let value = answer_data doc.names said in
      replayed Judge top doc from said (on_market (CompletesClaim signed prices signed.over)) refl
      (completes_back (listed_in from.parts.limits doc) doc.firms (are_read Judge top doc from) (with_claim value top)
      signed prices signed.over (completed.one_each ∙ sym from.is.trades_named) small within_limits.least over_most
      (there Judge top doc from said) (outcome_there value))
      (refl, completed.completes)

  -- ---- contracts that block it

  blocks_replay : (offers : List Contract) → (over : ℤ) → pos 1 ≤ℤ over → over ≤ℤ pos from.parts.limits.claimed_over
      → DoBlock doc.firms doc.ends signed.over signed.contracts over offers
      → All (λ contract. IsAtMost contract.price most_number) offers → IsReplayed top doc (Blocks offers over)
  blocks_replay offers over least most blocks small =
      let said = Blocks offers over in
      let value = answer_data doc.names said in
      replayed Judge top doc from said (on_market (BlocksClaim signed offers over)) refl
      (blocks_back (listed_in from.parts.limits doc) doc.firms (are_read Judge top doc from) (with_claim value top)
      signed offers over
      (λ k contract at. subst (λ n. contract.trade < n) (sym from.is.trades_named)
      (blocks.feasible.known k contract at)) blocks.feasible.once small least most
      (there Judge top doc from said) (outcome_there value))
      blocks

  chain_replays : (offers : List Contract) (told : ℤ)
      → IsBlockedBy doc.firms doc.ends signed.over signed.contracts offers told
      → All (λ contract. IsAtMost contract.price most_number) offers
      → IsReplayed top doc (Blocks offers told)
  chain_replays offers told blocked small =
      let scale = chain_scale (length doc.ends) signed.contracts in
      let least : pos 1 ≤ℤ (signed.over *ℤ scale) =
      product_least signed.over scale within_limits.least (omega (arith, ints)) in
      subst (λ over. IsReplayed top doc (Blocks offers over)) (sym blocked.over_is)
      (blocks_replay offers (signed.over *ℤ scale) least scale_most blocked.chain.blocks small)

judged : (top : Data) (doc : DocumentData) (signed : OutcomeIs) (said : Said) → IsReadFrom Judge top doc
    → doc.extra ≡ outcome signed
    → JudgesOutcome doc.firms doc.ends signed.over signed.contracts said → FitsClaim said → IsReplayed top doc said
judged top doc signed (Drops f keeps gain told) from extra judges within =
    subst (λ over. IsReplayed top doc (Drops f keeps gain over)) (sym judges.3)
    (subst (λ l. IsReplayed top doc (Drops f l gain signed.over)) (sym judges.2)
    (drops_replay top doc signed from extra f judges.0 gain judges.1 within))
judged top doc signed (Completes prices told) from extra judges within =
    subst (λ over. IsReplayed top doc (Completes prices over)) (sym judges.2)
    (completes_replay top doc signed from extra prices judges.1 within)
judged top doc signed (Blocks offers told) from extra judges within =
    chain_replays top doc signed from extra offers told judges within
judged top doc signed said from extra judges within = absurd judges

pub judgements_replay : JudgementsReplay
judgements_replay top doc signed said read extra judges within =
    judged top doc signed said (read_from Judge top doc read) extra judges within
