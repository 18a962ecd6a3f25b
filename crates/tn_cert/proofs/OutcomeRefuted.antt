-- A claim on an outcome that has a reason against it isn't valid.
use Rattle.std.proofs.Common.{◌≡◌, ℕ, List, length, Option, Some, None, refl, sym, ap, ◌∙◌, subst, ℤ, arith}
use Rattle.std.specs.Prelude.{IfSome, is_some, ◌-ℤ◌}
use Rattle.std.proofs.lemmas.Bool.{true≢false}
use Rattle.std.proofs.lemmas.Option.{same_Some}
use Rattle.tn_base.specs.Firm.{Firm}
use Rattle.tn_said.specs.Claim.{on_market}
use Rattle.tn_said.specs.declared.claim.MarketClaim.TheVariants.{Drops, Completes as CompletesIs, Blocks as BlocksIs}
use Rattle.tn_model.specs.declared.contract.Contract.{Contract as ContractOf}
use Rattle.tn_model.specs.declared.contract.Outcome.{Outcome}
use Rattle.tn_model.specs.declared.ends.Ends.{Ends}
use Rattle.tn_said.specs.declared.reason.Reason.{Reason}
use Rattle.tn_said.specs.declared.reason.Reason.TheVariants.{Impossible, Better, Gain, Contract, Over, Price, Empty, Signed, Choice}
use Rattle.tn_said.specs.ClaimLimits.{IsFirmWith}
use Rattle.tn_market.specs.Signed.{signed, is_signed, signed_price, signed_bundle}
use Rattle.tn_model.specs.Prices.{price_at}
use Rattle.tn_cert.proofs.RefutedLemmas.{lack_refuted, no_utility}
use Rattle.tn_cert.specs.Claims.{GainsByKeeping, IsPositive, IsValid}
use Rattle.tn_cert.specs.Reasons.{RefutesBlocks, RefutesCompletes, RefutesDrops}

-- ---- keeping some contracts

-- what is gained by keeping a bundle is one gain alone
one_gain : (trades : List Ends) (outcome : Outcome) (f : ℕ) (firm : Firm) (keeps : ℕ) (one other : Option ℤ)
    → GainsByKeeping trades outcome f firm keeps one → GainsByKeeping trades outcome f firm keeps other
    → one ≡ other
one_gain trades outcome f firm keeps None None first second = refl
one_gain trades outcome f firm keeps None (Some b) first second =
    absurd (no_utility trades outcome.over (signed_price outcome.contracts) f firm
    (signed_bundle trades outcome.contracts f firm) second.other first.1 second.other_is)
one_gain trades outcome f firm keeps (Some a) None first second =
    absurd (no_utility trades outcome.over (signed_price outcome.contracts) f firm
    (signed_bundle trades outcome.contracts f firm) first.other second.1 first.other_is)
one_gain trades outcome f firm keeps (Some a) (Some b) first second =
    let values = same_Some _ _ (sym first.value_is ∙ second.value_is) in
    let others = same_Some _ _ (sym first.other_is ∙ second.other_is) in
    ap Some (first.gain_is ∙ ap (λ (v : ℤ). v -ℤ first.other) values ∙ ap (λ (o : ℤ). second.value -ℤ o) others
    ∙ sym second.gain_is)

kept_possible : (trades : List Ends) (outcome : Outcome) (f : ℕ) (firm : Firm) (keeps : ℕ) (gain : Option ℤ)
    → GainsByKeeping trades outcome f firm keeps gain → firm.worth keeps ≡ None → ⊥
kept_possible trades outcome f firm keeps None gains none = true≢false (sym gains.0 ∙ ap is_some none)
kept_possible trades outcome f firm keeps (Some gain) gains none =
    no_utility trades outcome.over (signed_price outcome.contracts) f firm keeps gains.value none gains.value_is

-- a firm is one firm alone
both_firms : (firms : List Firm) (f : ℕ) (P Q : Firm → Type 0) → IsFirmWith firms f P → IsFirmWith firms f Q
    → ((firm : Firm) → P firm → Q firm → ⊥) → ⊥
both_firms firms f P Q first second clash =
    clash first.0 first.2 (subst Q (same_Some second.0 first.0 (sym second.1 ∙ first.1)) second.2)

pub drops_refuted : (firms : List Firm) (trades : List Ends) (outcome : Outcome) (f keeps : ℕ) (gain : Option ℤ)
    (over : ℤ) (reason : Reason)
    → RefutesDrops firms trades outcome f keeps gain over reason
    → IsValid firms trades (on_market (Drops outcome f keeps gain over)) → ⊥
drops_refuted firms trades outcome f keeps gain over (Over told) refutes valid = refutes.1 valid.0
drops_refuted firms trades outcome f keeps gain over (Contract t) refutes valid =
    let first = refutes.1 in
    let yes = valid.1 first.at first.member in
    let no = ap (is_signed outcome.contracts) first.is ∙ first.unsigned in
    true≢false (sym yes ∙ no)
drops_refuted firms trades outcome f keeps gain over (Impossible g) refutes valid =
    both_firms firms f (λ firm. GainsByKeeping trades outcome f firm keeps gain) (λ firm. firm.worth keeps ≡ None)
    valid.2 refutes.3
    (λ firm. kept_possible trades outcome f firm keeps gain)
drops_refuted firms trades outcome f keeps gain over (Gain g told) refutes valid =
    both_firms firms f (λ firm. GainsByKeeping trades outcome f firm keeps told)
    (λ firm. GainsByKeeping trades outcome f firm keeps gain) refutes.3 valid.2
    (λ firm first second.
    let same = one_gain trades outcome f firm keeps told gain first second in
    refutes.4 (subst (λ (o : Option ℤ). IfSome o IsPositive) (sym same) valid.3) same)
drops_refuted firms trades outcome f keeps gain over reason refutes valid = absurd refutes

-- ---- contracts that block

pub blocks_refuted : (firms : List Firm) (trades : List Ends) (outcome : Outcome) (offers : List ContractOf) (e : ℤ)
    (reason : Reason)
    → RefutesBlocks firms trades outcome offers e reason → IsValid firms trades (on_market (BlocksIs outcome offers e)) → ⊥
blocks_refuted firms trades outcome offers e Empty refutes valid = let some = valid.some in let none = ap length refutes
    in absurd (omega (arith, some, none))
blocks_refuted firms trades outcome offers e (Signed t) refutes valid =
    let same = refutes.same in
    valid.unsigned refutes.at same.at refutes.offer same.contract refutes.is same.is same.trade same.price
blocks_refuted firms trades outcome offers e (Choice f t) refutes valid =
    let first = refutes.2 in
    true≢false (sym (valid.chosen f first.firm first.choice first.is first.chosen first.at first.offer first.offered
    first.own) ∙ first.without)
blocks_refuted firms trades outcome offers e reason refutes valid = absurd refutes

-- ---- prices that complete

pub completes_refuted : (firms : List Firm) (trades : List Ends) (outcome : Outcome) (prices : List ℤ) (over : ℤ)
    (reason : Reason)
    → RefutesCompletes firms trades outcome (price_at prices) over reason
    → IsValid firms trades (on_market (CompletesIs outcome prices over)) → ⊥
completes_refuted firms trades outcome prices over (Over told) refutes valid = refutes.1 valid.0
completes_refuted firms trades outcome prices over (Price t) refutes valid =
    let first = refutes.1 in
    first.other (ap (price_at prices) (sym first.trade) ∙ valid.1.agree first.at first.contract first.is)
completes_refuted firms trades outcome prices over (Impossible f) refutes valid =
    lack_refuted firms trades over (signed (length trades) outcome.contracts) (price_at prices) (Impossible f) refutes.2
    valid.1.equilibrium
completes_refuted firms trades outcome prices over (Better f bundle) refutes valid =
    lack_refuted firms trades over (signed (length trades) outcome.contracts) (price_at prices) (Better f bundle)
    refutes.2 valid.1.equilibrium
completes_refuted firms trades outcome prices over reason refutes valid = absurd refutes.2
