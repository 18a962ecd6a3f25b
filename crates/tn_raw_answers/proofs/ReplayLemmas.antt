-- A reason against a claim on a network that is read raw: its numbers are small, and positions of a firm become trades.
use Rattle.std.proofs.Common.{◌≡◌, ℕ, ◌+◌, List, [], ◌∷◌, ◌++◌, map, take, sym, ap, ◌∙◌}
use Rattle.std.specs.Prelude.{Some, slice_get}
use Rattle.std.proofs.lemmas.List.{map_more}
use Rattle.std.proofs.lemmas.Option.{slice_get_within, get_or_from_slice_get}
use Rattle.tn_base.specs.Firm.{Firm}
use Rattle.tn_model.specs.declared.ends.Ends.{Ends}
use Rattle.tn_said.specs.Claim.{on_firms}
use Rattle.tn_said.specs.declared.claim.FirmClaim.{FirmClaim}
use Rattle.tn_said.specs.declared.claim.FirmClaim.TheVariants.{Accepted, ExchangeFails, NoPrices}
use Rattle.tn_said.specs.declared.reason.Reason.{Reason}
use Rattle.tn_said.specs.declared.reason.Reason.TheVariants.{Impossible, Exchange, Holds, Shares, Balance, Whole}
use Rattle.tn_answer.specs.ReasonText.{IsReasonWithin}
use Rattle.tn_cert.specs.Reasons.{Refutes}
use Rattle.tn_cert.specs.declared.replayed.Replayed.TheVariants.{Invalid}
use Rattle.tn_cert.specs.Replays.{HasSmallSurplus, reason_in}

-- trades at positions of a firm have no surplus
pub small_in : (trades : List Ends) (reason : Reason) → HasSmallSurplus (Invalid reason)
    → HasSmallSurplus (Invalid (reason_in trades reason))
small_in trades (Exchange f x y at) small = tt
small_in trades reason small = small

-- a reason against a claim on a network that is read raw has no number but a surplus
pub raw_reason_small : (firms : List Firm) (trades : List Ends) (claim : FirmClaim) (reason : Reason)
    → Refutes firms trades (on_firms claim) reason → HasSmallSurplus (Invalid reason) → IsReasonWithin reason
raw_reason_small firms trades Accepted (Exchange f x y at) refutes small = tt
raw_reason_small firms trades Accepted reason refutes small = absurd refutes
raw_reason_small firms trades (ExchangeFails f x y at) Holds refutes small = tt
raw_reason_small firms trades (ExchangeFails f x y at) reason refutes small = absurd refutes
raw_reason_small firms trades (NoPrices plan over) (Shares f) refutes small = tt
raw_reason_small firms trades (NoPrices plan over) (Impossible f) refutes small = tt
raw_reason_small firms trades (NoPrices plan over) (Balance t) refutes small = tt
raw_reason_small firms trades (NoPrices plan over) (Whole on surplus) refutes small = small
raw_reason_small firms trades (NoPrices plan over) reason refutes small = absurd refutes

-- one position more that is named
pub named_push : (f : ℕ → ℕ) (xs : List ℕ) (i x y : ℕ) (done : List ℕ) → done ≡ map f (take i xs)
    → slice_get xs i ≡ Some x → y ≡ f x → done ++ y ∷ [] ≡ map f (take (i + 1) xs)
named_push f xs i x y done so_far at is =
    ap (λ front. front ++ y ∷ []) so_far
    ∙ ap (λ last. map f (take i xs) ++ last ∷ []) (is ∙ ap f (sym (get_or_from_slice_get xs i x x at)))
    ∙ sym (map_more f xs i x (slice_get_within xs i x at))
