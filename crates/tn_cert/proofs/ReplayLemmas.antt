-- From one claim to another that has the same conditions.
use Rattle.std.proofs.Common.{List, ℤ, Result, Ok, Err}
use Rattle.std.specs.Prelude.{IfOk}
use Rattle.tn_base.specs.Firm.{Firm}
use Rattle.tn_model.specs.declared.arrangement.Arrangement.{Arrangement}
use Rattle.tn_said.specs.Claim.{on_market}
use Rattle.tn_said.specs.declared.claim.MarketClaim.TheVariants.{Equilibrium, Solved}
use Rattle.tn_model.specs.declared.ends.Ends.{Ends}
use Rattle.tn_cert.specs.declared.replayed.Replayed.{Replayed}
use Rattle.tn_cert.specs.declared.replayed.Replayed.TheVariants.{Valid, Invalid}
use Rattle.tn_cert.specs.Replays.{Replays}

-- a solution has the conditions of an equilibrium
solved_alike : (firms : List Firm) (trades : List Ends) (at : Arrangement 16) (surplus : ℤ) (replayed : Replayed)
    → Replays firms trades (on_market (Equilibrium at surplus)) replayed
    → Replays firms trades (on_market (Solved at surplus)) replayed
solved_alike firms trades at surplus Valid valid = valid
solved_alike firms trades at surplus (Invalid reason) refutes = refutes

pub solved_if_ok : {E : Type 0} (firms : List Firm) (trades : List Ends) (at : Arrangement 16) (surplus : ℤ)
    (result : Result Replayed E) → IfOk result (Replays firms trades (on_market (Equilibrium at surplus)))
    → IfOk result (Replays firms trades (on_market (Solved at surplus)))
solved_if_ok firms trades at surplus (Ok replayed) replays = solved_alike firms trades at surplus replayed replays
solved_if_ok firms trades at surplus (Err error) replays = replays
