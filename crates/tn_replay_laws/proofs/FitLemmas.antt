-- What the program answers has numbers that a claim may have.
use Rattle.std.proofs.Common.{ℤ, List, arith}
use Rattle.std.specs.Prelude.{All}
use Rattle.tn_base.specs.Arcs.{IsAtMost}
use Rattle.tn_model.specs.Limits.{most_number, most_price}
use Rattle.tn_said.specs.declared.said.Said.TheVariants.{Better, Blocks, Completes, Cycle, Drops, Equilibrium, Solved, Supported}
use Rattle.tn_answer.specs.Kept.{IsWithinPrices}
use Rattle.tn_read_references.proofs.EntryLeads.{all_within}
use Rattle.tn_replay_laws.specs.Fits.{AnswersFitClaims}

pub prices_within : (prices : List ℤ) → All IsWithinPrices prices → All (λ z. IsAtMost z most_number) prices
prices_within prices small = all_within most_price most_number prices (omega arith) small

pub answers_fit_claims : AnswersFitClaims
answers_fit_claims (Equilibrium surplus) within = within
answers_fit_claims (Better firm bundle gain) within = within
answers_fit_claims (Supported on prices ends) within = prices_within prices within
answers_fit_claims (Cycle nodes cost) within = within
answers_fit_claims (Solved on prices surplus ends) within = (prices_within prices within.0, within.1)
answers_fit_claims (Drops firm keeps gain over) within = within.0
answers_fit_claims (Completes prices over) within = within.0
answers_fit_claims (Blocks contracts over) within = within.0
answers_fit_claims said within = tt
