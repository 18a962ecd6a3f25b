-- How an outcome is judged by counts.
use Rattle.std.specs.Prelude.{ℤ, List}
use Rattle.tn_counts.specs.Counts.{CountFirm}
use Rattle.tn_counts.specs.Outcomes.{IsRationalByCounts}
use Rattle.tn_counts.specs.declared.contract.UnitContract.{UnitContract}
use Rattle.tn_counts.specs.declared.trade.UnitTrade.{UnitTrade}
use Rattle.tn_unit_judge.specs.Blocks.{AreBlocking}
use Rattle.tn_unit_judge.specs.Completion.{AreCompleting, IsIncomplete}
use Rattle.tn_unit_judge.specs.Verdict.{IsFirstDropByCounts}
use Rattle.tn_unit_judge.specs.declared.judge.UnitVerdict.{UnitVerdict}
use Rattle.tn_unit_judge.specs.declared.judge.UnitVerdict.TheVariants.{Blocks, Completes, Drops}

-- either this firm is the first that would drop units, or none would, and prices complete the outcome, or none do and offers
-- block it
abbrev pub JudgesOutcomeByCounts : List CountFirm → List UnitTrade → ℤ → List UnitContract → UnitVerdict → Type 0
JudgesOutcomeByCounts firms trades over contracts (Drops drop) =
    IsFirstDropByCounts firms trades over contracts drop.firm drop.keeps.items drop.gain
JudgesOutcomeByCounts firms trades over contracts (Completes prices) =
    IsRationalByCounts firms trades over contracts × AreCompleting firms trades over contracts prices.items
JudgesOutcomeByCounts firms trades over contracts (Blocks offers their_over) =
    IsRationalByCounts firms trades over contracts × IsIncomplete firms trades over contracts
    × AreBlocking firms trades over contracts offers.items their_over
