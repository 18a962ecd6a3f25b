-- A document is within the limits of every version, since it is within those of its own.
use Rattle.std.proofs.Common.{◌≤◌, length, arith}
use Rattle.tn_model.specs.Limits.{AreLimits, most_firms, most_trades}
use Rattle.tn_model.proofs.LimitLemmas.{limits_are}
use Rattle.tn_file.specs.declared.command.Command.{Command}
use Rattle.tn_file.specs.Document.{DocumentData}
use Rattle.tn_file.specs.Laws.{IsDocument}

module _ (command : Command) (doc : DocumentData) (is : IsDocument command doc) where
  pub its_limits_are : AreLimits is.limits
  its_limits_are = limits_are is.version is.limits is.limits_are

  pub few_firms : length doc.firms ≤ most_firms
  few_firms = let few = is.few_firms in let room = its_limits_are.firms in omega (arith, few, room)

  pub few_trades : length doc.ends ≤ most_trades
  few_trades = let few = is.few_trades in let room = its_limits_are.trades in omega (arith, few, room)
