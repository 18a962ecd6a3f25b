-- The numbers of exit statuses.
use Rattle.std.specs.Prelude.{ℕ}
use Rattle.tn_run.specs.declared.status.Status.{Status}
use Rattle.tn_run.specs.declared.status.Status.TheVariants.{Yes, Fault, Usage, ReadFailed, WriteFailed, NoMemory, No}

abbrev pub status_number : Status → ℕ
status_number Yes = 0
status_number Fault = 1
status_number Usage = 2
status_number ReadFailed = 3
status_number WriteFailed = 4
status_number NoMemory = 5
status_number No = 6
