-- Reading that tells the names beside a fault.
use Rattle.std.specs.Prelude.{◌≡◌, ◌≢◌, Result, Ok, Err, All, IfSome}
use Rattle.tn_said.specs.declared.fault.FaultKind.TheVariants.{TooLong}
use Rattle.tn_said.specs.declared.said.Fault.{Fault}
use Rattle.tn_names.specs.Names.{NameLists, IsNameList}
use Rattle.tn_read_shapes.specs.declared.error.ReadError.{ReadError}
use Rattle.tn_read_shapes.specs.declared.error.ReadError.TheVariants.{Fault as FaultIs, OutOfMemory}
use Rattle.tn_names.specs.Named.{HasShortIndex, IsAscendingTriple, IsSayableFault}

-- where reading stops: a fault, and the names that were read until then
pub record Stop : Type 0 where
  pub fault : Fault
  pub names : NameLists

-- reading that stops beside these names
abbrev pub with_names : {A : Type 0} → NameLists → Result A Fault → Result A Stop
with_names names (Ok x) = Ok x
with_names names (Err fault) = Err (record { fault = fault; names = names })

-- The same of reading that tells the names beside a fault, which are those that the function left.
abbrev pub FailsBeside : {Y : Type 0} → NameLists → ReadError → Result Y Stop → Type 0
FailsBeside names OutOfMemory read = Unit {0}
FailsBeside names (FaultIs f) read = read ≡ Err (record { fault = f; names = names })

abbrev pub GivesBeside : {X Y : Type 0} → NameLists → (X → Y) → Result X ReadError → Result Y Stop → Type 0
GivesBeside names view (Ok x) read = read ≡ Ok (view x)
GivesBeside names view (Err e) read = FailsBeside names e read

-- a stop speaks only of trades with a name and shows a triple, in ascending lists, exactly where exchange fails, its
-- numbers are short, the names beside its fault keep the rules, and it isn't that the input is too long, of which no
-- byte is read
pub record IsStop (stop : Stop) : Type 0 where
  pub fault : IsSayableFault stop.names.trades stop.fault
  pub short : All HasShortIndex stop.fault.place
  pub ascending : IfSome stop.fault.shown IsAscendingTriple
  pub firm_names : IsNameList stop.names.firms
  pub trade_names : IsNameList stop.names.trades
  pub read : stop.fault.kind ≢ TooLong
