-- Firms as they are listed, as contracts see them.
use Rattle.std.specs.Prelude.{List}
use Rattle.tn_firm.specs.declared.raw.RawFirm.{RawFirm}
use Rattle.tn_model.specs.declared.ends.Ends.{Ends}

-- the firms, and the ends of the trades in file order
pub record RawData : Type 0 where
  pub firms : List RawFirm
  pub ends : List Ends
