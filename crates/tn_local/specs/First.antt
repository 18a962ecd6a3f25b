-- The first failing triple of a firm's table, among all triples or among those with close bundles.
use Rattle.std.specs.Prelude.{◌<◌, ◌≤◌}
use Rattle.tn_base.specs.Firm.{Firm}
use Rattle.tn_base.specs.Every.{HasEveryBundle}
use Rattle.tn_firm_laws.specs.Close.{AreClose}
use Rattle.tn_exchange.specs.TestOrder.{Triple, IsFirstFailure}
use Rattle.tn_exchange.specs.Verdicts.{IsFirstIn}

-- the bundles of a triple are close
abbrev pub HasCloseBundles : Firm → Triple → Type 0
HasCloseBundles firm t = AreClose firm.buys t.x t.y

-- the first failing triple, in test order, of those with close bundles
abbrev pub IsFirstCloseFailure : Firm → Triple → Type 0
IsFirstCloseFailure firm t = IsFirstIn firm (HasCloseBundles firm) t

-- a firm of more than 10 own trades has every bundle
abbrev pub IsFullIfLarge : Firm → Type 0
IsFullIfLarge firm = 10 < firm.count → HasEveryBundle firm

-- a firm's first triple: with at most 10 own trades the first failing triple in test order, and with more the first of
-- those with close bundles
pub record IsFirstTriple (firm : Firm) (t : Triple) : Type 0 where
  pub small : firm.count ≤ 10 → IsFirstFailure firm t
  pub large : 10 < firm.count → IsFirstCloseFailure firm t
