-- The firms of a document and their own trades have names, and bundles of them ascend.
use Rattle.std.proofs.Common.{◌≡◌, ℕ, ◌<◌, List, length, sym, subst}
use Rattle.std.specs.Prelude.{Option, Some, All, IfSome, slice_get}
use Rattle.std.specs.List.Sorted.{IsStrictlyIncreasing}
use Rattle.std.proofs.lemmas.Option.{slice_get_within}
use Rattle.tn_base.specs.Firm.{Firm}
use Rattle.tn_cert.specs.Reasons.{IsFirstToFail}
use Rattle.tn_file.specs.declared.command.Command.{Command}
use Rattle.tn_file.specs.Document.{DocumentData}
use Rattle.tn_file.specs.Laws.{IsDocument}
use Rattle.tn_local.proofs.FirstLemmas.{triple_fails}
use Rattle.tn_read_firms.proofs.ShownLemmas.{OwnAreNamed, own_position_of, trades_named, triple_named}
use Rattle.tn_model.specs.Network.{own, trades_of, trades_on}
use Rattle.tn_model.proofs.NetworkLemmas.{ascending_trades, on_ascends, on_below}
use Rattle.tn_names.specs.Named.{IsNamed, IsNamedTriple, IsAscendingTriple}

module _ (command : Command) (doc : DocumentData) (is : IsDocument command doc) where
  pub firm_named : (f : ℕ) (firm : Firm) → slice_get doc.firms f ≡ Some firm → IsNamed doc.names.firms f
  firm_named f firm at = subst (λ n. f < n) (sym is.firms_named) (slice_get_within doc.firms f firm at)

  pub own_named : (f : ℕ) (firm : Firm) → slice_get doc.firms f ≡ Some firm
      → OwnAreNamed doc.names.trades doc.ends f firm.count
  own_named f firm at k below =
      subst (λ n. own doc.ends f k < n) (sym is.trades_named) (is.network.whole f k firm at below)

  pub trade_named : (t : ℕ) → t < length doc.ends → IsNamed doc.names.trades t
  trade_named t below = subst (λ n. t < n) (sym is.trades_named) below

  -- the trades of a set
  pub set_named : (set : ℕ) (on : List ℕ) → on ≡ trades_on set (length doc.ends) → All (IsNamed doc.names.trades) on
  set_named set on is_on =
      subst (All (IsNamed doc.names.trades)) (sym is_on) (subst
      (λ n. All (λ t. t < n) (trades_on set (length doc.ends))) (sym is.trades_named)
      (on_below set (length doc.ends)))

  pub set_ascends : (set : ℕ) (on : List ℕ) → on ≡ trades_on set (length doc.ends) → IsStrictlyIncreasing on
  set_ascends set on is_on = subst IsStrictlyIncreasing (sym is_on) (on_ascends set (length doc.ends))

  -- the trades of a firm's bundle
  pub bundle_named : (f : ℕ) (firm : Firm) (x : ℕ) → slice_get doc.firms f ≡ Some firm
      → All (IsNamed doc.names.trades) (trades_of doc.ends f firm.count x)
  bundle_named f firm x at = trades_named doc.names.trades doc.ends f firm.count x (own_named f firm at)

  pub bundle_ascends : (f : ℕ) (firm : Firm) (x : ℕ) → slice_get doc.firms f ≡ Some firm
      → IsStrictlyIncreasing (trades_of doc.ends f firm.count x)
  bundle_ascends f firm x at = ascending_trades doc.firms doc.ends f x firm is.ascending at

  -- the first triple of the first firm that fails exchange
  pub failure_named : (f : ℕ) (x y : List ℕ) (at : Option ℕ) → IsFirstToFail doc.firms doc.ends f x y at
      → IsNamed doc.names.firms f × IsNamedTriple doc.names.trades (record { x = x; y = y; at = at })
  failure_named f x y at fails =
      let own_bundles = is.own_bundles f fails.firm fails.is in
      let triple =
      triple_named doc.names.trades doc.ends f fails.firm.count fails.triple (own_named f fails.firm fails.is)
      (own_position_of fails.firm fails.triple own_bundles (triple_fails fails.firm fails.triple fails.first)) in (
        firm_named f fails.firm fails.is,
        record {
          x = subst (All (IsNamed doc.names.trades)) (sym fails.x_is) triple.x;
          y = subst (All (IsNamed doc.names.trades)) (sym fails.y_is) triple.y;
          at = subst (λ (t : Option ℕ). IfSome t (IsNamed doc.names.trades)) (sym fails.at_is) triple.at;
        },
      )

  pub failure_ascends : (f : ℕ) (x y : List ℕ) (at : Option ℕ) → IsFirstToFail doc.firms doc.ends f x y at
      → IsAscendingTriple (record { x = x; y = y; at = at })
  failure_ascends f x y at fails = record {
    x = subst IsStrictlyIncreasing (sym fails.x_is) (bundle_ascends f fails.firm fails.triple.x fails.is);
    y = subst IsStrictlyIncreasing (sym fails.y_is) (bundle_ascends f fails.firm fails.triple.y fails.is);
  }
