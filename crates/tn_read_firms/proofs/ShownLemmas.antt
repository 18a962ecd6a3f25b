-- A firm's bundles, and a triple of it that fails, are shown by trades that have a name.
use Rattle.std.proofs.Common.{◌≡◌, ℕ, zero, suc, ◌<◌, Bool, true, false, cond, List, [], ◌∷◌, ◌++◌, Option, Some, None, refl, subst, arith}
use Rattle.std.specs.Prelude.{◌+ℤ◌, All, IfSome, option_map}
use Rattle.std.proofs.lemmas.List.Elements.{All-nil, All-append, All-push}
use Rattle.tn_base.specs.Exchange.{IsWrongAt}
use Rattle.tn_base.specs.Firm.{Firm, HasOwnBundles}
use Rattle.tn_base.specs.Sets.{has}
use Rattle.tn_exchange.specs.TestOrder.{Triple, TripleFails}
use Rattle.tn_exchange.proofs.TestLemmas.{wrong_at_own}
use Rattle.tn_model.specs.declared.ends.Ends.{Ends}
use Rattle.tn_model.specs.Network.{own, trades_of}
use Rattle.tn_names.specs.Named.{IsNamed, IsNamedTriple}
use Rattle.tn_read_firms.specs.Firms.{shown_of}

-- the position of a triple that fails is an own one
pub own_position_of : (firm : Firm) (t : Triple) → HasOwnBundles firm → TripleFails firm t → (i : ℕ) → t.at ≡ Some i
    → i < firm.count
own_position_of firm t own_bundles f i is =
    wrong_at_own firm t.x t.y (f.first +ℤ f.second) i (own_bundles t.x f.first f.first_is)
    (own_bundles t.y f.second f.second_is) (subst (IsWrongAt firm t.x t.y (f.first +ℤ f.second)) is f.wrong)

module _ (trades : List (List ℕ)) (es : List Ends) (f : ℕ) where
  -- the trades at the positions below n have a name
  abbrev pub OwnAreNamed : ℕ → Type 0
  OwnAreNamed n = (k : ℕ) → k < n → IsNamed trades (own es f k)

  -- so do those of a bundle
  pub trades_named : (n x : ℕ) → OwnAreNamed n → All (IsNamed trades) (trades_of es f n x)
  trades_named zero x named = All-nil (IsNamed trades)
  trades_named (suc n) x named = by_test (has x n) (trades_named n x (λ k below. named k (omega (arith, below))))
    where
      by_test : (b : Bool) → All (IsNamed trades) (trades_of es f n x)
          → All (IsNamed trades) (trades_of es f n x ++ cond b (own es f n ∷ []) [])
      by_test true front = All-push (IsNamed trades) (trades_of es f n x) (own es f n) front (named n (omega arith))
      by_test false front = All-append (IsNamed trades) (trades_of es f n x) [] front (All-nil (IsNamed trades))

  position_named : (n : ℕ) (at : Option ℕ) → OwnAreNamed n → ((i : ℕ) → at ≡ Some i → i < n)
      → IfSome (option_map (own es f) at) (IsNamed trades)
  position_named n None named below = tt
  position_named n (Some i) named below = named i (below i refl)

  -- and those of a triple
  pub triple_named : (n : ℕ) (t : Triple) → OwnAreNamed n → ((i : ℕ) → t.at ≡ Some i → i < n)
      → IsNamedTriple trades (shown_of es f n t)
  triple_named n t named below = record {
    x = trades_named n t.x named;
    y = trades_named n t.y named;
    at = position_named n t.at named below;
  }
