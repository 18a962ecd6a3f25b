-- From an equilibrium of a drill network to the answer.
use Rattle.std.proofs.Common.{◌≡◌, ℕ, ℤ, pos, List, length, map, Some, sym, ap, ap₂, ◌∙◌, subst, arith}
use Rattle.std.proofs.lemmas.Int.{ints}
use Rattle.std.proofs.lemmas.List.{length-map}
use Rattle.tn_base.specs.Firm.{Firm}
use Rattle.tn_firm.specs.declared.value.FirmValue.{FirmValue}
use Rattle.tn_firm.specs.Firms.{firm_of}
use Rattle.tn_drill.specs.Drill.{drawn_ends, firms_of}
use Rattle.tn_model.specs.declared.ends.Ends.{Ends}
use Rattle.tn_market.specs.Equilibrium.{IsEfficient, IsEquilibrium, surplus_of}
use Rattle.tn_model.specs.Network.{IsNetwork}
use Rattle.tn_network_laws.proofs.WelfareLemmas.{equilibrium_is_efficient}
use Rattle.tn_commands.specs.Drill.{IsDrilled}

pub drilled_from : (size start : ℕ) (firms : List FirmValue) (trades : List Ends) (set : ℕ) (prices : ℕ
    → ℤ) (count : ℕ) (surplus told : ℤ) → map firm_of firms ≡ firms_of start size
    → trades ≡ drawn_ends start size → IsNetwork (map firm_of firms) trades → count ≡ length firms → told ≡ surplus
    → IsEquilibrium (map firm_of firms) trades (pos 1) set prices
    → surplus_of (map firm_of firms) trades set ≡ Some surplus → IsDrilled size start count told
drilled_from size start firms trades set prices count surplus told firms_is trades_is network counted same equilibrium
    surplus_is = record {
      firms_are = counted ∙ sym (length-map firms firm_of) ∙ ap (λ (list : List Firm). length list) firms_is;
      set = set;
      surplus_is = sym (ap₂ (λ (list : List Firm) (ends : List Ends). surplus_of list ends set) firms_is trades_is)
          ∙ surplus_is ∙ ap Some (sym same);
      efficient = subst (λ (ends : List Ends). IsEfficient (firms_of start size) ends set) trades_is
          (subst (λ (list : List Firm). IsEfficient list trades set) firms_is
          (equilibrium_is_efficient (map firm_of firms) trades (pos 1) set prices network (omega (arith, ints))
          equilibrium));
    }
