-- Numbers that keep the reduced graph among some trades: no set of these trades has more reduced worth than none.
use Rattle.std.proofs.Common.{◌≡◌, ℕ, ◌+◌, Bool, true, false, ◌==◌, if◌then◌else◌, List, [], ◌∷◌, length, slice_get, Option, Some, None, option_map, refl, sym, ap, ap₂, ◌∙◌, subst, arith, ℤ, pos, ◌+ℤ◌, ◌-ℤ◌, ◌*ℤ◌}
use Rattle.std.specs.Prelude.{option_and_then}
use mathlib.Core.Path.{fun_ext}
use Rattle.std.proofs.lemmas.Int.{ints}
use Rattle.std.proofs.lemmas.Bool.{true≢false}
use Rattle.tn_base.specs.Sets.{union, minus, sum_over}
use Rattle.tn_base.specs.Firm.{Firm, HasOwnBundles, plus_sum, among, IsBest}
use Rattle.tn_base.specs.Exchange.{MeetsExchange}
use Rattle.tn_base.specs.Walks.{arcs_among, is_admitted, KeepsArcs}
use Rattle.tn_base.proofs.SetLemmas.{has-zero}
use Rattle.tn_firm_laws.proofs.KeepLemmas.{meets-among}
use Rattle.tn_firm_laws.proofs.LocalLemmas.{IsUnmoved}
use Rattle.tn_model.specs.declared.ends.Ends.{Ends}
use Rattle.tn_model.specs.declared.contract.Contract.{Contract}
use Rattle.tn_model.specs.Network.{part, IsNetwork}
use Rattle.tn_market.specs.Best.{IsSubset}
use Rattle.tn_market.specs.Equilibrium.{HasBest, IsEquilibrium, surplus_from, IsEfficient}
use Rattle.tn_market.specs.Admitted.{admitted_from, admitted}
use Rattle.tn_market.specs.Graph.{exchange_arc}
use Rattle.tn_market.specs.Signed.{signed_bundle}
use Rattle.tn_market.specs.Reduced.{reduced, reduced_firms, reduced_arc}
use Rattle.tn_network_laws.proofs.SupportLemmas.{prices_keep}
use Rattle.tn_network_laws.proofs.AdmittedLemmas.{admitted_is, admitted_from_firm, admitted_network, part_inside, among_inside, arcs_admitted}
use Rattle.tn_network_laws.proofs.WelfareLemmas.{equilibrium_is_efficient}
use Rattle.tn_outcome_laws.specs.Rational.{IsRationalOutcome}
use Rattle.tn_outcome_laws.specs.Laws.{completed, HasNoMore}
use Rattle.tn_outcome_laws.proofs.MirrorLemmas.{IsMirror, mirror-empty, best_in_mirror, best_from_unmoved_mirror}
use Rattle.tn_outcome_laws.proofs.SplitLemmas.{mirror-among}
use Rattle.tn_outcome_laws.proofs.CompletionLemmas.{completed_are, priced, paid_at, signed_value, firm_mirror, priced_meets, reduced_is, reduced_from_firm, reduced_network, no_part, nothing_unmoved}

-- nothing is within any set
pub empty_inside : (allowed : ℕ) → IsSubset 0 allowed
empty_inside allowed k there = absurd (true≢false (sym there ∙ has-zero k))

-- ---- a firm kept to some trades

-- pricing a firm that is kept to some positions is keeping the priced firm to them
priced_among : (scale : ℤ) (c : ℕ → ℤ) (allowed : ℕ) (firm : Firm)
    → (plus_sum scale c (among allowed firm)).worth ≡ (among allowed (plus_sum scale c firm)).worth
priced_among scale c allowed firm = fun_ext (λ x. by_test x (minus x allowed == 0))
  where
    by_test : (x : ℕ) (t : Bool) → option_map (λ a. scale *ℤ a +ℤ sum_over c firm.count x) (if t then firm.worth x
        else None)
        ≡ (if t then option_map (λ a. scale *ℤ a +ℤ sum_over c firm.count x) (firm.worth x) else None)
    by_test x true = refl
    by_test x false = refl

-- where nothing is unmoved in the mirror that is kept to the allowed trades, it is best there
best_among : (firms : List Firm) (trades : List Ends) (over : ℤ) (contracts : List Contract)
    (outcome : IsRationalOutcome firms trades over contracts) (allowed : ℕ) (label : ℕ → ℤ)
    → KeepsArcs (exchange_arc (admitted trades allowed (reduced_firms trades over contracts firms)) trades 0) label
    → (f : ℕ) (firm : Firm) (is : slice_get firms f ≡ Some firm)
    → IsBest (priced trades (pos 1) (λ t. label t -ℤ label (length trades)) f
    (among (part trades f firm.count allowed) (reduced trades over contracts f firm))).worth 0
    (signed_value firms trades over contracts outcome f firm is)
best_among firms trades over contracts outcome allowed label keeps f firm is =
    subst (λ (w : ℕ → Option ℤ). IsBest w 0 value) (sym same)
    (best_in_mirror (among (union given limit) whole) (among limit small).worth given value mirror
    (best_from_unmoved_mirror (among (union given limit) whole) (among limit small).worth given value laws.0 laws.1
    mirror
    (subst (λ (w : ℕ → Option ℤ). IsUnmoved (record { count = firm.count; buys = firm.buys; worth = w }) 0 value) same
    (nothing_unmoved (admitted trades allowed (reduced_firms trades over contracts firms)) trades network others
    (prices_keep (admitted trades allowed (reduced_firms trades over contracts firms)) trades network 0 label keeps)
    f (among limit (reduced trades over contracts f firm))
    (admitted_is trades allowed (reduced_firms trades over contracts firms) f (reduced trades over contracts f firm)
    (reduced_is trades over contracts firms f firm is))
    value (ap (λ (w : ℕ → Option ℤ). w 0) same ∙ mirror-empty (among (union given limit) whole)
    (among limit small).worth given value mirror)))))
  where
    others : ℕ → ℤ
    others t = label t -ℤ label (length trades)

    given : ℕ
    given = signed_bundle trades contracts f firm

    limit : ℕ
    limit = part trades f firm.count allowed

    value : ℤ
    value = signed_value firms trades over contracts outcome f firm is

    whole : Firm
    whole = priced trades over (completed trades contracts label) f firm

    small : Firm
    small = priced trades (pos 1) (λ t. label t -ℤ label (length trades)) f (reduced trades over contracts f firm)

    same : (priced trades (pos 1) (λ t. label t -ℤ label (length trades)) f
        (among (part trades f firm.count allowed) (reduced trades over contracts f firm))).worth
        ≡ (among (part trades f firm.count allowed)
        (priced trades (pos 1) (λ t. label t -ℤ label (length trades)) f
        (reduced trades over contracts f firm))).worth
    same = priced_among (pos 1) (paid_at trades (λ t. label t -ℤ label (length trades)) f firm)
        (part trades f firm.count allowed) (reduced trades over contracts f firm)

    network : IsNetwork (admitted trades allowed (reduced_firms trades over contracts firms)) trades
    network = admitted_network (reduced_firms trades over contracts firms) trades allowed
        (reduced_network firms trades over contracts outcome.network)

    mirror : IsMirror (among (union (signed_bundle trades contracts f firm) (part trades f firm.count allowed))
        (priced trades over (completed trades contracts label) f firm))
        (among (part trades f firm.count allowed)
        (priced trades (pos 1) (λ t. label t -ℤ label (length trades)) f
        (reduced trades over contracts f firm))).worth
        (signed_bundle trades contracts f firm) (signed_value firms trades over contracts outcome f firm is)
    mirror = mirror-among (priced trades over (completed trades contracts label) f firm)
        (priced trades (pos 1) (λ t. label t -ℤ label (length trades)) f (reduced trades over contracts f firm))
        (signed_bundle trades contracts f firm) (part trades f firm.count allowed)
        (signed_value firms trades over contracts outcome f firm is)
        (firm_mirror firms trades over contracts outcome (completed trades contracts label)
        (λ t. label t -ℤ label (length trades)) (completed_are trades contracts label) f firm is)

    laws : HasOwnBundles (among (union (signed_bundle trades contracts f firm) (part trades f firm.count allowed))
        (priced trades over (completed trades contracts label) f firm))
        × MeetsExchange (among (union (signed_bundle trades contracts f firm) (part trades f firm.count allowed))
        (priced trades over (completed trades contracts label) f firm))
    laws = meets-among (priced trades over (completed trades contracts label) f firm)
        (union (signed_bundle trades contracts f firm) (part trades f firm.count allowed))
        (priced_meets firms trades over contracts outcome (completed trades contracts label) f firm is).0
        (priced_meets firms trades over contracts outcome (completed trades contracts label) f firm is).1

-- ---- all firms

-- a set of admitted trades has the same surplus in the admitted market
pub surplus_from-admitted : (trades : List Ends) (allowed on : ℕ) → IsSubset on allowed → (s : ℕ) (firms : List Firm)
    → surplus_from trades on s (admitted_from trades allowed s firms) ≡ surplus_from trades on s firms
surplus_from-admitted trades allowed on inside s [] = refl
surplus_from-admitted trades allowed on inside s (firm ∷ firms) =
    ap₂ (λ (rest worth : Option ℤ). option_and_then (λ a. option_map (λ b. a +ℤ b) rest) worth)
    (surplus_from-admitted trades allowed on inside (s + 1) firms)
    (among_inside (part trades s firm.count allowed) firm (part trades s firm.count on)
    (part_inside trades s firm.count allowed on inside))

pub numbers_leave_no_more : (firms : List Firm) (trades : List Ends) (over : ℤ) (contracts : List Contract)
    (allowed : ℕ) (label : ℕ → ℤ)
    → IsRationalOutcome firms trades over contracts
    → KeepsArcs (arcs_among (is_admitted (length trades) allowed) (reduced_arc firms trades over contracts)) label
    → HasNoMore firms trades over contracts allowed
numbers_leave_no_more firms trades over contracts allowed label outcome keeps = record {
  least = efficient.0;
  is = sym (surplus_from-admitted trades allowed 0 (empty_inside allowed) 0 (reduced_firms trades over contracts firms))
      ∙ efficient.1.is;
  most = λ on other inside other_is. efficient.1.most on other
      (surplus_from-admitted trades allowed on inside 0 (reduced_firms trades over contracts firms) ∙ other_is);
}
  where
    network : IsNetwork (reduced_firms trades over contracts firms) trades
    network = reduced_network firms trades over contracts outcome.network

    kept : KeepsArcs (exchange_arc (admitted trades allowed (reduced_firms trades over contracts firms)) trades 0) label
    kept u v cost is =
        keeps u v cost
        (sym (arcs_admitted (reduced_firms trades over contracts firms) trades network allowed 0 (empty_inside allowed)
        u v) ∙ is)

    equilibrium : IsEquilibrium (admitted trades allowed (reduced_firms trades over contracts firms)) trades (pos 1) 0
        (λ t. label t -ℤ label (length trades))
    equilibrium f other other_is =
        let first = admitted_from_firm trades allowed (reduced_firms trades over contracts firms) f other other_is in
        let second = reduced_from_firm trades over contracts firms f first.0 first.1 in
        let same : other ≡ among (part trades f second.0.count allowed) (reduced trades over contracts f second.0) =
        first.2 ∙ ap (λ (z : Firm). among (part trades f z.count allowed) z) second.2 in
        subst (λ (z : Firm). HasBest trades (pos 1) 0 (λ t. label t -ℤ label (length trades)) f z) (sym same) (
          signed_value firms trades over contracts outcome f second.0 second.1,
          subst (λ (x : ℕ). IsBest
              (priced trades (pos 1) (λ t. label t -ℤ label (length trades)) f
              (among (part trades f second.0.count allowed) (reduced trades over contracts f second.0))).worth x
              (signed_value firms trades over contracts outcome f second.0 second.1))
              (sym (no_part trades f second.0.count))
              (best_among firms trades over contracts outcome allowed label kept f second.0 second.1),
        )

    efficient : IsEfficient (admitted trades allowed (reduced_firms trades over contracts firms)) trades 0
    efficient = equilibrium_is_efficient (admitted trades allowed (reduced_firms trades over contracts firms)) trades
        (pos 1) 0 (λ t. label t -ℤ label (length trades))
        (admitted_network (reduced_firms trades over contracts firms) trades allowed network) (omega (arith, ints))
        equilibrium
