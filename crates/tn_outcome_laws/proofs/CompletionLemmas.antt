-- Completing prices are numbers that keep the arcs of the reduced graph.
use Rattle.std.proofs.Common.{◌≡◌, ℕ, zero, suc, ◌+◌, ◌<◌, Bool, true, false, if◌then◌else◌, List, [], ◌∷◌, length, slice_get, Option, Some, None, option_map, refl, sym, ap, ◌∙◌, subst, arith, ℤ, pos, ◌+ℤ◌, ◌-ℤ◌, neg_ℤ, ◌*ℤ◌}
use Rattle.std.proofs.lemmas.Int.{ints}
use Rattle.std.proofs.lemmas.Nat.{pow_pos}
use Rattle.std.proofs.lemmas.Option.{same_Some}
use Rattle.tn_base.specs.Arcs.{AreBetweenNodes}
use Rattle.tn_base.specs.Sets.{has, sum_over}
use Rattle.tn_base.specs.Firm.{Firm, HasOwnBundles, plus_sum, payments, IsBest}
use Rattle.tn_base.specs.Exchange.{MeetsExchange}
use Rattle.tn_base.specs.Walks.{KeepsArcs}
use Rattle.tn_base.proofs.SetLemmas.{same_below, has-zero, set_of_within}
use Rattle.tn_firm_laws.proofs.KeepLemmas.{option_map-some, meets-plus_sum}
use Rattle.tn_firm_laws.proofs.LabelLemmas.{numbers_keep_arcs}
use Rattle.tn_firm_laws.proofs.LocalLemmas.{IsUnmoved}
use Rattle.tn_model.specs.declared.ends.Ends.{Ends}
use Rattle.tn_model.specs.declared.contract.Contract.{Contract}
use Rattle.tn_model.specs.Network.{own, part, IsNetwork}
use Rattle.tn_market.specs.Equilibrium.{prices_at, HasBest}
use Rattle.tn_market.specs.Graph.{exchange_arc}
use Rattle.tn_market.specs.Signed.{is_signed, signed_price, signed_bundle, Completes}
use Rattle.tn_market.specs.Reduced.{reduced, reduced_from, reduced_firms, reduced_arc}
use Rattle.tn_market.proofs.GraphLemmas.{has-part, arc_within}
use Rattle.tn_network_laws.specs.Laws.{price_of_node}
use Rattle.tn_network_laws.proofs.SupportLemmas.{unmoved_from_arcs, prices_keep, arcs_from_supports}
use Rattle.tn_outcome_laws.specs.Rational.{IsRationalOutcome}
use Rattle.tn_outcome_laws.specs.Laws.{completed, CompletionIsLabels}
use Rattle.tn_outcome_laws.proofs.SignedLemmas.{signed_by, agreed_price, price_of_contract, no_price, has-signed_bundle}
use Rattle.tn_outcome_laws.proofs.RationalLemmas.{rational_by_bundles}
use Rattle.tn_outcome_laws.proofs.MirrorLemmas.{IsMirror, mirror-empty, best_in_mirror, best_from_unmoved_mirror}
use Rattle.tn_outcome_laws.proofs.SplitLemmas.{AreSplit, mirror_of}

-- ---- the firms with their reduced worths

reduced_get : (trades : List Ends) (over : ℤ) (contracts : List Contract) (firms : List Firm) (g f : ℕ)
    → slice_get (reduced_from trades over contracts g firms) f
    ≡ option_map (reduced trades over contracts (g + f)) (slice_get firms f)
reduced_get trades over contracts [] g f = refl
reduced_get trades over contracts (firm ∷ firms) g zero =
    ap (λ (h : ℕ). Some (reduced trades over contracts h firm)) (omega arith)
reduced_get trades over contracts (firm ∷ firms) g (suc f) =
    reduced_get trades over contracts firms (g + 1) f ∙ ap
    (λ (h : ℕ). option_map (reduced trades over contracts h) (slice_get firms f)) (omega arith)

reduced_at : (trades : List Ends) (over : ℤ) (contracts : List Contract) (firms : List Firm) (f : ℕ)
    → slice_get (reduced_firms trades over contracts firms) f
    ≡ option_map (reduced trades over contracts f) (slice_get firms f)
reduced_at trades over contracts firms f =
    reduced_get trades over contracts firms 0 f
    ∙ ap (λ (h : ℕ). option_map (reduced trades over contracts h) (slice_get firms f)) (omega arith)

pub reduced_is : (trades : List Ends) (over : ℤ) (contracts : List Contract) (firms : List Firm) (f : ℕ) (firm : Firm)
    → slice_get firms f ≡ Some firm
    → slice_get (reduced_firms trades over contracts firms) f ≡ Some (reduced trades over contracts f firm)
reduced_is trades over contracts firms f firm is = reduced_at trades over contracts firms f
    ∙ ap (option_map (reduced trades over contracts f)) is

pub reduced_from_firm : (trades : List Ends) (over : ℤ) (contracts : List Contract) (firms : List Firm) (f : ℕ)
    (other : Firm)
    → slice_get (reduced_firms trades over contracts firms) f ≡ Some other
    → (firm : Firm) × (slice_get firms f ≡ Some firm) × (other ≡ reduced trades over contracts f firm)
reduced_from_firm trades over contracts firms f other is =
    by (slice_get firms f) refl (sym (reduced_at trades over contracts firms f) ∙ is)
  where
    by : (o : Option Firm) → slice_get firms f ≡ o → option_map (reduced trades over contracts f) o ≡ Some other
        → (firm : Firm) × (slice_get firms f ≡ Some firm) × (other ≡ reduced trades over contracts f firm)
    by None there e = absurd (cc e)
    by (Some firm) there e = (firm, there, same_Some _ _ (sym e))

pub reduced_network : (firms : List Firm) (trades : List Ends) (over : ℤ) (contracts : List Contract)
    → IsNetwork firms trades
    → IsNetwork (reduced_firms trades over contracts firms) trades
reduced_network firms trades over contracts network = record {
  apart = network.apart;
  sold = λ t trade is. let there = network.sold t trade is in (
    reduced trades over contracts trade.seller there.0,
    reduced_is trades over contracts firms trade.seller there.0 there.1,
    there.2,
    there.3,
  );
  bought = λ t trade is. let there = network.bought t trade is in (
    reduced trades over contracts trade.buyer there.0,
    reduced_is trades over contracts firms trade.buyer there.0 there.1,
    there.2,
    there.3,
  );
  whole = λ f k other is below. let there = reduced_from_firm trades over contracts firms f other is in
      network.whole f k there.0 there.1 (subst (λ (z : Firm). k < z.count) there.2 below);
  once = network.once;
}

-- ---- prices of all trades, and of the unsigned ones

-- prices of all trades that give signed ones their contracts' prices, and prices that are the same for the others
pub record AreCompleting (contracts : List Contract) (prices others : ℕ → ℤ) : Type 0 where
  pub on : (t : ℕ) → is_signed contracts t ≡ true → prices t ≡ signed_price contracts t
  pub off : (t : ℕ) → is_signed contracts t ≡ false → prices t ≡ others t

pub completed_are : (trades : List Ends) (contracts : List Contract) (label : ℕ → ℤ)
    → AreCompleting contracts (completed trades contracts label) (λ t. label t -ℤ label (length trades))
completed_are trades contracts label = record {
  on = λ t is. ap (λ (b : Bool). if b then signed_price contracts t else label t -ℤ label (length trades)) is;
  off = λ t is. ap (λ (b : Bool). if b then signed_price contracts t else label t -ℤ label (length trades)) is;
}

agreeing_are : (firms : List Firm) (trades : List Ends) (over : ℤ) (contracts : List Contract)
    → IsRationalOutcome firms trades over contracts → (prices : ℕ → ℤ)
    → ((k : ℕ) (contract : Contract) → slice_get contracts k ≡ Some contract → prices contract.trade ≡ contract.price)
    → AreCompleting contracts prices prices
agreeing_are firms trades over contracts outcome prices agree = record {
  on = agreed_price trades contracts outcome.feasible prices agree;
  off = λ t is. refl;
}

-- what firm f gets at its positions
abbrev pub paid_at : List Ends → (ℕ → ℤ) → ℕ → Firm → ℕ → ℤ
paid_at trades prices f firm = payments firm.buys (prices_at trades prices f)

-- the firm at prices of all trades, and its reduced worth at prices of the unsigned ones
abbrev pub priced : List Ends → ℤ → (ℕ → ℤ) → ℕ → Firm → Firm
priced trades scale prices f firm = plus_sum scale (paid_at trades prices f firm) firm

split_are : (firms : List Firm) (trades : List Ends) (over : ℤ) (contracts : List Contract)
    → IsRationalOutcome firms trades over contracts → (prices others : ℕ → ℤ)
    → AreCompleting contracts prices others → (f : ℕ) (firm : Firm) → slice_get firms f ≡ Some firm
    → AreSplit firm.count (signed_bundle trades contracts f firm) (paid_at trades prices f firm)
    (paid_at trades (signed_price contracts) f firm) (paid_at trades others f firm)
split_are firms trades over contracts outcome prices others completing f firm is = record {
  on = λ k below there. ap (pays k) (completing.on (own trades f k)
      (sym (has-signed_bundle firms trades outcome.network contracts f k firm is below) ∙ there));
  off = λ k below away.
      let unsigned = sym (has-signed_bundle firms trades outcome.network contracts f k firm is below) ∙ away in (
        ap (pays k) (no_price contracts (own trades f k) unsigned) ∙ nothing (has firm.buys k),
        ap (pays k) (completing.off (own trades f k) unsigned),
      );
}
  where
    pays : ℕ → ℤ → ℤ
    pays k z = if has firm.buys k then neg_ℤ z else z

    nothing : (b : Bool) → (if b then neg_ℤ (pos 0) else pos 0) ≡ pos 0
    nothing true = refl
    nothing false = refl

-- the value of the signed trades at the contracts' prices
pub signed_value : (firms : List Firm) (trades : List Ends) (over : ℤ) (contracts : List Contract)
    → IsRationalOutcome firms trades over contracts
    → (f : ℕ) (firm : Firm) → slice_get firms f ≡ Some firm → ℤ
signed_value firms trades over contracts outcome f firm is =
    ((rational_by_bundles firms trades over contracts outcome.network outcome.feasible).0 outcome.rational f firm is).0

pub firm_mirror : (firms : List Firm) (trades : List Ends) (over : ℤ) (contracts : List Contract)
    (outcome : IsRationalOutcome firms trades over contracts) (prices others : ℕ → ℤ)
    → AreCompleting contracts prices others → (f : ℕ) (firm : Firm) (is : slice_get firms f ≡ Some firm)
    → IsMirror (priced trades over prices f firm) (priced trades (pos 1) others f
    (reduced trades over contracts f firm)).worth
    (signed_bundle trades contracts f firm) (signed_value firms trades over contracts outcome f firm is)
unfolding signed_value
firm_mirror firms trades over contracts outcome prices others completing f firm is =
    mirror_of firm over (paid_at trades prices f firm) (paid_at trades (signed_price contracts) f firm)
    (paid_at trades others f firm)
    (signed_bundle trades contracts f firm) (signed_value firms trades over contracts outcome f firm is)
    (outcome.meet f firm is).0
    (split_are firms trades over contracts outcome prices others completing f firm is)
    ((rational_by_bundles firms trades over contracts outcome.network outcome.feasible).0 outcome.rational f firm is).1

-- a firm at prices meets exchange
pub priced_meets : (firms : List Firm) (trades : List Ends) (over : ℤ) (contracts : List Contract)
    → IsRationalOutcome firms trades over contracts → (prices : ℕ → ℤ)
    → (f : ℕ) (firm : Firm) → slice_get firms f ≡ Some firm → HasOwnBundles (priced trades over prices f firm)
    × MeetsExchange (priced trades over prices f firm)
priced_meets firms trades over contracts outcome prices f firm is =
    let from_one = outcome.from_one in
    meets-plus_sum firm over (paid_at trades prices f firm) (omega (arith, ints, from_one)) (outcome.meet f firm is).0
    (outcome.meet f firm is).1

-- ---- nothing is on in the reduced graph

pub no_part : (trades : List Ends) (f n : ℕ) → part trades f n 0 ≡ 0
no_part trades f n = same_below (part trades f n 0) 0 n (set_of_within (λ k. has 0 (own trades f k)) n) (pow_pos n)
    (λ k below. has-part trades f n 0 k below ∙ has-zero (own trades f k) ∙ sym (has-zero k))

-- where prices keep the arcs at nothing, no move of a firm gains on nothing
pub nothing_unmoved : (firms : List Firm) (trades : List Ends) → IsNetwork firms trades → (prices : ℕ → ℤ)
    → KeepsArcs (exchange_arc firms trades 0) (price_of_node (length trades) prices)
    → (f : ℕ) (firm : Firm) → slice_get firms f ≡ Some firm → (value : ℤ)
    → (priced trades (pos 1) prices f firm).worth 0 ≡ Some value
    → IsUnmoved (priced trades (pos 1) prices f firm) 0 value
nothing_unmoved firms trades network prices keeps f firm is value value_is =
    let worth = option_map-some (λ w. pos 1 *ℤ w +ℤ sum_over (paid_at trades prices f firm) firm.count 0) (firm.worth 0)
    value value_is in
    at (part trades f firm.count 0) (pos 1 *ℤ worth.0 +ℤ sum_over (paid_at trades prices f firm) firm.count
    (part trades f firm.count 0)) (no_part trades f firm.count)
    (ap (λ (x : ℕ). pos 1 *ℤ worth.0 +ℤ sum_over (paid_at trades prices f firm) firm.count x)
    (no_part trades f firm.count) ∙ worth.2)
    (unmoved_from_arcs firms trades network 0 prices keeps f firm is worth.0
    (ap firm.worth (no_part trades f firm.count) ∙ worth.1))
  where
    at : (x : ℕ) (v : ℤ) → x ≡ 0 → v ≡ value → IsUnmoved (priced trades (pos 1) prices f firm) x v
        → IsUnmoved (priced trades (pos 1) prices f firm) 0 value
    at x v x_is v_is unmoved =
        subst (λ (y : ℕ). IsUnmoved (priced trades (pos 1) prices f firm) y value) x_is
        (subst (λ (w : ℤ). IsUnmoved (priced trades (pos 1) prices f firm) x w) v_is unmoved)

-- ---- completion

pub completes_from_labels : (firms : List Firm) (trades : List Ends) (over : ℤ) (contracts : List Contract) (label : ℕ
    → ℤ) → IsRationalOutcome firms trades over contracts
    → KeepsArcs (reduced_arc firms trades over contracts) label
    → Completes firms trades over contracts (completed trades contracts label)
completes_from_labels firms trades over contracts label outcome keeps = record {
  agree = λ k contract is.
      (completed_are trades contracts label).on contract.trade (signed_by contracts k contract.trade contract is refl)
      ∙ price_of_contract contracts outcome.feasible.once k contract is;
  equilibrium = λ f firm is.
      let mirror = firm_mirror firms trades over contracts outcome (completed trades contracts label)
      (λ t. label t -ℤ label (length trades)) (completed_are trades contracts label) f firm is in
      let laws = priced_meets firms trades over contracts outcome (completed trades contracts label) f firm is in (
        signed_value firms trades over contracts outcome f firm is,
        best_from_unmoved_mirror (priced trades over (completed trades contracts label) f firm)
            (priced trades (pos 1) (λ t. label t -ℤ label (length trades)) f
            (reduced trades over contracts f firm)).worth
            (signed_bundle trades contracts f firm) (signed_value firms trades over contracts outcome f firm is) laws.0
            laws.1 mirror
            (nothing_unmoved (reduced_firms trades over contracts firms) trades
            (reduced_network firms trades over contracts outcome.network) (λ t. label t -ℤ label (length trades))
            (prices_keep (reduced_firms trades over contracts firms) trades
            (reduced_network firms trades over contracts outcome.network) 0 label keeps)
            f (reduced trades over contracts f firm) (reduced_is trades over contracts firms f firm is)
            (signed_value firms trades over contracts outcome f firm is)
            (mirror-empty (priced trades over (completed trades contracts label) f firm)
            (priced trades (pos 1) (λ t. label t -ℤ label (length trades)) f
            (reduced trades over contracts f firm)).worth
            (signed_bundle trades contracts f firm) (signed_value firms trades over contracts outcome f firm is)
            mirror)),
      );
}

pub completes_keeps : (firms : List Firm) (trades : List Ends) (over : ℤ) (contracts : List Contract) (prices : ℕ → ℤ)
    → IsRationalOutcome firms trades over contracts
    → Completes firms trades over contracts prices
    → KeepsArcs (reduced_arc firms trades over contracts) (price_of_node (length trades) prices)
completes_keeps firms trades over contracts prices outcome completes =
    arcs_from_supports (reduced_firms trades over contracts firms) trades 0 prices
    (reduced_network firms trades over contracts outcome.network) (λ f other other_is.
    let there = reduced_from_firm trades over contracts firms f other other_is in
    subst (λ (z : Firm). HasBest trades (pos 1) 0 prices f z) (sym there.2) (nothing_best f there.0 there.1))
  where
    nothing_best : (f : ℕ) (firm : Firm) → slice_get firms f ≡ Some firm
        → HasBest trades (pos 1) 0 prices f (reduced trades over contracts f firm)
    nothing_best f firm is =
        let mirror =
        firm_mirror firms trades over contracts outcome prices prices
        (agreeing_are firms trades over contracts outcome prices completes.agree) f firm is in
        let best = completes.equilibrium f firm is in
        let same : best.0 ≡ signed_value firms trades over contracts outcome f firm is =
        same_Some _ _ (sym best.1.is ∙ mirror.is) in (
          signed_value firms trades over contracts outcome f firm is,
          subst (λ (x : ℕ). IsBest (priced trades (pos 1) prices f (reduced trades over contracts f firm)).worth x
              (signed_value firms trades over contracts outcome f firm is))
              (sym (no_part trades f firm.count))
              (best_in_mirror (priced trades over prices f firm) (priced trades (pos 1) prices f
              (reduced trades over contracts f firm)).worth
              (signed_bundle trades contracts f firm) (signed_value firms trades over contracts outcome f firm is)
              mirror
              (subst (λ (v : ℤ). IsBest (priced trades over prices f firm).worth (signed_bundle trades contracts f firm)
              v) same best.1)),
        )

reduced_nodes : (firms : List Firm) (trades : List Ends) (over : ℤ) (contracts : List Contract)
    → AreBetweenNodes (suc (length trades)) (reduced_arc firms trades over contracts)
reduced_nodes firms trades over contracts u v cost is =
    let ends = arc_within (reduced_firms trades over contracts firms) trades 0 u v cost is in
    (let a = ends.0 in omega (arith, a), let b = ends.1 in omega (arith, b))

pub completion_is_labels : CompletionIsLabels
completion_is_labels = record {
  some = λ firms trades over contracts outcome.
      let numbers =
      numbers_keep_arcs (suc (length trades)) (reduced_arc firms trades over contracts)
      (reduced_nodes firms trades over contracts) in (
        λ found. numbers.1 (
          price_of_node (length trades) found.0,
          completes_keeps firms trades over contracts found.0 outcome found.1,
        ),
        λ no_cycle. let label = numbers.0 no_cycle in (
          completed trades contracts label.0,
          completes_from_labels firms trades over contracts label.0 outcome label.1,
        ),
      );
  from_labels = completes_from_labels;
  to_labels = completes_keeps;
}
