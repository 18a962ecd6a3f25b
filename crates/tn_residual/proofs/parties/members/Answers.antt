-- What shows the clauses of `members` of `src/parties.rt`.
use Rattle.std.proofs.Common.{rules, ◌≡◌, ◌∙◌, arith, sym, ap, subst, suc, ◌+◌, ◌≤◌, ◌++◌, [], length, map, take, ℕ, ℤ, pos, List, refl}
use Rattle.std.proofs.lemmas.Int.{ints, to_z-of_z}
use Rattle.std.specs.Int.RustNames.{unsigned_abs}
use Rattle.std.specs.List.{All}
use Rattle.std.proofs.lemmas.List.Elements.{All-nil, All-push}
use mir.Syntax.{w128}
use mir.Val.{SFits, of_z, to_z}
use Rattle.tn_market.specs.Levied.{levied, levied_limit}
use Rattle.tn_market.specs.declared.party.Party.{Party}
use Rattle.tn_market.specs.Parties.{party_firm, party_limit}
use Rattle.tn_market.specs.Valued.{IsWorthAtMost}
use Rattle.tn_market.specs.Widths.{most_limit}
use Rattle.tn_model.specs.Limits.{most_worth_among}
use Rattle.tn_model.specs.Network.{part}
use Rattle.tn_residual.specs.Residual.{levied_from, unsigned}
use Rattle.tn_residual.proofs.MakingLemmas.{among_small, levied_from-next, levy_fits, one_more}
use Rattle.tn_residual.proofs.TradeLemmas.{levied_firm}
use Rattle.tn_residual.proofs.parties.members.Goals as goal

-- the bound on worths is that of a market with so many trades
worth_is : (worth : ℤ) (n count : ℕ) → SFits w128 worth → worth ≡ pos (most_worth_among n) → n ≡ count
    → to_z w128 (of_z w128 worth) ≡ pos (most_worth_among count)
worth_is worth n count fits is same =
    to_z-of_z w128 worth fits ∙ is ∙ ap (λ (k : ℕ). pos (most_worth_among k)) same

pub within-requires-clause-bound : goal.within-requires-clause-bound
within-requires-clause-bound g c =
    let worth_fits : SFits w128 c.most_worth_among-worth.result = search rules in
    let worth =
    worth_is c.most_worth_among-worth.result _ _ worth_fits c.most_worth_among-worth.ensures refl in
    omega (arith, ints, worth)

pub within-requires-clause-worths : goal.within-requires-clause-worths
within-requires-clause-worths g c =
    let worth_fits : SFits w128 c.most_worth_among-worth.result = search rules in
    let worth = worth_is c.most_worth_among-worth.result c.trades.result (length c.args.market.now.trades) worth_fits
    c.most_worth_among-worth.ensures c.trades.ensures.count in
    subst (λ (z : ℤ). IsWorthAtMost (unsigned_abs z) (g.V.Valuation.firm c.firm.result.now)) (sym worth)
    (c.requires.limits.worths c.loop-f.f c.firm.result.now c.firm.ensures)

pub within-requires-clause-small : goal.within-requires-clause-small
within-requires-clause-small g c =
    let scale_fits : SFits w128 c.args.scale = c.ranges.scale in
    let tax_fits : SFits w128 c.args.tax = c.ranges.tax in
    let worth_fits : SFits w128 c.most_worth_among-worth.result = search rules in
    let worth = worth_is c.most_worth_among-worth.result c.trades.result (length c.args.market.now.trades) worth_fits
    c.most_worth_among-worth.ensures c.trades.ensures.count in
    subst (λ (z : ℤ). levied_limit (to_z w128 (of_z w128 c.args.scale)) (to_z w128 (of_z w128 c.args.tax))
    (unsigned_abs z) ≤ most_limit) (sym worth)
    (simp to_z-of_z (levy_fits c.args.scale c.args.tax (most_worth_among (length c.args.market.now.trades))
    c.requires.scaled c.requires.small_scale c.requires.taxed c.requires.small_tax
    (among_small (length c.args.market.now.trades))))

pub loop-f-preserved : goal.loop-f-preserved
loop-f-preserved g c =
    let scale_fits : SFits w128 c.args.scale = c.ranges.scale in
    let tax_fits : SFits w128 c.args.tax = c.ranges.tax in
    let plain : to_z w128 (of_z w128 c.args.scale) ≡ c.args.scale = to_z-of_z w128 c.args.scale scale_fits in
    let plain_tax : to_z w128 (of_z w128 c.args.tax) ≡ c.args.tax = to_z-of_z w128 c.args.tax tax_fits in
    let trades = c.args.market.now.trades in
    let contracts = c.args.outcome.now.contracts in
    let before : map (party_firm g.V.Valuation) c.loop-f.parties.items ≡ []
    ++ levied_from c.args.market.now.trades c.args.outcome.now.contracts c.args.scale c.args.tax 0
    (map g.V.Valuation.firm (take c.loop-f.f c.args.market.now.firms)) =
    subst (λ (s : ℤ). map (party_firm g.V.Valuation) c.loop-f.parties.items
    ≡ levied_from trades contracts s c.args.tax 0 (map g.V.Valuation.firm
    (take c.loop-f.f c.args.market.now.firms))) plain
    (subst (λ (t : ℤ). map (party_firm g.V.Valuation) c.loop-f.parties.items
    ≡ levied_from trades contracts (to_z w128 (of_z w128 c.args.scale)) t 0
    (map g.V.Valuation.firm (take c.loop-f.f c.args.market.now.firms))) plain_tax c.loop-f.invariant.0) in
    let next : c.loop-f.f + 1 ≡ suc c.loop-f.f = omega arith in
    let at : c.loop-f.f ≡ 0 + c.loop-f.f = omega arith in
    let first = simp to_z-of_z at c.within.ensures.firm in
    let taxed = c.unsigned_of-taxed.ensures c.firm.result.now c.firm.ensures in
    let made = first ∙ ap (λ (x : ℕ). levied c.args.scale x c.args.tax (g.V.Valuation.firm c.firm.result.now))
    (taxed ∙ ap (λ (h : ℕ). part c.args.market.now.trades h (g.V.Valuation.firm c.firm.result.now).count
    (unsigned (length c.args.market.now.trades) c.args.outcome.now.contracts)) at) in
    let worth_fits : SFits w128 c.most_worth_among-worth.result = search rules in
    let worth = worth_is c.most_worth_among-worth.result c.trades.result (length c.args.market.now.trades) worth_fits
    c.most_worth_among-worth.ensures c.trades.ensures.count in
    let most = levied_limit (to_z w128 (of_z w128 c.args.scale)) (to_z w128 (of_z w128 c.args.tax))
    (most_worth_among (length c.args.market.now.trades)) in
    let limit = c.within.ensures.limit ∙ ap (λ (z : ℤ). levied_limit (to_z w128 (of_z w128 c.args.scale)) (to_z w128 (of_z w128 c.args.tax))
    (unsigned_abs z)) worth in (
      subst (λ (s : ℤ). map (party_firm g.V.Valuation) c.push.new.self.items
          ≡ levied_from trades contracts s (to_z w128 (of_z w128 c.args.tax)) 0
          (map g.V.Valuation.firm (take (c.loop-f.f + 1) c.args.market.now.firms))) (sym plain)
          (subst (λ (t : ℤ). map (party_firm g.V.Valuation) c.push.new.self.items
          ≡ levied_from trades contracts c.args.scale t 0 (map g.V.Valuation.firm
          (take (c.loop-f.f + 1) c.args.market.now.firms))) (sym plain_tax)
          (one_more (party_firm g.V.Valuation) c.loop-f.parties.items c.push.new.self.items _
          (levied_firm trades contracts c.args.scale c.args.tax (0 + c.loop-f.f)
          (g.V.Valuation.firm c.firm.result.now)) []
          (levied_from trades contracts c.args.scale c.args.tax 0
          (map g.V.Valuation.firm (take c.loop-f.f c.args.market.now.firms)))
          (levied_from trades contracts c.args.scale c.args.tax 0
          (map g.V.Valuation.firm (take (c.loop-f.f + 1) c.args.market.now.firms)))
          c.in_ok-push.ensures.items before made
          (ap (λ (n : ℕ). levied_from trades contracts c.args.scale c.args.tax 0
          (map g.V.Valuation.firm (take n c.args.market.now.firms))) next
          ∙ levied_from-next g.V.Valuation.firm trades contracts c.args.scale c.args.tax 0 c.loop-f.f
          c.args.market.now.firms c.firm.result.now c.firm.ensures))),
      subst (λ (items : List (Party g.row.V.Denot g.row.V-Mark.Denot g.V.Valuation)). All
          (λ party. party_limit g.V.Valuation party ≤ most) items) (sym c.in_ok-push.ensures.items)
          (All-push (λ party. party_limit g.V.Valuation party ≤ most) c.loop-f.parties.items _ c.loop-f.invariant.1
          (subst (λ (n : ℕ). n ≤ most) (sym limit) (omega arith))),
    )

pub loop-f-init : goal.loop-f-init
loop-f-init g c =
    let most = levied_limit (to_z w128 (of_z w128 c.args.scale)) (to_z w128 (of_z w128 c.args.tax))
    (most_worth_among (length c.args.market.now.trades)) in (
      ap (map (party_firm g.V.Valuation)) c.in_ok-parties.ensures.items,
      subst (λ (items : List (Party g.row.V.Denot g.row.V-Mark.Denot g.V.Valuation)). All
          (λ party. party_limit g.V.Valuation party ≤ most) items) (sym c.in_ok-parties.ensures.items)
          (All-nil (λ party. party_limit g.V.Valuation party ≤ most)),
    )
