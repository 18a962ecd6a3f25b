-- Numbers that keep the arcs of an outcome's fixed graph are prices that complete it.
use Rattle.std.proofs.Common.{◌≡◌, ℕ, suc, ◌<◌, Bool, true, false, ◌==◌, if◌then◌else◌, List, length, slice_get, Option, Some, None, option_map, refl, sym, ap, ◌∙◌, subst, arith, inl, inr, ◌⊎◌, ℤ, pos, neg_ℤ, ◌+ℤ◌, ◌-ℤ◌, ◌*ℤ◌, ◌≤ℤ◌}
use Rattle.std.specs.Prelude.{int_lt}
use Rattle.std.proofs.lemmas.Int.{ints}
use Rattle.std.proofs.lemmas.Bool.{cases_Bool, eqb-true, eq-eqb, lt-ltb, le-ltb}
use Rattle.std.proofs.lemmas.Option.{same_Some}
use Rattle.tn_base.specs.Arcs.{IsAtMost, AreBetweenNodes, AreSmall}
use Rattle.tn_base.specs.Sets.{has}
use Rattle.tn_base.specs.Firm.{Firm, payments}
use Rattle.tn_base.specs.Walks.{KeepsArcs}
use Rattle.tn_base.proofs.SumLemmas.{sum_over-same_terms}
use Rattle.tn_firm_laws.proofs.KeepLemmas.{option_map-some}
use Rattle.tn_firm_laws.proofs.LabelLemmas.{numbers_keep_arcs}
use Rattle.tn_model.specs.declared.ends.Ends.{Ends}
use Rattle.tn_model.specs.declared.contract.Contract.{Contract}
use Rattle.tn_model.specs.Network.{own}
use Rattle.tn_model.specs.Choices.{IsFeasible}
use Rattle.tn_market.specs.Best.{IsSubset}
use Rattle.tn_market.specs.Equilibrium.{prices_at, utility_at}
use Rattle.tn_market.specs.Graph.{exchange_arc}
use Rattle.tn_market.specs.Signed.{is_signed, signed, signed_price, signed_bundle, contract_utility, Completes}
use Rattle.tn_market.proofs.GraphLemmas.{arc_within}
use Rattle.tn_network_laws.specs.Laws.{price_of_node}
use Rattle.tn_network_laws.proofs.SupportLemmas.{KeepsArcsAt, arc_kept, prices_keep_at, supports_at_scale}
use Rattle.tn_outcome_laws.specs.Fixed.{lesser, fixing_arc, fixed_at, fixed_arc, IsPossibleOutcome, CompletionIsFixedLabels, CompletedOutcomesAreRational}
use Rattle.tn_outcome_laws.proofs.SignedLemmas.{signed_by, signed_within, agreed_price, price_of_contract, has-signed_bundle}
use Rattle.tn_outcome_laws.proofs.RationalLemmas.{rational_by_bundles, between_signed, inside_signed}

-- ---- the lesser of two costs

-- it is one of the two
pub lesser_one : (o p : Option ℤ) (a : ℤ) → lesser o p ≡ Some a → (o ≡ Some a) ⊎ (p ≡ Some a)
lesser_one None p a e = inr e
lesser_one (Some b) None a e = inl e
lesser_one (Some b) (Some c) a e = elim (cases_Bool (int_lt c b)) [
  | inl less ↦ inr (sym (ap (λ (t : Bool). if t then Some c else Some b) less) ∙ e)
  | inr not_less ↦ inl (sym (ap (λ (t : Bool). if t then Some c else Some b) not_less) ∙ e)
]

-- at most the first
lesser_first : (o p : Option ℤ) (b : ℤ) → o ≡ Some b → (a : ℤ) × (lesser o p ≡ Some a) × (a ≤ℤ b)
lesser_first None p b e = absurd (cc e)
lesser_first (Some c) None b e = let same = same_Some c b e in (c, refl, omega (arith, ints, same))
lesser_first (Some c) (Some d) b e = let same = same_Some c b e in elim (cases_Bool (int_lt d c)) [
  | inl less ↦ (d, ap (λ (t : Bool). if t then Some d else Some c) less, grind (arith, ints, same, less))
  | inr not_less ↦ (c, ap (λ (t : Bool). if t then Some d else Some c) not_less, omega (arith, ints, same))
]

-- and at most the second
lesser_second : (o p : Option ℤ) (b : ℤ) → p ≡ Some b → (a : ℤ) × (lesser o p ≡ Some a) × (a ≤ℤ b)
lesser_second o None b e = absurd (cc e)
lesser_second None (Some d) b e = let same = same_Some d b e in (d, refl, omega (arith, ints, same))
lesser_second (Some c) (Some d) b e = let same = same_Some d b e in elim (cases_Bool (int_lt d c)) [
  | inl less ↦ (d, ap (λ (t : Bool). if t then Some d else Some c) less, omega (arith, ints, same))
  | inr not_less ↦ (c, ap (λ (t : Bool). if t then Some d else Some c) not_less, grind (arith, ints, same, not_less))
]

-- ---- a graph with fixed prices

-- numbers that keep the arcs of a graph at a scale, and that are, at the nodes with prices, these prices above null's
pub record AreFixed (scale : ℤ) (price : ℕ → Option ℤ) (null : ℕ) (arc : ℕ → ℕ → Option ℤ) (label : ℕ
    → ℤ) : Type 0 where
  pub keeps : KeepsArcsAt arc scale label
  pub fixes : (v : ℕ) (p : ℤ) → price v ≡ Some p → label v ≡ label null +ℤ p

-- an arc that fixes a price
fixing_parts : (price : ℕ → Option ℤ) (null u v : ℕ) (cost : ℤ) → fixing_arc price null u v ≡ Some cost
    → ((u ≡ null) × (price v ≡ Some cost)) ⊎ ((p : ℤ) × (v ≡ null) × (price u ≡ Some p) × (cost ≡ neg_ℤ p))
fixing_parts price null u v cost is = elim (cases_Bool (u == null)) [
  | inl e ↦ inl (eqb-true u null e, sym (ap (λ (b : Bool). if b then price v else back) e) ∙ is)
  | inr d ↦ elim (cases_Bool (v == null)) [
    | inl e ↦
        let found = option_map-some neg_ℤ (price u) cost (sym (ap (λ (b : Bool). if b then option_map neg_ℤ (price u)
        else None) e) ∙ without d) in
        inr (found.0, eqb-true v null e, found.1, sym found.2)
    | inr f ↦ absurd (let none = sym (ap (λ (b : Bool). if b then option_map neg_ℤ (price u) else None) f) ∙ without d
        in cc none)
  ]
]
  where
    back : Option ℤ
    back = if v == null then option_map neg_ℤ (price u) else None

    without : (u == null) ≡ false → (if v == null then option_map neg_ℤ (price u) else None) ≡ Some cost
    without d =
        sym (ap (λ (b : Bool). if b then price v else (if v == null then option_map neg_ℤ (price u) else None)) d) ∙ is

-- where numbers keep the arcs of the graph with fixed prices, they have these prices
pub fixed_from_arcs : (scale : ℤ) (price : ℕ → Option ℤ) (null : ℕ) (arc : ℕ → ℕ → Option ℤ) (label : ℕ → ℤ)
    → price null ≡ None
    → KeepsArcs (fixed_at scale price null arc) label → AreFixed scale price null arc label
fixed_from_arcs scale price null arc label unpriced keeps = record {
  keeps = λ u v cost is.
      let there = lesser_first (option_map (λ c. scale *ℤ c) (arc u v)) (fixing_arc price null u v) (scale *ℤ cost)
      (ap (option_map (λ c. scale *ℤ c)) is) in
      within (label u) (label v) there.0 (scale *ℤ cost) (keeps u v there.0 there.1) there.2;
  fixes = λ v p is.
      let up = lesser_second (option_map (λ c. scale *ℤ c) (arc null v)) (fixing_arc price null null v) p (to_node v
      ∙ is) in
      let down = lesser_second (option_map (λ c. scale *ℤ c) (arc v null)) (fixing_arc price null v null) (neg_ℤ p)
      (from_node v p is) in
      equal (label v) (label null) p up.0 down.0 (keeps null v up.0 up.1) up.2 (keeps v null down.0 down.1) down.2;
}
  where
    within : (lu lv a cost : ℤ) → lv ≤ℤ (lu +ℤ a) → a ≤ℤ cost → lv ≤ℤ (lu +ℤ cost)
    within lu lv a cost kept below = omega (arith, ints, kept, below)

    equal : (lv ln p a b : ℤ) → lv ≤ℤ (ln +ℤ a) → a ≤ℤ p → ln ≤ℤ (lv +ℤ b) → b ≤ℤ neg_ℤ p → lv ≡ ln +ℤ p
    equal lv ln p a b up up_below down down_below = omega (arith, ints, up, up_below, down, down_below)

    here : (null == null) ≡ true
    here = eq-eqb null null refl

    to_node : (v : ℕ) → fixing_arc price null null v ≡ price v
    to_node v = ap (λ (b : Bool). if b then price v else (if v == null then option_map neg_ℤ (price null) else None))
        here

    from_node : (v : ℕ) (p : ℤ) → price v ≡ Some p → fixing_arc price null v null ≡ Some (neg_ℤ p)
    from_node v p is = elim (cases_Bool (v == null)) [
      | inl e ↦ absurd (let none = sym is ∙ ap price (eqb-true v null e) ∙ unpriced in cc none)
      | inr d ↦
          ap (λ (b : Bool). if b then price null else (if null == null then option_map neg_ℤ (price v) else None)) d
          ∙ ap (λ (b : Bool). if b then option_map neg_ℤ (price v) else None) here ∙ ap (option_map neg_ℤ) is
    ]

-- and such numbers keep them
pub fixed_to_arcs : (scale : ℤ) (price : ℕ → Option ℤ) (null : ℕ) (arc : ℕ → ℕ → Option ℤ) (label : ℕ → ℤ)
    → AreFixed scale price null arc label
    → KeepsArcs (fixed_at scale price null arc) label
fixed_to_arcs scale price null arc label fixed u v cost is =
    elim (lesser_one (option_map (λ c. scale *ℤ c) (arc u v)) (fixing_arc price null u v) cost is) [
      | inl scaled ↦
          let found = option_map-some (λ c. scale *ℤ c) (arc u v) cost scaled in
          within (label u) (label v) (scale *ℤ found.0) cost (fixed.keeps u v found.0 found.1) found.2
      | inr fixing ↦ elim (fixing_parts price null u v cost fixing) [
        | inl up ↦ rises (label u) (label v) (label null) cost (ap label up.0) (fixed.fixes v cost up.1)
        | inr down ↦
            falls (label u) (label v) (label null) down.0 cost (ap label down.1) (fixed.fixes u down.0 down.2) down.3
      ]
    ]
  where
    within : (lu lv a cost : ℤ) → lv ≤ℤ (lu +ℤ a) → a ≡ cost → lv ≤ℤ (lu +ℤ cost)
    within lu lv a cost kept same = omega (arith, ints, kept, same)

    rises : (lu lv ln cost : ℤ) → lu ≡ ln → lv ≡ ln +ℤ cost → lv ≤ℤ (lu +ℤ cost)
    rises lu lv ln cost begin at = omega (arith, ints, begin, at)

    falls : (lu lv ln p cost : ℤ) → lv ≡ ln → lu ≡ ln +ℤ p → cost ≡ neg_ℤ p → lv ≤ℤ (lu +ℤ cost)
    falls lu lv ln p cost end at back = omega (arith, ints, end, at, back)

-- arcs lead from node to node, where only nodes have prices
pub between-fixed_at : (nodes : ℕ) (scale : ℤ) (price : ℕ → Option ℤ) (null : ℕ) (arc : ℕ → ℕ → Option ℤ)
    → AreBetweenNodes nodes arc → null < nodes
    → ((v : ℕ) (p : ℤ) → price v ≡ Some p → v < nodes) → AreBetweenNodes nodes (fixed_at scale price null arc)
between-fixed_at nodes scale price null arc between null_below priced u v cost is =
    elim (lesser_one (option_map (λ c. scale *ℤ c) (arc u v)) (fixing_arc price null u v) cost is) [
      | inl scaled ↦ (let found = option_map-some (λ c. scale *ℤ c) (arc u v) cost scaled in
          between u v found.0 found.1)
      | inr fixing ↦ elim (fixing_parts price null u v cost fixing) [
        | inl up ↦ (let e = up.0 in omega (arith, e, null_below), priced v cost up.1)
        | inr down ↦ (priced u down.0 down.2, let e = down.1 in omega (arith, e, null_below))
      ]
    ]

-- and no cost is large where those at the scale and the prices are small
pub small-fixed_at : (limit : ℕ) (scale : ℤ) (price : ℕ → Option ℤ) (null : ℕ) (arc : ℕ → ℕ → Option ℤ)
    → ((u v : ℕ) (cost : ℤ) → arc u v ≡ Some cost → IsAtMost (scale *ℤ cost) limit)
    → ((v : ℕ) (p : ℤ) → price v ≡ Some p → IsAtMost p limit)
    → AreSmall (fixed_at scale price null arc) limit
small-fixed_at limit scale price null arc small priced u v cost is =
    elim (lesser_one (option_map (λ c. scale *ℤ c) (arc u v)) (fixing_arc price null u v) cost is) [
      | inl scaled ↦
          let found = option_map-some (λ c. scale *ℤ c) (arc u v) cost scaled in
          subst (λ (z : ℤ). IsAtMost z limit) found.2 (small u v found.0 found.1)
      | inr fixing ↦ elim (fixing_parts price null u v cost fixing) [
        | inl up ↦ priced v cost up.1
        | inr down ↦ (let same = down.3 in let p = priced u down.0 down.2 in
            record {
              low = omega (arith, ints, p.low, p.high, same);
              high =
                  omega (arith, ints, p.low, p.high, same);
            })
      ]
    ]

-- ---- prices of the signed trades

-- the price of the contract on a trade, none where it isn't signed
abbrev price_of : List Contract → ℕ → Option ℤ
price_of contracts t = if is_signed contracts t then Some (signed_price contracts t) else None

priced : (contracts : List Contract) (t : ℕ) → is_signed contracts t ≡ true
    → price_of contracts t ≡ Some (signed_price contracts t)
priced contracts t there = ap (λ (b : Bool). if b then Some (signed_price contracts t) else None) there

price_parts : (contracts : List Contract) (t : ℕ) (p : ℤ) → price_of contracts t ≡ Some p
    → (is_signed contracts t ≡ true) × (signed_price contracts t ≡ p)
price_parts contracts t p is = elim (cases_Bool (is_signed contracts t)) [
  | inl there ↦ (there, same_Some _ _ (sym (priced contracts t there) ∙ is))
  | inr away ↦ absurd (let none = sym (ap (λ (b : Bool). if b then Some (signed_price contracts t) else None) away) ∙ is
      in cc none)
]

-- null is no signed trade, and has none
pub null_unsigned : (trades : List Ends) (contracts : List Contract) → IsFeasible trades contracts
    → is_signed contracts (length trades) ≡ false
null_unsigned trades contracts feasible = elim (cases_Bool (is_signed contracts (length trades))) [
  | inl there ↦ absurd (let below = signed_within trades contracts feasible (length trades) there in
      omega (arith, below))
  | inr away ↦ away
]

null_unpriced : (trades : List Ends) (contracts : List Contract) → IsFeasible trades contracts
    → price_of contracts (length trades) ≡ None
null_unpriced trades contracts feasible =
    ap (λ (b : Bool). if b then Some (signed_price contracts (length trades))
    else None) (null_unsigned trades contracts feasible)

-- ---- completion

completes_from_fixed : (firms : List Firm) (trades : List Ends) (over : ℤ) (contracts : List Contract) (label : ℕ → ℤ)
    → IsPossibleOutcome firms trades over contracts
    → KeepsArcs (fixed_arc firms trades over contracts) label
    → Completes firms trades over contracts (λ t. label t -ℤ label (length trades))
completes_from_fixed firms trades over contracts label outcome keeps = record {
  agree = λ k contract is.
      less (label contract.trade) (label (length trades)) (signed_price contracts contract.trade) contract.price
      (fixed.fixes contract.trade (signed_price contracts contract.trade)
      (priced contracts contract.trade (signed_by contracts k contract.trade contract is refl)))
      (price_of_contract contracts outcome.feasible.once k contract is);
  equilibrium =
      supports_at_scale firms trades over (signed (length trades) contracts)
      (λ t. label t -ℤ label (length trades)) outcome.network outcome.meet
      (let from_one = outcome.from_one in omega (arith, ints, from_one)) outcome.possible
      (prices_keep_at firms trades over (signed (length trades) contracts) label fixed.keeps);
}
  where
    fixed : AreFixed over (price_of contracts) (length trades)
        (exchange_arc firms trades (signed (length trades) contracts)) label
    fixed = fixed_from_arcs over (price_of contracts) (length trades)
        (exchange_arc firms trades (signed (length trades) contracts)) label
        (null_unpriced trades contracts outcome.feasible) keeps

    less : (lt ln p price : ℤ) → lt ≡ ln +ℤ p → p ≡ price → lt -ℤ ln ≡ price
    less lt ln p price at same = omega (arith, ints, at, same)

completes_fixes : (firms : List Firm) (trades : List Ends) (over : ℤ) (contracts : List Contract) (prices : ℕ → ℤ)
    → IsPossibleOutcome firms trades over contracts
    → Completes firms trades over contracts prices
    → KeepsArcs (fixed_arc firms trades over contracts) (price_of_node (length trades) prices)
completes_fixes firms trades over contracts prices outcome completes =
    fixed_to_arcs over (price_of contracts) (length trades)
    (exchange_arc firms trades (signed (length trades) contracts)) (price_of_node (length trades) prices) (record {
      keeps = arc_kept firms trades outcome.network over (signed (length trades) contracts) prices
          completes.equilibrium;
      fixes = λ v p is.
          let parts = price_parts contracts v p is in
          let below = signed_within trades contracts outcome.feasible v parts.0 in
          let here = agreed_price trades contracts outcome.feasible prices completes.agree v parts.0 in
          above (price_of_node (length trades) prices v) (price_of_node (length trades) prices (length trades))
          (prices v) (signed_price contracts v) p
          (ap (λ (b : Bool). if b then prices v else pos 0) (lt-ltb v (length trades) below))
          (ap (λ (b : Bool). if b then prices (length trades)
          else pos 0) (le-ltb (length trades) (length trades) (omega arith)))
          here parts.1;
    })
  where
    above : (pv pn price signed p : ℤ) → pv ≡ price → pn ≡ pos 0 → price ≡ signed → signed ≡ p → pv ≡ pn +ℤ p
    above pv pn price signed p node null same is = omega (arith, ints, node, null, same, is)

fixed_nodes : (firms : List Firm) (trades : List Ends) (over : ℤ) (contracts : List Contract)
    → IsFeasible trades contracts → AreBetweenNodes (suc (length trades)) (fixed_arc firms trades over contracts)
fixed_nodes firms trades over contracts feasible =
    between-fixed_at (suc (length trades)) over (price_of contracts) (length trades)
    (exchange_arc firms trades (signed (length trades) contracts))
    (λ u v cost is. let ends = arc_within firms trades (signed (length trades) contracts) u v cost is in
    (let a = ends.0 in omega (arith, a), let b = ends.1 in omega (arith, b)))
    (omega arith) (λ v p is. let below = signed_within trades contracts feasible v (price_parts contracts v p is).0 in
    omega (arith, below))

pub completion_is_fixed_labels : CompletionIsFixedLabels
completion_is_fixed_labels = record {
  some = λ firms trades over contracts outcome.
      let numbers =
      numbers_keep_arcs (suc (length trades)) (fixed_arc firms trades over contracts)
      (fixed_nodes firms trades over contracts outcome.feasible) in (
        λ found. numbers.1 (
          price_of_node (length trades) found.0,
          completes_fixes firms trades over contracts found.0 outcome found.1,
        ),
        λ no_cycle. let label = numbers.0 no_cycle in (
          (λ t. label.0 t -ℤ label.0 (length trades)),
          completes_from_fixed firms trades over contracts label.0 outcome label.1,
        ),
      );
  from_labels = completes_from_fixed;
  to_labels = completes_fixes;
}

-- ---- a completed outcome is individually rational

pub completed_is_rational : CompletedOutcomesAreRational
completed_is_rational firms trades over contracts prices network feasible completes =
    (rational_by_bundles firms trades over contracts network feasible).1 (λ f firm is.
    let best = completes.equilibrium f firm is in (
      best.0,
      record {
        is = sym (same f firm is (signed_bundle trades contracts f firm) (λ k there. there)) ∙ best.1.is;
        between = between_signed (signed_bundle trades contracts f firm) (signed_bundle trades contracts f firm)
            (λ k there. there);
        most = λ y other between y_is. best.1.most y other (same f firm is y
            (inside_signed y (signed_bundle trades contracts f firm) between) ∙ y_is);
      },
    ))
  where
    -- a part of the signed trades has the same utility at all these prices
    same : (f : ℕ) (firm : Firm) → slice_get firms f ≡ Some firm → (y : ℕ)
        → IsSubset y (signed_bundle trades contracts f firm)
        → utility_at trades over prices f firm y ≡ contract_utility trades over contracts f firm y
    same f firm is y inside =
        ap (λ (paid : ℤ). option_map (λ a. over *ℤ a +ℤ paid) (firm.worth y))
        (sum_over-same_terms (payments firm.buys (prices_at trades prices f))
        (payments firm.buys (prices_at trades (signed_price contracts) f)) y firm.count
        (λ k below member. ap (λ (p : ℤ). if has firm.buys k then neg_ℤ p else p)
        (agreed_price trades contracts feasible prices completes.agree (own trades f k)
        (sym (has-signed_bundle firms trades network contracts f k firm is below) ∙ inside k member))))
