-- What is made of the nodes of a cycle, node by node.
use Rattle.std.proofs.Common.{◌≡◌, ℕ, zero, suc, ◌+◌, Bool, false, not, List, [], ◌∷◌, ◌++◌, length, slice_get, Some, sym, ap, ◌∙◌, subst, arith, inl, inr, ℤ}
use Rattle.std.specs.Prelude.{nat_lt}
use Rattle.std.proofs.lemmas.Bool.{cases_Bool, cases_eq, cases_lt, lt-ltb, le-ltb, true≢false}
use Rattle.std.proofs.lemmas.List.{length-append}
use Rattle.std.proofs.lemmas.Option.{same_Some}
use Rattle.tn_base.specs.Sets.{has, toggle}
use Rattle.tn_base.specs.Walks.{AreDifferent}
use Rattle.tn_base.proofs.SetLemmas.{has-toggle_same, has-toggle_other, has-zero}
use Rattle.tn_model.specs.declared.contract.Contract.{Contract}
use Rattle.tn_model.specs.Prices.{price_at}
use Rattle.tn_network_laws.proofs.PoolLemmas.{append_cases}
use Rattle.tn_residual.specs.Residual.{number_from}
use Rattle.tn_chain.specs.Numbers.{toggled_if}
use Rattle.tn_chain.specs.Listed.{HasNodes, AreAtNodes}

pub no_nodes : (null : ℕ) (listed : List ℕ) (set : ℕ) → set ≡ 0 → HasNodes null listed 0 set
no_nodes null listed set none = record {
  each = λ j v below is inside. absurd (omega (arith, below));
  only = λ t there. absurd (true≢false (sym there ∙ ap (λ (x : ℕ). has x t) none ∙ has-zero t));
}

pub one_node : (null : ℕ) (listed : List ℕ) (k v set next : ℕ) → AreDifferent listed → HasNodes null listed k set
    → slice_get listed k ≡ Some v → next ≡ toggled_if (nat_lt v null) set v
    → HasNodes null listed (k + 1) next
one_node null listed k v set next different nodes v_is next_is = elim (cases_lt v null) [
  | inr above ↦
      let same : next ≡ set = next_is ∙ ap (λ (b : Bool). toggled_if b set v) (le-ltb v null above) in
      record {
        each = λ j w below is inside. elim (cases_eq j k) [
          | inl e ↦ absurd (let one = same_Some w v (sym is ∙ ap (slice_get listed) e ∙ v_is) in
              omega (arith, one, inside, above))
          | inr d ↦ ap (λ (x : ℕ). has x w) same ∙ nodes.each j w (omega (arith, below, d)) is inside
        ];
        only = λ t there. let old = nodes.only t (ap (λ (x : ℕ). has x t) (sym same) ∙ there) in
            (old.0, old.1, (let below = old.2 in omega (arith, below)), old.3);
      }
  | inl below_null ↦
      let toggled : next ≡ toggle set v = next_is ∙ ap (λ (b : Bool). toggled_if b set v) (lt-ltb v null below_null) in
      let fresh : has set v ≡ false = absent v_is in
      record {
        each = λ j w below is inside. ap (λ (x : ℕ). has x w) toggled ∙ elim (cases_eq w v) [
          | inl e ↦ ap (has (toggle set v)) e ∙ has-toggle_same set v ∙ ap not fresh
          | inr d ↦ elim (cases_eq j k) [
            | inl same ↦ absurd (d (same_Some w v (sym is ∙ ap (slice_get listed) same ∙ v_is)))
            | inr other ↦ has-toggle_other set v w d ∙ nodes.each j w (omega (arith, below, other)) is inside
          ]
        ];
        only = λ t there. elim (cases_eq t v) [
          | inl e ↦ ((let b = below_null in omega (arith, e, b)), k, omega arith, v_is ∙ ap (λ (n : ℕ). Some n) (sym e))
          | inr d ↦ let old =
              nodes.only t (sym (has-toggle_other set v t d) ∙ ap (λ (x : ℕ). has x t) (sym toggled) ∙ there) in
              (old.0, old.1, (let below = old.2 in omega (arith, below)), old.3)
        ];
      }
]
  where
    absent : slice_get listed k ≡ Some v → has set v ≡ false
    absent is = elim (cases_Bool (has set v)) [
      | inr e ↦ e
      | inl there ↦ absurd (let old = nodes.only v there in let same = different old.1 k v old.3 is in let below = old.2
          in omega (arith, same, below))
    ]

pub none_at_nodes : (contracts : List Contract) (prices : List ℤ) (listed : List ℕ) (first : ℕ) (offers : List Contract)
    → offers ≡ [] → AreAtNodes contracts prices listed first first offers
none_at_nodes contracts prices listed first offers none = record {
  counted = (let zero_length = ap (length {A = Contract}) none in omega (arith, zero_length));
  each = λ j offer is. absurd (let nothing : slice_get {X = Contract} [] j ≡ Some offer =
      sym (ap (λ (xs : List Contract). slice_get xs j) none) ∙ is in cc nothing);
}

pub one_at_node : (contracts : List Contract) (prices : List ℤ) (listed : List ℕ) (first k v : ℕ)
    (offers next : List Contract) (offer : Contract) → AreAtNodes contracts prices listed first k offers
    → slice_get listed k ≡ Some v → offer.trade ≡ v → offer.price ≡ price_at prices (number_from contracts 0 v)
    → next ≡ offers ++ (offer ∷ []) → AreAtNodes contracts prices listed first (k + 1) next
one_at_node contracts prices listed first k v offers next offer are v_is trade price next_is =
    subst (AreAtNodes contracts prices listed first (k + 1)) (sym next_is) (record {
      counted = (let sum = length-append offers (offer ∷ []) in let before = are.counted in omega (arith, sum, before));
      each = λ j other is. elim (append_cases offers (offer ∷ []) j other is) [
        | inl front ↦ are.each j other front.0
        | inr behind ↦ last behind.place j other behind.at behind.is
      ];
    })
  where
    last : (place j : ℕ) (other : Contract) → j ≡ length offers + place → slice_get (offer ∷ []) place ≡ Some other
        → (slice_get listed (first + j) ≡ Some other.trade)
        × (other.price ≡ price_at prices (number_from contracts 0 other.trade))
    last zero j other at is =
        let same = same_Some offer other is in
        let before = are.counted in
        let there : first + j ≡ k = omega (arith, at, before) in (
          ap (slice_get listed) there ∙ v_is ∙ ap (λ (n : ℕ). Some n) (sym trade ∙ ap (λ (c : Contract). c.trade) same),
          ap (λ (c : Contract). c.price) (sym same) ∙ price ∙ ap
              (λ (n : ℕ). price_at prices (number_from contracts 0 n)) (sym trade
              ∙ ap (λ (c : Contract). c.trade) same),
        )
    last (suc place) j other at is = absurd (cc is)
