-- Trades in order stand at each position of a firm, and only once: they and the firms make a network.
use Rattle.std.proofs.Common.{◌≡◌, ℕ, zero, suc, ◌+◌, ◌<◌, ◌≤◌, Bool, true, false, ◌&&◌, ◌||◌, List, [], ◌∷◌, length, take, get_or, slice_get, Option, Some, None, inl, inr, refl, sym, ap, subst, ◌∙◌, arith, add-one, length-append}
use Rattle.std.specs.Prelude.{nat_eq, cond}
use Rattle.std.proofs.lemmas.Bool.{cases_lt, cases_eq, cases_Bool, eqb-true, eq-eqb, ne_eqb}
use Rattle.std.proofs.lemmas.List.{take_all}
use Rattle.std.proofs.lemmas.Option.{none-some, same_Some, slice_get_within, slice_get-get_or}
use Rattle.tn_base.specs.Sets.{has}
use Rattle.tn_base.specs.Firm.{Firm}
use Rattle.tn_base.specs.Table.{buys_of}
use Rattle.tn_base.proofs.TableLemmas.{has-buys_of}
use Rattle.tn_base.specs.declared.side.Side.{Side}
use Rattle.tn_base.specs.declared.side.Side.TheVariants.{Buy, Sell}
use Rattle.tn_model.specs.declared.ends.Ends.{Ends}
use Rattle.tn_model.specs.Network.{stands_at, own, IsNetwork}
use Rattle.tn_model.specs.InOrder.{position_in, side_in, sides_of, AreInOrder}
use Rattle.tn_model.proofs.InOrderLemmas.{with_next, sides_of-next, sides_of-none, own_side}

-- a firm has no fewer own trades among more trades
grows : (f : ℕ) (next : Option Side) (sides : List Side) → length sides ≤ length (with_next f next sides)
grows f None sides = omega arith
grows f (Some side) sides = omega (arith, length-append sides (side ∷ []))

pub sides_of-grows : (f : ℕ) (es : List Ends) (k : ℕ) (d : Ends) → k < length es
    → length (sides_of (take k es) f) ≤ length (sides_of (take (suc k) es) f)
sides_of-grows f es k d h = rw (sides_of-next f es k d h) (grows f (side_in f (get_or es k d)) (sides_of (take k es) f))

-- where a trade stands it has that position
module _ (firms f : ℕ) (es : List Ends) (order : AreInOrder firms es) where
  pub stands_from_position : (t k : ℕ) (e : Ends) → position_in f e ≡ Some k → stands_at e f k ≡ true
  stands_from_position t k e at = by_tests (nat_eq e.seller f) (nat_eq e.buyer f) refl refl at
    where
      by_tests : (sells buys : Bool) → nat_eq e.seller f ≡ sells → nat_eq e.buyer f ≡ buys
          → cond sells (Some e.at_seller) (cond buys (Some e.at_buyer) None) ≡ Some k
          → ((sells && nat_eq e.at_seller k) || (buys && nat_eq e.at_buyer k)) ≡ true
      by_tests true buys seller buyer at = rw (eq-eqb e.at_seller k (same_Some _ _ at)) refl
      by_tests false true seller buyer at = eq-eqb e.at_buyer k (same_Some _ _ at)
      by_tests false false seller buyer at = absurd (none-some _ at)

  pub position_from_stands : (t k : ℕ) (e : Ends) → slice_get es t ≡ Some e → stands_at e f k ≡ true
      → (side : Side) × (side_in f e ≡ Some side) × (k ≡ length (sides_of (take t es) f))
  position_from_stands t k e is stands = by_tests (nat_eq e.seller f) (nat_eq e.buyer f) refl refl stands
    where
      by_tests : (sells buys : Bool) → nat_eq e.seller f ≡ sells → nat_eq e.buyer f ≡ buys
          → ((sells && nat_eq e.at_seller k) || (buys && nat_eq e.at_buyer k)) ≡ true
          → (side : Side) × (cond sells (Some Sell) (cond buys (Some Buy) None) ≡ Some side)
          × (k ≡ length (sides_of (take t es) f))
      by_tests true buys seller buyer stands =
          elim (cases_Bool (nat_eq e.at_seller k)) [
            | inl here ↦ (
              Sell,
              refl,
              sym (eqb-true e.at_seller k here) ∙ (order t e is).at_seller
                  ∙ ap (λ (g : ℕ). length (sides_of (take t es) g)) (eqb-true e.seller f seller),
            )
            | inr elsewhere ↦
                absurd (both buys buyer (subst (λ b. (b || (buys && nat_eq e.at_buyer k)) ≡ true) elsewhere stands))
          ]
        where
          both : (buys : Bool) → nat_eq e.buyer f ≡ buys → (false || (buys && nat_eq e.at_buyer k)) ≡ true → ⊥
          both true buyer stands = (order t e is).apart (eqb-true e.seller f seller ∙ sym (eqb-true e.buyer f buyer))
          both false buyer stands = absurd (cc)
      by_tests false true seller buyer stands = (
        Buy,
        refl,
        sym (eqb-true e.at_buyer k stands) ∙ (order t e is).at_buyer
            ∙ ap (λ (g : ℕ). length (sides_of (take t es) g)) (eqb-true e.buyer f buyer),
      )
      by_tests false false seller buyer stands = absurd (cc)

  position_from_side : (t : ℕ) (e : Ends) (side : Side) → slice_get es t ≡ Some e → side_in f e ≡ Some side
      → position_in f e ≡ Some (length (sides_of (take t es) f))
  position_from_side t e side is at = by_tests (nat_eq e.seller f) (nat_eq e.buyer f) refl refl at
    where
      by_tests : (sells buys : Bool) → nat_eq e.seller f ≡ sells → nat_eq e.buyer f ≡ buys
          → cond sells (Some Sell) (cond buys (Some Buy) None) ≡ Some side
          → cond sells (Some e.at_seller) (cond buys (Some e.at_buyer) None) ≡ Some (length (sides_of (take t es) f))
      by_tests true buys seller buyer at =
          ap Some ((order t e is).at_seller ∙ ap (λ (g : ℕ). length (sides_of (take t es) g))
          (eqb-true e.seller f seller))
      by_tests false true seller buyer at =
          ap Some ((order t e is).at_buyer ∙ ap (λ (g : ℕ). length (sides_of (take t es) g)) (eqb-true e.buyer f buyer))
      by_tests false false seller buyer at = absurd (none-some _ at)

  -- a trade stands at each position
  pub record StandsBelow (n k : ℕ) : Type 0 where
    pub t : ℕ
    pub trade : Ends
    pub is : slice_get es t ≡ Some trade
    pub stands : stands_at trade f k ≡ true

  pub found : (n k : ℕ) → n ≤ length es → k < length (sides_of (take n es) f) → StandsBelow n k
  found zero k most below = absurd (omega (arith, below, ap length (sides_of-none f)))
  found (suc n) k most below = elim (cases_lt k (length (sides_of (take n es) f))) [
    | inl earlier ↦ let r = found n k (omega (arith, most)) earlier in
        record { t = r.t; trade = r.trade; is = r.is; stands = r.stands }
    | inr last ↦ by_side (side_in f next) refl last
  ]
    where
      next : Ends
      next = get_or es n (record { seller = 0; buyer = 0; at_seller = 0; at_buyer = 0 })

      next_is : slice_get es n ≡ Some next
      next_is = slice_get-get_or es n _ (omega (arith, most))

      by_side : (side : Option Side) → side_in f next ≡ side → length (sides_of (take n es) f) ≤ k
          → StandsBelow (suc n) k
      by_side None at last =
          absurd (omega (
            arith,
            last,
            below,
            ap length (sides_of-next f es n _ (omega (arith, most))
                ∙ ap (λ (s : Option Side). with_next f s (sides_of (take n es) f)) at),
          ))
      by_side (Some side) at last =
          let more = ap length (sides_of-next f es n _ (omega (arith, most))
          ∙ ap (λ (s : Option Side). with_next f s (sides_of (take n es) f)) at) in
          let one = length-append (sides_of (take n es) f) (side ∷ []) in
          let here : length (sides_of (take n es) f) ≡ k = omega (arith, last, below, more, one) in
          record {
            t = n;
            trade = next;
            is = next_is;
            stands =
                stands_from_position n k next (position_from_side n next side next_is at ∙ ap Some here);
          }

  grows_to : (m n : ℕ) → m ≤ n → n ≤ length es → length (sides_of (take m es) f) ≤ length (sides_of (take n es) f)
  grows_to m zero less most = rw (zero_only m less) (omega arith)
    where
      zero_only : (m : ℕ) → m ≤ 0 → m ≡ 0
      zero_only m less = omega arith
  grows_to m (suc n) less most = elim (cases_eq m (suc n)) [
    | inl same ↦ rw same (omega arith)
    | inr d ↦ let before = grows_to m n (omega (arith, less, d)) (omega (arith, most)) in
        omega (
          arith,
          before,
          sides_of-grows f es n (record { seller = 0; buyer = 0; at_seller = 0; at_buyer = 0 })
              (omega (arith, most)),
        )
  ]

  -- no two trades stand at one position
  not_before : (k s t : ℕ) (one other : Ends) → slice_get es s ≡ Some one → slice_get es t ≡ Some other
      → stands_at one f k ≡ true → stands_at other f k ≡ true → s < t → ⊥
  not_before k s t one other one_is other_is one_stands other_stands less =
      let p = position_from_stands s k one one_is one_stands in
      let q = position_from_stands t k other other_is other_stands in
      let s_within = slice_get_within es s one one_is in
      let t_within = slice_get_within es t other other_is in
      let one_or : get_or es s one ≡ one = same_Some _ _ (sym (slice_get-get_or es s one s_within) ∙ one_is) in
      let more = ap length (sides_of-next f es s one s_within
      ∙ ap (λ (x : Option Side). with_next f x (sides_of (take s es) f)) (ap (side_in f) one_or ∙ p.1)) in
      let one_more = length-append (sides_of (take s es) f) (p.0 ∷ []) in
      let most = grows_to (suc s) t (omega (arith, less)) (omega (arith, t_within)) in
      let at_s : k ≡ length (sides_of (take s es) f) = p.2 in
      let at_t : k ≡ length (sides_of (take t es) f) = q.2 in
      absurd (omega (arith, at_s, at_t, more, one_more, most))

  pub once : (k s t : ℕ) (one other : Ends) → slice_get es s ≡ Some one → slice_get es t ≡ Some other
      → stands_at one f k ≡ true → stands_at other f k ≡ true → s ≡ t
  once k s t one other one_is other_is one_stands other_stands = elim (cases_eq s t) [
    | inl same ↦ same
    | inr d ↦ elim (cases_lt s t) [
      | inl less ↦ absurd (not_before k s t one other one_is other_is one_stands other_stands less)
      | inr most ↦ absurd (not_before k t s other one other_is one_is other_stands one_stands (omega (arith, most, d)))
    ]
  ]

-- the trade at a position is no later than one that stands there
own_at_most : (f k : ℕ) (es : List Ends) (t : ℕ) (e : Ends) → slice_get es t ≡ Some e → stands_at e f k ≡ true
    → own es f k ≤ t
own_at_most f k [] t e is stands = absurd (none-some _ is)
own_at_most f k (x ∷ es) zero e is stands = rw (ap (λ y. stands_at y f k) (same_Some x e is) ∙ stands) (omega arith)
own_at_most f k (x ∷ es) (suc t) e is stands = by_test (stands_at x f k) (own_at_most f k es t e is stands)
  where
    by_test : (b : Bool) → own es f k ≤ t → cond b 0 (own es f k + 1) ≤ suc t
    by_test true most = omega arith
    by_test false most = omega (arith, most)

-- a trade stands at each position of a firm
pub own_within : (firms f k : ℕ) (es : List Ends) → AreInOrder firms es → k < length (sides_of es f)
    → own es f k < length es
own_within firms f k es order below =
    let r = found firms f es order (length es) k (omega arith)
    (subst (λ (front : List Ends). k < length (sides_of front f)) (sym (take_all (length es) es (omega arith)))
    below) in
    omega (arith, own_at_most f k es r.t r.trade r.is r.stands, slice_get_within es r.t r.trade r.is)

pub there : {A : Type 0} (xs : List A) (k : ℕ) → k < length xs → (x : A) × (slice_get xs k ≡ Some x)
there [] k below = absurd (omega (arith, below))
there (x ∷ xs) zero below = (x, refl)
there (x ∷ xs) (suc k) below = there xs k (omega (arith, below))

-- and it is the trade that is found there
own_stands : (f k : ℕ) (es : List Ends) (e : Ends) → slice_get es (own es f k) ≡ Some e → stands_at e f k ≡ true
own_stands f k [] e is = absurd (none-some _ is)
own_stands f k (x ∷ es) e is = by_test (stands_at x f k) refl is (own_stands f k es e)
  where
    by_test : (b : Bool) → stands_at x f k ≡ b → slice_get (x ∷ es) (cond b 0 (own es f k + 1)) ≡ Some e
        → (slice_get es (own es f k) ≡ Some e → stands_at e f k ≡ true) → stands_at e f k ≡ true
    by_test true here is later = ap (λ y. stands_at y f k) (sym (same_Some x e is)) ∙ here
    by_test false elsewhere is later = later (subst (λ n. slice_get (x ∷ es) n ≡ Some e) (add-one (own es f k)) is)

-- at a later position of a firm stands a later trade
pub own_ascends : (firms f i j : ℕ) (es : List Ends) → AreInOrder firms es → i < j → j < length (sides_of es f)
    → own es f i < own es f j
own_ascends firms f i j es order before below =
    let one = there es (own es f i) (own_within firms f i es order (omega (arith, before, below))) in
    let other = there es (own es f j) (own_within firms f j es order below) in
    let p = position_from_stands firms f es order (own es f i) i one.0 one.1 (own_stands f i es one.0 one.1) in
    let q = position_from_stands firms f es order (own es f j) j other.0 other.1 (own_stands f j es other.0 other.1) in
    let at_i : i ≡ length (sides_of (take (own es f i) es) f) = p.2 in
    let at_j : j ≡ length (sides_of (take (own es f j) es) f) = q.2 in
    let within = slice_get_within es (own es f i) one.0 one.1 in
    elim (cases_lt (own es f i) (own es f j)) [
      | inl less ↦ less
      | inr most ↦ let fewer = grows_to firms f es order (own es f j) (own es f i) most (omega (arith, within)) in
          absurd (omega (arith, at_i, at_j, fewer, before))
    ]

-- each firm has the sides of its own trades
abbrev pub HaveSides : List Ends → List Firm → Type 0
HaveSides es firms = (f : ℕ) (firm : Firm) → slice_get firms f ≡ Some firm → (firm.count ≡ length (sides_of es f))
    × (firm.buys ≡ buys_of (sides_of es f))

module _ (es : List Ends) (firms : List Firm) (order : AreInOrder (length firms) es) (have : HaveSides es firms) where
  -- where a trade stands on a side of a firm
  on_side : (f t : ℕ) (trade : Ends) (side : Side) → slice_get es t ≡ Some trade → side_in f trade ≡ Some side
      → slice_get (sides_of es f) (length (sides_of (take t es) f)) ≡ Some side
  on_side f t trade side is at = own_side f es t trade side is at

  sold : (t : ℕ) (trade : Ends) → slice_get es t ≡ Some trade
      → (firm : Firm) × (slice_get firms trade.seller ≡ Some firm) × (trade.at_seller < firm.count)
      × (has firm.buys trade.at_seller ≡ false)
  sold t trade is =
      let next = order t trade is in
      let r = there firms trade.seller next.seller in
      let h = have trade.seller r.0 r.1 in
      let at : slice_get (sides_of es trade.seller) trade.at_seller ≡ Some Sell =
      ap (slice_get (sides_of es trade.seller)) next.at_seller
      ∙ on_side trade.seller t trade Sell is
      (ap (λ b. cond b (Some Sell) (cond (nat_eq trade.buyer trade.seller) (Some Buy) None))
      (eq-eqb trade.seller trade.seller refl)) in (
        r.0,
        r.1,
        subst (λ n. trade.at_seller < n) (sym h.0)
            (slice_get_within (sides_of es trade.seller) trade.at_seller Sell at),
        ap (λ (b : ℕ). has b trade.at_seller) h.1 ∙ not_bought (sides_of es trade.seller) trade.at_seller at,
      )
    where
      not_bought : (sides : List Side) (k : ℕ) → slice_get sides k ≡ Some Sell → has (buys_of sides) k ≡ false
      not_bought sides k at = elim (cases_Bool (has (buys_of sides) k)) [
        | inl bought ↦ absurd (differ (sym ((has-buys_of sides k).0 bought) ∙ at))
        | inr fine ↦ fine
      ]
        where
          differ : Some Buy ≡ Some Sell → ⊥
          differ e = absurd (cc)

  bought : (t : ℕ) (trade : Ends) → slice_get es t ≡ Some trade
      → (firm : Firm) × (slice_get firms trade.buyer ≡ Some firm) × (trade.at_buyer < firm.count)
      × (has firm.buys trade.at_buyer ≡ true)
  bought t trade is =
      let next = order t trade is in
      let r = there firms trade.buyer next.buyer in
      let h = have trade.buyer r.0 r.1 in
      let buys : side_in trade.buyer trade ≡ Some Buy =
      ap (λ b. cond b (Some Sell) (cond (nat_eq trade.buyer trade.buyer) (Some Buy) None))
      (ne_eqb trade.seller trade.buyer next.apart) ∙ ap (λ b. cond b (Some Buy) None)
      (eq-eqb trade.buyer trade.buyer refl) in
      let at : slice_get (sides_of es trade.buyer) trade.at_buyer ≡ Some Buy =
      ap (slice_get (sides_of es trade.buyer)) next.at_buyer ∙ on_side trade.buyer t trade Buy is buys in (
        r.0,
        r.1,
        subst (λ n. trade.at_buyer < n) (sym h.0)
            (slice_get_within (sides_of es trade.buyer) trade.at_buyer Buy at),
        ap (λ (b : ℕ). has b trade.at_buyer) h.1 ∙ (has-buys_of (sides_of es trade.buyer) trade.at_buyer).1 at,
      )

  pub network : IsNetwork firms es
  network = record {
    apart = λ t trade is. (order t trade is).apart;
    sold = sold;
    bought = bought;
    whole = λ f k firm is below. own_within (length firms) f k es order (subst (λ n. k < n) (have f firm is).0 below);
    once = λ f k s t one other one_is other_is one_stands other_stands. once (length firms) f es order k s t one other
        one_is other_is one_stands other_stands;
  }
