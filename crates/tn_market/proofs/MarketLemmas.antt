-- What a market keeps for each of its firms.
use Rattle.std.proofs.Common.{◌≡◌, ◌≢◌, ℕ, zero, suc, ◌+◌, ◌<◌, Bool, true, false, ◌==◌, ◌&&◌, ◌||◌, if◌then◌else◌, List, [], ◌∷◌, ◌++◌, length, map, slice_get, slice_set, get_or, Some, option_map, take, drop, refl, sym, ap, ◌∙◌, subst, arith, inl, inr, ap₂}
use Rattle.std.proofs.lemmas.Bool.{cases_eq, cases_Bool, eqb-true, eqb-false, or_cases, and_parts, or_parts, and_cases}
use Rattle.std.proofs.lemmas.Option.{slice_get_cases, slice_get-map, slice_get_read, slice_get-get_or, same_Some}
use Rattle.std.proofs.lemmas.List.{map-append, length-map}
use Rattle.std.proofs.lemmas.Grind.{common_steps}
use Rattle.std.proofs.Math.ListN.{length-set}
use Rattle.tn_base.specs.Sets.{has, toggle, set_of}
use Rattle.tn_base.specs.Firm.{Firm}
use Rattle.tn_model.specs.declared.ends.Ends.{Ends}
use Rattle.tn_model.specs.Network.{own, part, stands_at, IsNetwork}
use Rattle.tn_model.proofs.NetworkLemmas.{own_stands}
use Rattle.tn_model.proofs.InOrderLemmas.{push_cases}
use Rattle.tn_market.specs.Traded.{AreOwn, HaveOwn, IsMarket, HasOnePlace, ArePlaced, Traded, sold_at, bought_at, placed}

-- an element of a list after a write
slice_get-set_same : (xs : List ℕ) (i v : ℕ) → i < length xs → slice_get (slice_set xs i v) i ≡ Some v
slice_get-set_same [] i v inside = absurd (omega (arith, inside))
slice_get-set_same (x ∷ xs) zero v inside = refl
slice_get-set_same (x ∷ xs) (suc i) v inside = slice_get-set_same xs i v (omega (arith, inside))

slice_get-set_other : (xs : List ℕ) (i v k : ℕ) → k ≢ i → slice_get (slice_set xs i v) k ≡ slice_get xs k
slice_get-set_other [] i v k other = refl
slice_get-set_other (x ∷ xs) zero v zero other = absurd (other refl)
slice_get-set_other (x ∷ xs) zero v (suc k) other = refl
slice_get-set_other (x ∷ xs) (suc i) v zero other = refl
slice_get-set_other (x ∷ xs) (suc i) v (suc k) other =
    slice_get-set_other xs i v k (λ e. other (ap (λ (n : ℕ). suc n) e))

-- what is written at a position where the trade stands, and what stays elsewhere
sold_same : (trade : Ends) (f t : ℕ) (list : List ℕ) (k : ℕ) → (trade.seller == f && trade.at_seller == k) ≡ true
    → k < length list
    → slice_get (sold_at trade f t list) k ≡ Some t
sold_same trade f t list k here inside =
    let parts = and_parts (trade.seller == f) (trade.at_seller == k) here in
    let at : trade.at_seller ≡ k = eqb-true _ _ parts.1 in
    ap (λ (b : Bool). slice_get (if b then slice_set list trade.at_seller t else list) k) parts.0
    ∙ subst (λ (i : ℕ). slice_get (slice_set list i t) k ≡ Some t) (sym at) (slice_get-set_same list k t inside)

sold_other : (trade : Ends) (f t : ℕ) (list : List ℕ) (k : ℕ) → (trade.seller == f && trade.at_seller == k) ≡ false
    → slice_get (sold_at trade f t list) k ≡ slice_get list k
sold_other trade f t list k away =
    elim (cases_Bool (trade.seller == f)) [
      | inl e ↦
          let parts = and_cases (trade.seller == f) (trade.at_seller == k) away in
          ap (λ (b : Bool). slice_get (if b then slice_set list trade.at_seller t else list) k) e
          ∙ slice_get-set_other list trade.at_seller t k (λ same. elim parts [
            | inl h ↦ absurd (cc (h, e))
            | inr h ↦
                eqb-false _ _ h (sym same)
          ])
      | inr e ↦ ap (λ (b : Bool). slice_get (if b then slice_set list trade.at_seller t else list) k) e
    ]

bought_same : (trade : Ends) (f t : ℕ) (list : List ℕ) (k : ℕ) → (trade.buyer == f && trade.at_buyer == k) ≡ true
    → k < length list
    → slice_get (bought_at trade f t list) k ≡ Some t
bought_same trade f t list k here inside =
    sold_same (record {
      seller = trade.buyer;
      buyer = trade.seller;
      at_seller = trade.at_buyer;
      at_buyer =
          trade.at_seller;
    }) f t list k here inside

bought_other : (trade : Ends) (f t : ℕ) (list : List ℕ) (k : ℕ) → (trade.buyer == f && trade.at_buyer == k) ≡ false
    → slice_get (bought_at trade f t list) k ≡ slice_get list k
bought_other trade f t list k away =
    sold_other (record {
      seller = trade.buyer;
      buyer = trade.seller;
      at_seller = trade.at_buyer;
      at_buyer =
          trade.at_seller;
    }) f t list k away

sold_length : (trade : Ends) (f t : ℕ) (list : List ℕ) → length (sold_at trade f t list) ≡ length list
sold_length trade f t list = by_case (trade.seller == f)
  where
    by_case : (b : Bool) → length (if b then slice_set list trade.at_seller t else list) ≡ length list
    by_case true = length-set list trade.at_seller t
    by_case false = refl

bought_length : (trade : Ends) (f t : ℕ) (list : List ℕ) → length (bought_at trade f t list) ≡ length list
bought_length trade f t list =
    sold_length (record {
      seller = trade.buyer;
      buyer = trade.seller;
      at_seller = trade.at_buyer;
      at_buyer =
          trade.at_seller;
    }) f t list

placed_here : (trade : Ends) (f t : ℕ) (list : List ℕ) (k : ℕ) → stands_at trade f k ≡ true → k < length list
    → slice_get (placed trade f t list) k ≡ Some t
placed_here trade f t list k here inside =
    let bought = trade.buyer == f && trade.at_buyer == k in
    let wide : k < length (sold_at trade f t list) = omega (arith, inside, sold_length trade f t list) in
    elim (cases_Bool bought) [
      | inl e ↦ bought_same trade f t (sold_at trade f t list) k e wide
      | inr e ↦ bought_other trade f t (sold_at trade f t list) k e ∙ sold_same trade f t list k (first here e) inside
    ]
  where
    first : (trade.seller == f && trade.at_seller == k || trade.buyer == f && trade.at_buyer == k) ≡ true
        → (trade.buyer == f && trade.at_buyer == k) ≡ false
        → (trade.seller == f && trade.at_seller == k) ≡ true
    first h e = elim (or_cases (trade.seller == f && trade.at_seller == k) (trade.buyer == f && trade.at_buyer == k) h)
        [ inl a ↦ a | inr b ↦ absurd (cc (b, e)) ]

placed_away : (trade : Ends) (f t : ℕ) (list : List ℕ) (k : ℕ) → stands_at trade f k ≡ false
    → slice_get (placed trade f t list) k ≡ slice_get list k
placed_away trade f t list k away =
    let parts = or_parts (trade.seller == f && trade.at_seller == k) (trade.buyer == f && trade.at_buyer == k) away in
    bought_other trade f t (sold_at trade f t list) k parts.1 ∙ sold_other trade f t list k parts.0

-- a position where a trade stands is one of the firm's
stands_inside : (trades : List Ends) (f n : ℕ) → HasOnePlace trades f n → (t k : ℕ) (trade : Ends)
    → slice_get trades t ≡ Some trade
    → stands_at trade f k ≡ true → k < n
stands_inside trades f n places t k trade is stands =
    elim (or_cases (trade.seller == f && trade.at_seller == k) (trade.buyer == f && trade.at_buyer == k) stands) [
      | inl h ↦
          let parts = and_parts (trade.seller == f) (trade.at_seller == k) h in
          let inside = places.sold t trade is (eqb-true _ _ parts.0) in
          omega (arith, inside, eqb-true trade.at_seller k parts.1)
      | inr h ↦
          let parts = and_parts (trade.buyer == f) (trade.at_buyer == k) h in
          let inside = places.bought t trade is (eqb-true _ _ parts.0) in
          omega (arith, inside, eqb-true trade.at_buyer k parts.1)
    ]

-- with the next trade placed
pub one_placed : (trades : List Ends) (f n t : ℕ) (list : List ℕ) (trade : Ends) → HasOnePlace trades f n
    → ArePlaced trades f n t list
    → slice_get trades t ≡ Some trade → ArePlaced trades f n (t + 1) (placed trade f t list)
one_placed trades f n t list trade places before is = record {
  counted = bought_length trade f t (sold_at trade f t list) ∙ sold_length trade f t list ∙ before.counted;
  each = λ s k other inside other_is stands.
      elim (cases_eq s t) [
        | inl e ↦
            let same : other ≡ trade = same_Some _ _ (sym other_is ∙ ap (slice_get trades) e ∙ is) in
            placed_here trade f t list k (subst (λ (x : Ends). stands_at x f k ≡ true) same stands)
            (omega (arith, stands_inside trades f n places s k other other_is stands, before.counted))
            ∙ ap (λ (x : ℕ). Some x) (sym e)
        | inr d ↦
            elim (cases_Bool (stands_at trade f k)) [
              | inl here ↦ absurd (d (places.once k s t other trade other_is is stands here))
              | inr away ↦
                  placed_away trade f t list k away ∙ before.each s k other (omega (arith, inside, d)) other_is stands
            ]
      ];
}

-- with all trades placed, the list is the firm's
pub all_placed : (trades : List Ends) (f n : ℕ) (list : List ℕ) → HasOnePlace trades f n
    → ArePlaced trades f n (length trades) list
    → AreOwn trades f n list
all_placed trades f n list places done = record {
  counted = done.counted;
  each = λ k inside.
      let found = own_stands trades f k (places.whole k inside) in
      done.each (own trades f k) k found.trade (places.whole k inside) found.is found.stands;
}

-- a network has one place for each trade at its firms
pub one_place : {V : Type 0} (firm_of : V → Firm) (firms : List V) (trades : List Ends) (f : ℕ) (v : V)
    → IsNetwork (map firm_of firms) trades
    → slice_get firms f ≡ Some v → HasOnePlace trades f (firm_of v).count
one_place firm_of firms trades f v network is =
    let listed : slice_get (map firm_of firms) f ≡ Some (firm_of v) =
    slice_get-map firm_of firms f ∙ ap (option_map firm_of) is in
    record {
      sold = λ t trade there e.
          let at = network.sold t trade there in
          let same : at.0 ≡ firm_of v = same_Some _ _ (sym at.1 ∙ ap (slice_get (map firm_of firms)) e ∙ listed) in
          omega (arith, at.2, ap (λ (firm : Firm). firm.count) same);
      bought = λ t trade there e.
          let at = network.bought t trade there in
          let same : at.0 ≡ firm_of v = same_Some _ _ (sym at.1 ∙ ap (slice_get (map firm_of firms)) e ∙ listed) in
          omega (arith, at.2, ap (λ (firm : Firm). firm.count) same);
      whole = λ k inside. network.whole f k (firm_of v) listed inside;
      once = network.once f;
    }

-- a firm of a market, with its list
pub record OwnOf {V : Type 0} (firm_of : V → Firm) (firms : List V) (trades : List Ends) (f : ℕ) (items : List ℕ) : Type
    0 where
  pub firm : V
  pub is : slice_get firms f ≡ Some firm
  pub list : AreOwn trades f (firm_of firm).count items
  pub inside : (k : ℕ) → k < length items → own trades f k < length trades

pub own_of : {V L : Type 0} (firm_of : V → Firm) (items_of : L
    → List ℕ) (firms : List V) (trades : List Ends) (lists : List L) (f : ℕ) (list : L)
    → IsMarket (map firm_of firms) trades (map items_of lists) → f < length firms → list ≡ get_or lists f list
    → OwnOf firm_of firms trades f (items_of list)
own_of firm_of items_of firms trades lists f list market inside at =
    let many : length (map items_of lists) ≡ length (map firm_of firms) = market.as_many in
    let count : length lists ≡ length firms = sym (length-map lists items_of) ∙ many ∙ length-map firms firm_of in
    let read : slice_get lists f ≡ Some list =
    slice_get_read lists (length lists) f list refl (omega (arith, count, inside)) at in
    let listed : slice_get (map items_of lists) f ≡ Some (items_of list) =
    slice_get-map items_of lists f ∙ ap (option_map items_of) read in
    elim (slice_get_cases firms f).1 [
      | inl h ↦
          let firm_is : slice_get (map firm_of firms) f ≡ Some (firm_of h.0) =
          slice_get-map firm_of firms f ∙ ap (option_map firm_of) h.2 in
          let own = market.own f (firm_of h.0) (items_of list) firm_is listed in
          record {
            firm = h.0;
            is = h.2;
            list = own;
            inside = λ k below. market.network.whole f k (firm_of h.0) firm_is (omega (arith, below, own.counted));
          }
      | inr h ↦ absurd (omega (arith, h.0, inside))
    ]

-- the same, where the market is seen as its firms and trades
pub own_of_traded : {V L : Type 0} (firm_of : V → Firm) (items_of : L
    → List ℕ) (firms : List V) (trades : List Ends) (lists : List L) (market : Traded V)
    → ◌≡◌ {A = Traded V} (record { firms = firms; trades = trades }) market
    → IsMarket (map firm_of firms) trades (map items_of lists)
    → (f : ℕ) (list : L) → f < length market.firms → list ≡ get_or lists f list
    → OwnOf firm_of market.firms market.trades f (items_of list)
own_of_traded {V} firm_of items_of firms trades lists market seen kept f list inside at =
    let P : Traded V → Type 0 = λ m. f < length m.firms → OwnOf firm_of m.firms m.trades f (items_of list) in
    subst P seen (λ h. own_of firm_of items_of firms trades lists f list kept h at) inside

-- an element read from the list of a firm is its own trade
pub own_read : (trades : List Ends) (f n : ℕ) (list : List ℕ) (k t : ℕ) → AreOwn trades f n list → k < n
    → t ≡ get_or list k t → t ≡ own trades f k
own_read trades f n list k t list_is inside at =
    same_Some _ _ (sym (slice_get_read list n k t (sym list_is.counted) inside at) ∙ list_is.each k inside)

-- the same, with any default
pub own_element : (trades : List Ends) (f n : ℕ) (list : List ℕ) (k d : ℕ) → AreOwn trades f n list → k < n
    → get_or list k d ≡ own trades f k
own_element trades f n list k d list_is inside =
    same_Some _ _ (sym (slice_get-get_or list k d (omega (arith, inside, list_is.counted))) ∙ list_is.each k inside)

-- two tests that agree below n have one set
set_of-same : (p q : ℕ → Bool) (n : ℕ) → ((k : ℕ) → k < n → p k ≡ q k) → set_of p n ≡ set_of q n
unfolding set_of
set_of-same p q zero agree = refl
set_of-same p q (suc n) agree =
    let rest = set_of-same p q n (λ k h. agree k (omega (arith, h))) in
    ap₂ (λ (b : Bool) (x : ℕ). if b then toggle x n else x) (agree n (omega arith)) rest

-- the set of the places of a firm's own trades is its part
pub part_is : (trades : List Ends) (f n on : ℕ) (list : List ℕ) → AreOwn trades f n list
    → set_of (λ k. has on (get_or list k 0)) (length list) ≡ part trades f n on
part_is trades f n on list list_is =
    ap (set_of (λ k. has on (get_or list k 0))) list_is.counted
    ∙ set_of-same _ _ n (λ k inside. ap (has on) (own_element trades f n list k 0 list_is inside))

-- the lists with one more
pub one_listed : {V L : Type 0} (firm_of : V → Firm) (items_of : L
    → List ℕ) (firms : List V) (trades : List Ends) (lists : List L) (v : V) (list : L)
    → HaveOwn (map firm_of firms) trades (map items_of lists) → slice_get firms (length lists) ≡ Some v
    → AreOwn trades (length lists) (firm_of v).count (items_of list)
    → HaveOwn (map firm_of firms) trades (map items_of (lists ++ list ∷ []))
one_listed firm_of items_of firms trades lists v list before is own = λ f firm items firm_is items_is.
    let spread : map items_of (lists ++ list ∷ []) ≡ map items_of lists ++ items_of list ∷ [] =
    map-append items_of lists (list ∷ []) in
    let at : slice_get (map items_of lists ++ items_of list ∷ []) f ≡ Some items =
    sym (ap (λ (xs : List (List ℕ)). slice_get xs f) spread) ∙ items_is in
    elim (push_cases (map items_of lists) (items_of list) f items at) [
      | inl earlier ↦ before f firm items firm_is earlier
      | inr last ↦
          let f_is : f ≡ length lists = last.0 ∙ length-map lists items_of in
          let firm_same : firm ≡ firm_of v = same_Some _ _ (sym firm_is ∙ ap (slice_get (map firm_of firms)) f_is
          ∙ slice_get-map firm_of firms (length lists) ∙ ap (option_map firm_of) is) in
          rw (f_is, firm_same, last.1) own
    ]

pub placed_length : (trade : Ends) (f t : ℕ) (list : List ℕ) → length (placed trade f t list) ≡ length list
placed_length trade f t list = bought_length trade f t (sold_at trade f t list) ∙ sold_length trade f t list

-- what a slice leaves in the vector that it was lent from
pub written_back : (list items : List ℕ) (n : ℕ) → n ≡ length items → length list ≡ length items
    → take n (list ++ drop (length list) items) ≡ list
written_back list items n all same = grind (arith, common_steps)

-- an element that was read from a copy of the list
pub read_from : {X : Type 0} (xs ys : List X) (k : ℕ) (x : X) → xs ≡ ys → k < length xs → x ≡ get_or xs k x
    → slice_get ys k ≡ Some x
read_from {X} xs ys k x same inside at =
    let there : slice_get xs k ≡ Some x = slice_get_read xs (length xs) k x refl inside at in
    ap (λ (zs : List X). slice_get zs k) (sym same) ∙ there

-- as many lists as firms
pub listed_count : {V L : Type 0} (firm_of : V → Firm) (items_of : L → List ℕ) (firms : List V) (lists : List L)
    → length lists ≡ length firms
    → length (map items_of lists) ≡ length (map firm_of firms)
listed_count firm_of items_of firms lists same = length-map lists items_of ∙ same ∙ sym (length-map firms firm_of)
