-- How a graph is laid out for a market, trade by trade, and how it stays so where trades change their firms.
use Rattle.std.proofs.Common.{◌≡◌, ◌≢◌, ℕ, ◌+◌, ◌*◌, ◌<◌, ◌≤◌, Bool, true, false, not, if◌then◌else◌, List, length, set, slice_get, get_or, Some, Option, option_map, refl, sym, ap, ap₂, ◌∙◌, subst, arith, inl, inr, ◌⊎◌, ℤ, mul-pos}
use Rattle.std.proofs.lemmas.Bool.{cases_eq, cases_lt, cases_order}
use Rattle.std.proofs.lemmas.List.{length-set, get_or-set_same, get_or-set_other}
use Rattle.std.proofs.lemmas.Option.{same_Some, some_pair_parts, slice_get_cases, slice_get_within, slice_get_past}
use Rattle.tn_base.specs.Sets.{has}
use Rattle.tn_base.specs.Firm.{Firm}
use Rattle.tn_model.specs.declared.ends.Ends.{Ends}
use Rattle.tn_model.specs.Network.{own, IsNetwork}
use Rattle.tn_market.specs.Graph.{raised as raised_end}
use Rattle.tn_market.specs.Widths.{most_market_trades}
use Rattle.tn_market.proofs.GraphLemmas.{same_firm}
use Rattle.tn_graph.specs.declared.spot.Spot.{Spot}
use Rattle.tn_graph.specs.Blocks.{Places, HasRoomForBlocks, IsSpotOf, AreOneOrApart, spot_at, no_spot, block_size, room_of}
use Rattle.tn_graph.specs.Layout.{end_of, IsLaidOut, IsTurned, IsLaidTo, IsLaidBefore, own_before, room_before, spot_for}
use Rattle.tn_graph.proofs.EndLemmas.{end_owned, one_end}
use Rattle.tn_graph.proofs.RoomLemmas.{sum_next, sum_past, own_few, own_once, room_few, room_small}

-- ---- trade by trade

pub laid_none : (firms : List Firm) (trades : List Ends) (on : ℕ) (raised lowered : List Spot) (owned : List ℕ)
    → length raised ≡ length trades + 1 → length lowered ≡ length trades + 1
    → length owned ≡ 2 * (length trades + 1) → IsLaidTo firms trades on 0 0 raised lowered owned
laid_none firms trades on raised lowered owned raised_sized lowered_sized own_sized = record {
  raised_sized = raised_sized;
  lowered_sized = lowered_sized;
  own_sized = own_sized;
  spots = λ rises t g j firm is before there. absurd (never g j before);
  owns = λ g j d firm is before inside. absurd (never g j before);
}
  where
    never : (g j : ℕ) → IsLaidBefore 0 0 g j → ⊥
    never g j (inl p) = absurd (omega (arith, p))
    never g j (inr p) = let q = p.1 in absurd (omega (arith, q))

-- past a firm's positions the next firm begins
pub laid_next : (firms : List Firm) (trades : List Ends) → IsNetwork firms trades → (on f k : ℕ) (firm : Firm)
    → slice_get firms f ≡ Some firm → k ≡ firm.count → (raised lowered : List Spot) (owned : List ℕ)
    → IsLaidTo firms trades on f k raised lowered owned → IsLaidTo firms trades on (f + 1) 0 raised lowered owned
laid_next firms trades network on f k firm is all raised lowered owned laid = record {
  raised_sized = laid.raised_sized;
  lowered_sized = laid.lowered_sized;
  own_sized = laid.own_sized;
  spots = λ rises t g j other other_is before there.
      let at = end_owned firms trades network (has on) rises t g j there in
      let inside : j < other.count = subst (λ (z : Firm). j < z.count)
      (same_firm firms g at.firm other at.is other_is) at.inside in
      laid.spots rises t g j other other_is (earlier g j other other_is inside before) there;
  owns = λ g j d other other_is before inside.
      laid.owns g j d other other_is (earlier g j other other_is inside before) inside;
}
  where
    earlier : (g j : ℕ) (other : Firm) → slice_get firms g ≡ Some other → j < other.count → IsLaidBefore (f + 1) 0 g j
        → IsLaidBefore f k g j
    earlier g j other other_is inside (inr p) = let q = p.1 in absurd (omega (arith, q))
    earlier g j other other_is inside (inl p) = elim (cases_eq g f) [
      | inr d ↦ inl (omega (arith, p, d))
      | inl e ↦
          let same : other ≡ firm = same_Some _ _ (sym other_is ∙ ap (slice_get firms) e ∙ is) in
          let counts : other.count ≡ firm.count = ap (λ (z : Firm). z.count) same in
          inr (e, omega (arith, inside, counts, all))
    ]

-- the place of one trade more is written
pub laid_more : (firms : List Firm) (trades : List Ends) → IsNetwork firms trades → (on f k : ℕ) (firm : Firm)
    → slice_get firms f ≡ Some firm → k < firm.count → f < length firms
    → (raised lowered : List Spot) (owned : List ℕ) → IsLaidTo firms trades on f k raised lowered owned
    → (t : ℕ) → t ≡ own trades f k → (rises : Bool) → end_of trades (has on) rises t ≡ Some (f, k)
    → (spot : Spot) → spot ≡ spot_for firms f firm.count k → (raised' lowered' : List Spot) (owned' : List ℕ)
    → raised' ≡ (if rises then set raised t spot else raised)
    → lowered' ≡ (if rises then lowered else set lowered t spot)
    → owned' ≡ set owned (own_before firms f + k) t
    → IsLaidTo firms trades on f (k + 1) raised' lowered' owned'
laid_more firms trades network on f k firm is inside f_in raised lowered owned laid t t_is rises there spot spot_is
    raised' lowered' owned' raised_is lowered_is owned_is = record {
      raised_sized = ap length raised_is ∙ either_long rises raised lowered t laid.raised_sized;
      lowered_sized = ap length lowered_is ∙ other_long rises raised lowered t laid.lowered_sized;
      own_sized = ap length owned_is ∙ length-set owned (own_before firms f + k) t ∙ laid.own_sized;
      spots = λ r u g j other other_is before end.
          ap₂ (λ (xs ys : List Spot). get_or (if r then xs else ys) u no_spot) raised_is lowered_is
          ∙ elim (split g j before) [
            | inl earlier ↦
                kept r u (λ r_is u_is. not_here g j earlier (pair g j
                (sym there ∙ ap₂ (end_of trades (has on)) (sym r_is) (sym u_is) ∙ end)))
                ∙ laid.spots r u g j other other_is earlier end
            | inr now ↦
                let here : end_of trades (has on) r u ≡ Some (f, k) =
                end ∙ ap₂ (λ (a b : ℕ). Some (a, b)) now.0 now.1 in
                let owner = end_owned firms trades network (has on) r u f k here in
                let u_is : u ≡ t = sym owner.owns ∙ sym t_is in
                let r_is : r ≡ rises = one_end firms trades network (has on) r rises u f k k here
                (ap (end_of trades (has on) rises) u_is ∙ there) in
                let same : firm ≡ other = same_Some _ _ (sym is ∙ ap (slice_get firms) (sym now.0) ∙ other_is) in
                written r u r_is u_is ∙ spot_is
                ∙ ap₂ (λ (z : Firm) (i : ℕ). spot_for firms f z.count i) same (sym now.1)
                ∙ ap (λ (h : ℕ). spot_for firms h other.count j) (sym now.0)
          ];
      owns = λ g j d other other_is before below.
          ap (λ (xs : List ℕ). get_or xs (own_before firms g + j) d) owned_is
          ∙ elim (split g j before) [
            | inl earlier ↦
                get_or-set_other owned (own_before firms f + k) (own_before firms g + j) t d
                (apart g j other other_is below earlier)
                ∙ laid.owns g j d other other_is earlier below
            | inr now ↦
                ap (λ (i : ℕ). get_or (set owned (own_before firms f + k) t) i d)
                (ap₂ (λ (h i : ℕ). own_before firms h + i) now.0 now.1)
                ∙ get_or-set_same owned (own_before firms f + k) t d own_inside
                ∙ t_is ∙ ap₂ (own trades) (sym now.0) (sym now.1)
          ];
    }
  where
    t_below : t < length trades
    t_below = let below = network.whole f k firm is inside in omega (arith, below, t_is)

    own_inside : own_before firms f + k < length owned
    own_inside =
        let next = sum_next (λ firm. firm.count) firms f firm is in
        let few = own_few firms trades network (f + 1) (omega (arith, f_in)) in
        let sized = laid.own_sized in
        omega (arith, next, few, sized, inside)

    either_long : (r : Bool) (xs ys : List Spot) (u : ℕ) → length xs ≡ length trades + 1
        → length (if r then set xs u spot else xs) ≡ length trades + 1
    either_long true xs ys u long = length-set xs u spot ∙ long
    either_long false xs ys u long = long

    other_long : (r : Bool) (xs ys : List Spot) (u : ℕ) → length ys ≡ length trades + 1
        → length (if r then ys else set ys u spot) ≡ length trades + 1
    other_long true xs ys u long = long
    other_long false xs ys u long = length-set ys u spot ∙ long

    split : (g j : ℕ) → IsLaidBefore f (k + 1) g j → IsLaidBefore f k g j ⊎ ((g ≡ f) × (j ≡ k))
    split g j (inl p) = inl (inl p)
    split g j (inr p) = elim (cases_eq j k) [
      | inl e ↦ inr (p.0, e)
      | inr d ↦ inl (inr (p.0, (let q = p.1 in omega (arith, q, d))))
    ]

    pair : (g j : ℕ) → ◌≡◌ {A = Option (ℕ × ℕ)} (Some (f, k)) (Some (g, j)) → (f ≡ g) × (k ≡ j)
    pair g j e = some_pair_parts f g k j e

    not_here : (g j : ℕ) → IsLaidBefore f k g j → (f ≡ g) × (k ≡ j) → ⊥
    not_here g j (inl p) same = let e = same.0 in absurd (omega (arith, p, e))
    not_here g j (inr p) same = let e = same.1 in let q = p.1 in absurd (omega (arith, q, e))

    apart : (g j : ℕ) (other : Firm) → slice_get firms g ≡ Some other → j < other.count → IsLaidBefore f k g j
        → own_before firms g + j ≢ own_before firms f + k
    apart g j other other_is below (inl p) e =
        let past = sum_past (λ firm. firm.count) firms g f other other_is p in
        absurd (omega (arith, past, below, e))
    apart g j other other_is below (inr p) e =
        let same : own_before firms g ≡ own_before firms f = ap (own_before firms) p.0 in
        let q = p.1 in absurd (omega (arith, same, q, e))

    kept : (r : Bool) (u : ℕ) → (r ≡ rises → u ≡ t → ⊥)
        → get_or (if r then (if rises then set raised t spot else raised)
        else (if rises then lowered else set lowered t spot)) u no_spot
        ≡ get_or (if r then raised else lowered) u no_spot
    kept r u other = by_case r rises other
      where
        by_case : (r b : Bool) → (r ≡ b → u ≡ t → ⊥)
            → get_or (if r then (if b then set raised t spot else raised)
            else (if b then lowered else set lowered t spot)) u no_spot
            ≡ get_or (if r then raised else lowered) u no_spot
        by_case true true d = get_or-set_other raised t u spot no_spot (λ e. d refl e)
        by_case true false d = refl
        by_case false true d = refl
        by_case false false d = get_or-set_other lowered t u spot no_spot (λ e. d refl e)

    written : (r : Bool) (u : ℕ) → r ≡ rises → u ≡ t
        → get_or (if r then (if rises then set raised t spot else raised)
        else (if rises then lowered else set lowered t spot)) u no_spot ≡ spot
    written r u r_is u_is =
        ap₂ (λ (b : Bool) (i : ℕ). get_or (if b then (if rises then set raised t spot else raised)
        else (if rises then lowered else set lowered t spot)) i no_spot) r_is u_is
        ∙ at rises
      where
        raised_long : t < length raised
        raised_long = let sized = laid.raised_sized in let below = t_below in omega (arith, sized, below)

        lowered_long : t < length lowered
        lowered_long = let sized = laid.lowered_sized in let below = t_below in omega (arith, sized, below)

        at : (b : Bool) → get_or (if b then (if b then set raised t spot else raised)
            else (if b then lowered else set lowered t spot)) t no_spot ≡ spot
        at true = get_or-set_same raised t spot no_spot raised_long
        at false = get_or-set_same lowered t spot no_spot lowered_long

-- ---- all trades

-- where a trade stands once all are laid out: at a position of a firm
record Standing (firms : List Firm) (trades : List Ends) (on : ℕ) (places : Places) (rises : Bool) (t : ℕ) : Type
    0 where
  pub f : ℕ
  pub k : ℕ
  pub firm : Firm
  pub is : slice_get firms f ≡ Some firm
  pub inside : k < firm.count
  pub owns : own trades f k ≡ t
  pub spot : spot_at places rises t ≡ spot_for firms f firm.count k

module _ (firms : List Firm) (trades : List Ends) (network : IsNetwork firms trades) (on : ℕ)
    (raised lowered : List Spot) (owned : List ℕ)
    (laid : IsLaidTo firms trades on (length firms) 0 raised lowered owned) where
  abbrev places : Places
  places = record { laid = length trades; raised = raised; lowered = lowered; own = owned }

  at_end : (rises : Bool) (t f k : ℕ) → end_of trades (has on) rises t ≡ Some (f, k)
      → Standing firms trades on places rises t
  at_end rises t f k is =
      let end = end_owned firms trades network (has on) rises t f k is in
      record {
        f = f;
        k = k;
        firm = end.firm;
        is = end.is;
        inside = end.inside;
        owns = end.owns;
        spot = laid.spots rises t f k end.firm end.is (inl (slice_get_within firms f end.firm end.is)) is;
      }

  stands : (rises : Bool) (t : ℕ) → t < length trades → Standing firms trades on places rises t
  stands rises t below = elim (slice_get_cases trades t).1 [
    | inl found ↦
        let pair = raised_end found.0 (if rises then has on t else not (has on t)) in
        at_end rises t pair.0 pair.1
        (ap (option_map (λ trade. raised_end trade (if rises then has on t else not (has on t)))) found.2)
    | inr past ↦ (let above = past.0 in absurd (omega (arith, above, below)))
  ]

  own_at : (f k : ℕ) (firm : Firm) → slice_get firms f ≡ Some firm → k < firm.count
      → get_or owned (own_before firms f + k) (length trades) ≡ own trades f k
  own_at f k firm is inside =
      laid.owns f k (length trades) firm is (inl (slice_get_within firms f firm is)) inside

  spot_sound : ((f : ℕ) (firm : Firm) → slice_get firms f ≡ Some firm → firm.count ≤ 64) → (rises : Bool) (t : ℕ)
      → t < length trades
      → IsSpotOf owned (length trades) (room_of (length trades + 1)) t (spot_at places rises t)
  spot_sound each rises t below =
      let at = stands rises t below in
      let f_in = slice_get_within firms at.f at.firm at.is in
      let next = sum_next (λ firm. block_size firm.count) firms at.f at.firm at.is in
      let few = room_few firms trades network each (at.f + 1) (omega (arith, f_in)) in
      subst (IsSpotOf owned (length trades) (room_of (length trades + 1)) t) (sym at.spot)
      (record {
        inside = omega (arith, next, few);
        below = at.inside;
        owns = own_at at.f at.k at.firm at.is at.inside ∙ at.owns;
        trades = λ k inside.
            let here = own_at at.f k at.firm at.is inside in
            let there = network.whole at.f k at.firm at.is inside in
            omega (arith, here, there);
        once = λ i k i_in k_in same. own_once firms trades network at.f i k at.firm at.is i_in k_in
            (sym (own_at at.f i at.firm at.is i_in) ∙ same ∙ own_at at.f k at.firm at.is k_in);
      })

  blocks_apart : (one other : Bool) (s t : ℕ) → s < length trades → t < length trades
      → AreOneOrApart (spot_at places one s) (spot_at places other t)
  blocks_apart one other s t s_below t_below =
      let first = stands one s s_below in
      let second = stands other t t_below in
      subst (λ (z : Spot). AreOneOrApart z (spot_at places other t)) (sym first.spot)
      (subst (AreOneOrApart (spot_for firms first.f first.firm.count first.k)) (sym second.spot) (by_order first.f
      second.f first.k second.k first.firm second.firm first.is second.is first.inside second.inside))
    where
      by_order : (f g i j : ℕ) (firm next : Firm) → slice_get firms f ≡ Some firm → slice_get firms g ≡ Some next
          → i < firm.count → j < next.count
          → AreOneOrApart (spot_for firms f firm.count i) (spot_for firms g next.count j)
      by_order f g i j firm next is next_is i_in j_in = elim (cases_order f g) [
        | inl same ↦
            let one : firm ≡ next = same_Some _ _ (sym is ∙ ap (slice_get firms) same ∙ next_is) in
            let starts : room_before firms f ≡ room_before firms g = ap (room_before firms) same in
            record {
              same_count = λ _. ap (λ (z : Firm). z.count) one;
              same_own = λ _. ap (own_before firms) same;
              apart = λ less. absurd (omega (arith, starts, less));
            }
        | inr order ↦ elim order [
          | inl before ↦
              let past = sum_past (λ firm. block_size firm.count) firms f g firm is before in
              let large = block_large firm.count i i_in in
              record {
                same_count = λ same. absurd (omega (arith, same, past, large));
                same_own = λ same. absurd (omega (arith, same, past, large));
                apart = λ _. past;
              }
          | inr after ↦
              let past = sum_past (λ firm. block_size firm.count) firms g f next next_is after in
              let large = block_large next.count j j_in in
              record {
                same_count = λ same. absurd (omega (arith, same, past, large));
                same_own = λ same. absurd (omega (arith, same, past, large));
                apart = λ less. absurd (omega (arith, less, past, large));
              }
        ]
      ]
        where
          block_large : (n k : ℕ) → k < n → 0 < block_size n
          block_large n k below = mul-pos (omega (arith, below)) (omega arith)

  -- a graph with these places is sound
  pub sound : ((f : ℕ) (firm : Firm) → slice_get firms f ≡ Some firm → firm.count ≤ 64) → (cells : List ℤ)
      → length trades ≤ most_market_trades
      → length cells ≡ room_of (length trades + 1) → HasRoomForBlocks (length trades + 1) places cells
  sound each cells few sized = record {
    few = omega (arith, few);
    laid_few = omega arith;
    all_laid = λ _. refl;
    raised_sized = laid.raised_sized;
    lowered_sized = laid.lowered_sized;
    own_sized = laid.own_sized;
    cells_sized = sized;
    spots = spot_sound each;
    blocks = blocks_apart;
  }

  -- and laid out
  pub laid_out : IsLaidOut trades (has on) places
  unfolding at_end
  laid_out = record {
    all = refl;
    together = λ one other s t f i j s_is t_is.
        let first = at_end one s f i s_is in
        let second = at_end other t f j t_is in
        ap (λ (z : Spot). z.start) first.spot ∙ sym (ap (λ (z : Spot). z.start) second.spot);
  }

-- ---- trades that change their firms

-- what stood at a place before a trade was turned
record Mate (trades : List Ends) (was is_on : ℕ → Bool) (before after : Places) (rises : Bool) (u : ℕ) : Type 0 where
  pub side : Bool
  pub end : end_of trades was side u ≡ end_of trades is_on rises u
  pub spot : spot_at before side u ≡ spot_at after rises u

pub laid_turned : (trades : List Ends) (was is_on : ℕ → Bool) (t : ℕ) (before after : Places)
    → IsLaidOut trades was before → IsTurned t before after → is_on t ≡ not (was t)
    → ((k : ℕ) → k ≢ t → is_on k ≡ was k) → IsLaidOut trades is_on after
laid_turned trades was is_on t before after laid turned here elsewhere = record {
  all = turned.laid ∙ laid.all;
  together = λ one other s u f i j s_is u_is.
      let first = mate one s in
      let second = mate other u in
      sym (ap (λ (z : Spot). z.start) first.spot)
      ∙ laid.together first.side second.side s u f i j (first.end ∙ s_is) (second.end ∙ u_is)
      ∙ ap (λ (z : Spot). z.start) second.spot;
}
  where
    at : ℕ → Bool → Option (ℕ × ℕ)
    at u b = option_map (λ trade. raised_end trade b) (slice_get trades u)

    other_side : (r b c : Bool) → c ≡ not b → (if not r then b else not b) ≡ (if r then c else not c)
    other_side true true c e = sym e
    other_side true false c e = sym e
    other_side false true c e = ap not (sym e)
    other_side false false c e = ap not (sym e)

    mate : (rises : Bool) (u : ℕ) → Mate trades was is_on before after rises u
    mate rises u = elim (cases_eq u t) [
      | inl e ↦ record {
        side = not rises;
        end = ap (at u) (other_side rises (was u) (is_on u) (ap is_on e ∙ here ∙ ap (λ (k : ℕ). not (was k)) (sym e)));
        spot = ap (spot_at before (not rises)) e ∙ sym (turned.here rises) ∙ ap (spot_at after rises) (sym e);
      }
      | inr d ↦ record {
        side = rises;
        end = ap (λ (b : Bool). at u (if rises then b else not b)) (sym (elsewhere u d));
        spot = sym (turned.elsewhere rises u d);
      }
    ]

-- where two tests agree on the trades
pub laid_same : (trades : List Ends) (was is_on : ℕ → Bool) (standing : Places) → IsLaidOut trades was standing
    → ((k : ℕ) → k < length trades → is_on k ≡ was k) → IsLaidOut trades is_on standing
laid_same trades was is_on standing laid agree = record {
  all = laid.all;
  together = λ one other s t f i j s_is t_is.
      laid.together one other s t f i j (same one s ∙ s_is) (same other t ∙ t_is);
}
  where
    same : (rises : Bool) (u : ℕ) → end_of trades was rises u ≡ end_of trades is_on rises u
    same rises u = elim (cases_lt u (length trades)) [
      | inl below ↦ ap (λ (b : Bool). option_map (λ trade. raised_end trade (if rises then b else not b))
          (slice_get trades u)) (sym (agree u below))
      | inr past ↦
          ap (option_map (λ trade. raised_end trade (if rises then was u else not (was u))))
          (slice_get_past trades u past)
          ∙ sym (ap (option_map (λ trade. raised_end trade (if rises then is_on u else not (is_on u))))
          (slice_get_past trades u past))
    ]

-- the places with two of them exchanged
pub turned_is : (places : Places) (t : ℕ) (raised lowered : List Spot) → t < length places.raised
    → t < length places.lowered
    → raised ≡ set places.raised t (get_or places.lowered t no_spot)
    → lowered ≡ set places.lowered t (get_or places.raised t no_spot)
    → IsTurned t places (record { laid = places.laid; raised = raised; lowered = lowered; own = places.own })
turned_is places t raised lowered raised_long lowered_long raised_is lowered_is = record {
  laid = refl;
  here = here;
  elsewhere = elsewhere;
}
  where
    here : (rises : Bool) → get_or (if rises then raised else lowered) t no_spot ≡ spot_at places (not rises) t
    here true = ap (λ (xs : List Spot). get_or xs t no_spot) raised_is
        ∙ get_or-set_same places.raised t (get_or places.lowered t no_spot) no_spot raised_long
    here false = ap (λ (xs : List Spot). get_or xs t no_spot) lowered_is
        ∙ get_or-set_same places.lowered t (get_or places.raised t no_spot) no_spot lowered_long

    elsewhere : (rises : Bool) (u : ℕ) → u ≢ t
        → get_or (if rises then raised else lowered) u no_spot ≡ spot_at places rises u
    elsewhere true u d = ap (λ (xs : List Spot). get_or xs u no_spot) raised_is
        ∙ get_or-set_other places.raised t u (get_or places.lowered t no_spot) no_spot d
    elsewhere false u d = ap (λ (xs : List Spot). get_or xs u no_spot) lowered_is
        ∙ get_or-set_other places.lowered t u (get_or places.raised t no_spot) no_spot d

-- are sound as they were
pub turned_sound : (nodes t : ℕ) (places : Places) (cells : List ℤ) (raised lowered : List Spot)
    → HasRoomForBlocks nodes places cells
    → IsTurned t places (record { laid = places.laid; raised = raised; lowered = lowered; own = places.own })
    → length raised ≡ nodes → length lowered ≡ nodes
    → HasRoomForBlocks nodes (record { laid = places.laid; raised = raised; lowered = lowered; own = places.own }) cells
turned_sound nodes t places cells raised lowered sound turned raised_long lowered_long = record {
  few = sound.few;
  laid_few = sound.laid_few;
  all_laid = sound.all_laid;
  raised_sized = raised_long;
  lowered_sized = lowered_long;
  own_sized = sound.own_sized;
  cells_sized = sound.cells_sized;
  spots = λ rises u below. elim (cases_eq u t) [
    | inl e ↦ subst (IsSpotOf places.own places.laid (room_of nodes) u)
        (ap (spot_at places (not rises)) e ∙ sym (turned.here rises)
        ∙ ap (spot_at after rises) (sym e)) (sound.spots (not rises) u below)
    | inr d ↦ subst (IsSpotOf places.own places.laid (room_of nodes) u) (sym (turned.elsewhere rises u d))
        (sound.spots rises u below)
  ];
  blocks = λ one other s u s_below u_below.
      let first = side one s in
      let second = side other u in
      subst (λ (z : Spot). AreOneOrApart z (spot_at after other u)) first.1 (subst (AreOneOrApart
      (spot_at places first.0 s)) second.1 (sound.blocks first.0 second.0 s u s_below u_below));
}
  where
    after : Places
    after = record { laid = places.laid; raised = raised; lowered = lowered; own = places.own }

    side : (rises : Bool) (u : ℕ) → (b : Bool) × (spot_at places b u ≡ spot_at after rises u)
    side rises u = elim (cases_eq u t) [
      | inl e ↦ (
        not rises,
        ap (spot_at places (not rises)) e ∙ sym (turned.here rises)
            ∙ ap (spot_at after rises) (sym e),
      )
      | inr d ↦ (rises, sym (turned.elsewhere rises u d))
    ]

-- ---- what the code needs

-- an own trade has its place among those of all firms
pub own_index : (firms : List Firm) (trades : List Ends) → IsNetwork firms trades → (f k : ℕ) (firm : Firm)
    → slice_get firms f ≡ Some firm → k < firm.count → own_before firms f + k < 2 * (length trades + 1)
own_index firms trades network f k firm is inside =
    let f_in = slice_get_within firms f firm is in
    let next = sum_next (λ firm. firm.count) firms f firm is in
    let few = own_few firms trades network (f + 1) (omega (arith, f_in)) in
    omega (arith, next, few, inside)

-- the numbers of places are small
pub room_fits : (firms : List Firm) (trades : List Ends) → IsNetwork firms trades → length trades ≤ most_market_trades
    → ((f : ℕ) (firm : Firm) → slice_get firms f ≡ Some firm → firm.count ≤ 64) → (f : ℕ) (firm : Firm)
    → slice_get firms f ≡ Some firm
    → room_before firms f + block_size firm.count ≤ 2 * (2049 * 66)
room_fits firms trades network few each f firm is =
    let f_in = slice_get_within firms f firm is in
    let next = sum_next (λ firm. block_size firm.count) firms f firm is in
    let room = room_few firms trades network each (f + 1) (omega (arith, f_in)) in
    let small = room_small (length trades + 1) (omega (arith, few)) in
    omega (arith, next, room, small)

pub owns_fit : (firms : List Firm) (trades : List Ends) → IsNetwork firms trades → length trades ≤ most_market_trades
    → (f : ℕ) (firm : Firm) → slice_get firms f ≡ Some firm → own_before firms f + firm.count ≤ 4096
owns_fit firms trades network few f firm is =
    let f_in = slice_get_within firms f firm is in
    let next = sum_next (λ firm. firm.count) firms f firm is in
    let owned = own_few firms trades network (f + 1) (omega (arith, f_in)) in
    omega (arith, next, owned, few)
