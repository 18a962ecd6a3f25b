-- On a cycle of least cost, and of those with the fewest arcs, the legs at each firm are in an order without a
-- shortcut: so all of them together keep the firm's bundle best.
use Rattle.std.proofs.Common.{◌≡◌, ◌≢◌, ℕ, ◌+◌, ◌<◌, ◌≤◌, Bool, true, false, ◌==◌, if◌then◌else◌, refl, sym, ap, ◌∙◌, subst, arith, inl, inr, pos, List, [], ◌∷◌, ◌++◌, length, slice_get, Some}
use Rattle.std.specs.Prelude.{All}
use Rattle.std.proofs.lemmas.Bool.{cases_lt, eqb-true}
use Rattle.std.proofs.lemmas.Option.{same_Some}
use Rattle.std.proofs.lemmas.Int.{ints}
use Rattle.std.proofs.lemmas.List.{length-append, append_assoc}
use Rattle.std.proofs.lemmas.List.Elements.{All-cons}
use Rattle.std.proofs.lemmas.List.Kept.{AllPairs-cons}
use Rattle.tn_base.specs.Firm.{Firm, payments, IsBest}
use Rattle.tn_firm_laws.specs.Places.{level, move, CanRise, CanFall}
use Rattle.tn_firm_laws.specs.Ordered.{Shift, shifted, IsTight, IsShiftBefore, AreOrdered}
use Rattle.tn_firm_laws.proofs.KeepLemmas.{meets-plus_sum}
use Rattle.tn_firm_laws.proofs.ExchangeLemmas.{exchange_to_places}
use Rattle.tn_firm_laws.proofs.OrderedLemmas.{ordered_keep_best, through_null}
use Rattle.tn_model.specs.declared.ends.Ends.{Ends}
use Rattle.tn_model.specs.Network.{part}
use Rattle.tn_market.specs.ArcPlaces.{node_at, AreArcPlaces}
use Rattle.tn_market.proofs.GraphLemmas.{node_at-null}
use Rattle.tn_network_laws.proofs.LegLemmas.{Setting, AtFirm, place_price, priced, Leg, IsLeg, IsTightPath, path-joined, path_parts, leg_tight, shift_leg}

-- ---- a shortest tight cycle

-- the legs lead from t back to t, and no tight path does so with fewer
pub record IsShortest (firms : List Firm) (trades : List Ends) (on t : ℕ) (s : Setting firms trades on t)
    (legs : List Leg) : Type 0 where
  pub path : IsTightPath s t legs t
  pub shortest : (other : List Leg) → IsTightPath s t other t → 0 < length other → length legs ≤ length other

-- two legs of a cycle, one before the other, with what stands before, between and after them
record AreInOrder (firms : List Firm) (trades : List Ends) (on t : ℕ) (s : Setting firms trades on t)
    (legs before : List Leg) (p : Leg) (middle : List Leg) (q : Leg) (after : List Leg) : Type 0 where
  cycle : IsShortest firms trades on t s legs
  legs_are : legs ≡ before ++ p ∷ (middle ++ q ∷ after)

-- how they lead on
record LeadOn (firms : List Firm) (trades : List Ends) (on t : ℕ) (s : Setting firms trades on t) (before : List Leg)
    (p q : Leg) (after : List Leg) : Type 0 where
  first : IsTightPath s t before p.begin
  p_leg : IsLeg firms trades on t s p
  q_leg : IsLeg firms trades on t s q
  last : IsTightPath s q.end after t

lead_on : (firms : List Firm) (trades : List Ends) (on t : ℕ) (s : Setting firms trades on t) (legs before : List Leg)
    (p : Leg) (middle : List Leg) (q : Leg) (after : List Leg)
    → AreInOrder firms trades on t s legs before p middle q after → LeadOn firms trades on t s before p q after
lead_on firms trades on t s legs before p middle q after order =
    let first = path_parts firms trades on t s t before (p ∷ (middle ++ q ∷ after)) t
    (subst (λ (ls : List Leg). IsTightPath s t ls t) order.legs_are order.cycle.path) in
    let second = path_parts firms trades on t s p.end middle (q ∷ after) t first.2.2 in
    record {
      first = subst (λ (v : ℕ). IsTightPath s t before v) (sym first.2.1) first.1;
      p_leg = first.2.0;
      q_leg = second.2.0;
      last = second.2.2;
    }

-- no tight path of at most one leg leads past both
no_detour : (firms : List Firm) (trades : List Ends) (on t : ℕ) (s : Setting firms trades on t) (legs before : List Leg)
    (p : Leg) (middle : List Leg) (q : Leg) (after : List Leg)
    → AreInOrder firms trades on t s legs before p middle q after → (short : List Leg)
    → IsTightPath s p.begin short q.end → length short ≤ 1
    → 0 < length before + length short → ⊥
no_detour firms trades on t s legs before p middle q after order short path few some =
    let lead = lead_on firms trades on t s legs before p middle q after order in
    let other = path-joined firms trades on t s t before p.begin (short ++ after) t lead.first
    (path-joined firms trades on t s p.begin short q.end after t path lead.last) in
    let first = length-append before (short ++ after) in
    let second = length-append short after in
    let third = ap length order.legs_are ∙ length-append before (p ∷ (middle ++ q ∷ after)) in
    let fourth = length-append middle (q ∷ after) in
    let least = order.cycle.shortest (before ++ (short ++ after)) other (omega (arith, first, second, some)) in
    absurd (omega (arith, first, second, third, fourth, least, few))

-- a leg seen from its firm
record IsLegOf (trades : List Ends) (on f : ℕ) (firm : Firm) (leg : Leg) : Type 0 where
  places : AreArcPlaces firm (part trades f firm.count on) leg.shift.up leg.shift.down
  begin_is : node_at trades f firm.count leg.shift.up ≡ leg.begin
  end_is : node_at trades f firm.count leg.shift.down ≡ leg.end

leg_of : (firms : List Firm) (trades : List Ends) (on t : ℕ) (s : Setting firms trades on t) (leg : Leg)
    → IsLeg firms trades on t s leg → (f : ℕ) (firm : Firm) → leg.f ≡ f
    → slice_get firms f ≡ Some firm → IsLegOf trades on f firm leg
leg_of firms trades on t s leg l f firm e is =
    let one : l.firm ≡ firm = same_Some l.firm firm (sym l.is ∙ ap (slice_get firms) e ∙ is) in
    subst (λ (z : Firm). IsLegOf trades on f z leg) one
    (subst (λ (h : ℕ). IsLegOf trades on h l.firm leg) e (record {
      places = l.places;
      begin_is = l.begin_is;
      end_is =
          l.end_is;
    }))

-- a place can't be raised and lowered, but for null
only_null : (firm : Firm) (x k : ℕ) → k ≤ firm.count → CanRise firm.count (level firm.count firm.buys x) k
    → CanFall firm.count (level firm.count firm.buys x) k → k ≡ firm.count
only_null firm x k within rises falls = elim (cases_lt k firm.count) [
  | inl p ↦ absurd (let low = rises p in let high = falls p in omega (arith, low, high))
  | inr p ↦ omega (arith, within, p)
]

-- of two legs at one firm the first is before the other
is_before : (firms : List Firm) (trades : List Ends) (on t : ℕ) (s : Setting firms trades on t) (f : ℕ) (firm : Firm)
    (at : AtFirm firms trades on t s f firm)
    → (legs before : List Leg) (p : Leg) (middle : List Leg) (q : Leg) (after : List Leg)
    → AreInOrder firms trades on t s legs before p middle q after
    → p.f ≡ f → q.f ≡ f → IsShiftBefore (priced s f firm) (part trades f firm.count on) at.value p.shift q.shift
is_before firms trades on t s f firm at legs before p middle q after order p_here q_here = record {
  up_up = λ e. no_detour firms trades on t s legs before p middle q after order (q ∷ []) (
    lead.q_leg,
    sym q_of.begin_is ∙ ap (node_at trades f firm.count) (sym e) ∙ p_of.begin_is,
    refl,
  ) (omega arith) (omega arith);
  up_down = apart;
  down_up = crossing;
  down_down = λ e. no_detour firms trades on t s legs before p middle q after order (p ∷ [])
      (lead.p_leg, refl, sym p_of.end_is ∙ ap (node_at trades f firm.count) e ∙ q_of.end_is) (omega arith)
      (omega arith);
  no_shortcut = shortcut;
}
  where
    lead : LeadOn firms trades on t s before p q after
    lead = lead_on firms trades on t s legs before p middle q after order

    p_of : IsLegOf trades on f firm p
    p_of = leg_of firms trades on t s p lead.p_leg f firm p_here at.is

    q_of : IsLegOf trades on f firm q
    q_of = leg_of firms trades on t s q lead.q_leg f firm q_here at.is

    -- what the first raises is not what the later one lowers
    apart : p.shift.up ≢ q.shift.down
    apart e =
        let null = only_null firm (part trades f firm.count on) p.shift.up p_of.places.from_within p_of.places.rises
        (subst (CanFall firm.count (level firm.count firm.buys (part trades f firm.count on))) (sym e)
        q_of.places.falls) in
        let begin : p.begin ≡ length trades = sym p_of.begin_is
        ∙ node_at-null trades f firm.count p.shift.up (omega (arith, null)) in
        no_detour firms trades on t s legs before p middle q after order [] (sym p_of.begin_is
        ∙ ap (node_at trades f firm.count) e ∙ q_of.end_is) (omega arith)
        (some before lead.first begin)
      where
        some : (ls : List Leg) → IsTightPath s t ls p.begin → p.begin ≡ length trades → 0 < length ls + 0
        some [] path null = absurd (let inside = s.inside in omega (arith, inside, path, null))
        some (l ∷ ls) path null = omega arith

    -- a shift that raises what the first raises and lowers what the later one lowers, and keeps the value
    shortcut : (priced s f firm).worth (move firm.count (part trades f firm.count on) p.shift.up q.shift.down)
        ≡ Some at.value → ⊥
    shortcut keeps =
        let places : AreArcPlaces firm (part trades f firm.count on) p.shift.up q.shift.down = record {
          from_within = p_of.places.from_within;
          to_within = q_of.places.to_within;
          apart = apart;
          rises = p_of.places.rises;
          falls = q_of.places.falls;
        } in
        no_detour firms trades on t s legs before p middle q after order
        (record {
          f = f;
          shift = record { up = p.shift.up; down = q.shift.down };
          begin =
              node_at trades f firm.count p.shift.up;
          end = node_at trades f firm.count q.shift.down;
        } ∷ []) (
          shift_leg firms trades on t s f firm at p.shift.up q.shift.down places keeps,
          p_of.begin_is,
          q_of.end_is,
        ) (omega arith) (omega arith)

    -- what the first lowers is not what the later one raises: for null there would be a shortcut
    crossing : p.shift.down ≢ q.shift.up
    crossing e =
        let null = only_null firm (part trades f firm.count on) q.shift.up q_of.places.from_within q_of.places.rises
        (subst (CanFall firm.count (level firm.count firm.buys (part trades f firm.count on))) e p_of.places.falls) in
        let p_null : p.shift.down ≡ firm.count = e ∙ null in
        let p_in : p.shift.up < firm.count = (let w = p_of.places.from_within in let d = p_of.places.apart in
        omega (arith, w, d, p_null)) in
        let q_in : q.shift.down < firm.count = (let w = q_of.places.to_within in let d = q_of.places.apart in
        omega (arith, w, d, null)) in
        let utility_law =
        meets-plus_sum firm (pos 1) (payments firm.buys (place_price s f firm)) (omega (arith, ints))
        (s.meet f firm at.is).0 (s.meet f firm at.is).1 in
        let p_tight = leg_tight firms trades on t s f firm at p lead.p_leg p_here in
        let q_tight = leg_tight firms trades on t s f firm at q lead.q_leg q_here in
        shortcut (through_null (priced s f firm) (exchange_to_places (priced s f firm) utility_law.0 utility_law.1)
        (part trades f firm.count on) at.value at.best p.shift.up q.shift.down
        p_in q_in apart p_of.places.rises q_of.places.falls
        (ap (λ (k : ℕ). (priced s f firm).worth (move firm.count (part trades f firm.count on) p.shift.up k))
        (sym p_null) ∙ p_tight.keeps)
        (ap (λ (k : ℕ). (priced s f firm).worth (move firm.count (part trades f firm.count on) k q.shift.down))
        (sym null) ∙ q_tight.keeps))

-- ---- the legs at one firm

-- the shifts of the legs that are at firm f
abbrev pub shifts_at : ℕ → List Leg → List Shift
shifts_at f [] = []
shifts_at f (leg ∷ legs) = if leg.f == f then leg.shift ∷ shifts_at f legs else shifts_at f legs

-- what holds of each leg at the firm, wherever it stands in the list, holds of all their shifts
all_at : (P : Shift → Type 0) (f : ℕ) (legs : List Leg)
    → ((before : List Leg) (q : Leg) (after : List Leg) → legs ≡ before ++ q ∷ after → q.f ≡ f → P q.shift)
    → All P (shifts_at f legs)
all_at P f [] each = λ k d h. absurd (omega (arith, h))
all_at P f (leg ∷ legs) each =
    at (leg.f == f) refl
    (all_at P f legs (λ before q after e. each (leg ∷ before) q after (ap (λ (ls : List Leg). leg ∷ ls) e)))
  where
    at : (b : Bool) → (leg.f == f) ≡ b → All P (shifts_at f legs)
        → All P (if b then leg.shift ∷ shifts_at f legs else shifts_at f legs)
    at true e rest = All-cons P leg.shift (shifts_at f legs) (each [] leg legs refl (eqb-true leg.f f e)) rest
    at false e rest = rest

-- the shifts of the legs from some place of the cycle on are in order
ordered_from : (firms : List Firm) (trades : List Ends) (on t : ℕ) (s : Setting firms trades on t) (f : ℕ) (firm : Firm)
    (at : AtFirm firms trades on t s f firm) (all : List Leg)
    → IsShortest firms trades on t s all → (before legs : List Leg) → all ≡ before ++ legs
    → AreOrdered (priced s f firm) (part trades f firm.count on) at.value (shifts_at f legs)
ordered_from firms trades on t s f firm at all cycle before [] e =
    record { tight = λ k d h. absurd (omega (arith, h)); before = λ j k d h g. absurd (omega (arith, g)) }
ordered_from firms trades on t s f firm at all cycle before (leg ∷ legs) e =
    by (leg.f == f) refl (ordered_from firms trades on t s f firm at all cycle (before ++ leg ∷ []) legs (e
    ∙ sym (append_assoc before (leg ∷ []) legs)))
  where
    here_leg : IsLeg firms trades on t s leg
    here_leg = (path_parts firms trades on t s t before (leg ∷ legs) t
        (subst (λ (ls : List Leg). IsTightPath s t ls t) e cycle.path)).2.0

    by : (b : Bool) → (leg.f == f) ≡ b
        → AreOrdered (priced s f firm) (part trades f firm.count on) at.value (shifts_at f legs)
        → AreOrdered (priced s f firm) (part trades f firm.count on) at.value (if b then leg.shift ∷ shifts_at f legs
        else shifts_at f legs)
    by true here rest = record {
      tight = All-cons (IsTight (priced s f firm) (part trades f firm.count on) at.value) leg.shift (shifts_at f legs)
          (leg_tight firms trades on t s f firm at leg here_leg (eqb-true leg.f f here)) rest.tight;
      before = AllPairs-cons (IsShiftBefore (priced s f firm) (part trades f firm.count on) at.value) leg.shift
          (shifts_at f legs)
          (all_at (IsShiftBefore (priced s f firm) (part trades f firm.count on) at.value leg.shift) f legs
          (λ middle q after split q_here. is_before firms trades on t s f firm at all before leg middle q after
          (record { cycle = cycle; legs_are = e ∙ ap (λ (ls : List Leg). before ++ leg ∷ ls) split })
          (eqb-true leg.f f here) q_here)) rest.before;
    }
    by false here rest = rest

-- each firm's bundle is best after all of its shifts
pub best_after : (firms : List Firm) (trades : List Ends) (on t : ℕ) (s : Setting firms trades on t) (f : ℕ)
    (firm : Firm) (at : AtFirm firms trades on t s f firm) (legs : List Leg)
    → IsShortest firms trades on t s legs
    → IsBest (priced s f firm).worth (shifted firm.count (part trades f firm.count on) (shifts_at f legs)) at.value
best_after firms trades on t s f firm at legs cycle =
    let utility_law =
    meets-plus_sum firm (pos 1) (payments firm.buys (place_price s f firm)) (omega (arith, ints))
    (s.meet f firm at.is).0 (s.meet f firm at.is).1 in
    ordered_keep_best (priced s f firm) utility_law.0 utility_law.1 (part trades f firm.count on) at.value at.best
    (shifts_at f legs)
    (ordered_from firms trades on t s f firm at legs cycle [] legs refl)
