-- What a search over kept labels has found when it stops, and the labels after it.
use Rattle.std.proofs.Common.{◌≡◌, ◌≢◌, ℕ, suc, ◌+◌, ◌*◌, ◌<◌, ◌≤◌, refl, sym, ap, ◌∙◌, subst, arith, inl, inr, ◌⊎◌, List, [], ◌∷◌, length, ℤ, ◌+ℤ◌, ◌-ℤ◌, ◌≤ℤ◌, ◌<ℤ◌, Option, Some, None, Bool, true, false}
use Rattle.std.proofs.lemmas.Int.{ints, by_lt_z}
use Rattle.std.proofs.Math.Nat.{mul-le-mul_right}
use Rattle.std.proofs.lemmas.Bool.{cases_eq, cases_Bool}
use Rattle.std.proofs.lemmas.Option.{none-some}
use Rattle.std.proofs.lemmas.List.Elements.{All-weaker}
use Rattle.tn_base.specs.Arcs.{AreBetweenNodes, AreSmall, IsAtMost}
use Rattle.tn_base.specs.Walks.{walk_cost, Avoids, AreDifferent, CyclesCostAtLeast, IsLeastCycle, IsUnreached, KeepsArcsEntering}
use Rattle.tn_cycle.specs.declared.cell.Cell.{Cell}
use Rattle.tn_cycle.specs.declared.kept.Sought.{Sought}
use Rattle.tn_cycle.specs.declared.kept.Sought.TheVariants as seek
use Rattle.tn_cycle.specs.Order.{IsUpTo, IsBelow}
use Rattle.tn_cycle.specs.Cells.{trail}
use Rattle.tn_cycle.specs.Searched.{HasNoNegativeCycleOff, IsSettled}
use Rattle.tn_cycle.specs.Kept.{AreRaised, HasBy, IsCapped, IsCounted, IsPast, IsStopped, KeepsArcsOff}
use Rattle.tn_cycle.proofs.OrderLemmas.{parts, up_to_none}
use Rattle.tn_cycle.proofs.ReadLemmas.{length-trail}
use Rattle.tn_cycle.proofs.WalkLemmas.{AreApart, IsShortened, apart_or_shortened, avoids-head, avoids-tail, different_from_apart, found_or_not, walk_parts, walk_small}
use Rattle.tn_cycle.proofs.KeyLemmas.{has_by-more, past-more, same_cost}

-- labels that keep the arcs off t bound the walks off t
walk_kept_off : (arc : ℕ → ℕ → Option ℤ) (t : ℕ) (label : ℕ → ℤ) → KeepsArcsOff arc t label
    → (u : ℕ) (vs : List ℕ) (w : ℕ) (cost : ℤ) → Avoids t vs → w ≢ t
    → walk_cost arc u vs w ≡ Some cost → label w ≤ℤ (label u +ℤ cost)
walk_kept_off arc t label keeps u [] w cost avoids off walk = keeps u w cost off walk
walk_kept_off arc t label keeps u (v ∷ vs) w cost avoids off walk =
    let two = parts (arc u v) (walk_cost arc v vs w) cost walk in
    let first : label v ≤ℤ (label u +ℤ two.first) = keeps u v two.first (avoids-head t v vs avoids) two.first_is in
    let rest : label w ≤ℤ (label v +ℤ two.second) =
    walk_kept_off arc t label keeps v vs w two.second (avoids-tail t v vs avoids) off two.second_is in
    omega (arith, ints, first, rest, two.sum_is)

-- so no closed walk off t is negative
pub none_off_kept : (arc : ℕ → ℕ → Option ℤ) (t : ℕ) (label : ℕ → ℤ) → KeepsArcsOff arc t label
    → HasNoNegativeCycleOff arc t
none_off_kept arc t label keeps u vs cost off avoids walk =
    let round : label u ≤ℤ (label u +ℤ cost) = walk_kept_off arc t label keeps u vs u cost avoids off walk in
    omega (arith, ints, round)

module _ (nodes : ℕ) (arc : ℕ → ℕ → Option ℤ) (end : ℕ) (sought : Sought) (label : ℕ → ℤ) (cell : ℕ → Cell) (waits : ℕ
    → Bool) (between : AreBetweenNodes nodes arc)
    (keeps : KeepsArcsOff arc end label) (stopped : IsStopped nodes arc end sought label cell waits) where
  -- no cell is after a walk, unless that can't matter
  walks : (v : ℕ) (ws : List ℕ) (cost : ℤ) → v < nodes → Avoids end ws → walk_cost arc v ws end ≡ Some cost
      → HasBy (cell v) cost (length ws) ⊎ IsPast sought (cell end) ((cost +ℤ label v) -ℤ label end) (length ws)
  walks v [] cost inside avoids walk = inl (stopped.known.first v cost inside walk)
  walks v (u ∷ us) cost inside avoids walk =
      let two = parts (arc v u) (walk_cost arc u us end) cost walk in
      let off = avoids-head end u us avoids in
      let node : u < nodes = (between v u two.first two.first_is).1 in
      let kept : label u ≤ℤ (label v +ℤ two.first) = keeps v u two.first off two.first_is in
      elim (walks u us two.second node (avoids-tail end u us avoids) two.second_is) [
        | inr past ↦
            inr (past-more sought (cell end) ((two.second +ℤ label u) -ℤ label end) (length us) ((cost +ℤ label v)
            -ℤ label end) (suc (length us)) past
            (omega (arith, ints, kept, two.sum_is), λ back. omega arith))
        | inl has ↦ elim (cases_Bool (waits u)) [
          | inl waiting ↦
              let ahead : has.least ≤ℤ two.second = has.before.0 in
              inr (past-more sought (cell end) ((has.least +ℤ label u) -ℤ label end) (cell u).inner_nodes ((cost +ℤ label v)
              -ℤ label end) (suc (length us))
              (stopped.past u has.least node waiting has.is) (
                omega (arith, ints, kept, two.sum_is, ahead),
                λ back. let fewer : (cell u).inner_nodes ≤ length us =
                    has.before.1 (omega (arith, ints, back, kept, two.sum_is)) in omega (arith, fewer),
              ))
          | inr shut ↦
              let ahead : has.least ≤ℤ two.second = has.before.0 in
              inl (has_by-more (cell v) (two.first +ℤ has.least) ((cell u).inner_nodes + 1) cost (suc (length us))
              (stopped.known.over v u two.first has.least off shut two.first_is has.is) (
                omega (arith, ints, two.sum_is, ahead),
                λ back. let fewer : (cell u).inner_nodes ≤ length us =
                    has.before.1 (omega (arith, ints, back, two.sum_is)) in omega (arith, fewer),
              ))
        ]
      ]

  -- the cost of a cell, by the number of nodes
  pub kept_small : (limit : ℕ) → AreSmall arc limit → (v : ℕ) (w : ℤ) → v < nodes → (cell v).cost ≡ Some w
      → IsAtMost w (nodes * limit)
  kept_small limit small v w inside is =
      let whole = walk_small arc limit small v (trail cell (cell v).inner_nodes v) end w (stopped.known.leads v inside ∙ is)
      in
      let size : length (trail cell (cell v).inner_nodes v) ≡ (cell v).inner_nodes = length-trail cell (cell v).inner_nodes v in
      let short : length (trail cell (cell v).inner_nodes v) + 1 ≤ nodes =
      omega (arith, size, stopped.known.few v inside, stopped.fewer) in
      let more : (length (trail cell (cell v).inner_nodes v) + 1) * limit ≤ nodes * limit = mul-le-mul_right limit short in
      record { low = omega (arith, ints, whole.low, more); high = omega (arith, ints, whole.high, more) }

module _ (nodes : ℕ) (arc : ℕ → ℕ → Option ℤ) (end : ℕ) (cap : Option ℤ) (label : ℕ → ℤ) (cell : ℕ → Cell) (waits : ℕ
    → Bool) (between : AreBetweenNodes nodes arc)
    (keeps : KeepsArcsOff arc end label) (stopped : IsStopped nodes arc end (seek.Cycle cap) label cell waits) where
  -- the end's own walk isn't after another one, unless that doesn't count
  end_walks : end < nodes → (ws : List ℕ) (cost : ℤ) → Avoids end ws → walk_cost arc end ws end ≡ Some cost
      → HasBy (cell end) cost (length ws) ⊎ IsCapped cap cost
  end_walks inside ws cost avoids walk =
      let same : (cost +ℤ label end) -ℤ label end ≡ cost = omega (arith, ints) in
      elim (walks nodes arc end
      (seek.Cycle cap) label cell waits between keeps stopped end ws cost inside avoids walk) [
        | inl has ↦ inl has
        | inr past ↦ subst (λ (z : ℤ). IsPast (seek.Cycle cap) (cell end) z (length ws)) same past
      ]

  along : end < nodes → Avoids end (trail cell (cell end).inner_nodes end)
  along inside = All-weaker (λ x. (x < nodes) × (x ≢ end)
      × (waits x ≡ false)) (λ x. x ≢ end) (λ x h. h.1) (trail cell (cell end).inner_nodes end)
      (stopped.known.passes end inside)

  -- no walk from the end with fewer arcs costs as little
  never_shorter : (cost : ℤ) → end < nodes → (cell end).cost ≡ Some cost → IsCounted cap cost
      → IsShortened arc end end (trail cell (cell end).inner_nodes end) cost → ⊥
  never_shorter cost inside is counts short = elim (end_walks inside short.nodes short.less short.avoids short.walk) [
    | inl has ↦
        let same : has.least ≡ cost = same_cost (cell end).cost has.least cost has.is is in
        let fewer : (cell end).inner_nodes ≤ length short.nodes = has.before.1 (omega (arith, ints, same, short.no_more)) in
        omega (arith, fewer, short.fewer, length-trail cell (cell end).inner_nodes end)
    | inr capped ↦
        let below : cost <ℤ capped.0 = counts capped.0 capped.1 in
        omega (arith, ints, below, capped.2, short.no_more)
  ]

  different : (cost : ℤ) → end < nodes → (cell end).cost ≡ Some cost → IsCounted cap cost
      → AreDifferent (end ∷ trail cell (cell end).inner_nodes end)
  unfolding AreApart
  different cost inside is counts =
      elim (apart_or_shortened arc end (none_off_kept arc end label keeps) end (trail cell (cell end).inner_nodes end) cost
      (along inside) (stopped.known.leads end inside ∙ is)) [
        | inl apart ↦ different_from_apart (end ∷ trail cell (cell end).inner_nodes end) (along inside, apart)
        | inr short ↦ absurd (never_shorter cost inside is counts short)
      ]

  -- the end's own walk is a least cycle, where it counts
  pub kept_cycle : (cost : ℤ) → end < nodes → (cell end).cost ≡ Some cost → IsCounted cap cost
      → IsLeastCycle arc end (trail cell (cell end).inner_nodes end) cost
  kept_cycle cost inside is counts = record {
    cycle = record { walk = stopped.known.leads end inside ∙ is; different = different cost inside is counts };
    least = λ vs other avoids walk. elim (end_walks inside vs other avoids walk) [
      | inl has ↦ let same : has.least ≡ cost = same_cost (cell end).cost has.least cost has.is is in
          omega (arith, ints, same, has.before.0)
      | inr capped ↦ let below : cost <ℤ capped.0 = counts capped.0 capped.1 in omega (arith, ints, below, capped.2)
    ];
    shortest = λ ws avoids walk. elim (end_walks inside ws cost avoids walk) [
      | inl has ↦
          let same : has.least ≡ cost = same_cost (cell end).cost has.least cost has.is is in
          let fewer : (cell end).inner_nodes ≤ length ws = has.before.1 (omega (arith, ints, same)) in
          omega (arith, fewer, length-trail cell (cell end).inner_nodes end)
      | inr capped ↦ let below : cost <ℤ capped.0 = counts capped.0 capped.1 in
          absurd (omega (arith, ints, below, capped.2))
    ];
  }

  -- no closed walk through the end costs less than the cap, where its own is capped
  pub kept_none : (most : ℤ) → end < nodes → cap ≡ Some most → ((w : ℤ) → (cell end).cost ≡ Some w → IsCapped cap w)
      → CyclesCostAtLeast arc end most
  kept_none most inside cap_is all vs cost avoids walk = elim (end_walks inside vs cost avoids walk) [
    | inr capped ↦ let same : most ≡ capped.0 = same_cost cap most capped.0 cap_is capped.1 in
        omega (arith, ints, same, capped.2)
    | inl has ↦
        let capped = all has.least has.is in
        let same : most ≡ capped.0 = same_cost cap most capped.0 cap_is capped.1 in
        omega (arith, ints, same, capped.2, has.before.0)
  ]

  -- no closed walk leads through the end, where it has none of its own and there is no cap
  pub kept_unreached : end < nodes → cap ≡ None → ((w : ℤ) → (cell end).cost ≡ Some w → IsCapped cap w)
      → IsUnreached arc end end
  kept_unreached inside uncapped all vs = by (walk_cost arc end vs end) refl
    where
      never_capped : (z : ℤ) → IsCapped cap z → ⊥
      never_capped z capped = none-some capped.0 (sym uncapped ∙ capped.1)

      off : (ws : List ℕ) (cost : ℤ) → Avoids end ws → walk_cost arc end ws end ≡ Some cost → ⊥
      off ws cost avoids walk = elim (end_walks inside ws cost avoids walk) [
        | inl has ↦ never_capped has.least (all has.least has.is)
        | inr capped ↦ never_capped cost capped
      ]

      by : (o : Option ℤ) → walk_cost arc end vs end ≡ o → walk_cost arc end vs end ≡ None
      by None e = e
      by (Some cost) e = elim (found_or_not end vs) [
        | inr avoids ↦ absurd (off vs cost avoids e)
        | inl found ↦
            let two = walk_parts arc end vs found.before end found.after end cost found.split e in
            absurd (off found.before two.first found.avoids two.first_is)
      ]

  -- the raised labels keep the arcs
  pub raised_keep : (gap : ℤ) (new : ℕ → ℤ) → end < nodes → ((w : ℤ) → (cell end).cost ≡ Some w → gap ≤ℤ w)
      → ((most : ℤ) → cap ≡ Some most → gap ≤ℤ most)
      → AreRaised nodes end label cell (label end +ℤ gap) new → KeepsArcsEntering arc end (new end +ℤ gap) new
  raised_keep gap new inside under_own under_cap raised = record {
    others = others;
    enters = λ u cost is.
        let has = stopped.known.first u cost (between u end cost is).0 is in
        let own : new end ≡ label end = (raised end inside).0 refl in
        let ahead : has.least ≤ℤ cost = has.before.0 in
        elim (cases_eq u end) [
          | inl same ↦
              let less : gap ≤ℤ has.least =
              under_own has.least (subst (λ (z : ℕ). (cell z).cost ≡ Some has.least) same has.is) in
              subst (λ (z : ℕ). (new end +ℤ gap) ≤ℤ (new z +ℤ cost)) (sym same) (omega (arith, ints, less, ahead))
          | inr off ↦
              let lacks : ((label end +ℤ gap) -ℤ has.least) ≤ℤ new u =
              ((raised u (between u end cost is).0).1 off).lacks has.least has.is in
              omega (arith, ints, own, lacks, ahead)
        ];
  }
    where
      grows : (u : ℕ) → u < nodes → label u ≤ℤ new u
      grows u node = elim (cases_eq u end) [
        | inl same ↦ let e : new u ≡ label u = (raised u node).0 same in omega (arith, ints, e)
        | inr off ↦ ((raised u node).1 off).grows
      ]

      -- the limit, gone back over an arc
      back : (u v : ℕ) (cost w : ℤ) → arc u v ≡ Some cost → HasBy (cell u) (cost +ℤ w) ((cell v).inner_nodes + 1)
          → ((label end +ℤ gap) -ℤ w) ≤ℤ (new u +ℤ cost)
      back u v cost w is has =
          let node : u < nodes = (between u v cost is).0 in
          let ahead : has.least ≤ℤ (cost +ℤ w) = has.before.0 in
          elim (cases_eq u end) [
            | inl same ↦
                let less : gap ≤ℤ has.least =
                under_own has.least (subst (λ (z : ℕ). (cell z).cost ≡ Some has.least) same has.is) in
                let e : new u ≡ label u = (raised u node).0 same in
                let f : label u ≡ label end = ap label same in
                omega (arith, ints, less, ahead, e, f)
            | inr off ↦
                let lacks : ((label end +ℤ gap) -ℤ has.least) ≤ℤ new u = ((raised u node).1 off).lacks has.least has.is
                in
                omega (arith, ints, lacks, ahead)
          ]

      -- a node that waits needs no raise
      no_raise : (v : ℕ) (w : ℤ) → v < nodes → waits v ≡ true → (cell v).cost ≡ Some w
          → ((label end +ℤ gap) -ℤ w) ≤ℤ label v
      no_raise v w node waiting is = elim (stopped.past v w node waiting is) [
        | inl has ↦ let less : gap ≤ℤ has.least = under_own has.least has.is in omega (arith, ints, less, has.before.0)
        | inr capped ↦ let less : gap ≤ℤ capped.0 = under_cap capped.0 capped.1 in omega (arith, ints, less, capped.2)
      ]

      others : (u v : ℕ) (cost : ℤ) → v ≢ end → arc u v ≡ Some cost → new v ≤ℤ (new u +ℤ cost)
      others u v cost off is =
          let two = between u v cost is in
          let kept : label v ≤ℤ (label u +ℤ cost) = keeps u v cost off is in
          let more : label u ≤ℤ new u = grows u two.0 in
          elim ((raised v two.1).1 off).one [
            | inl same ↦ omega (arith, ints, same, kept, more)
            | inr lack ↦ elim (cases_Bool (waits v)) [
              | inl waiting ↦
                  let low : ((label end +ℤ gap) -ℤ lack.0) ≤ℤ label v = no_raise v lack.0 two.1 waiting lack.1 in
                  omega (arith, ints, lack.2, low, kept, more)
              | inr shut ↦
                  let over : ((label end +ℤ gap) -ℤ lack.0) ≤ℤ (new u +ℤ cost) =
                  back u v cost lack.0 is (stopped.known.over u v cost lack.0 off shut is lack.1) in
                  omega (arith, ints, lack.2, over)
            ]
          ]

module _ (nodes : ℕ) (arc : ℕ → ℕ → Option ℤ) (end : ℕ) (label : ℕ → ℤ) (cell : ℕ → Cell) (waits : ℕ
    → Bool) (between : AreBetweenNodes nodes arc)
    (keeps : KeepsArcsOff arc end label) (stopped : IsStopped nodes arc end seek.Walks label cell waits) where
  -- where the walks are sought, it has settled
  pub kept_settled : IsSettled nodes arc end cell
  kept_settled = record {
    least = λ v ws inside avoids. least v ws inside avoids (walk_cost arc v ws end) refl;
    fewest = λ v ws inside avoids fewer. fewest v ws inside avoids fewer (walk_cost arc v ws end) refl;
    leads = stopped.known.leads;
    avoids = λ v inside. All-weaker (λ x. (x < nodes) × (x ≢ end)
        × (waits x ≡ false)) (λ x. x ≢ end) (λ x h. h.1) (trail cell (cell v).inner_nodes v) (stopped.known.passes v inside);
    few = λ v inside. omega (arith, stopped.known.few v inside, stopped.fewer);
  }
    where
      has_by : (v : ℕ) (ws : List ℕ) (cost : ℤ) → v < nodes → Avoids end ws → walk_cost arc v ws end ≡ Some cost
          → HasBy (cell v) cost (length ws)
      has_by v ws cost inside avoids walk =
          elim (walks nodes arc end seek.Walks label cell waits between keeps stopped v ws cost inside avoids walk) [
            | inl has ↦ has
            | inr past ↦ absurd past
          ]

      least : (v : ℕ) (ws : List ℕ) → v < nodes → Avoids end ws → (o : Option ℤ) → walk_cost arc v ws end ≡ o
          → IsUpTo (cell v).cost o
      least v ws inside avoids None walk = up_to_none (cell v).cost
      least v ws inside avoids (Some cost) walk =
          let has = has_by v ws cost inside avoids walk in
          subst (λ (z : Option ℤ). IsUpTo z (Some cost)) (sym has.is) has.before.0

      some : (v : ℕ) → v < nodes → 0 < (cell v).inner_nodes → (o : Option ℤ) → (cell v).cost ≡ o → IsBelow o None
      some v inside later None is = absurd (omega (arith, later, stopped.known.none v inside is))
      some v inside later (Some w) is = tt

      fewest : (v : ℕ) (ws : List ℕ) → v < nodes → Avoids end ws → length ws < (cell v).inner_nodes → (o : Option ℤ)
          → walk_cost arc v ws end ≡ o → IsBelow (cell v).cost o
      fewest v ws inside avoids fewer None walk = some v inside (omega (arith, fewer)) (cell v).cost refl
      fewest v ws inside avoids fewer (Some cost) walk =
          let has = has_by v ws cost inside avoids walk in
          let below : has.least <ℤ cost = less has in
          subst (λ (z : Option ℤ). IsBelow z (Some cost)) (sym has.is) below
        where
          less : (has : HasBy (cell v) cost (length ws)) → has.least <ℤ cost
          less has = by_lt_z has.least cost (λ below. below)
              (λ same. let more : (cell v).inner_nodes ≤ length ws = has.before.1 same in absurd (omega (arith, more, fewer)))
