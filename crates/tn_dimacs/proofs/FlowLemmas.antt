-- Circulations as kept flows over links, which gain what the circulations don't cost.
use Rattle.std.proofs.Common.{◌≡◌, ℕ, zero, suc, ◌≤◌, refl, sym, ap, ◌∙◌, subst, arith, List, [], ◌∷◌, ◌++◌, take, min, ℤ, pos, ◌+ℤ◌, ◌-ℤ◌, Some, ◌==◌, if◌then◌else◌}
use Rattle.std.specs.Prelude.{slice_get, ◌*ℤ◌}
use Rattle.std.proofs.lemmas.Int.{ints}
use Rattle.std.proofs.lemmas.Option.{none-some, same_Some}
use Rattle.std.proofs.Math.IntN.{*ℤ-zero}
use Rattle.tn_links.specs.declared.link.Link.{Link}
use Rattle.tn_links.specs.declared.link.Step.{Step}
use Rattle.tn_links.specs.Flows.{AreWithin, IsKeptFlow, balance, brought, flow_at, gain, total_gain}
use Rattle.tn_links.specs.Links.{rise, room}
use Rattle.tn_links.specs.RiseLemmas.{times_suc}
use Rattle.tn_dimacs.specs.declared.problem.Arc.{Arc}
use Rattle.tn_dimacs.specs.Circulations.{FitCapacities, IsCirculation, IsLeast, brings, cost_of, inflow}
use Rattle.tn_dimacs.specs.Served.{AreLinksOf, IsBest, IsLinkOf}

-- the links of the later arcs
later : (arc : Arc) (arcs : List Arc) (link : Link) (links : List Link) → AreLinksOf (arc ∷ arcs) (link ∷ links)
    → AreLinksOf arcs links
later arc arcs link links are = record {
  one_each = let e = are.one_each in omega (arith, e);
  all = λ j one own at_arc at_link. are.all (suc j) one own at_arc at_link;
}

-- so many units gain what they don't cost
gains_costs : (each cost : ℤ) (n : ℕ) → each +ℤ cost ≡ pos 0 → each *ℤ pos n +ℤ cost *ℤ pos n ≡ pos 0
gains_costs each cost zero none =
    let first = *ℤ-zero each in let second = *ℤ-zero cost in omega (arith, ints, first, second)
gains_costs each cost (suc n) none =
    let before = gains_costs each cost n none in
    let first = times_suc each n in
    let second = times_suc cost n in
    omega (arith, ints, before, first, second, none)

room_is : (arc : Arc) (link : Link) → IsLinkOf arc link → room link.steps.items ≡ arc.capacity
room_is arc link is = ap room is.steps ∙ omega arith

gain_is : (arc : Arc) (link : Link) (flow : ℕ) → IsLinkOf arc link → flow ≤ arc.capacity
    → gain link flow +ℤ arc.cost *ℤ pos flow ≡ pos 0
gain_is arc link flow is fits =
    let up : rise link.steps.items flow ≡ is.each *ℤ pos (min flow arc.capacity) +ℤ pos 0 =
    ap (λ (steps : List Step). rise steps flow) is.steps in
    let none : rise link.steps.items link.back ≡ is.each *ℤ pos (min 0 arc.capacity) +ℤ pos 0 =
    ap (λ (steps : List Step). rise steps link.back) is.steps
    ∙ ap (λ (n : ℕ). is.each *ℤ pos (min n arc.capacity) +ℤ pos 0) is.back in
    let all : is.each *ℤ pos (min flow arc.capacity) ≡ is.each *ℤ pos flow =
    ap (λ (n : ℕ). is.each *ℤ pos n) (omega (arith, fits)) in
    let nothing : is.each *ℤ pos (min 0 arc.capacity) ≡ is.each *ℤ pos 0 =
    ap (λ (n : ℕ). is.each *ℤ pos n) (omega arith) in
    let zero_is = *ℤ-zero is.each in
    let both = gains_costs is.each arc.cost flow is.gains in
    omega (arith, ints, up, none, all, nothing, zero_is, both)

brings_is : (arc : Arc) (link : Link) (flow v : ℕ) → IsLinkOf arc link → brought link (flow_at link flow) v ≡ brings arc flow v
brings_is arc link flow v is =
    ap (λ (n : ℕ). (if v == n then flow_at link flow else pos 0) -ℤ (if v == link.tail then flow_at link flow else pos 0))
    is.head
    ∙ ap (λ (n : ℕ). (if v == arc.head then flow_at link flow else pos 0) -ℤ (if v == n then flow_at link flow else pos 0))
    is.tail
    ∙ ap (λ (z : ℤ). (if v == arc.head then z else pos 0) -ℤ (if v == arc.tail then z else pos 0)) all
  where
    all : flow_at link flow ≡ pos flow
    all = let back = is.back in omega (arith, ints, back)

pub inflow_is : (arcs : List Arc) (links : List Link) (flows : List ℕ) (v : ℕ) → AreLinksOf arcs links
    → balance links flows v ≡ inflow arcs flows v
inflow_is [] [] flows v are = refl
inflow_is [] (link ∷ links) flows v are = absurd (let e = are.one_each in omega (arith, e))
inflow_is (arc ∷ arcs) [] flows v are = absurd (let e = are.one_each in omega (arith, e))
inflow_is (arc ∷ arcs) (link ∷ links) [] v are = refl
inflow_is (arc ∷ arcs) (link ∷ links) (flow ∷ flows) v are =
    let own = brings_is arc link flow v (are.all 0 arc link refl refl) in
    let rest = inflow_is arcs links flows v (later arc arcs link links are) in
    omega (arith, ints, own, rest)

pub gains_is : (arcs : List Arc) (links : List Link) (flows : List ℕ) → AreLinksOf arcs links → FitCapacities arcs flows
    → total_gain links flows +ℤ cost_of arcs flows ≡ pos 0
gains_is [] [] flows are fits = refl
gains_is [] (link ∷ links) flows are fits = absurd (let e = are.one_each in omega (arith, e))
gains_is (arc ∷ arcs) [] flows are fits = absurd (let e = are.one_each in omega (arith, e))
gains_is (arc ∷ arcs) (link ∷ links) [] are fits = refl
gains_is (arc ∷ arcs) (link ∷ links) (flow ∷ flows) are fits =
    let own = gain_is arc link flow (are.all 0 arc link refl refl) (fits 0 flow arc refl refl) in
    let rest = gains_is arcs links flows (later arc arcs link links are)
    (λ j one other at_arc at_flow. fits (suc j) one other at_arc at_flow) in
    omega (arith, ints, own, rest)

fits_is : (arcs : List Arc) (links : List Link) (flows : List ℕ) → AreLinksOf arcs links → AreWithin links flows
    → FitCapacities arcs flows
fits_is [] links flows are within j flow arc at_arc at_flow = absurd (none-some arc at_arc)
fits_is (first ∷ arcs) [] flows are within j flow arc at_arc at_flow = absurd (let e = are.one_each in omega (arith, e))
fits_is (first ∷ arcs) (link ∷ links) [] are within j flow arc at_arc at_flow = absurd (none-some flow at_flow)
fits_is (first ∷ arcs) (link ∷ links) (own ∷ flows) are within zero flow arc at_arc at_flow =
    let is = are.all 0 arc link at_arc refl in
    let below = within 0 flow link refl at_flow in
    let same = room_is arc link is in
    omega (arith, below, same)
fits_is (first ∷ arcs) (link ∷ links) (own ∷ flows) are within (suc j) flow arc at_arc at_flow =
    fits_is arcs links flows (later first arcs link links are)
    (λ k one other at_link at_level. within (suc k) one other at_link at_level) j flow arc at_arc at_flow

within_is : (arcs : List Arc) (links : List Link) (flows : List ℕ) → AreLinksOf arcs links → FitCapacities arcs flows
    → AreWithin links flows
within_is arcs [] flows are fits j level link at_link at_level = absurd (none-some link at_link)
within_is [] (own ∷ links) flows are fits j level link at_link at_level =
    absurd (let e = are.one_each in omega (arith, e))
within_is (arc ∷ arcs) (own ∷ links) [] are fits j level link at_link at_level = absurd (none-some level at_level)
within_is (arc ∷ arcs) (own ∷ links) (flow ∷ flows) are fits zero level link at_link at_level =
    let is = are.all 0 arc link refl at_link in
    let below = fits 0 level arc refl at_level in
    let same = room_is arc link is in
    omega (arith, below, same)
within_is (arc ∷ arcs) (own ∷ links) (flow ∷ flows) are fits (suc j) level link at_link at_level =
    within_is arcs links flows (later arc arcs own links are)
    (λ k one other at_arc at_flow. fits (suc k) one other at_arc at_flow) j level link at_link at_level

-- a kept flow is a circulation
is_circulation : (arcs : List Arc) (links : List Link) (flows : List ℕ) → AreLinksOf arcs links → IsKeptFlow links flows
    → IsCirculation arcs flows
is_circulation arcs links flows are flow = record {
  one_each = flow.one_each ∙ are.one_each;
  fits = fits_is arcs links flows are flow.within;
  kept = λ v. sym (inflow_is arcs links flows v are) ∙ flow.kept v;
}

-- and the other way round
is_kept : (arcs : List Arc) (links : List Link) (flows : List ℕ) → AreLinksOf arcs links → IsCirculation arcs flows
    → IsKeptFlow links flows
is_kept arcs links flows are circulation = record {
  one_each = circulation.one_each ∙ sym are.one_each;
  within = within_is arcs links flows are circulation.fits;
  kept = λ v. inflow_is arcs links flows v are ∙ circulation.kept v;
}

-- a kept flow of greatest gain is a circulation of least cost
pub best_is_least : (arcs : List Arc) (links : List Link) (flows : List ℕ) → AreLinksOf arcs links → IsBest links flows
    → IsLeast arcs flows
best_is_least arcs links flows are best = record {
  circulation = is_circulation arcs links flows are best.kept;
  least = λ others circulation.
      let greatest = best.greatest others (is_kept arcs links others are circulation) in
      let own = gains_is arcs links flows are (fits_is arcs links flows are best.kept.within) in
      let other = gains_is arcs links others are circulation.fits in
      omega (arith, ints, greatest, own, other);
}

-- a link before the others, that of the arc before the others
with_first : (arc : Arc) (arcs : List Arc) (link : Link) (links : List Link) → IsLinkOf arc link → AreLinksOf arcs links
    → AreLinksOf (arc ∷ arcs) (link ∷ links)
with_first arc arcs link links is are = record {
  one_each = let e = are.one_each in omega (arith, e);
  all = by;
}
  where
    by : (j : ℕ) (one : Arc) (own : Link) → slice_get (arc ∷ arcs) j ≡ Some one → slice_get (link ∷ links) j ≡ Some own
        → IsLinkOf one own
    by zero one own at_arc at_link =
        subst (IsLinkOf one) (same_Some link own at_link)
        (subst (λ (a : Arc). IsLinkOf a link) (same_Some arc one at_arc) is)
    by (suc j) one own at_arc at_link = are.all j one own at_arc at_link

-- a link more, that of the next arc
pub one_link_more : (arcs : List Arc) (links : List Link) (k : ℕ) (arc : Arc) (link : Link) → slice_get arcs k ≡ Some arc
    → AreLinksOf (take k arcs) links → IsLinkOf arc link → AreLinksOf (take (suc k) arcs) (links ++ link ∷ [])
one_link_more [] links k arc link at are is = absurd (none-some arc at)
one_link_more (first ∷ arcs) [] zero arc link at are is =
    with_first first [] link [] (subst (λ (a : Arc). IsLinkOf a link) (sym (same_Some first arc at)) is)
    (record { one_each = refl; all = λ j one own at_arc at_link. absurd (none-some one at_arc) })
one_link_more (first ∷ arcs) (own ∷ links) zero arc link at are is = absurd (let e = are.one_each in omega (arith, e))
one_link_more (first ∷ arcs) [] (suc k) arc link at are is = absurd (let e = are.one_each in omega (arith, e))
one_link_more (first ∷ arcs) (own ∷ links) (suc k) arc link at are is =
    with_first first (take (suc k) arcs) own (links ++ link ∷ []) (are.all 0 first own refl refl)
    (one_link_more arcs links k arc link at (later first (take k arcs) own links are) is)
