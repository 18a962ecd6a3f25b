-- The flow of nothing.
use Rattle.std.proofs.Common.{◌≡◌, ℕ, zero, suc, ◌≤◌, refl, ap, arith, List, [], ◌∷◌, map, pos, ◌-ℤ◌, Some, Bool, true, false, ◌==◌, if◌then◌else◌}
use Rattle.std.specs.Prelude.{slice_get}
use Rattle.std.proofs.lemmas.Int.{ints}
use Rattle.std.proofs.lemmas.List.{length-map}
use Rattle.std.proofs.lemmas.Option.{none-some, same_Some}
use Rattle.tn_links.specs.declared.link.Link.{Link}
use Rattle.tn_links.specs.Flows.{IsKeptFlow, balance, brought, flow_at}
use Rattle.tn_links.specs.Links.{AreLinks, room}

-- the levels at which nothing flows
abbrev pub idle : List Link → List ℕ
idle links = map (λ link. link.back) links

nothing_brought : (link : Link) (v : ℕ) → brought link (flow_at link link.back) v ≡ pos 0
nothing_brought link v = by (v == link.head) (v == link.tail)
  where
    none : flow_at link link.back ≡ pos 0
    none = omega (arith, ints)

    by : (h t : Bool)
        → (if h then flow_at link link.back else pos 0) -ℤ (if t then flow_at link link.back else pos 0) ≡ pos 0
    by true true = omega (arith, ints, none)
    by true false = omega (arith, ints, none)
    by false true = omega (arith, ints, none)
    by false false = refl

balance-idle : (links : List Link) (v : ℕ) → balance links (idle links) v ≡ pos 0
balance-idle [] v = refl
balance-idle (link ∷ links) v = let rest = balance-idle links v in let own = nothing_brought link v in
    omega (arith, ints, rest, own)

within_idle : (nodes : ℕ) (links : List Link) → AreLinks nodes links → (j level : ℕ) (link : Link)
    → slice_get links j ≡ Some link → slice_get (idle links) j ≡ Some level → level ≤ room link.steps.items
within_idle nodes [] each j level link at is = absurd (none-some link at)
within_idle nodes (first ∷ links) each zero level link at is =
    let within = (each 0 first refl).steps.back_within in
    let one : first ≡ link = same_Some first link at in
    let same : first.back ≡ level = same_Some first.back level is in
    let room_is : room first.steps.items ≡ room link.steps.items = ap (λ (l : Link). room l.steps.items) one in
    omega (arith, within, same, room_is)
within_idle nodes (first ∷ links) each (suc j) level link at is =
    within_idle nodes links (λ k one one_is. each (suc k) one one_is) j level link at is

-- nothing flows in and nothing flows out
pub idle_is_kept : (nodes : ℕ) (links : List Link) → AreLinks nodes links → IsKeptFlow links (idle links)
idle_is_kept nodes links each = record {
  one_each = length-map links (λ link. link.back);
  within = λ j level link. within_idle nodes links each j level link;
  kept = balance-idle links;
}
