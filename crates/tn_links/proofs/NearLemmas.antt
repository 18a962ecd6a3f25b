-- The link that joins two nodes.
use Rattle.std.proofs.Common.{◌≡◌, ◌≢◌, ℕ, zero, suc, ◌+◌, ◌<◌, ◌≤◌, refl, sym, ap, ◌∙◌, subst, arith, inl, inr, List, [], ◌∷◌, ◌++◌, length, set, get_or, map, Vec, Global, Option, Some, None, Bool, true, false, ◌==◌, if◌then◌else◌}
use Rattle.std.specs.Prelude.{slice_get, option_map}
use Rattle.std.proofs.lemmas.Bool.{cases_lt, eqb-true, eqb-false, false_from_ne_true, false≢true}
use Rattle.std.proofs.lemmas.List.{get_or-map, length-map, get_or_append_left, get_or_push, length-append}
use Rattle.std.proofs.lemmas.Option.{none-some, same_Some}
use Rattle.tn_links.specs.declared.link.Link.{Link}
use Rattle.tn_links.specs.declared.links.Neighbour.{Neighbour}
use Rattle.tn_links.specs.Links.{ArePlain, joins}
use Rattle.tn_links.specs.Lots.{level_after, link_arc, lot_cost, stepped}
use Rattle.tn_links.specs.Near.{AreListed, link_between, link_to, near_from}
use Rattle.tn_links.specs.LotLemmas.{HasEnds, ends_of, joins_by, listed_if}

-- the two ends of each link are apart
abbrev pub AreApartEnds : List Link → Type 0
AreApartEnds links = (j : ℕ) (link : Link) → slice_get links j ≡ Some link → link.tail ≢ link.head

joins_if : (link : Link) (u v : ℕ) → HasEnds link u v → (x y : Option ℕ) → (if joins link u v then x else y) ≡ x
joins_if link u v ends x y = ap (λ (b : Bool). if b then x else y) (joins_by link u v ends)

joins_not : (link : Link) (u v : ℕ) → (HasEnds link u v → ⊥) → (x y : Option ℕ) → (if joins link u v then x else y) ≡ y
joins_not link u v none x y =
    ap (λ (b : Bool). if b then x else y) (false_from_ne_true (joins link u v) (λ is. none (ends_of link u v is)))

-- a node's list leads to the link
pub link_to-near : (links : List Link) (j u v : ℕ) → AreApartEnds links
    → link_to (near_from links j u) v ≡ option_map (λ k. j + k) (link_between links u v)
link_to-near [] j u v apart = refl
link_to-near (link ∷ links) j u v apart =
    by (link_to-near links (suc j) u v (λ k one is. apart (suc k) one is)) (link.tail == u) (link.head == u) refl refl
  where
    rest : (o : Option ℕ) → option_map (λ k. suc j + k) o ≡ option_map (λ k. j + k) (option_map suc o)
    rest None = refl
    rest (Some k) = ap Some (omega arith)

    here : HasEnds link u v → Some j ≡ option_map (λ k. j + k) (link_between (link ∷ links) u v)
    here ends = ap Some (omega arith)
        ∙ sym (ap (option_map (λ k. j + k)) (joins_if link u v ends (Some 0) (option_map suc (link_between links u v))))

    past : link_to (near_from links (suc j) u) v ≡ option_map (λ k. suc j + k) (link_between links u v)
        → (HasEnds link u v → ⊥)
        → link_to (near_from links (suc j) u) v ≡ option_map (λ k. j + k) (link_between (link ∷ links) u v)
    past next none = next ∙ rest (link_between links u v)
        ∙ sym (ap (option_map (λ k. j + k)) (joins_not link u v none (Some 0) (option_map suc (link_between links u v))))

    -- a link of the node is the one, or a later one is
    one_of : link_to (near_from links (suc j) u) v ≡ option_map (λ k. suc j + k) (link_between links u v)
        → (node : ℕ) → (node ≡ v → HasEnds link u v) → (HasEnds link u v → node ≡ v) → (t : Bool) → (node == v) ≡ t
        → (if t then Some j else link_to (near_from links (suc j) u) v)
        ≡ option_map (λ k. j + k) (link_between (link ∷ links) u v)
    one_of next node to from true holds = here (to (eqb-true node v holds))
    one_of next node to from false fails = past next (λ ends. eqb-false node v fails (from ends))

    own : link.tail ≢ link.head
    own = apart 0 link refl

    by : link_to (near_from links (suc j) u) v ≡ option_map (λ k. suc j + k) (link_between links u v)
        → (t h : Bool) → (link.tail == u) ≡ t → (link.head == u) ≡ h
        → link_to (listed_if t h link j (near_from links (suc j) u)) v
        ≡ option_map (λ k. j + k) (link_between (link ∷ links) u v)
    by next true h holds other =
        let tail : link.tail ≡ u = eqb-true link.tail u holds in
        one_of next link.head (λ is. inl (tail, is)) (λ ends. elim ends [
          | inl two ↦ two.1
          | inr two ↦ absurd (own (tail ∙ sym two.1))
        ]) (link.head == v) refl
    by next false true fails holds =
        let head : link.head ≡ u = eqb-true link.head u holds in
        one_of next link.tail (λ is. inr (is, head)) (λ ends. elim ends [
          | inl two ↦ absurd (eqb-false link.tail u fails two.0)
          | inr two ↦ two.0
        ]) (link.tail == v) refl
    by next false false fails neither = past next (λ ends. elim ends [
      | inl two ↦ eqb-false link.tail u fails two.0
      | inr two ↦ eqb-false link.head u neither two.1
    ])

pub option_map-same : (o : Option ℕ) → option_map (λ k. 0 + k) o ≡ o
option_map-same None = refl
option_map-same (Some k) = ap Some (omega arith)

pub found_between : (nodes : ℕ) (links : List Link) (u v : ℕ) → ArePlain nodes links
    → link_to (near_from links 0 u) v ≡ link_between links u v
found_between nodes links u v plain =
    link_to-near links 0 u v (λ j link is. (plain.each j link is).apart) ∙ option_map-same (link_between links u v)

-- one node more has its list
pub one_more_listed : (v : ℕ) (links : List Link) (lists : List (List Neighbour)) (list : List Neighbour)
    → AreListed v links lists → list ≡ near_from links 0 v → AreListed (v + 1) links (lists ++ list ∷ [])
one_more_listed v links lists list listed is = record {
  one_each = omega (arith, length-append lists (list ∷ []), listed.one_each);
  all = λ u below. elim (cases_lt u v) [
    | inl earlier ↦ get_or_append_left lists (list ∷ []) [] u (omega (arith, earlier, listed.one_each)) ∙ listed.all u earlier
    | inr last ↦
        let same : v ≡ u = omega (arith, below, last) in
        subst (λ (k : ℕ). get_or (lists ++ list ∷ []) k [] ≡ near_from links 0 k) same
        (get_or_push lists list [] v listed.one_each ∙ is)
  ];
}

-- a node's list has its links
pub listed_at : (nodes : ℕ) (links : List Link) (near : List (Vec Neighbour Global))
    → AreListed nodes links (map (λ (list : Vec Neighbour Global). list.items) near) → (v : ℕ) → v < nodes
    → (one : Vec Neighbour Global) → one ≡ get_or near v one → one.items ≡ near_from links 0 v
listed_at nodes links near listed v below one is =
    let sized = length-map near (λ (list : Vec Neighbour Global). list.items) in
    ap (λ (list : Vec Neighbour Global). list.items) is
    ∙ sym (get_or-map (λ (list : Vec Neighbour Global). list.items) near v one []
    (omega (arith, below, sized, listed.one_each)))
    ∙ listed.all v below

some_suc : (o : Option ℕ) (j : ℕ) → option_map suc o ≡ Some j → (i : ℕ) × (o ≡ Some i) × (suc i ≡ j)
some_suc None j e = absurd (none-some j e)
some_suc (Some i) j e = (i, refl, same_Some (suc i) j e)

none_suc : (o : Option ℕ) → option_map suc o ≡ None → o ≡ None
none_suc None e = refl
none_suc (Some i) e = absurd (none-some (suc i) (sym e))

-- where no link joins two nodes, there is no arc, and nothing to step over
pub arc_none : (links : List Link) (levels : List ℕ) (lot u v : ℕ) → link_between links u v ≡ None
    → link_arc links levels lot u v ≡ None
arc_none [] levels lot u v e = refl
arc_none (link ∷ links) [] lot u v e = refl
arc_none (link ∷ links) (level ∷ levels) lot u v e =
    by (λ q. arc_none links levels lot u v q) (joins link u v) e
  where
    by : (link_between links u v ≡ None → link_arc links levels lot u v ≡ None) → (t : Bool)
        → (if t then Some 0 else option_map suc (link_between links u v)) ≡ None
        → (if t then lot_cost link level lot u else link_arc links levels lot u v) ≡ None
    by next true q = absurd (none-some 0 (sym q))
    by next false q = next (none_suc (link_between links u v) q)

pub stepped_none : (links : List Link) (levels : List ℕ) (lot u v : ℕ) → link_between links u v ≡ None
    → stepped links lot levels u v ≡ levels
stepped_none [] levels lot u v e = refl
stepped_none (link ∷ links) [] lot u v e = refl
stepped_none (link ∷ links) (level ∷ levels) lot u v e =
    by (λ q. stepped_none links levels lot u v q) (joins link u v) e
  where
    by : (link_between links u v ≡ None → stepped links lot levels u v ≡ levels) → (t : Bool)
        → (if t then Some 0 else option_map suc (link_between links u v)) ≡ None
        → (if t then level_after link level lot u ∷ levels else level ∷ stepped links lot levels u v) ≡ level ∷ levels
    by next true q = absurd (none-some 0 (sym q))
    by next false q = ap (λ (rest : List ℕ). level ∷ rest) (next (none_suc (link_between links u v) q))

-- the arc is that of the link that joins them
pub arc_some : (links : List Link) (levels : List ℕ) (lot u v j : ℕ) (link : Link) (level : ℕ)
    → link_between links u v ≡ Some j → slice_get links j ≡ Some link → slice_get levels j ≡ Some level
    → link_arc links levels lot u v ≡ lot_cost link level lot u
arc_some [] levels lot u v j link level e at level_at = absurd (none-some j e)
arc_some (first ∷ links) [] lot u v j link level e at level_at = absurd (none-some level level_at)
arc_some (first ∷ links) (n ∷ levels) lot u v j link level e at level_at =
    by (λ i q p r. arc_some links levels lot u v i link level q p r) (joins first u v) j e at level_at
  where
    by : ((i : ℕ) → link_between links u v ≡ Some i → slice_get links i ≡ Some link → slice_get levels i ≡ Some level
        → link_arc links levels lot u v ≡ lot_cost link level lot u) → (t : Bool) → (j : ℕ)
        → (if t then Some 0 else option_map suc (link_between links u v)) ≡ Some j
        → slice_get (first ∷ links) j ≡ Some link → slice_get (n ∷ levels) j ≡ Some level
        → (if t then lot_cost first n lot u else link_arc links levels lot u v) ≡ lot_cost link level lot u
    by next true zero q at level_at =
        ap (λ (l : Link). lot_cost l n lot u) (same_Some first link at)
        ∙ ap (λ (k : ℕ). lot_cost link k lot u) (same_Some n level level_at)
    by next true (suc i) q at level_at = absurd (omega (arith, same_Some 0 (suc i) q))
    by next false zero q at level_at =
        let k = some_suc (link_between links u v) 0 q in absurd (omega (arith, k.2))
    by next false (suc i) q at level_at =
        let k = some_suc (link_between links u v) (suc i) q in
        let e : k.0 ≡ i = omega (arith, k.2) in
        next i (k.1 ∙ ap Some e) at level_at

pub stepped_some : (links : List Link) (levels : List ℕ) (lot u v j : ℕ) (link : Link) (level : ℕ)
    → link_between links u v ≡ Some j → slice_get links j ≡ Some link → slice_get levels j ≡ Some level
    → stepped links lot levels u v ≡ set levels j (level_after link level lot u)
stepped_some [] levels lot u v j link level e at level_at = absurd (none-some j e)
stepped_some (first ∷ links) [] lot u v j link level e at level_at = absurd (none-some level level_at)
stepped_some (first ∷ links) (n ∷ levels) lot u v j link level e at level_at =
    by (λ i q p r. stepped_some links levels lot u v i link level q p r) (joins first u v) j e at level_at
  where
    by : ((i : ℕ) → link_between links u v ≡ Some i → slice_get links i ≡ Some link → slice_get levels i ≡ Some level
        → stepped links lot levels u v ≡ set levels i (level_after link level lot u)) → (t : Bool) → (j : ℕ)
        → (if t then Some 0 else option_map suc (link_between links u v)) ≡ Some j
        → slice_get (first ∷ links) j ≡ Some link → slice_get (n ∷ levels) j ≡ Some level
        → (if t then level_after first n lot u ∷ levels else n ∷ stepped links lot levels u v)
        ≡ set (n ∷ levels) j (level_after link level lot u)
    by next true zero q at level_at =
        ap (λ (k : ℕ). k ∷ levels) (ap (λ (l : Link). level_after l n lot u) (same_Some first link at)
        ∙ ap (λ (k : ℕ). level_after link k lot u) (same_Some n level level_at))
    by next true (suc i) q at level_at = absurd (omega (arith, same_Some 0 (suc i) q))
    by next false zero q at level_at =
        let k = some_suc (link_between links u v) 0 q in absurd (omega (arith, k.2))
    by next false (suc i) q at level_at =
        let k = some_suc (link_between links u v) (suc i) q in
        let e : k.0 ≡ i = omega (arith, k.2) in
        ap (λ (rest : List ℕ). n ∷ rest) (next i (k.1 ∙ ap Some e) at level_at)

-- the link that joins two nodes
pub record IsBetween (links : List Link) (u v j : ℕ) : Type 0 where
  pub below : j < length links
  pub link : Link
  pub link_is : slice_get links j ≡ Some link
  pub joined : joins link u v ≡ true

pub between_is : (links : List Link) (u v j : ℕ) → link_between links u v ≡ Some j → IsBetween links u v j
between_is [] u v j e = absurd (none-some j e)
between_is (first ∷ links) u v j e = by (λ i q. between_is links u v i q) (joins first u v) refl j e
  where
    by : ((i : ℕ) → link_between links u v ≡ Some i → IsBetween links u v i) → (t : Bool) → joins first u v ≡ t → (j : ℕ)
        → (if t then Some 0 else option_map suc (link_between links u v)) ≡ Some j → IsBetween (first ∷ links) u v j
    by next true holds j q = subst (IsBetween (first ∷ links) u v) (same_Some 0 j q)
        (record { below = omega arith; link = first; link_is = refl; joined = holds })
    by next false fails j q =
        let k = some_suc (link_between links u v) j q in
        let rest = next k.0 k.1 in
        let below = rest.below in
        subst (IsBetween (first ∷ links) u v) k.2
        (record { below = omega (arith, below); link = rest.link; link_is = rest.link_is; joined = rest.joined })

-- a link that joins two nodes is found
pub none_joined : (links : List Link) (u v j : ℕ) (link : Link) → link_between links u v ≡ None
    → slice_get links j ≡ Some link → joins link u v ≡ true → ⊥
none_joined [] u v j link e at joined = none-some link at
none_joined (first ∷ links) u v j link e at joined =
    by (λ i q p. none_joined links u v i link q p joined) (joins first u v) refl j e at
  where
    by : ((i : ℕ) → link_between links u v ≡ None → slice_get links i ≡ Some link → ⊥) → (t : Bool) → joins first u v ≡ t
        → (j : ℕ) → (if t then Some 0 else option_map suc (link_between links u v)) ≡ None
        → slice_get (first ∷ links) j ≡ Some link → ⊥
    by next true holds j q at = none-some 0 (sym q)
    by next false fails zero q at =
        false≢true (sym fails ∙ ap (λ (l : Link). joins l u v) (same_Some first link at) ∙ joined)
    by next false fails (suc i) q at = next i (none_suc (link_between links u v) q) at

pub is_between : (nodes : ℕ) (links : List Link) (u v j : ℕ) (link : Link) → ArePlain nodes links
    → slice_get links j ≡ Some link → joins link u v ≡ true → link_between links u v ≡ Some j
is_between nodes links u v j link plain at joined = by (link_between links u v) refl
  where
    by : (o : Option ℕ) → link_between links u v ≡ o → o ≡ Some j
    by None e = absurd (none_joined links u v j link e at joined)
    by (Some i) e =
        let found = between_is links u v i e in
        ap Some (plain.single i j u v found.link link found.link_is at found.joined joined)

pub length-near_from : (links : List Link) (j v : ℕ) → length (near_from links j v) ≤ length links
length-near_from [] j v = omega arith
length-near_from (link ∷ links) j v =
    by (length-near_from links (suc j) v) (link.tail == v) (link.head == v)
  where
    by : length (near_from links (suc j) v) ≤ length links → (t h : Bool)
        → length (listed_if t h link j (near_from links (suc j) v)) ≤ length (link ∷ links)
    by rest true h = omega (arith, rest)
    by rest false true = omega (arith, rest)
    by rest false false = omega (arith, rest)
