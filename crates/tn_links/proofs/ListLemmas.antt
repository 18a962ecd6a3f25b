-- Lists of the links of each node, made link by link.
use Rattle.std.proofs.Common.{◌≡◌, ◌≢◌, ℕ, suc, ◌+◌, ◌<◌, refl, sym, ap, ◌∙◌, arith, inl, inr, List, [], ◌∷◌, ◌++◌, length, set, take, get_or, Option, Some, None, Bool, true, false, ◌==◌, if◌then◌else◌, nat_lt}
use Rattle.std.specs.Prelude.{slice_get, option_map, ◌&&◌}
use Rattle.std.proofs.lemmas.Bool.{eqb-true, eqb-false}
use Rattle.std.proofs.Math.Bool.{or_comm}
use Rattle.std.proofs.lemmas.List.{append-nil, get_or-set_other, get_or-set_same, length-set, length-take-le, take_more}
use Rattle.std.proofs.lemmas.Option.{same_Some, slice_get_within}
use Rattle.tn_links.specs.declared.link.Link.{Link}
use Rattle.tn_links.specs.declared.links.Neighbour.{Neighbour}
use Rattle.tn_links.specs.Links.{AreLinks, AreSingle, IsLink, joins}
use Rattle.tn_links.specs.Near.{AreListed, link_between, link_to, near_from}
use Rattle.tn_links.specs.LotLemmas.{ends_of, joins_by, listed_if}
use Rattle.tn_links.proofs.NearLemmas.{between_is, link_to-near, none_joined, option_map-same}

-- a link more at the end of a node's list, where it is one of the node's
near_from-push : (links : List Link) (link : Link) (j v : ℕ)
    → near_from (links ++ link ∷ []) j v
    ≡ near_from links j v ++ listed_if (link.tail == v) (link.head == v) link (j + length links) []
near_from-push [] link j v =
    ap (λ (k : ℕ). listed_if (link.tail == v) (link.head == v) link k []) (omega arith)
near_from-push (first ∷ links) link j v =
    let last = listed_if (link.tail == v) (link.head == v) link in
    let next : near_from (links ++ link ∷ []) (suc j) v
    ≡ near_from links (suc j) v ++ last (j + length (first ∷ links)) [] =
    near_from-push links link (suc j) v ∙ ap (λ (k : ℕ). near_from links (suc j) v ++ last k []) (omega arith) in
    by (first.tail == v) (first.head == v) next
  where
    by : (t h : Bool)
        → near_from (links ++ link ∷ []) (suc j) v
        ≡ near_from links (suc j) v
        ++ listed_if (link.tail == v) (link.head == v) link (j + length (first ∷ links)) []
        → listed_if t h first j (near_from (links ++ link ∷ []) (suc j) v)
        ≡ listed_if t h first j (near_from links (suc j) v)
        ++ listed_if (link.tail == v) (link.head == v) link (j + length (first ∷ links)) []
    by true h next = ap (λ (rest : List Neighbour). record { link = j; node = first.head } ∷ rest) next
    by false true next = ap (λ (rest : List Neighbour). record { link = j; node = first.tail } ∷ rest) next
    by false false next = next

-- the lists with a link more at its two ends
abbrev pub with_link : List (List Neighbour) → Link → ℕ → List (List Neighbour)
with_link lists link j =
    let first = set lists link.tail (get_or lists link.tail [] ++ record { link = j; node = link.head } ∷ []) in
    set first link.head (get_or first link.head [] ++ record { link = j; node = link.tail } ∷ [])

-- with a link more, each node has its links
pub one_more_link : (nodes j : ℕ) (links : List Link) (lists : List (List Neighbour)) (link : Link)
    → AreListed nodes (take j links) lists → j < length links → link ≡ get_or links j link → IsLink nodes link
    → AreListed nodes (take (j + 1) links) (with_link lists link j)
one_more_link nodes j links lists link listed below at is = record {
  one_each =
      length-set first link.head (get_or first link.head [] ++ record { link = j; node = link.tail } ∷ [])
      ∙ length-set lists link.tail (get_or lists link.tail [] ++ record { link = j; node = link.head } ∷ [])
      ∙ listed.one_each;
  all = λ v inside. by v inside (link.tail == v) (link.head == v) refl refl ∙ sym (own v);
}
  where
    first : List (List Neighbour)
    first = set lists link.tail (get_or lists link.tail [] ++ record { link = j; node = link.head } ∷ [])

    own : (v : ℕ) → near_from (take (j + 1) links) 0 v
        ≡ near_from (take j links) 0 v ++ listed_if (link.tail == v) (link.head == v) link j []
    own v =
        ap (λ (some : List Link). near_from some 0 v) (take_more links j link below
        ∙ ap (λ (one : Link). take j links ++ one ∷ []) (sym at))
        ∙ near_from-push (take j links) link 0 v
        ∙ ap (λ (k : ℕ). near_from (take j links) 0 v ++ listed_if (link.tail == v) (link.head == v) link k [])
        (omega (arith, length-take-le j links))

    sized : length first ≡ nodes
    sized = length-set lists link.tail (get_or lists link.tail [] ++ record { link = j; node = link.head } ∷ [])
        ∙ listed.one_each

    last : ℕ → List Neighbour
    last v = get_or first v [] ++ record { link = j; node = link.tail } ∷ []

    by : (v : ℕ) → v < nodes → (t h : Bool) → (link.tail == v) ≡ t → (link.head == v) ≡ h
        → get_or (with_link lists link j) v [] ≡ near_from (take j links) 0 v ++ listed_if t h link j []
    by v inside true h tail head =
        let here : link.tail ≡ v = eqb-true link.tail v tail in
        let apart : v ≢ link.head = λ e. is.apart (here ∙ e) in
        let room : link.tail < length lists = omega (arith, is.tail_inside, listed.one_each) in
        get_or-set_other first link.head v (last link.head) [] apart
        ∙ ap (λ (k : ℕ). get_or first k []) (sym here)
        ∙ get_or-set_same lists link.tail (get_or lists link.tail [] ++ record { link = j; node = link.head } ∷ []) [] room
        ∙ ap (λ (k : ℕ). get_or lists k [] ++ record { link = j; node = link.head } ∷ []) here
        ∙ ap (λ (list : List Neighbour). list ++ record { link = j; node = link.head } ∷ []) (listed.all v inside)
    by v inside false true tail head =
        let here : link.head ≡ v = eqb-true link.head v head in
        let apart : link.head ≢ link.tail = λ e. is.apart (sym e) in
        ap (λ (k : ℕ). get_or (with_link lists link j) k []) (sym here)
        ∙ get_or-set_same first link.head (last link.head) [] (omega (arith, is.head_inside, sized))
        ∙ ap (λ (list : List Neighbour). list ++ record { link = j; node = link.tail } ∷ [])
        (get_or-set_other lists link.tail link.head
        (get_or lists link.tail [] ++ record { link = j; node = link.head } ∷ []) [] apart
        ∙ ap (λ (k : ℕ). get_or lists k []) here ∙ listed.all v inside)
    by v inside false false tail head =
        get_or-set_other first link.head v (last link.head) [] (λ e. eqb-false link.head v head (sym e))
        ∙ get_or-set_other lists link.tail v (get_or lists link.tail [] ++ record { link = j; node = link.head } ∷ []) []
        (λ e. eqb-false link.tail v tail (sym e))
        ∙ listed.all v inside ∙ sym (append-nil (near_from (take j links) 0 v))

-- the link that joins two nodes is the same from either
link_between-swap : (links : List Link) (u v : ℕ) → link_between links u v ≡ link_between links v u
link_between-swap [] u v = refl
link_between-swap (link ∷ links) u v =
    ap (λ (b : Bool). if b then Some 0 else option_map suc (link_between links u v))
    (or_comm (link.tail == u && link.head == v) (link.tail == v && link.head == u))
    ∙ ap (λ (o : Option ℕ). if joins link v u then Some 0 else option_map suc o) (link_between-swap links u v)

-- the link is found by either list
pub found_by : (nodes : ℕ) (links : List Link) (lists : List (List Neighbour)) (u v : ℕ) → AreLinks nodes links
    → AreListed nodes links lists → u < nodes → v < nodes
    → (let one = get_or lists u [] in let other = get_or lists v [] in
    if nat_lt (length other) (length one) then link_to other u else link_to one v) ≡ link_between links u v
found_by nodes links lists u v each listed first second =
    by (nat_lt (length (get_or lists v [])) (length (get_or lists u [])))
  where
    from : (a b : ℕ) → a < nodes → link_to (get_or lists a []) b ≡ link_between links a b
    from a b inside = ap (λ (near : List Neighbour). link_to near b) (listed.all a inside)
        ∙ link_to-near links 0 a b (λ j link is. (each j link is).apart) ∙ option_map-same (link_between links a b)

    by : (t : Bool)
        → (if t then link_to (get_or lists v []) u else link_to (get_or lists u []) v) ≡ link_between links u v
    by true = from v u second ∙ link_between-swap links v u
    by false = from u v first

-- each of the first links is the one between its ends
abbrev pub AreFound : List Link → ℕ → Type 0
AreFound links n = (j : ℕ) (link : Link) → j < n → slice_get links j ≡ Some link
    → link_between links link.tail link.head ≡ Some j

-- links that are each found between their ends are single
pub single_by : (links : List Link) → AreFound links (length links) → AreSingle links
single_by links found i j u v a b at_i at_j first second =
    let here = found i a (slice_get_within links i a at_i) at_i in
    let there = found j b (slice_get_within links j b at_j) at_j in
    same_Some i j (sym here ∙ ends a first ∙ sym (ends b second) ∙ there)
  where
    ends : (link : Link) → joins link u v ≡ true → link_between links link.tail link.head ≡ link_between links u v
    ends link joined = elim (ends_of link u v joined) [
      | inl two ↦ ap (λ (k : ℕ). link_between links k link.head) two.0 ∙ ap (link_between links u) two.1
      | inr two ↦ ap (λ (k : ℕ). link_between links k link.head) two.0 ∙ ap (link_between links v) two.1
          ∙ link_between-swap links v u
    ]

-- a single link is found between its ends
pub found_single : (links : List Link) (j : ℕ) (link : Link) → AreSingle links → slice_get links j ≡ Some link
    → link_between links link.tail link.head ≡ Some j
found_single links j link single at = by (link_between links link.tail link.head) refl
  where
    joined : joins link link.tail link.head ≡ true
    joined = joins_by link link.tail link.head (inl (refl, refl))

    by : (o : Option ℕ) → link_between links link.tail link.head ≡ o → o ≡ Some j
    by None e = absurd (none_joined links link.tail link.head j link e at joined)
    by (Some i) e =
        let found = between_is links link.tail link.head i e in
        ap Some (single i j link.tail link.head found.link link found.link_is at found.joined joined)
