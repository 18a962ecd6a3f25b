-- Which links a node has.
use Rattle.std.specs.Prelude.{◌≡◌, ℕ, suc, ◌<◌, List, [], ◌∷◌, length, get_or, map, Vec, ◌==◌, if◌then◌else◌, Option, Some, None, option_map}
use Rattle.tn_links.specs.declared.link.Link.{Link}
use Rattle.tn_links.specs.declared.links.Neighbour.{Neighbour}
use Rattle.tn_links.specs.Links.{joins}

-- the first link that joins two nodes
abbrev pub link_between : List Link → ℕ → ℕ → Option ℕ
link_between [] u v = None
link_between (link ∷ links) u v = if joins link u v then Some 0 else option_map suc (link_between links u v)

-- the links of a node in order, each with its other end; the first of the list has this number
abbrev pub near_from : List Link → ℕ → ℕ → List Neighbour
near_from [] j v = []
near_from (link ∷ links) j v =
    if link.tail == v then record { link = j; node = link.head } ∷ near_from links (suc j) v
    else if link.head == v then record { link = j; node = link.tail } ∷ near_from links (suc j) v
    else near_from links (suc j) v

-- the link by which a node is listed
abbrev pub link_to : List Neighbour → ℕ → Option ℕ
link_to [] v = None
link_to (near ∷ rest) v = if near.node == v then Some near.link else link_to rest v

-- nobody's neighbour
abbrev pub no_neighbour : Neighbour
no_neighbour = record { link = 0; node = 0 }

-- the lists, each with its links
abbrev pub rows : {A : Type 0} → List (Vec Neighbour A) → List (List Neighbour)
rows near = map (λ list. list.items) near

-- a list for each node has its links
pub record AreListed (nodes : ℕ) (links : List Link) (lists : List (List Neighbour)) : Type 0 where
  pub one_each : length lists ≡ nodes
  pub all : (v : ℕ) → v < nodes → get_or lists v [] ≡ near_from links 0 v
