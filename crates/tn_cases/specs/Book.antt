-- The cases that the program runs on itself.
use Rattle.std.specs.Prelude.{ℕ, List, [], ◌∷◌, ◌++◌, codes}
use Rattle.tn_cases.specs.Case.{CaseData}

-- one trade from S, a table of these rows, to B, to whom it is worth 5
abbrev pub deal : List ℕ → List ℕ
deal rows = codes "{\"version\":1,\"firms\":[{\"name\":\"S\",\"kind\":\"table\",\"rows\":"
    ++ (rows ++ codes
    "},{\"name\":\"B\",\"kind\":\"table\",\"rows\":[[[\"a\"],5]]}],\"trades\":[{\"name\":\"a\",\"seller\":\"S\",\"buyer\":\"B\"}]")

-- no trades, and a firm whose empty bundle is worth 7
abbrev pub no_trades : List ℕ
no_trades = codes
    "{\"version\":1,\"firms\":[{\"name\":\"S\",\"kind\":\"table\",\"rows\":[[[],7]]},{\"name\":\"B\",\"kind\":\"table\",\"rows\":[]}],\"trades\":[]"

-- two trades that are worth something to their buyer only together
abbrev pub complements : List ℕ
complements =
    codes "{\"version\":1,\"firms\":[{\"name\":\"S\",\"kind\":\"laminar\",\"amounts\":[[\"a\",-1],[\"b\",-1]]},{\"name\":\"B\",\"kind\":\"table\",\"rows\":[[[\"a\"],0],[[\"b\"],0],[[\"a\",\"b\"],10]]}],\"trades\":[{\"name\":\"a\",\"seller\":\"S\",\"buyer\":\"B\"},{\"name\":\"b\",\"seller\":\"S\",\"buyer\":\"B\"}]"

-- a dealer that buys and sells or does neither
abbrev pub dealer : List ℕ
dealer = codes
    "{\"version\":1,\"firms\":[{\"name\":\"S\",\"kind\":\"table\",\"rows\":[[[\"a\"],-1]]},{\"name\":\"M\",\"kind\":\"table\",\"rows\":[[[],0],[[\"a\",\"b\"],5]]},{\"name\":\"B\",\"kind\":\"table\",\"rows\":[[[\"b\"],6]]}],\"trades\":[{\"name\":\"a\",\"seller\":\"S\",\"buyer\":\"M\"},{\"name\":\"b\",\"seller\":\"M\",\"buyer\":\"B\"}]"

-- a dealer with two purchases, each tied to a sale of its own
abbrev pub tied_pairs : List ℕ
tied_pairs =
    codes "{\"version\":1,\"firms\":[{\"name\":\"S\",\"kind\":\"laminar\"},{\"name\":\"M\",\"kind\":\"table\",\"rows\":[[[\"a1\",\"b1\"],5],[[\"a2\",\"b2\"],5]]},{\"name\":\"B\",\"kind\":\"laminar\"}],\"trades\":[{\"name\":\"a1\",\"seller\":\"S\",\"buyer\":\"M\"},{\"name\":\"a2\",\"seller\":\"S\",\"buyer\":\"M\"},{\"name\":\"b1\",\"seller\":\"M\",\"buyer\":\"B\"},{\"name\":\"b2\",\"seller\":\"M\",\"buyer\":\"B\"}]"

-- a command on a network with further members, its status, and its text without the line end
abbrev pub case : List ℕ → List ℕ → List ℕ → ℕ → List ℕ → CaseData
case command network members status text =
    record { command = command; document = network ++ (members ++ codes "}"); status = status; text = text ++ 10 ∷ [] }

abbrev pub cases_of_the_book : List CaseData
cases_of_the_book =
    case (codes "check") (deal (codes "[[[\"a\"],-3]]"))
    (codes ",\"arrangement\":{\"on\":[\"a\"],\"prices\":[[\"a\",4]]}") 0
    (codes "{\"answer\":\"equilibrium\",\"surplus\":2}")
    ∷ case (codes "check") (deal (codes "[[[\"a\"],-3]]"))
    (codes ",\"arrangement\":{\"on\":[\"a\"],\"prices\":[[\"a\",6]]}") 6
    (codes "{\"answer\":\"better\",\"bundle\":[],\"firm\":\"B\",\"gain\":1}")
    ∷ case (codes "solve") no_trades [] 0 (codes "{\"answer\":\"solved\",\"on\":[],\"prices\":[],\"surplus\":7}")
    ∷ case (codes "test") complements [] 6
    (codes "{\"answer\":\"exchange_fails\",\"at\":\"a\",\"firm\":\"B\",\"x\":[\"a\",\"b\"],\"y\":[]}")
    ∷ case (codes "test") dealer [] 0 (codes "{\"answer\":\"accepted\"}")
    ∷ case (codes "test") tied_pairs [] 6
    (codes "{\"answer\":\"exchange_fails\",\"at\":\"a2\",\"firm\":\"M\",\"x\":[\"a2\",\"b2\"],\"y\":[\"a1\",\"b1\"]}")
    ∷ case (codes "support") (deal (codes "[]")) (codes ",\"arrangement\":{\"on\":[\"a\"]}") 6
    (codes "{\"answer\":\"impossible\",\"firm\":\"S\"}")
    ∷ case (codes "judge") (deal (codes "[[[\"a\"],-5]]")) (codes ",\"outcome\":{\"over\":1,\"contracts\":[]}") 0
    (codes "{\"answer\":\"completes\",\"over\":1,\"prices\":[[\"a\",5]]}")
    ∷ case (codes "judge") (deal (codes "[[[\"a\"],-3]]")) (codes ",\"outcome\":{\"over\":1,\"contracts\":[[\"a\",2]]}")
    6 (codes "{\"answer\":\"drops\",\"firm\":\"S\",\"gain\":1,\"keeps\":[],\"over\":1}")
    ∷ case (codes "judge") (deal (codes "[[[\"a\"],-3]]")) (codes ",\"outcome\":{\"over\":2,\"contracts\":[[\"a\",9]]}")
    0 (codes "{\"answer\":\"completes\",\"over\":2,\"prices\":[[\"a\",9]]}")
    ∷ case (codes "support") (deal (codes "[[[\"a\"],-3]]")) (codes ",\"arrangement\":{\"on\":[]}") 6
    (codes "{\"answer\":\"cycle\",\"cost\":-2,\"nodes\":[null,\"a\"]}")
    ∷ case (codes "replay") (deal (codes "[[[\"a\"],-3]]"))
    (codes ",\"outcome\":{\"over\":1,\"contracts\":[]},\"claim\":{\"answer\":\"blocks\",\"contracts\":[[\"a\",9]],\"over\":3}") 6 (codes "{\"answer\":\"invalid\",\"firm\":\"S\",\"reason\":\"choice\",\"trade\":\"a\"}")
    ∷ []
