-- The exchange graph of a network at a set of trades: an arc says what it costs one firm that one trade is toggled and
-- another with it, and a walk what it costs all firms on the way (Candogan, Epitropou and Vohra, 2021).
use Rattle.std.specs.Prelude.{◌≡◌, ℕ, ◌+◌, ◌*◌, ℤ, neg_ℤ, List, [], ◌∷◌, length, slice_get, Bool, true, false, not, ◌==◌, ◌&&◌, nat_le, if◌then◌else◌, Option, Some, None, option_map, option_and_then, IsSome}
use Rattle.tn_base.specs.Options.{both}
use Rattle.tn_base.specs.Sets.{has, toggle}
use Rattle.tn_base.specs.Firm.{Firm}
use Rattle.tn_model.specs.declared.ends.Ends.{Ends}
use Rattle.tn_model.specs.Network.{part}

-- the firm that a toggle raises, with its position: the buyer of a trade that is off, the seller of one that is on
abbrev pub raised : Ends → Bool → ℕ × ℕ
raised trade true = (trade.seller, trade.at_seller)
raised trade false = (trade.buyer, trade.at_buyer)

-- the firm that it lowers: the one at the other end
abbrev pub lowered : Ends → Bool → ℕ × ℕ
lowered trade is_on = raised trade (not is_on)

-- the same by the number of a trade, none for the null node
abbrev pub raised_by : List Ends → ℕ → ℕ → Option (ℕ × ℕ)
raised_by trades on t = option_map (λ trade. raised trade (has on t)) (slice_get trades t)

abbrev pub lowered_by : List Ends → ℕ → ℕ → Option (ℕ × ℕ)
lowered_by trades on t = option_map (λ trade. lowered trade (has on t)) (slice_get trades t)

-- what a firm loses where it has y in place of x, none where one of them is impossible
abbrev pub loss : Firm → ℕ → ℕ → Option ℤ
loss firm x y = both (firm.worth x) (option_map neg_ℤ (firm.worth y))

-- what firm f loses where its bundle is changed
abbrev pub loss_at : List Firm → List Ends → ℕ → ℕ → (ℕ → ℕ) → Option ℤ
loss_at firms trades on f changed =
    option_and_then (λ firm. loss firm (part trades f firm.count on) (changed (part trades f firm.count on)))
    (slice_get firms f)

-- the cost of an arc between what its begin raises and what its end lowers: none where these are two firms, and for the
-- null node nothing is toggled
abbrev pub arc_between : List Firm → List Ends → ℕ → Option (ℕ × ℕ) → Option (ℕ × ℕ) → Option ℤ
arc_between firms trades on (Some up) (Some down) = if up.0 == down.0
    then loss_at firms trades on up.0 (λ x. toggle (toggle x up.1) down.1) else None
arc_between firms trades on (Some up) None = loss_at firms trades on up.0 (λ x. toggle x up.1)
arc_between firms trades on None (Some down) = loss_at firms trades on down.0 (λ x. toggle x down.1)
arc_between firms trades on None None = None

-- the cost of the arc from node u to node v, none where there is no arc; the nodes are the trades, and the null node
-- after them
unfoldable pub exchange_arc : List Firm → List Ends → ℕ → ℕ → ℕ → Option ℤ
exchange_arc firms trades on u v = if nat_le u (length trades) && nat_le v (length trades)
    then arc_between firms trades on (raised_by trades on u) (lowered_by trades on v) else None

-- how many worths the graph is made of: for each firm one for each two of its places, where null is a place too
abbrev pub graph_worths : List Firm → ℕ
graph_worths [] = 0
graph_worths (firm ∷ firms) = (firm.count + 1) * (firm.count + 1) + graph_worths firms

-- each firm's bundle of a set of trades is possible
abbrev pub ArePossible : List Firm → List Ends → ℕ → Type 0
ArePossible firms trades on = (f : ℕ) (firm : Firm) → slice_get firms f ≡ Some firm
    → IsSome (firm.worth (part trades f firm.count on))
