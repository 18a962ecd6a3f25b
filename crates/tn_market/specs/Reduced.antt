-- Reduced worth: what bundles of unsigned trades are worth to a firm that keeps what it likes of its contracts (as in
-- the proof that stable outcomes are completed by prices: Hatfield, Kominers, Nichifor, Ostrovsky and Westkamp, 2013).
use Rattle.std.specs.Prelude.{◌≡◌, ℕ, zero, suc, ◌+◌, ◌^◌, ◌==◌, ℤ, List, [], ◌∷◌, Option, Some, None, option_map, int_lt, if◌then◌else◌}
use Rattle.tn_base.specs.Sets.{minus}
use Rattle.tn_base.specs.Firm.{Firm, plus_sum, payments}
use Rattle.tn_model.specs.declared.ends.Ends.{Ends}
use Rattle.tn_model.specs.declared.contract.Contract.{Contract}
use Rattle.tn_market.specs.Best.{GivesBest}
use Rattle.tn_market.specs.Equilibrium.{prices_at}
use Rattle.tn_market.specs.Graph.{exchange_arc}
use Rattle.tn_market.specs.Signed.{signed_price, signed_bundle, contract_utility}

-- the greater of two numbers, none where both are none
abbrev pub greater : Option ℤ → Option ℤ → Option ℤ
greater None second = second
greater (Some a) None = Some a
greater (Some a) (Some b) = if int_lt a b then Some b else Some a

-- the greatest value of a number below n, none where each of them has none
unfoldable pub greatest : (ℕ → Option ℤ) → ℕ → Option ℤ
greatest value_of zero = None
greatest value_of (suc n) = greater (greatest value_of n) (value_of n)

-- the firm that adds what it likes of the given positions: a bundle of the other positions is worth the greatest worth
-- of it with some of the given ones
abbrev pub adding : ℕ → Firm → Firm
adding given firm = record {
  count = firm.count;
  buys = firm.buys;
  worth = λ x. greatest (λ y. if minus y given == x then firm.worth y else None) (2 ^ firm.count);
}

-- the firm with its reduced worths: bundles of unsigned trades count at the scale and have no prices, and the firm adds
-- what it likes of its contracts, at their prices
abbrev pub reduced : List Ends → ℤ → List Contract → ℕ → Firm → Firm
reduced trades over contracts f firm =
    adding (signed_bundle trades contracts f firm) (plus_sum over
    (payments firm.buys (prices_at trades (signed_price contracts) f)) firm)

-- the firms from number f on, with their reduced worths
abbrev pub reduced_from : List Ends → ℤ → List Contract → ℕ → List Firm → List Firm
reduced_from trades over contracts f [] = []
reduced_from trades over contracts f (firm ∷ firms) =
    reduced trades over contracts f firm ∷ reduced_from trades over contracts (f + 1) firms

abbrev pub reduced_firms : List Ends → ℤ → List Contract → List Firm → List Firm
reduced_firms trades over contracts firms = reduced_from trades over contracts 0 firms

-- the exchange graph of the reduced worths where no unsigned trade is on: its arcs lead among the unsigned trades and
-- null
abbrev pub reduced_arc : List Firm → List Ends → ℤ → List Contract → ℕ → ℕ → Option ℤ
reduced_arc firms trades over contracts = exchange_arc (reduced_firms trades over contracts firms) trades 0

-- a number is the reduced worth of the unsigned trades x: the greatest utility of a bundle that has x and beside it
-- only signed trades, and none where no such bundle is possible
abbrev pub IsReducedWorth : List Ends → ℤ → List Contract → ℕ → Firm → ℕ → Option ℤ → Type 0
IsReducedWorth trades over contracts f firm x worth = (found : Option (ℕ × ℤ))
    × GivesBest x (signed_bundle trades contracts f firm) (contract_utility trades over contracts f firm) found
    × (option_map (λ p. p.1) found ≡ worth)
