-- The kinds of claims: the word of each, which is that of its answer, and the members that it may have.
use Rattle.std.specs.Prelude.{ℕ, ◌||◌, List, codes, Bool, if◌then◌else◌, Option, Some, None}
use Rattle.std.specs.Str.{bytes_eq}
use Rattle.tn_read_shapes.specs.declared.claims.ClaimKind.{ClaimKind}
use Rattle.tn_read_shapes.specs.declared.claims.ClaimKind.TheVariants.{OnMarket, OnFirms}
use Rattle.tn_read_shapes.specs.declared.claims.FirmClaimKind.TheVariants.{Accepted, ExchangeFails, NoPrices}
use Rattle.tn_read_shapes.specs.declared.claims.MarketClaimKind.TheVariants.{Equilibrium, Better, Impossible, Supported, Cycle, Solved, Drops, Completes, Blocks}

-- the kind of claim that a text names
abbrev pub claim_named : List ℕ → Option ClaimKind
claim_named text =
    if bytes_eq text (codes "equilibrium") then Some (OnMarket Equilibrium)
    else if bytes_eq text (codes "better") then Some (OnMarket Better)
    else if bytes_eq text (codes "impossible") then Some (OnMarket Impossible)
    else if bytes_eq text (codes "accepted") then Some (OnFirms Accepted)
    else if bytes_eq text (codes "exchange_fails") then Some (OnFirms ExchangeFails)
    else if bytes_eq text (codes "prices") then Some (OnMarket Supported)
    else if bytes_eq text (codes "cycle") then Some (OnMarket Cycle)
    else if bytes_eq text (codes "solved") then Some (OnMarket Solved)
    else if bytes_eq text (codes "drops") then Some (OnMarket Drops)
    else if bytes_eq text (codes "completes") then Some (OnMarket Completes)
    else if bytes_eq text (codes "blocks") then Some (OnMarket Blocks)
    else if bytes_eq text (codes "none") then Some (OnFirms NoPrices)
    else None

-- the members that a claim of a kind may have: those of the answer
unfoldable pub allows_in_claim : ClaimKind → List ℕ → Bool
allows_in_claim (OnMarket Equilibrium) k = bytes_eq k (codes "answer") || bytes_eq k (codes "surplus")
allows_in_claim (OnMarket Better) k = bytes_eq k (codes "answer") || bytes_eq k (codes "bundle") || bytes_eq k (codes "firm")
    || bytes_eq k (codes "gain")
allows_in_claim (OnMarket Impossible) k = bytes_eq k (codes "answer") || bytes_eq k (codes "firm")
allows_in_claim (OnFirms Accepted) k = bytes_eq k (codes "answer")
allows_in_claim (OnFirms ExchangeFails) k = bytes_eq k (codes "answer") || bytes_eq k (codes "at") || bytes_eq k (codes "firm")
    || bytes_eq k (codes "x") || bytes_eq k (codes "y")
allows_in_claim (OnMarket Supported) k = bytes_eq k (codes "answer") || bytes_eq k (codes "prices")
allows_in_claim (OnMarket Cycle) k = bytes_eq k (codes "answer") || bytes_eq k (codes "cost") || bytes_eq k (codes "nodes")
allows_in_claim (OnMarket Solved) k = bytes_eq k (codes "answer") || bytes_eq k (codes "on") || bytes_eq k (codes "prices")
    || bytes_eq k (codes "surplus")
allows_in_claim (OnMarket Drops) k = bytes_eq k (codes "answer") || bytes_eq k (codes "firm") || bytes_eq k (codes "gain")
    || bytes_eq k (codes "keeps") || bytes_eq k (codes "over")
allows_in_claim (OnMarket Completes) k = bytes_eq k (codes "answer") || bytes_eq k (codes "over") || bytes_eq k (codes "prices")
allows_in_claim (OnMarket Blocks) k = bytes_eq k (codes "answer") || bytes_eq k (codes "contracts") || bytes_eq k (codes "over")
allows_in_claim (OnFirms NoPrices) k = bytes_eq k (codes "answer") || bytes_eq k (codes "over") || bytes_eq k (codes "plan")
