-- A market, as contracts see it, and what it keeps beside that.
use Rattle.std.specs.Prelude.{◌≡◌, ℕ, ◌<◌, ◌≤◌, List, length, slice_get, Some, true, ◌==◌, if◌then◌else◌, slice_set}
use Rattle.tn_base.specs.Firm.{Firm}
use Rattle.tn_model.specs.declared.ends.Ends.{Ends}
use Rattle.tn_model.specs.Network.{own, stands_at, IsNetwork}
use Rattle.tn_market.specs.Widths.{most_market_firms, most_market_trades}

-- the firms of a market, of whatever type, and its trades
pub record Traded (V : Type 0) : Type 0 where
  pub firms : List V
  pub trades : List Ends

-- the list has the trade that stands at each of the first n positions of firm f
pub record AreOwn (trades : List Ends) (f n : ℕ) (list : List ℕ) : Type 0 where
  pub counted : length list ≡ n
  pub each : (k : ℕ) → k < n → slice_get list k ≡ Some (own trades f k)

-- there is such a list for each firm
abbrev pub HaveOwn : List Firm → List Ends → List (List ℕ) → Type 0
HaveOwn firms trades lists = (f : ℕ) (firm : Firm) (list : List ℕ) → slice_get firms f ≡ Some firm
    → slice_get lists f ≡ Some list
    → AreOwn trades f firm.count list

-- what a market keeps
pub record IsMarket (firms : List Firm) (trades : List Ends) (lists : List (List ℕ)) : Type 0 where
  pub network : IsNetwork firms trades
  pub few_firms : length firms ≤ most_market_firms
  pub few_trades : length trades ≤ most_market_trades
  pub as_many : length lists ≡ length firms
  pub own : HaveOwn firms trades lists

-- at firm f the trades stand at its first n positions: at each of them one, and no other
pub record HasOnePlace (trades : List Ends) (f n : ℕ) : Type 0 where
  pub sold : (t : ℕ) (trade : Ends) → slice_get trades t ≡ Some trade → trade.seller ≡ f → trade.at_seller < n
  pub bought : (t : ℕ) (trade : Ends) → slice_get trades t ≡ Some trade → trade.buyer ≡ f → trade.at_buyer < n
  pub whole : (k : ℕ) → k < n → own trades f k < length trades
  pub once : (k s t : ℕ) (one other : Ends) → slice_get trades s ≡ Some one → slice_get trades t ≡ Some other
      → stands_at one f k ≡ true → stands_at other f k ≡ true → s ≡ t

-- the list with the number t where the trade stands at firm f
abbrev pub sold_at : Ends → ℕ → ℕ → List ℕ → List ℕ
sold_at trade f t list = if trade.seller == f then slice_set list trade.at_seller t else list

abbrev pub bought_at : Ends → ℕ → ℕ → List ℕ → List ℕ
bought_at trade f t list = if trade.buyer == f then slice_set list trade.at_buyer t else list

abbrev pub placed : Ends → ℕ → ℕ → List ℕ → List ℕ
placed trade f t list = bought_at trade f t (sold_at trade f t list)

-- the list has each of the first t trades that stand at a position of firm f, at that position
pub record ArePlaced (trades : List Ends) (f n t : ℕ) (list : List ℕ) : Type 0 where
  pub counted : length list ≡ n
  pub each : (s k : ℕ) (trade : Ends) → s < t → slice_get trades s ≡ Some trade → stands_at trade f k ≡ true
      → slice_get list k ≡ Some s
