-- A firm as the definitions see it: its own trades have the positions 0, 1, 2 and so on, and a bundle is a set of
-- positions. A worth is a whole number, or none where the bundle is impossible.
use Rattle.std.specs.Prelude.{◌≡◌, ℕ, ◌^◌, ◌<◌, ℤ, pos, neg_ℤ, ◌+ℤ◌, ◌-ℤ◌, ◌*ℤ◌, ◌≤ℤ◌, ◌==◌, if◌then◌else◌, Option, Some, None, option_map}
use Rattle.tn_base.specs.Sets.{has, size, union, meet, minus, sum_over}

pub record Firm : Type 0 where
  -- how many trades are its own
  pub count : ℕ
  -- the positions that it buys; it sells the others
  pub buys : ℕ
  pub worth : ℕ → Option ℤ

-- only bundles of own positions have a worth
abbrev pub HasOwnBundles : Firm → Type 0
HasOwnBundles firm = (x : ℕ) (a : ℤ) → firm.worth x ≡ Some a → x < 2 ^ firm.count

-- the empty bundle is possible
abbrev pub MayAbstain : Firm → Type 0
MayAbstain firm = (a : ℤ) × (firm.worth 0 ≡ Some a)

-- the count of purchases less the count of sales
unfoldable pub net : ℕ → ℕ → ℤ
net buys x = pos (size (meet x buys)) -ℤ pos (size (minus x buys))

-- the purchases in x and not in y, and the sales in y and not in x
unfoldable pub up : ℕ → ℕ → ℕ → ℕ
up buys x y = union (meet (minus x y) buys) (minus (minus y x) buys)

-- the same seen from y
abbrev pub down : ℕ → ℕ → ℕ → ℕ
down buys x y = up buys y x

-- the firm whose worths are a multiple of this one's, and a sum over the bundle beside it
abbrev pub plus_sum : ℤ → (ℕ → ℤ) → Firm → Firm
plus_sum d c firm = record {
  count = firm.count;
  buys = firm.buys;
  worth = λ x. option_map (λ a. d *ℤ a +ℤ sum_over c firm.count x) (firm.worth x);
}

-- the firm whose possible bundles are those within a set of positions
abbrev pub among : ℕ → Firm → Firm
among allowed firm = record {
  count = firm.count;
  buys = firm.buys;
  worth = λ x. if minus x allowed == 0 then firm.worth x else None;
}

-- what a firm gets for each position at these prices: it pays for a purchase and is paid for a sale
abbrev pub payments : ℕ → (ℕ → ℤ) → ℕ → ℤ
payments buys prices k = if has buys k then neg_ℤ (prices k) else prices k

-- the utility of each bundle at a scale and at prices by position: the scale times the worth, plus the prices of the
-- sales, minus the prices of the purchases
abbrev pub utility : ℤ → (ℕ → ℤ) → Firm → ℕ → Option ℤ
utility scale prices firm = (plus_sum scale (payments firm.buys prices) firm).worth

-- x is possible with this value, and no bundle has more
pub record IsBest (value_of : ℕ → Option ℤ) (x : ℕ) (value : ℤ) : Type 0 where
  pub is : value_of x ≡ Some value
  pub most : (y : ℕ) (other : ℤ) → value_of y ≡ Some other → other ≤ℤ value
