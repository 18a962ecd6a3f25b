-- Sets as they are kept: a mask of the purchases and one of the sales.
use Rattle.std.specs.Prelude.{ℕ, ℤ, pos, ◌-ℤ◌}
use Rattle.tn_base.specs.Sets.{meet, minus, size}
use Rattle.tn_laminar.specs.declared.masks.Masks.{Masks}

abbrev pub masks_of : ℕ → ℕ → Masks
masks_of buys members = record { purchases = meet members buys; sales = minus members buys }

-- how many of the purchases are in a bundle, less how many of the sales
abbrev pub net_within : Masks → ℕ → ℤ
net_within masks x = pos (size (meet x masks.purchases)) -ℤ pos (size (meet x masks.sales))
