-- The numbers that a drill network is drawn from.
use Rattle.std.specs.Prelude.{ℕ, zero, suc, ◌+◌, ◌*◌, ◌/◌, ◌%◌, ◌==◌, ◌<◌, if◌then◌else◌}
use Rattle.tn_drill.specs.declared.draws.Drawn.{Drawn}

-- a drill network has at most so many trades
abbrev pub most_drilled : ℕ
most_drilled = 64

-- the greatest number that one is drawn from, which is the greatest state of the generator
abbrev pub most_start : ℕ
most_start = 2147483647

-- the generator goes from one state to the next
abbrev pub next : ℕ → ℕ
next state = (state * 1103515245 + 12345) % suc most_start

-- its state after so many draws
abbrev pub state_after : ℕ → ℕ → ℕ
state_after start zero = start
state_after start (suc draws) = next (state_after start draws)

-- the number below n that a state gives
abbrev pub number_below : ℕ → ℕ → ℕ
number_below n state = state / 65536 % n

-- trade i as it is drawn, by three draws after those of the trades before it: a step, an amount, whose limit takes
-- turns, and a number
abbrev pub drawn : ℕ → ℕ → Drawn
drawn start i = record {
  trade = i;
  step = number_below 2 (state_after start (3 * i + 1));
  amount = number_below (if i % 2 == 0 then 50 else 100) (state_after start (3 * i + 2));
  number = number_below 10 (state_after start (3 * i + 3));
}

-- the limits of what is drawn for the trades of a drill network
pub record IsWithin (draw : Drawn) : Type 0 where
  pub trade : draw.trade < most_drilled
  pub step : draw.step < 2
  pub amount : draw.amount < 100
  pub number : draw.number < 10
