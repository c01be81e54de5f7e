-- When a count of faults rose.
use Rattle.std.specs.Prelude.{ℕ, ◌+◌, ◌-◌, ◌^◌, ◌≤◌, min}

-- the last value of a count of faults, where it stays
abbrev pub last_count : ℕ
last_count = 2 ^ 64 - 1

-- the count is greater by one at least, or stands at its last value
abbrev pub Rose : ℕ → ℕ → Type 0
Rose before now = min (before + 1) last_count ≤ now
