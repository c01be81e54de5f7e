-- Counting up to the greatest count, which stays, and how many steps demanded keys take at most.
use Rattle.std.specs.Prelude.{ℕ, ◌+◌, nat_lt, if◌then◌else◌}

abbrev pub one_more : ℕ → ℕ
one_more n = if nat_lt n 18446744073709551615 then n + 1 else n
