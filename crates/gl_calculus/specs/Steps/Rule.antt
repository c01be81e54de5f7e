-- When a pick rule may be called, and what it answers.
use Rattle.std.specs.Prelude.{ℕ, ◌<◌, ◌≤◌, ◌^◌}

-- for each kind of at most 2, each turn and each number of at least 1 it may be called, and answers
-- below that number
abbrev pub PicksBelow : (ℕ → ℕ → ℕ → Type 0) → (ℕ → ℕ → ℕ → ℕ → Type 0) → Type 0
PicksBelow pre post =
    (kind turn n : ℕ) → kind ≤ 2 → turn < 2 ^ 64 → 1 ≤ n → n < 2 ^ 64 →
    pre kind turn n × ((r : ℕ) → post kind turn n r → r < n)
