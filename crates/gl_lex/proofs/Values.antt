-- The numbers of rows of digits.
use Rattle.std.proofs.Common.{◌≡◌, ℕ, ◌+◌, ◌-◌, ◌*◌, ◌<◌, ◌≤◌, List, [], ◌∷◌, drop, length, get_or, arith}
use Rattle.std.proofs.lemmas.List.{at_drop_more, at_drop_all}
use Rattle.gl_lex.specs.Front.{value_from}

-- more digits make no number smaller
pub value_grows : (n : ℕ) (ds : List ℕ) → n ≤ value_from n ds
value_grows n [] = omega arith
value_grows n (d ∷ ds) = omega (arith, value_grows (10 * n + (d - 48)) ds)

pub value_next : (n : ℕ) (ds : List ℕ) (i : ℕ) → i < length ds → value_from n (drop i ds) ≡ value_from (10 * n + (get_or ds i 0 - 48)) (drop (i + 1) ds)
value_next n ds i h = at_drop_more (value_from n) ds i 0 h

pub value_end : (n : ℕ) (ds : List ℕ) (i : ℕ) → length ds ≤ i → value_from n (drop i ds) ≡ n
value_end n ds i h = at_drop_all (value_from n) ds i h

pub ruleset value_rules = (value_grows, value_next, value_end)
