-- How the parts of the generated script follow each other.
use Rattle.std.proofs.Common.{◌≡◌, ◌∙◌, ℕ, suc, ◌+◌, ◌-◌, ◌<◌, ◌≤◌, List, [], ◌++◌, sym, ap, rules, arith, append_assoc, append-nil}
use Rattle.std.specs.Prelude.{flat_map}
use Rattle.std.specs.List.{range_with_len}
use Rattle.gl_protocol.specs.Scripts.Output.{row_number}

pub one_number : (o a d b e : List ℕ) → ((o ++ a) ++ d) ++ (b ++ e) ≡ o ++ ((a ++ (d ++ b)) ++ e)
one_number o a d b e = search (rules, append_assoc)

pub two_numbers : (o a c b d e : List ℕ) → ((((o ++ a) ++ c) ++ b) ++ d) ++ e ≡ o ++ ((((a ++ c) ++ b) ++ d) ++ e)
two_numbers o a c b d e = search (rules, append_assoc)

-- one more row
pub row_more : (n i : ℕ) (a b g : List ℕ) → i < n → b ≡ a ++ row_number (i + 1) → a ++ flat_map row_number (range_with_len (i + 1) (n - i)) ≡ g
    → b ++ flat_map row_number (range_with_len (i + 1 + 1) (n - (i + 1))) ≡ g
row_more n i a b g h e p =
    let k : n - i ≡ suc (n - (i + 1)) = omega arith in
    ap (λ z. z ++ flat_map row_number (range_with_len (i + 1 + 1) (n - (i + 1)))) e
    ∙ append_assoc a (row_number (i + 1)) (flat_map row_number (range_with_len (i + 1 + 1) (n - (i + 1))))
    ∙ ap (λ m. a ++ flat_map row_number (range_with_len (i + 1) m)) (sym k) ∙ p

-- all rows
pub row_end : (n i : ℕ) (a g : List ℕ) → n ≤ i → a ++ flat_map row_number (range_with_len (i + 1) (n - i)) ≡ g → a ≡ g
row_end n i a g h p =
    let k : n - i ≡ 0 = omega arith in
    sym (append-nil a) ∙ ap (λ m. a ++ flat_map row_number (range_with_len (i + 1) m)) (sym k) ∙ p

-- the parts of the script
pub all_parts : (i p d f h r k a b c e q : List ℕ) → (((([] ++ (i ++ p)) ++ d) ++ ((f ++ h) ++ r)) ++ k) ++ ((((a ++ b) ++ c) ++ e) ++ q)
    ≡ ((((((((((i ++ p) ++ d) ++ f) ++ h) ++ r) ++ k) ++ a) ++ b) ++ c) ++ e) ++ q
all_parts i p d f h r k a b c e q = search (rules, append_assoc)
