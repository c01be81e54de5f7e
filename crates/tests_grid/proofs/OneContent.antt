-- The content found in an area where one address alone has any.
use Rattle.std.proofs.Common.{◌≡◌, ◌≢◌, ◌⊎◌, inl, inr, ℕ, zero, suc, ◌+◌, ◌<◌, ◌≤◌, nat_le, Bool, true, false, ◌&&◌, not, cond, List, [], ◌∷◌, Option, Some, None, refl, ap, arith, sym, ◌∙◌, subst}
use Rattle.std.specs.List.{find, list_all, range_with_len}
use Rattle.std.proofs.lemmas.Bool.{le-leb}
use Rattle.gl_calculus.specs.Grid.Grid.{Addr, addr, Range, same_addr, extents, addresses, covers}
use Rattle.gl_calculus.proofs.Tests.{both, and_true, addr_exact, addr_same}
use Rattle.gl_grant.proofs.Refused.{next_none}
use Rattle.gl_calculus.proofs.Grants.{clash, all_covered, by_rows, row_all}

abbrev other_content : Addr → Addr → Addr → Bool
other_content at root b = same_addr b at && not (same_addr b root)

find_none_by : (b : Bool) (rest : Option Addr) (a : Addr) → b ≡ false → rest ≡ None → cond b (Some a) rest ≡ None
find_none_by true rest a e f = absurd (cc e)
find_none_by false rest a e f = f

-- nothing is found where nothing passes
find_nothing : (p q : Addr → Bool) (bs : List Addr) → list_all q bs ≡ true → ((b : Addr) → q b ≡ true → p b ≡ false) → find p bs ≡ None
find_nothing p q [] h f = refl
find_nothing p q (b ∷ bs) h f = let (x, y) = both (q b) (list_all q bs) h in find_none_by (p b) (find p bs) b (f b x) (find_nothing p q bs y f)

true_all : (bs : List Addr) → list_all (λ b. true) bs ≡ true
true_all [] = refl
true_all (b ∷ bs) = true_all bs

not_by : (b : Bool) → (b ≡ true → ⊥) → b ≡ false
not_by true f = absurd (f refl)
not_by false f = refl

-- each number of a range
all_numbers : (p : ℕ → Bool) (n len : ℕ) → ((i : ℕ) → n ≤ i → i < n + len → p i ≡ true) → list_all p (range_with_len n len) ≡ true
all_numbers p n zero h = refl
all_numbers p n (suc len) h = and_true (p n) (list_all p (range_with_len (n + 1) len)) (h n (omega arith) (omega arith)) (all_numbers p (n + 1) len (λ i l u. h i (omega (arith, l)) (omega (arith, u))))

-- each address of a range is covered
each_covered : (r : Range) → list_all (covers r) (addresses r) ≡ true
each_covered r =
    by_rows (covers r) r
    ∙ all_numbers (row_all (covers r) r) r.first.row (extents r).rows (λ i l u. all_numbers (λ j. covers r (addr j i)) r.first.col (extents r).cols (λ j m v.
    and_true (nat_le r.first.row i && nat_le i r.last.row) (nat_le r.first.col j && nat_le j r.last.col)
    (and_true (nat_le r.first.row i) (nat_le i r.last.row) (le-leb r.first.row i l) (le-leb i r.last.row (omega (arith, l, u))))
    (and_true (nat_le r.first.col j) (nat_le j r.last.col) (le-leb r.first.col j m) (le-leb j r.last.col (omega (arith, m, v))))))

pub not_covered : (at root : Addr) (r : Range) → covers r at ≡ false → None ≡ find (λ b. same_addr b at && not (same_addr b root)) (addresses r)
not_covered at root r h =
    sym (find_nothing (other_content at root) (covers r) (addresses r) (each_covered r) (λ b c. not_by (other_content at root b) (λ e. let (s, n) = both (same_addr b at) (not (same_addr b root)) e in clash (subst (λ a. covers r a ≡ true) (addr_exact b at s) c) h)))

pub none_but_root : (at root : Addr) (r : Range) → at ≡ root → None ≡ find (λ b. same_addr b at && not (same_addr b root)) (addresses r)
none_but_root at root r h =
    sym (find_nothing (other_content at root) (λ b. true) (addresses r) (true_all (addresses r)) (λ b c. not_by (other_content at root b) (λ e. let (s, n) = both (same_addr b at) (not (same_addr b root)) e in both_ways (same_addr b root) (subst (λ a. same_addr b a ≡ true) h s) n)))
  where
    both_ways : (v : Bool) → v ≡ true → not v ≡ true → ⊥
    both_ways true e f = absurd (cc f)
    both_ways false e f = absurd (cc e)

-- what is found is the one address
found_step : (b : Bool) (a at : Addr) (rest : Option Addr) → (b ≡ true → a ≡ at) → (rest ≡ None ⊎ (rest ≡ Some at)) → (cond b (Some a) rest ≡ None ⊎ (cond b (Some a) rest ≡ Some at))
found_step true a at rest f g = inr (ap Some (f refl))
found_step false a at rest f g = g

found_one : (at root : Addr) (bs : List Addr) → (find (other_content at root) bs ≡ None) ⊎ (find (other_content at root) bs ≡ Some at)
found_one at root [] = inl refl
found_one at root (b ∷ bs) = found_step (other_content at root b) b at (find (other_content at root) bs) (λ e. let (s, n) = both (same_addr b at) (not (same_addr b root)) e in addr_exact b at s) (found_one at root bs)

none_left : (p : Addr → Bool) (bs : List Addr) → find p bs ≡ None → list_all (λ b. not (p b)) bs ≡ true
none_left p [] h = refl
none_left p (b ∷ bs) h = let n = next_none (p b) b (find p bs) h in and_true (not (p b)) (list_all (λ c. not (p c)) bs) (ap not n.0) (none_left p bs n.1)

pub found_there : (at root : Addr) (r : Range) → covers r at ≡ true → at ≢ root → Some at ≡ find (λ b. same_addr b at && not (same_addr b root)) (addresses r)
found_there at root r c n = by (found_one at root (addresses r))
  where
    passes : other_content at root at ≡ true
    passes = and_true (same_addr at at) (not (same_addr at root)) (addr_same at) (ap not (not_by (same_addr at root) (λ e. n (addr_exact at root e))))

    fails : (v : Bool) → v ≡ true → not v ≡ true → ⊥
    fails true e f = absurd (cc f)
    fails false e f = absurd (cc e)

    by : (find (other_content at root) (addresses r) ≡ None) ⊎ (find (other_content at root) (addresses r) ≡ Some at) → Some at ≡ find (other_content at root) (addresses r)
    by (inl e) = absurd (fails (other_content at root at) passes (all_covered (λ b. not (other_content at root b)) r (none_left (other_content at root) (addresses r) e) at c))
    by (inr e) = sym e

pub is_not_root : (at root : Addr) → same_addr at root ≡ false → at ≢ root
is_not_root at root e h = clash (subst (λ b. same_addr at b ≡ true) h (addr_same at)) e
