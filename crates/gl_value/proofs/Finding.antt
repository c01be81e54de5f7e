-- What binary search finds among overrides in order.
use Rattle.std.proofs.Common.{◌≡◌, ℕ, zero, suc, ◌+◌, ◌≤◌, ◌<◌, true, false, ◌&&◌, List, [], ◌∷◌, get_or, length, Some, None, arith, refl, ap, sym, subst, inl, inr}
use Rattle.std.proofs.lemmas.Bool.{and_parts, cases_lt}
use Rattle.std.proofs.lemmas.Bool.Decides.{nat_tests}
use Rattle.std.specs.List.{HoldsAt}
use Rattle.std.specs.List.Sorted.{IsNonDecreasingBy, IsPartitionPoint}
use Rattle.std.specs.Ordering.{ordering_index}
use Rattle.std.specs.declared.cmp.Ordering.TheVariants.{Less, Equal, Greater}
use Rattle.gl_calculus.specs.Grid.Grid.{Addr, Range, same_addr, is_before, covers}
use Rattle.gl_calculus.specs.Values.Sheet.{override_at}
use Rattle.gl_calculus.specs.Evaluation.Sound.{are_inside}
use Rattle.gl_value.specs.Parts.{spot, past}
use Rattle.gl_value.specs.View.{value_tree, override_trees}
use Rattle.gl_value.specs.declared.Value.{Value}
use Rattle.gl_plane.specs.Exact.{exact_addr}
use Rattle.gl_plane.specs.contracts.addr.AddrOrd.TheImpl.{ghosts as addr}

before_trans : (a b c : Addr) → is_before a b ≡ true → is_before b c ≡ true → is_before a c ≡ true
before_trans a b c h k = grind (arith, nat_tests)

apart_back : (a b : Addr) → is_before b a ≡ true → same_addr a b ≡ false
apart_back a b h = grind (arith, nat_tests)

-- the order of addresses in Rust, by the tests of the calculus
equal_is : (p a : Addr) → addr.cmp p a ≡ Equal → same_addr a p ≡ true
equal_is p a h = grind (arith, nat_tests)

less_is : (p a : Addr) → addr.cmp p a ≡ Less → same_addr a p ≡ false
less_is p a h = grind (arith, nat_tests)

greater_is : (p a : Addr) → addr.cmp p a ≡ Greater → same_addr a p ≡ false
greater_is p a h = grind (arith, nat_tests)

rises : (p q a : Addr) → is_before p q ≡ true → ordering_index (addr.cmp p a) ≤ ordering_index (addr.cmp q a)
rises p q a h = grind (arith, nat_tests)

-- the overrides after the first are in order too, and the first comes before each of them
inside_tail : (r : Range) (x : Addr × Value) (xs : List (Addr × Value)) → are_inside r (override_trees (x ∷ xs)) ≡ true → are_inside r (override_trees xs) ≡ true
inside_tail r x [] h = refl
inside_tail r x (y ∷ ys) h = (and_parts (covers r x.0 && is_before x.0 y.0) (are_inside r (override_trees (y ∷ ys))) h).1

next_before : (r : Range) (x y : Addr × Value) (ys : List (Addr × Value)) → are_inside r (override_trees (x ∷ y ∷ ys)) ≡ true → is_before x.0 y.0 ≡ true
next_before r x y ys h = (and_parts (covers r x.0) (is_before x.0 y.0) (and_parts (covers r x.0 && is_before x.0 y.0) (are_inside r (override_trees (y ∷ ys))) h).0).1

first_before : (r : Range) (x : Addr × Value) (xs : List (Addr × Value)) (k : ℕ) (d : Addr × Value) → are_inside r (override_trees (x ∷ xs)) ≡ true → k < length xs → is_before x.0 (get_or xs k d).0 ≡ true
first_before r x [] k d h l = absurd (omega (arith, l))
first_before r x (y ∷ ys) zero d h l = next_before r x y ys h
first_before r x (y ∷ ys) (suc k) d h l = before_trans x.0 y.0 (get_or ys k d).0 (next_before r x y ys h) (first_before r y ys k d (inside_tail r x (y ∷ ys) h) (omega arith))

risen : (r : Range) (xs : List (Addr × Value)) (a : Addr) → are_inside r (override_trees xs) ≡ true → IsNonDecreasingBy (λ (o : Addr × Value). ordering_index (addr.cmp o.0 a)) xs
risen r [] a h i j d le lt = absurd (omega (arith, lt))
risen r (x ∷ xs) a h zero zero d le lt = omega arith
risen r (x ∷ xs) a h zero (suc j) d le lt = rises x.0 (get_or xs j d).0 a (first_before r x xs j d h (omega arith))
risen r (x ∷ xs) a h (suc i) zero d le lt = absurd (omega arith)
risen r (x ∷ xs) a h (suc i) (suc j) d le lt = risen r xs a (inside_tail r x xs h) i j d (omega arith) (omega arith)

held : (r : Range) (xs : List (Addr × Value)) (a : Addr) (i : ℕ) (x : Addr × Value) → are_inside r (override_trees xs) ≡ true → i < length xs → x ≡ get_or xs i x → same_addr a x.0 ≡ true → Some (value_tree x.1) ≡ override_at (override_trees xs) a
held r [] a i x h l is s = absurd (omega (arith, l))
held r (y ∷ ys) a zero x h l is s =
    let e : same_addr a y.0 ≡ true = subst (λ (z : Addr × Value). same_addr a z.0 ≡ true) is s in
    rw e (ap (λ (z : Addr × Value). Some (value_tree z.1)) is)
held r (y ∷ ys) a (suc i) x h l is s =
    let first : is_before y.0 x.0 ≡ true = subst (λ (z : Addr × Value). is_before y.0 z.0 ≡ true) (sym is) (first_before r y ys i x h (omega arith)) in
    let before : is_before y.0 a ≡ true = subst (λ b. is_before y.0 b ≡ true) (sym (exact_addr.0 a x.0 s)) first in
    rw (apart_back a y.0 before) (held r ys a i x (inside_tail r y ys h) (omega arith) is s)

absent : (xs : List (Addr × Value)) (a : Addr) → ((k : ℕ) (d : Addr × Value) → k < length xs → same_addr a (get_or xs k d).0 ≡ false) → None ≡ override_at (override_trees xs) a
absent [] a h = refl
absent (y ∷ ys) a h =
    let e : same_addr a y.0 ≡ false = h 0 y (omega arith) in
    rw e (absent ys a (λ k d l. h (suc k) d (omega arith)))

-- an override that the search finds is the one at the address
pub found : (r : Range) (xs : List (Addr × Value)) (a : Addr) (i : ℕ) (x : Addr × Value) → are_inside r (override_trees xs) ≡ true → i < length xs → HoldsAt (λ (o : Addr × Value). addr.cmp o.0 a ≡ Equal) xs i → x ≡ get_or xs i x
    → Some (value_tree x.1) ≡ override_at (override_trees xs) a
found r xs a i x h l at is = held r xs a i x h l is (equal_is x.0 a (subst (λ (z : Addr × Value). addr.cmp z.0 a ≡ Equal) (sym is) (at x)))

-- where it finds none, there is none
pub not_found : (r : Range) (xs : List (Addr × Value)) (a : Addr) (i : ℕ) → are_inside r (override_trees xs) ≡ true
    → (IsNonDecreasingBy (λ (o : Addr × Value). ordering_index (addr.cmp o.0 a)) xs → IsPartitionPoint (λ (o : Addr × Value). addr.cmp o.0 a ≡ Less) (λ (o : Addr × Value). addr.cmp o.0 a ≡ Greater) xs i)
    → None ≡ override_at (override_trees xs) a
not_found r xs a i h place =
    let parts = place (risen r xs a h) in
    absent xs a (λ k d l. elim (cases_lt k i) [ inl below ↦ less_is (get_or xs k d).0 a (parts.0 k d (omega arith) below) | inr above ↦ greater_is (get_or xs k d).0 a (parts.1 k d above l) ])

-- ---- the places of an address among the overrides

back : (a b : Addr) → is_before b a ≡ true → is_before a b ≡ false
back a b h = grind (arith, nat_tests)

less_before : (p a : Addr) → addr.cmp p a ≡ Less → is_before a p ≡ false
less_before p a h = grind (arith, nat_tests)

greater_before : (p a : Addr) → addr.cmp p a ≡ Greater → is_before a p ≡ true
greater_before p a h = grind (arith, nat_tests)

-- at an override that the address has
here : (r : Range) (xs : List (Addr × Value)) (a : Addr) (i : ℕ) → are_inside r (override_trees xs) ≡ true → i < length xs → HoldsAt (λ (o : Addr × Value). same_addr a o.0 ≡ true) xs i
    → (i ≡ spot a (override_trees xs)) × (i + 1 ≡ past a (override_trees xs))
here r [] a i h l s = absurd (omega (arith, l))
here r (y ∷ ys) a zero h l s = let e : same_addr a y.0 ≡ true = s y in rw e (refl, refl)
here r (y ∷ ys) a (suc i) h l s =
    let first = first_before r y ys i y h (omega arith) in
    let before : is_before y.0 a ≡ true = subst (λ b. is_before y.0 b ≡ true) (sym (exact_addr.0 a (get_or ys i y).0 (s y))) first in
    let rest = here r ys a i (inside_tail r y ys h) (omega arith) (λ d. s d) in
    rw (apart_back a y.0 before, back a y.0 before) (omega (arith, rest.0), omega (arith, rest.1))

-- between those before the address and those after it
between : (xs : List (Addr × Value)) (a : Addr) (i : ℕ) → i ≤ length xs
    → ((k : ℕ) (d : Addr × Value) → k < length xs → k < i → addr.cmp (get_or xs k d).0 a ≡ Less)
    → ((k : ℕ) (d : Addr × Value) → i ≤ k → k < length xs → addr.cmp (get_or xs k d).0 a ≡ Greater)
    → (i ≡ spot a (override_trees xs)) × (i ≡ past a (override_trees xs))
between [] a i l below above = (omega (arith, l), omega (arith, l))
between (y ∷ ys) a zero l below above =
    let g = above 0 y (omega arith) (omega arith) in
    rw (greater_is y.0 a g, greater_before y.0 a g) (refl, refl)
between (y ∷ ys) a (suc i) l below above =
    let g = below 0 y (omega arith) (omega arith) in
    let rest = between ys a i (omega arith) (λ k d m n. below (suc k) d (omega arith) (omega arith)) (λ k d m n. above (suc k) d (omega arith) (omega arith)) in
    rw (less_is y.0 a g, less_before y.0 a g) (omega (arith, rest.0), omega (arith, rest.1))

pub places_found : (r : Range) (xs : List (Addr × Value)) (a : Addr) (i : ℕ) → are_inside r (override_trees xs) ≡ true → i < length xs → HoldsAt (λ (o : Addr × Value). addr.cmp o.0 a ≡ Equal) xs i
    → (i ≡ spot a (override_trees xs)) × (i + 1 ≡ past a (override_trees xs))
places_found r xs a i h l at = here r xs a i h l (λ d. equal_is (get_or xs i d).0 a (at d))

pub places_absent : (r : Range) (xs : List (Addr × Value)) (a : Addr) (i : ℕ) → are_inside r (override_trees xs) ≡ true → i ≤ length xs
    → (IsNonDecreasingBy (λ (o : Addr × Value). ordering_index (addr.cmp o.0 a)) xs → IsPartitionPoint (λ (o : Addr × Value). addr.cmp o.0 a ≡ Less) (λ (o : Addr × Value). addr.cmp o.0 a ≡ Greater) xs i)
    → (i ≡ spot a (override_trees xs)) × (i ≡ past a (override_trees xs))
places_absent r xs a i h l place =
    let parts = place (risen r xs a h) in
    between xs a i l (λ k d m n. parts.0 k d (omega arith) n) (λ k d m n. parts.1 k d m n)
