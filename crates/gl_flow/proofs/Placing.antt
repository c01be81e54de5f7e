-- Where addresses stand in a list in row-major order.
use Rattle.std.proofs.Common.{◌≡◌, ◌⊎◌, inl, inr, ℕ, zero, suc, ◌+◌, ◌<◌, ◌≤◌, Bool, true, false, ◌&&◌, ◌||◌, nat_lt, nat_eq, List, [], ◌∷◌, length, get_or, refl, sym, subst, ap, ◌∙◌, arith}
use Rattle.std.specs.Prelude.{Some, None, slice_get, if◌then◌else◌}
use Rattle.std.proofs.lemmas.Bool.{and_parts, and_from, cases_order, or_cases, lt-ltb, eq-eqb}
use Rattle.std.proofs.lemmas.Option.{slice_get_read, slice_get_within}
use Rattle.gl_calculus.specs.Grid.Grid.{Addr, is_before, same_addr, AreInOrder}
use Rattle.gl_calculus.proofs.Tests.{addr_exact, addr_same}
use Rattle.gl_calculus.specs.Forecast.{Shape}
use Rattle.gl_flow.specs.Shapes.{shape_of}
use Rattle.gl_flow.specs.Places.{are_in_order, StandsAt, shape_in}
use borrow.Author.Tests.{ltb-true, eqb-true}

-- one is before the other: what that says of rows and columns
pub before_is : (a b : Addr) → is_before a b ≡ true → (a.row < b.row) ⊎ ((a.row ≡ b.row) × (a.col < b.col))
before_is a b e = by (or_cases (nat_lt a.row b.row) ((nat_eq a.row b.row) && nat_lt a.col b.col) e)
  where
    by : (nat_lt a.row b.row ≡ true) ⊎ (((nat_eq a.row b.row) && nat_lt a.col b.col) ≡ true) → (a.row < b.row) ⊎ ((a.row ≡ b.row) × (a.col < b.col))
    by (inl h) = inl (ltb-true a.row b.row h)
    by (inr h) = let p = and_parts (nat_eq a.row b.row) (nat_lt a.col b.col) h in inr (eqb-true a.row b.row p.0, ltb-true a.col b.col p.1)

pub never_both : (a b : Addr) → is_before a b ≡ true → is_before b a ≡ true → ⊥
never_both a b e d = by (before_is a b e) (before_is b a d)
  where
    by : (a.row < b.row) ⊎ ((a.row ≡ b.row) × (a.col < b.col)) → (b.row < a.row) ⊎ ((b.row ≡ a.row) × (b.col < a.col)) → ⊥
    by (inl l) (inl m) = absurd (omega (arith, l, m))
    by (inl l) (inr m) = absurd (omega (arith, l, m.0))
    by (inr l) (inl m) = absurd (omega (arith, l.0, m))
    by (inr l) (inr m) = absurd (omega (arith, l.1, m.1))

pub never_self : (a : Addr) → is_before a a ≡ true → ⊥
never_self a e = never_both a a e e

is_before_from : (a b : Addr) → (a.row < b.row) ⊎ ((a.row ≡ b.row) × (a.col < b.col)) → is_before a b ≡ true
is_before_from a b (inl l) = ap (λ t. t || ((nat_eq a.row b.row) && nat_lt a.col b.col)) (lt-ltb a.row b.row l)
is_before_from a b (inr l) = right (nat_lt a.row b.row) ((nat_eq a.row b.row) && nat_lt a.col b.col) (and_from (nat_eq a.row b.row) (nat_lt a.col b.col) (eq-eqb a.row b.row l.0) (lt-ltb a.col b.col l.1))
  where
    right : (x y : Bool) → y ≡ true → (x || y) ≡ true
    right true y h = refl
    right false y h = h

pub before_on : (a b c : Addr) → is_before a b ≡ true → is_before b c ≡ true → is_before a c ≡ true
before_on a b c e d = is_before_from a c (by (before_is a b e) (before_is b c d))
  where
    by : (a.row < b.row) ⊎ ((a.row ≡ b.row) × (a.col < b.col)) → (b.row < c.row) ⊎ ((b.row ≡ c.row) × (b.col < c.col)) → (a.row < c.row) ⊎ ((a.row ≡ c.row) × (a.col < c.col))
    by (inl l) (inl m) = inl (omega (arith, l, m))
    by (inl l) (inr m) = inl (omega (arith, l, m.0))
    by (inr l) (inl m) = inl (omega (arith, l.0, m))
    by (inr l) (inr m) = inr (l.0 ∙ m.0, omega (arith, l.1, m.1))

-- of two addresses neither of which is before the other, both are the same
pub neither : (a b : Addr) → is_before a b ≡ false → is_before b a ≡ false → a ≡ b
neither a b e d = by (cases_order a.row b.row) (cases_order a.col b.col)
  where
    not_before : (a b : Addr) → is_before a b ≡ false → (a.row < b.row) ⊎ ((a.row ≡ b.row) × (a.col < b.col)) → ⊥
    not_before a b e h = let u : true ≡ false = sym (is_before_from a b h) ∙ e in cc u

    by : (a.row ≡ b.row) ⊎ ((a.row < b.row) ⊎ (b.row < a.row)) → (a.col ≡ b.col) ⊎ ((a.col < b.col) ⊎ (b.col < a.col)) → a ≡ b
    by (inl h) (inl k) = ap (λ t. record { col = t; row = a.row }) k ∙ ap (λ t. record { col = b.col; row = t }) h
    by (inl h) (inr (inl k)) = absurd (not_before a b e (inr (h, k)))
    by (inl h) (inr (inr k)) = absurd (not_before b a d (inr (sym h, k)))
    by (inr (inl h)) k = absurd (not_before a b e (inl h))
    by (inr (inr h)) k = absurd (not_before b a d (inl h))

-- the first is before each later one
pub first_before : (a b : Addr) (rest : List Addr) (k : ℕ) → are_in_order (a ∷ rest) ≡ true → slice_get rest k ≡ Some b → is_before a b ≡ true
first_before a b [] k o e = absurd (cc e)
first_before a b (c ∷ rest) zero o e = let u : c ≡ b = cc e in subst (λ t. is_before a t ≡ true) u (and_parts (is_before a c) (are_in_order (c ∷ rest)) o).0
first_before a b (c ∷ rest) (suc k) o e = let p = and_parts (is_before a c) (are_in_order (c ∷ rest)) o in before_on a c b p.0 (first_before c b rest k p.1 e)

pub rest_in_order : (a : Addr) (rest : List Addr) → are_in_order (a ∷ rest) ≡ true → are_in_order rest ≡ true
rest_in_order a [] o = refl
rest_in_order a (b ∷ rest) o = (and_parts (is_before a b) (are_in_order (b ∷ rest)) o).1

pub in_order : (ps : List Addr) (a b : Addr) (i j : ℕ) → are_in_order ps ≡ true → slice_get ps i ≡ Some a → slice_get ps j ≡ Some b → i < j → is_before a b ≡ true
in_order [] a b i j o e d l = absurd (cc e)
in_order (p ∷ ps) a b i zero o e d l = absurd (omega (arith, l))
in_order (p ∷ ps) a b zero (suc j) o e d l = let u : p ≡ a = cc e in subst (λ t. is_before t b ≡ true) u (first_before p b ps j o d)
in_order (p ∷ ps) a b (suc i) (suc j) o e d l = in_order ps a b i j (rest_in_order p ps o) e d (omega (arith, l))

pub above : (ps : List Addr) (a b : Addr) (i k : ℕ) → are_in_order ps ≡ true → i < length ps → b ≡ get_or ps i b → is_before b a ≡ true → StandsAt ps a k → i + 1 ≤ k
above ps a b i k o l is e s = by (cases_order i k)
  where
    at : slice_get ps i ≡ Some b
    at = slice_get_read ps (length ps) i b refl l is

    by : (i ≡ k) ⊎ ((i < k) ⊎ (k < i)) → i + 1 ≤ k
    by (inl h) = let u : b ≡ a = cc (at, s, h) in absurd (never_self a (subst (λ t. is_before t a ≡ true) u e))
    by (inr (inl h)) = omega (arith, h)
    by (inr (inr h)) = absurd (never_both a b (in_order ps a b k i o s at h) e)

pub below : (ps : List Addr) (a b : Addr) (i k : ℕ) → are_in_order ps ≡ true → i < length ps → b ≡ get_or ps i b → is_before a b ≡ true → StandsAt ps a k → k < i
below ps a b i k o l is e s = by (cases_order i k)
  where
    at : slice_get ps i ≡ Some b
    at = slice_get_read ps (length ps) i b refl l is

    by : (i ≡ k) ⊎ ((i < k) ⊎ (k < i)) → k < i
    by (inl h) = let u : b ≡ a = cc (at, s, h) in absurd (never_self a (subst (λ t. is_before a t ≡ true) u e))
    by (inr (inl h)) = absurd (never_both b a (in_order ps b a i k o at s h) e)
    by (inr (inr h)) = h

pub here : (ps : List Addr) (a b : Addr) (i : ℕ) → i < length ps → b ≡ get_or ps i b → is_before b a ≡ false → is_before a b ≡ false → StandsAt ps a i
here ps a b i l is e d = slice_get_read ps (length ps) i b refl l is ∙ ap Some (neither b a e d)

pub stands_within : (ps : List Addr) (a : Addr) (k : ℕ) → StandsAt ps a k → k < length ps
stands_within ps a k s = slice_get_within ps k a s

-- the shape at a number
pub shape_at : (ps : List Addr) (ss : List Shape) (a : Addr) (k : ℕ) → are_in_order ps ≡ true → StandsAt ps a k → shape_in ps ss a ≡ shape_of (slice_get ss k)
shape_at [] ss a k o s = absurd (cc s)
shape_at (p ∷ ps) [] a k o s = refl
shape_at (p ∷ ps) (t ∷ ss) a zero o s = let u : p ≡ a = cc s in ap (λ b. if b then t else shape_in ps ss a) (subst (λ z. same_addr p z ≡ true) u (addr_same p))
shape_at (p ∷ ps) (t ∷ ss) a (suc k) o s = ap (λ b. if b then t else shape_in ps ss a) (other (same_addr p a) refl) ∙ shape_at ps ss a k (rest_in_order p ps o) s
  where
    other : (b : Bool) → same_addr p a ≡ b → same_addr p a ≡ false
    other true e = absurd (never_self a (subst (λ z. is_before z a ≡ true) (addr_exact p a e) (first_before p a ps k o s)))
    other false e = e

pub no_shape : (ps : List Addr) (ss : List Shape) (a : Addr) → ((k : ℕ) → StandsAt ps a k → ⊥) → shape_in ps ss a ≡ None
no_shape [] ss a h = refl
no_shape (p ∷ ps) [] a h = refl
no_shape (p ∷ ps) (t ∷ ss) a h = ap (λ b. if b then t else shape_in ps ss a) (other (same_addr p a) refl) ∙ no_shape ps ss a (λ k s. h (suc k) s)
  where
    other : (b : Bool) → same_addr p a ≡ b → same_addr p a ≡ false
    other true e = absurd (h zero (ap Some (addr_exact p a e)))
    other false e = e

-- the order of the calculus, as a test
pub order_test : (ps : List Addr) → AreInOrder ps → are_in_order ps ≡ true
order_test [] h = refl
order_test (a ∷ []) h = refl
order_test (a ∷ b ∷ rest) h = and_from (is_before a b) (are_in_order (b ∷ rest)) h.0 (order_test (b ∷ rest) h.1)
