-- The elements of an array's plain value, where it has as many items as cells.
use Rattle.std.proofs.Common.{◌≡◌, ℕ, zero, suc, ◌+◌, ◌*◌, ◌<◌, Bool, true, false, ◌&&◌, nat_lt, List, [], ◌∷◌, length, slice_get, get_or, Some, None, refl, arith, IsTrue, if◌then◌else◌}
use Rattle.std.proofs.lemmas.Bool.{and_parts, eqb-true}
use Rattle.std.proofs.lemmas.Bool.Decides.{nat_tests}
use Rattle.gl_calculus.specs.Grid.Grid.{Size}
use Rattle.gl_calculus.specs.Values.ErrKind.{ErrKind}
use Rattle.gl_calculus.specs.Values.Value as V
use Rattle.gl_calculus.specs.Evaluation.Sound.{is_size, are_sound, is_sound_value}
use Rattle.gl_value.specs.Parts.{element_at}
use Rattle.gl_lift.specs.Elements.{present}

taken : (ys : List V.Scalar) (n : ℕ) (d : V.Scalar) → n < length ys → slice_get ys n ≡ Some (get_or ys n d)
taken [] n d h = absurd (omega (arith, h))
taken (y ∷ ys) zero d h = refl
taken (y ∷ ys) (suc n) d h = taken ys n d (omega arith)

cell : (b : Bool) (ys : List V.Scalar) (n : ℕ) (d : V.Scalar) → (b ≡ true → n < length ys) → (if b then slice_get ys n else None) ≡ (if b then Some (if b then get_or ys n d else d) else None)
cell false ys n d h = refl
cell true ys n d h = taken ys n d (h refl)

inside : (i j m n : ℕ) → i < m → j < n → i * n + j < m * n
inside i j m n h k = grind arith

count : (s : Size) (xs : V.Scalars) → IsTrue (is_sound_value (V.Value.Array s xs)) → length (V.items xs) ≡ s.rows * s.cols
count s xs h = eqb-true (length (V.items xs)) (s.rows * s.cols) (and_parts (is_size s) _ (and_parts (is_size s && _) (are_sound xs) h).0).1

within : (i j m n : ℕ) → (nat_lt i m && nat_lt j n) ≡ true → (i < m) × (j < n)
within i j m n h = let p = and_parts (nat_lt i m) (nat_lt j n) h in (grind (arith, nat_tests, p.0), grind (arith, nat_tests, p.1))

pub element_present : (s : Size) (xs : V.Scalars) (i j : ℕ) → IsTrue (is_sound_value (V.Value.Array s xs)) → element_at (V.Value.Array s xs) i j ≡ present (V.Value.Array s xs) i j
element_present s xs i j h =
    cell (nat_lt i s.rows && nat_lt j s.cols) (V.items xs) (i * s.cols + j) (V.Scalar.Err ErrKind.Na)
    (λ b. let p = within i j s.rows s.cols b in let c = count s xs h in let l = inside i j s.rows s.cols p.0 p.1 in omega (arith, c, l))

-- what a look at an element says of whether the value reaches it
pub reached_some : (b : Bool) (s x : V.Scalar) → Some x ≡ (if b then Some s else None) → (b ≡ true) × (x ≡ s)
reached_some true s x h = (refl, cc)
reached_some false s x h = absurd (cc h)

pub reached_none : (b : Bool) (s : V.Scalar) → None ≡ (if b then Some s else None) → b ≡ false
reached_none true s h = absurd (cc h)
reached_none false s h = refl

pub and_false : (a b c : Bool) → c ≡ false → ((a && b) && c) ≡ false
and_false true true c h = h
and_false true false c h = refl
and_false false b c h = refl
