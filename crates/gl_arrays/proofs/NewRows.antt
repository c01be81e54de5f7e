-- The rows without those that stand before.
use Rattle.std.proofs.Common.{◌≡◌, ℕ, zero, suc, ◌+◌, ◌-◌, ◌<◌, ◌≤◌, Bool, true, false, not, ◌||◌, ◌&&◌, List, [], ◌∷◌, ◌++◌, append_assoc, length, IsTrue, map, refl, ap, sym, ◌∙◌, arith, if◌then◌else◌, cond}
use Rattle.std.specs.List.{list_any, range_with_len}
use Rattle.std.proofs.lemmas.List.{append-nil, map-append}
use lib.Pointwise.{pointwise}
use Rattle.gl_calculus.specs.Values.Value as V
use Rattle.gl_calculus.specs.Values.Same.{same_scalar}
use Rattle.gl_calculus.specs.Values.Lift.{rows, shape}
use Rattle.gl_calculus.specs.Evaluation.Sound.{is_sound_value}
use Rattle.gl_value.specs.View.{scalar_tree}
use Rattle.gl_arrays.specs.Parts.{row}
use Rattle.gl_arrays.proofs.Tables.{rows_are, extents_small}
use Rattle.gl_value.specs.declared.Scalar.{Scalar}
use Rattle.gl_value.specs.contracts.ScalarPartialEq.TheImpl.{ghosts as scalar}
use Rattle.gl_value.proofs.DerivedEq.{eq_is_scalar}
use Rattle.gl_calculus.specs.Computation.Lists.{has_member, fresh}

abbrev same_row : List V.Scalar → List V.Scalar → Bool
same_row = pointwise same_scalar

abbrev new_rows : List (List V.Scalar) → List (List V.Scalar) → List (List V.Scalar)
new_rows = fresh same_row

-- the code's test of two rows is that of their plain elements
pub same_rows : (xs ys : List Scalar) → pointwise scalar.eq xs ys ≡ same_row (map scalar_tree xs) (map scalar_tree ys)
same_rows [] [] = refl
same_rows [] (y ∷ ys) = refl
same_rows (x ∷ xs) [] = refl
same_rows (x ∷ xs) (y ∷ ys) =
    ap (λ b. b && pointwise scalar.eq xs ys) (eq_is_scalar x y)
    ∙ ap (λ b. same_scalar (scalar_tree x) (scalar_tree y) && b) (same_rows xs ys)

or_rest : (a b c d : Bool) → c ≡ cond d true b → cond a true c ≡ cond d true (cond a true b)
or_rest true b c true e = refl
or_rest true b c false e = refl
or_rest false b c d e = e

last_member : {X : Type 0} (same : X → X → Bool) (x : X) (xs : List X) (y : X) → has_member same x (xs ++ y ∷ []) ≡ has_member same x (y ∷ xs)
last_member same x [] y = refl
last_member same x (z ∷ zs) y = or_rest (same x z) (has_member same x zs) (has_member same x (zs ++ y ∷ [])) (same x y) (last_member same x zs y)

new_rows_same : (s t rs : List (List V.Scalar)) → ((r : List V.Scalar) → has_member same_row r s ≡ has_member same_row r t) → new_rows s rs ≡ new_rows t rs
new_rows_same s t [] h = refl
new_rows_same s t (r ∷ rs) h =
    ap (λ b. if b then new_rows s rs else r ∷ new_rows (r ∷ s) rs) (h r)
    ∙ ap (λ ys. if has_member same_row r t then ys else r ∷ new_rows (r ∷ s) rs) (new_rows_same s t rs h)
    ∙ ap (λ ys. if has_member same_row r t then new_rows t rs else r ∷ ys) (new_rows_same (r ∷ s) (r ∷ t) rs (λ q. ap (λ b. cond (same_row q r) true b) (h q)))

pub row_seen : (s rs : List (List V.Scalar)) (r : List V.Scalar) → has_member same_row r s ≡ true → new_rows s (r ∷ rs) ≡ new_rows s rs
row_seen s rs r h = rw h refl

pub row_new : (s rs : List (List V.Scalar)) (r : List V.Scalar) → has_member same_row r s ≡ false → new_rows s (r ∷ rs) ≡ r ∷ new_rows (s ++ r ∷ []) rs
row_new s rs r h = rw h (ap (λ ys. r ∷ ys) (new_rows_same (r ∷ s) (s ++ r ∷ []) rs (λ q. sym (last_member same_row q s r))))

-- ---- a walk over the rows

any_step : (a b p q : Bool) → a ≡ b → p ≡ q → (a || p) ≡ cond b true q
any_step a true p q e h = rw e refl
any_step a false p q e h = rw e h

module _ {T : Type 0} (plain : T → List V.Scalar) (same : T → T → Bool) (exact : (x y : T) → same x y ≡ same_row (plain x) (plain y)) where
  seen_is : (x : T) (ks : List T) → list_any (same x) ks ≡ has_member same_row (plain x) (map plain ks)
  seen_is x [] = refl
  seen_is x (k ∷ ks) = any_step (same x k) (same_row (plain x) (plain k)) (list_any (same x) ks) (has_member same_row (plain x) (map plain ks)) (exact x k) (seen_is x ks)

  pub row_added : (f : ℕ → List V.Scalar) (ks after : List T) (x : T) (found : List ℕ) (i n : ℕ) (g : List (List V.Scalar)) → i < n → plain x ≡ f i → list_any (same x) ks ≡ false → after ≡ ks ++ x ∷ []
      → map f found ++ new_rows (map plain ks) (map f (range_with_len i (n - i))) ≡ g
      → map f (found ++ i ∷ []) ++ new_rows (map plain after) (map f (range_with_len (i + 1) (n - (i + 1)))) ≡ g
  row_added f ks after x found i n g h e off a k =
      let m = n - (i + 1) in
      let more : n - i ≡ suc m = omega arith in
      let s = map plain ks in
      let rs = map f (range_with_len (i + 1) m) in
      let unseen : has_member same_row (f i) s ≡ false = ap (λ r. has_member same_row r s) (sym e) ∙ sym (seen_is x ks) ∙ off in
      let later : map plain after ≡ s ++ f i ∷ [] = ap (map plain) a ∙ map-append plain ks (x ∷ []) ∙ ap (λ r. s ++ r ∷ []) e in
      ap (λ ys. ys ++ new_rows (map plain after) rs) (map-append f found (i ∷ []))
      ∙ append_assoc (map f found) (f i ∷ []) (new_rows (map plain after) rs)
      ∙ ap (λ t. map f found ++ (f i ∷ new_rows t rs)) later
      ∙ ap (λ ys. map f found ++ ys) (sym (row_new s rs (f i) unseen))
      ∙ rw more at k

  pub row_passed : (f : ℕ → List V.Scalar) (ks after : List T) (x : T) (found : List ℕ) (i n : ℕ) (g : List (List V.Scalar)) → i < n → plain x ≡ f i → list_any (same x) ks ≡ true → after ≡ ks
      → map f found ++ new_rows (map plain ks) (map f (range_with_len i (n - i))) ≡ g
      → map f found ++ new_rows (map plain after) (map f (range_with_len (i + 1) (n - (i + 1)))) ≡ g
  row_passed f ks after x found i n g h e on a k =
      let m = n - (i + 1) in
      let more : n - i ≡ suc m = omega arith in
      let s = map plain ks in
      let rs = map f (range_with_len (i + 1) m) in
      let seen : has_member same_row (f i) s ≡ true = ap (λ r. has_member same_row r s) (sym e) ∙ sym (seen_is x ks) ∙ on in
      ap (λ t. map f found ++ new_rows (map plain t) rs) a
      ∙ ap (λ ys. map f found ++ ys) (sym (row_seen s rs (f i) seen))
      ∙ rw more at k

pub rows_done : (f : ℕ → List V.Scalar) (s : List (List V.Scalar)) (found : List ℕ) (i n : ℕ) (g : List (List V.Scalar)) → n ≤ i → map f found ++ new_rows s (map f (range_with_len i (n - i))) ≡ g → map f found ≡ g
rows_done f s found i n g h k =
    let none : n - i ≡ zero = omega arith in
    sym (append-nil (map f found)) ∙ rw none at k

pub not_on : (b c : Bool) → c ≡ not b → c ≡ true → b ≡ false
not_on true c e f = absurd (cc (e, f))
not_on false c e f = refl

pub not_off : (b c : Bool) → c ≡ not b → c ≡ false → b ≡ true
not_off true c e f = refl
not_off false c e f = absurd (cc (e, f))

some_first : (f : ℕ → List V.Scalar) (ks : List ℕ) (n : ℕ) → 0 < n → map f ks ≡ new_rows [] (map f (range_with_len 0 n)) → 1 ≤ length ks
some_first f ks zero h e = absurd (omega arith)
some_first f [] (suc n) h e = absurd (cc e)
some_first f (k ∷ ks) (suc n) h e = omega arith

-- a sound value has a row, so it has one that equals none before it
pub some_new : (v : V.Value) (ks : List ℕ) → IsTrue (is_sound_value v) → map (row v) ks ≡ new_rows [] (rows v) → 1 ≤ length ks
some_new v ks h e =
    let small = extents_small v h in
    some_first (row v) ks (shape v).rows small.0 (e ∙ ap (new_rows []) (rows_are v h))
