-- The elements of one row after another.
use Rattle.std.proofs.Common.{◌≡◌, ℕ, ◌+◌, List, [], ◌∷◌, ◌++◌, map, refl, ap, ◌∙◌, sym, arith, zero-add, append_assoc, true, ◌&&◌, nat_lt}
use Rattle.std.proofs.lemmas.List.{map-append}
use Rattle.std.proofs.lemmas.List.FromFn.{map-range_with_len_more}
use Rattle.std.proofs.lemmas.Grind.{flat_map-append}
use Rattle.std.specs.List.{range_with_len, flat_map}
use Rattle.std.proofs.lemmas.Bool.{and_parts}
use Rattle.gl_calculus.specs.Grid.Grid.{Size}
use Rattle.gl_calculus.specs.Values.Value as V
use Rattle.gl_calculus.specs.Values.Lift.{is_small, table}
use Rattle.gl_calculus.specs.Evaluation.Sound.{is_size}
use Rattle.gl_value.specs.View.{scalar_tree, item_trees}
use Rattle.gl_value.specs.declared.Scalar.{Scalar}

map_same : (ks : List ℕ) → map (λ k. k) ks ≡ ks
map_same [] = refl
map_same (k ∷ ks) = ap (λ js. k ∷ js) (map_same ks)

append_nil : (xs : List V.Scalar) → xs ++ [] ≡ xs
append_nil [] = refl
append_nil (x ∷ xs) = ap (λ ys. x ∷ ys) (append_nil xs)

-- one element more in a row
pub element_more : (out : List V.Scalar) (xs : List Scalar) (x : Scalar) (f : ℕ → V.Scalar) (j : ℕ) → map scalar_tree xs ≡ out ++ map f (range_with_len 0 j) → scalar_tree x ≡ f j
    → map scalar_tree (xs ++ x ∷ []) ≡ out ++ map f (range_with_len 0 (j + 1))
element_more out xs x f j h e =
    map-append scalar_tree xs (x ∷ [])
    ∙ ap (λ ys. ys ++ scalar_tree x ∷ []) h
    ∙ append_assoc out (map f (range_with_len 0 j)) (scalar_tree x ∷ [])
    ∙ ap (λ y. out ++ (map f (range_with_len 0 j) ++ y ∷ [])) e
    ∙ ap (λ ys. out ++ ys) (sym (map-range_with_len_more f 0 j j (omega arith)))

range_more : (a n : ℕ) → range_with_len a (n + 1) ≡ range_with_len a n ++ (a + n) ∷ []
range_more a n = sym (map_same (range_with_len a (n + 1))) ∙ map-range_with_len_more (λ k. k) a n (a + n) refl ∙ ap (λ ks. ks ++ (a + n) ∷ []) (map_same (range_with_len a n))

-- one row more in a table
pub row_more : (f : ℕ → List V.Scalar) (n : ℕ) → flat_map f (range_with_len 0 (n + 1)) ≡ flat_map f (range_with_len 0 n) ++ f n
row_more f n =
    ap (flat_map f) (range_more 0 n)
    ∙ flat_map-append f (range_with_len 0 n) ((0 + n) ∷ [])
    ∙ ap (λ ys. flat_map f (range_with_len 0 n) ++ ys) (append_nil (f (0 + n)) ∙ ap f (zero-add n))

-- the array of elements that a table has is the table
pub table_is : (s : Size) (xs : List Scalar) (f : ℕ → ℕ → V.Scalar) → is_size s ≡ true → map scalar_tree xs ≡ flat_map (λ i. map (f i) (range_with_len 0 s.cols)) (range_with_len 0 s.rows) → V.Value.Array s (item_trees xs) ≡ table s f
table_is s xs f h e =
    let small : is_small s ≡ true = (and_parts (nat_lt 0 s.rows && nat_lt 0 s.cols) (is_small s) h).1 in
    rw small (ap (λ ys. V.Value.Array s (V.scalars ys)) e)
