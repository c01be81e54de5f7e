-- Levels of `#`.
use Rattle.std.proofs.Common.{◌≡◌, ◌⊎◌, inl, inr, ℕ, zero, suc, ◌+◌, ◌<◌, ◌≤◌, Bool, true, false, List, [], ◌∷◌, ◌++◌, map, take, length, get_or, refl, sym, ap, ◌∙◌, arith}
use Rattle.std.specs.Prelude.{Option, Some, None, if◌then◌else◌}
use mathlib.Core.Path.{fun_ext}
use Rattle.std.proofs.lemmas.Bool.{cases_eq}
use Rattle.std.proofs.lemmas.List.{take_more, map-append, take_all, same_lists, get_or_default}
use Rattle.gl_calculus.specs.Computation.Lists.{Member}
use Rattle.gl_calculus.specs.Grid.Grid.{Addr, same_addr}
use Rattle.gl_calculus.specs.Formulas.Formula.{Content, Const, Form, Cells, content, formula_addresses}
use Rattle.gl_calculus.proofs.Tests.{addr_exact, addr_same}
use Rattle.laws_calculus.proofs.Calculus.Settles.{formula_listed}
use Rattle.gl_calculus.specs.Forecast.{Shape, content_shape, spilled_shape, cell_shape}
use Rattle.gl_flow.specs.Places.{shape_in}
use Rattle.gl_flow.specs.Shapes.{spilled_at, shapes_at, level_shapes}
use Rattle.gl_flow.specs.Contents.{formula_in, formula_shape}

pub shape_is : (spilled : Addr → Shape) (c : Option Content) → formula_shape spilled (formula_in c) ≡ content_shape spilled c
shape_is spilled (Some (Form f)) = refl
shape_is spilled (Some (Const x)) = refl
shape_is spilled None = refl

-- the shape of a listed address, and of another one
in_map : (ps : List Addr) (f : Addr → Shape) (a : Addr) → (shape_in ps (map f ps) a ≡ f a) ⊎ ((Member a ps → ⊥) × (shape_in ps (map f ps) a ≡ None))
in_map [] f a = inr ((λ m. m), refl)
in_map (p ∷ ps) f a = by (same_addr p a) refl (in_map ps f a)
  where
    by : (b : Bool) → same_addr p a ≡ b → (shape_in ps (map f ps) a ≡ f a) ⊎ ((Member a ps → ⊥) × (shape_in ps (map f ps) a ≡ None)) →
        (shape_in (p ∷ ps) (map f (p ∷ ps)) a ≡ f a) ⊎ ((Member a (p ∷ ps) → ⊥) × (shape_in (p ∷ ps) (map f (p ∷ ps)) a ≡ None))
    by true e r = inl (ap (λ b. if b then f p else shape_in ps (map f ps) a) e ∙ ap f (addr_exact p a e))
    by false e (inl r) = inl (ap (λ b. if b then f p else shape_in ps (map f ps) a) e ∙ r)
    by false e (inr r) = inr (not_in, ap (λ b. if b then f p else shape_in ps (map f ps) a) e ∙ r.1)
      where
        not_in : Member a (p ∷ ps) → ⊥
        not_in (inl d) = let u : true ≡ false = sym (addr_same p) ∙ ap (same_addr p) (sym d) ∙ e in cc u
        not_in (inr m) = r.0 m

module _ (S : Cells) where
  -- from the first level on, the shapes of the formula cells say all
  at_level : (n : ℕ) (a : Addr) → shape_in (formula_addresses S) (shapes_at S (suc n)) a ≡ spilled_shape S (suc n) a
  at_level n a = by (in_map (formula_addresses S) (spilled_shape S (suc n)) a)
    where
      by : (shape_in (formula_addresses S) (shapes_at S (suc n)) a ≡ spilled_shape S (suc n) a) ⊎ ((Member a (formula_addresses S) → ⊥) × (shape_in (formula_addresses S) (shapes_at S (suc n)) a ≡ None)) →
          shape_in (formula_addresses S) (shapes_at S (suc n)) a ≡ spilled_shape S (suc n) a
      by (inl e) = e
      by (inr r) = r.1 ∙ sym (none (content S a) refl)
        where
          none : (c : Option Content) → content S a ≡ c → spilled_shape S (suc n) a ≡ None
          none (Some (Form f)) e = absurd (r.0 (formula_listed S a f e))
          none (Some (Const x)) e = ap (content_shape (spilled_shape S n)) e
          none None e = ap (content_shape (spilled_shape S n)) e

  next_is : (n : ℕ) → spilled_at false (formula_addresses S) (shapes_at S (suc n)) ≡ spilled_shape S (suc n)
  next_is n = fun_ext (λ a. at_level n a)

  -- where two levels are the same, all further ones are
  same_level : (n : ℕ) → shapes_at S (suc (suc n)) ≡ shapes_at S (suc n) → spilled_shape S (suc (suc n)) ≡ spilled_shape S (suc n)
  same_level n e = fun_ext (λ a. sym (at_level (suc n) a) ∙ ap (λ t. shape_in (formula_addresses S) t a) e ∙ at_level n a)

  stays : (m n : ℕ) → suc n ≤ m → spilled_shape S (suc (suc n)) ≡ spilled_shape S (suc n) → spilled_shape S m ≡ spilled_shape S (suc n)
  stays zero n l e = absurd (omega (arith, l))
  stays (suc m) n l e = by (λ k. stays m n k e) (cases_eq m n)
    where
      by : (suc n ≤ m → spilled_shape S m ≡ spilled_shape S (suc n)) → (m ≡ n) ⊎ (m ≡ n → ⊥) → spilled_shape S (suc m) ≡ spilled_shape S (suc n)
      by h (inl d) = ap (λ t. spilled_shape S (suc t)) d
      by h (inr d) = ap (λ f a. content_shape f (content S a)) (h (omega (arith, l, d))) ∙ e

  pub first_shapes : (ps : List Addr) (xs : List Shape) → ps ≡ formula_addresses S → xs ≡ level_shapes S (spilled_at true ps []) ps → xs ≡ shapes_at S 1
  first_shapes ps xs e d = d ∙ ap (level_shapes S (spilled_shape S zero)) e

  pub next_shapes : (n m : ℕ) (ps : List Addr) (xs ys : List Shape) → m ≡ suc n → ps ≡ formula_addresses S → xs ≡ shapes_at S m → ys ≡ level_shapes S (spilled_at false ps xs) ps → ys ≡ shapes_at S (m + 1)
  next_shapes n m ps xs ys k e d h =
      h ∙ ap (λ t. level_shapes S (spilled_at false t xs) t) e ∙ ap (λ t. level_shapes S (spilled_at false (formula_addresses S) t) (formula_addresses S)) (d ∙ ap (shapes_at S) k)
      ∙ ap (λ f. level_shapes S f (formula_addresses S)) (next_is n) ∙ ap (shapes_at S) (let u : suc (suc n) ≡ m + 1 = omega (arith, k) in u)

  pub all_shapes : (n m : ℕ) (ps : List Addr) (xs ys : List Shape) → m ≡ suc n → m ≤ 16 → ps ≡ formula_addresses S → xs ≡ shapes_at S m → ys ≡ shapes_at S (m + 1) → ys ≡ xs → ys ≡ map (cell_shape S) ps
  all_shapes n m ps xs ys k l e d h same =
      let two : shapes_at S (suc (suc n)) ≡ shapes_at S (suc n) = ap (shapes_at S) (let u : suc (suc n) ≡ m + 1 = omega (arith, k) in u) ∙ sym h ∙ same ∙ d ∙ ap (shapes_at S) k in
      let last : spilled_shape S 17 ≡ spilled_shape S (suc n) = stays 17 n (omega (arith, k, l)) (same_level n two) in
      same ∙ d ∙ ap (shapes_at S) k ∙ ap (λ f. map f (formula_addresses S)) (sym last) ∙ ap (map (cell_shape S)) (sym e)

  pub last_shapes : (m : ℕ) (ps : List Addr) (xs : List Shape) → m ≡ 17 → ps ≡ formula_addresses S → xs ≡ shapes_at S m → xs ≡ map (cell_shape S) ps
  last_shapes m ps xs k e d = d ∙ ap (shapes_at S) k ∙ ap (map (cell_shape S)) (sym e)

  pub level_push : (spilled : Addr → Shape) (ps : List Addr) (i : ℕ) (a : Addr) (xs : List Shape) (s : Shape) → i < length ps → a ≡ get_or ps i a → s ≡ formula_shape spilled (formula_in (content S a)) →
      xs ≡ level_shapes S spilled (take i ps) → xs ++ s ∷ [] ≡ level_shapes S spilled (take (i + 1) ps)
  level_push spilled ps i a xs s l is e d =
      ap (λ t. t ++ s ∷ []) d ∙ ap (λ t. level_shapes S spilled (take i ps) ++ t ∷ []) (e ∙ shape_is spilled (content S a))
      ∙ sym (ap (level_shapes S spilled) (take_more ps i a l ∙ ap (λ t. take i ps ++ t ∷ []) (sym is)) ∙ map-append (λ b. content_shape spilled (content S b)) (take i ps) (a ∷ []))

  pub level_done : (spilled : Addr → Shape) (ps : List Addr) (i : ℕ) (xs : List Shape) → length ps ≤ i → xs ≡ level_shapes S spilled (take i ps) → xs ≡ level_shapes S spilled ps
  level_done spilled ps i xs l d = d ∙ ap (level_shapes S spilled) (take_all i ps l)

-- two lists of shapes that are the same place by place
pub same_shapes : (xs ys : List Shape) (n : ℕ) → length xs ≡ length ys → length xs ≤ n → ((k : ℕ) → k < n → get_or xs k None ≡ get_or ys k None) → xs ≡ ys
same_shapes xs ys n e l h = same_lists xs ys e (λ k d u. get_or_default xs k d None u ∙ h k (omega (arith, u, l)) ∙ get_or_default ys k None d (omega (arith, u, e)))
