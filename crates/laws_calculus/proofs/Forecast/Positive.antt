-- Each shape has a row and a column.
use Rattle.std.proofs.Common.{◌≡◌, ℕ, zero, suc, ◌≤◌, nat_lt, nat_le, pos, negsuc, Bool, true, false, ◌&&◌, IsTrue, List, [], ◌∷◌, map, Option, Some, None, option_map, bytes_eq, if◌then◌else◌, refl, arith}
use Rattle.std.specs.List.{AllByRecursion}
use Rattle.std.proofs.lemmas.Bool.{and_parts, ltb-true}
use Rattle.gl_calculus.specs.Grid.Limits.{max_cells}
use Rattle.gl_calculus.specs.Grid.Grid.{Addr, extents}
use Rattle.gl_calculus.specs.Formulas.Formula.{Formula, Formulas, Operands, Fun, Content, Const, Form, Cells, content}
use Rattle.gl_calculus.specs.Formulas.Formula as F
use Rattle.gl_calculus.specs.Formulas.Fit.{takes, is_fit, are_fit, are_fit_operands, AreFit}
use Rattle.laws_calculus.proofs.Sound.Values.{extents_of}
use Rattle.laws_calculus.proofs.Sound.References.{FitContent, content_fit}
use Rattle.gl_calculus.specs.Forecast as Fo
use Rattle.gl_calculus.specs.Forecast.{Shape, Shapes, size_of, greatest_shape, vstack_size, hstack_size, shape, shapes, operand_shapes, content_shape, spilled_shape}
use Rattle.laws_calculus.proofs.Forecast.Shapes.{IsPositive, AllPositive, full_positive, joined_positive, all_joined_positive, cut_positive}

abbrev pub PositiveBindings : Shapes → Type 0
PositiveBindings bs = AllByRecursion (λ b. IsPositive b.1) bs

bound_positive : (bs : Shapes) (name : List ℕ) → PositiveBindings bs → IsPositive (Fo.bound_shape bs name)
bound_positive [] name h = tt
bound_positive (b ∷ bs) name h = by (bytes_eq b.0 name) (bound_positive bs name h.1)
  where
    by : (c : Bool) → IsPositive (Fo.bound_shape bs name) → IsPositive (if c then b.1 else Fo.bound_shape bs name)
    by true k = h.0
    by false k = k

flip_positive : (s : Shape) → IsPositive s → IsPositive (option_map Fo.flipped s)
flip_positive None h = tt
flip_positive (Some s) h = (h.1, h.0)

flips_positive : (ss : List Shape) → AllPositive ss → AllPositive (map (option_map Fo.flipped) ss)
flips_positive [] h = tt
flips_positive (s ∷ ss) h = (flip_positive s h.0, flips_positive ss h.1)

under_positive : (s : Shape) (ss : List Shape) → AllPositive (s ∷ ss) → IsPositive (Some (vstack_size (s ∷ ss)))
under_positive s ss h = let p = full_positive s h.0 in (omega (arith, p.0), omega (arith, p.1))

written_positive : (f : Formula) (n : ℕ) → Fo.written_extent f ≡ Some n → 1 ≤ n
written_positive (F.Formula.Int (pos m)) n e =
    (elim (nat_lt 0 m && nat_le m max_cells) as (λ b. nat_lt 0 m && nat_le m max_cells ≡ b → (if b then Some m else None) ≡ Some n → 1 ≤ n) [
      | true ↦ λ u z. let p : m ≡ n = cc z in let q = ltb-true 0 m (and_parts (nat_lt 0 m) (nat_le m max_cells) u).0 in omega (arith, p, q)
      | false ↦ λ u z. absurd (cc z)
    ]) refl e
written_positive (F.Formula.Int (negsuc m)) n e = absurd (cc e)
written_positive f n e = absurd (cc e)

sequence_positive : (fs : Formulas) → IsPositive (Some (Fo.sequence_size fs))
sequence_positive F.Formulas.no_formula = (omega arith, omega arith)
sequence_positive (F.Formulas.formula_and f F.Formulas.no_formula) = (omega arith, omega arith)
sequence_positive (F.Formulas.formula_and f (F.Formulas.formula_and g F.Formulas.no_formula)) = by (Fo.written_extent f) (Fo.written_extent g) refl refl
  where
    by : (o p : Option ℕ) → Fo.written_extent f ≡ o → Fo.written_extent g ≡ p → IsPositive (Some (Fo.written_size o p))
    by (Some m) (Some n) d e = (written_positive f m d, written_positive g n e)
    by None p d e = (omega arith, omega arith)
    by (Some m) None d e = (omega arith, omega arith)
sequence_positive (F.Formulas.formula_and f (F.Formulas.formula_and g (F.Formulas.formula_and k fs))) = (omega arith, omega arith)

some_full : (s : Shape) → IsPositive s → IsPositive (Some (size_of s))
some_full s h = full_positive s h

-- of a function that takes some argument or other
abbrev Some' : Fun → List Shape → Type 0
Some' F.Fun.HStack [] = ⊥
Some' F.Fun.VStack [] = ⊥
Some' f ss = Unit {0}

call_positive : (f : Fun) (fs : Formulas) (ss : List Shape) → Some' f ss → AllPositive ss → IsPositive (Fo.call_shape f fs ss)
call_positive F.Fun.Sum fs ss t h = tt
call_positive F.Fun.Count fs ss t h = tt
call_positive F.Fun.Min fs ss t h = tt
call_positive F.Fun.Max fs ss t h = tt
call_positive F.Fun.And fs ss t h = tt
call_positive F.Fun.Or fs ss t h = tt
call_positive F.Fun.Rows fs ss t h = tt
call_positive F.Fun.Columns fs ss t h = tt
call_positive F.Fun.Index fs ss t h = tt
call_positive F.Fun.Lookup fs ss t h = tt
call_positive F.Fun.Na fs ss t h = tt
call_positive F.Fun.This fs ss t h = tt
call_positive F.Fun.Sequence fs ss t h = sequence_positive fs
call_positive F.Fun.Transpose fs (s ∷ ss) t h = flip_positive s h.0
call_positive F.Fun.Unique fs (s ∷ ss) t h = h.0
call_positive F.Fun.Take fs (s ∷ ss) t h = some_full s h.0
call_positive F.Fun.Drop fs (s ∷ ss) t h = some_full s h.0
call_positive F.Fun.Filter fs (s ∷ ss) t h = some_full s h.0
call_positive F.Fun.HStack fs [] t h = absurd t
call_positive F.Fun.VStack fs [] t h = absurd t
call_positive F.Fun.HStack fs (s ∷ ss) t h = let p = under_positive (option_map Fo.flipped s) (map (option_map Fo.flipped) ss) (flips_positive (s ∷ ss) h) in cut_positive (hstack_size (s ∷ ss)) (p.1, p.0)
call_positive F.Fun.VStack fs (s ∷ ss) t h = cut_positive (vstack_size (s ∷ ss)) (under_positive s ss h)
call_positive f fs [] t h = tt
call_positive f fs (s ∷ ss) t h = all_joined_positive (s ∷ ss) h

module _ (spilled : Addr → Shape) (sp : (a : Addr) → IsPositive (spilled a)) where
  some_shapes : (bs : Shapes) (f : Fun) (fs : Formulas) → IsTrue (takes f fs) → Some' f (shapes spilled bs fs)
  some_shapes bs F.Fun.HStack F.Formulas.no_formula h = absurd (cc h)
  some_shapes bs F.Fun.VStack F.Formulas.no_formula h = absurd (cc h)
  some_shapes bs F.Fun.HStack (F.Formulas.formula_and f fs) h = tt
  some_shapes bs F.Fun.VStack (F.Formulas.formula_and f fs) h = tt
  some_shapes bs f F.Formulas.no_formula h = tt
  some_shapes bs f (F.Formulas.formula_and g fs) h = tt

  mutual
    pub shape_positive : (bs : Shapes) (f : Formula) → PositiveBindings bs → IsTrue (is_fit f) → IsPositive (shape spilled bs f)
    shape_positive bs (F.Formula.Int n) b h = tt
    shape_positive bs (F.Formula.Text t) b h = tt
    shape_positive bs (F.Formula.Bool c) b h = tt
    shape_positive bs (F.Formula.At a) b h = tt
    shape_positive bs (F.Formula.Spill a) b h = sp a
    shape_positive bs (F.Formula.Area r) b h = let e = extents_of (extents r) h in cut_positive (extents r) (omega (arith, e.rows), omega (arith, e.cols))
    shape_positive bs (F.Formula.Var name) b h = bound_positive bs name b
    shape_positive bs (F.Formula.Neg f) b h = shape_positive bs f b h
    shape_positive bs (F.Formula.Chain level f rest) b h =
        let p = and_parts (is_fit f) (are_fit_operands rest) h in joined_positive (shape spilled bs f) (greatest_shape (operand_shapes spilled bs rest)) (shape_positive bs f b p.0) (all_joined_positive (operand_shapes spilled bs rest) (operands_positive bs rest b p.1))
    shape_positive bs (F.Formula.Compare op f g) b h = let p = and_parts (is_fit f) (is_fit g) h in joined_positive (shape spilled bs f) (shape spilled bs g) (shape_positive bs f b p.0) (shape_positive bs g b p.1)
    shape_positive bs (F.Formula.Call f xs) b h = let p = and_parts (takes f xs) (are_fit xs) h in call_positive f xs (shapes spilled bs xs) (some_shapes bs f xs p.0) (shapes_positive bs xs b p.1)
    shape_positive bs (F.Formula.Let name f body) b h = let p = and_parts (is_fit f) (is_fit body) h in shape_positive ((name, shape spilled bs f) ∷ bs) body (shape_positive bs f b p.0, b) p.1

    pub shapes_positive : (bs : Shapes) (fs : Formulas) → PositiveBindings bs → IsTrue (are_fit fs) → AllPositive (shapes spilled bs fs)
    shapes_positive bs F.Formulas.no_formula b h = tt
    shapes_positive bs (F.Formulas.formula_and f fs) b h = let p = and_parts (is_fit f) (are_fit fs) h in (shape_positive bs f b p.0, shapes_positive bs fs b p.1)

    operands_positive : (bs : Shapes) (rest : Operands) → PositiveBindings bs → IsTrue (are_fit_operands rest) → AllPositive (operand_shapes spilled bs rest)
    operands_positive bs F.Operands.no_operand b h = tt
    operands_positive bs (F.Operands.operand_and op f rest) b h = let p = and_parts (is_fit f) (are_fit_operands rest) h in (shape_positive bs f b p.0, operands_positive bs rest b p.1)

-- and so has that of `a#` to any number of levels
content_positive : (spilled : Addr → Shape) → ((a : Addr) → IsPositive (spilled a)) → (c : Option Content) → FitContent c → IsPositive (content_shape spilled c)
content_positive spilled sp (Some (Form f)) h = shape_positive spilled sp [] f tt h
content_positive spilled sp (Some (Const x)) h = tt
content_positive spilled sp None h = tt

pub spilled_positive : (S : Cells) → AreFit S → (n : ℕ) (a : Addr) → IsPositive (spilled_shape S n a)
spilled_positive S fit zero a = (omega arith, omega arith)
spilled_positive S fit (suc n) a = content_positive (spilled_shape S n) (spilled_positive S fit n) (content S a) (content_fit S a fit)
