-- Worked forecasts, by computation.
use Rattle.std.proofs.Common.{◌≡◌, true, inl, inr, ℕ, [], ◌∷◌, Some, None, refl}
use Rattle.gl_calculus.specs.Grid.Grid.{addr, size}
use Rattle.gl_calculus.specs.Formulas.Formula.{Formula, Cells, Form}
use Rattle.gl_calculus.specs.Formulas.Formula as F
use Rattle.gl_examples.proofs.Worked.Sheets.{int, cell, hash, area, plus, times, equals, call, number}
use Rattle.gl_examples.proofs.Worked.Examples.{spilled_product, area_copy}
use Rattle.gl_calculus.specs.Forecast.{Node, Value, Entry, dependences, once, further, ends, goes, cell_shape, Yes, Circle, Unknown, here, behind, IsForecast, circle, unknown}
use Rattle.laws_calculus.proofs.Forecast.Orders.{yes_by}

abbrev v : ℕ → ℕ → Node
v c r = Value (addr c r)

abbrev e : ℕ → ℕ → Node
e c r = Entry (addr c r)

empty : IsForecast [] (Yes 0)
empty = yes_by [] [] 0 refl refl refl refl (inl refl)

-- A1 =SEQUENCE(3,1), B1 =A1#*2
spilled_product_dependences : dependences spilled_product (v 2 1) ≡ v 1 1 ∷ e 1 1 ∷ []
spilled_product_dependences = refl

spilled_product_yes : IsForecast spilled_product (Yes 2)
spilled_product_yes =
    yes_by spilled_product ((e 2 1, 2) ∷ (v 2 1, 1) ∷ (e 1 1, 1) ∷ (v 1 1, 0) ∷ []) 2 refl refl refl refl
    (inr (e 2 1, inr (inr (inr (inl refl))), goes {n = v 2 1} (inl refl) (goes {n = e 1 1} (inr (inl refl)) ends)))

-- B1 =SEQUENCE(3,1), A2 =SEQUENCE(1,3)
abbrev crossing : Cells
crossing = (addr 2 1, Form (call F.Fun.Sequence (int 3 ∷ int 1 ∷ []))) ∷ (addr 1 2, Form (call F.Fun.Sequence (int 1 ∷ int 3 ∷ []))) ∷ []

crossing_yes : IsForecast crossing (Yes 2)
crossing_yes =
    yes_by crossing ((e 1 2, 2) ∷ (e 2 1, 1) ∷ (v 1 2, 0) ∷ (v 2 1, 0) ∷ []) 2 refl refl refl refl
    (inr (e 1 2, inr (inr (inr (inl refl))), goes {n = e 2 1} (inr (inl refl)) ends))

-- A1 =B1#*2, B1 =SEQUENCE(3,1)
abbrev backwards : Cells
backwards = (addr 1 1, Form (times (hash 2 1) (int 2))) ∷ (addr 2 1, Form (call F.Fun.Sequence (int 3 ∷ int 1 ∷ []))) ∷ []

backwards_yes : IsForecast backwards (Yes 2)
backwards_yes =
    yes_by backwards ((e 1 1, 2) ∷ (v 1 1, 1) ∷ (e 2 1, 1) ∷ (v 2 1, 0) ∷ []) 2 refl refl refl refl
    (inr (e 1 1, inr (inl refl), goes {n = v 1 1} (inl refl) (goes {n = e 2 1} (inr (inl refl)) ends)))

-- A1 =IF(TRUE,1,B1), B1 =A1
abbrev chosen_branch : Cells
chosen_branch = (addr 1 1, Form (call F.Fun.If (F.Formula.Bool true ∷ int 1 ∷ cell 2 1 ∷ []))) ∷ (addr 2 1, Form (cell 1 1)) ∷ []

chosen_branch_circle : IsForecast chosen_branch (Circle (addr 1 1))
chosen_branch_circle = circle refl (here (v 1 1, inl refl, further {m = v 2 1} (inl refl) (once (inl refl))))

-- A1 =IF(C1=0,SEQUENCE(1,3),5): its box covers C1
abbrev restless : Cells
restless = (addr 1 1, Form (call F.Fun.If (equals (cell 3 1) (int 0) ∷ call F.Fun.Sequence (int 1 ∷ int 3 ∷ []) ∷ int 5 ∷ []))) ∷ []

restless_circle : IsForecast restless (Circle (addr 1 1))
restless_circle = circle refl (here (v 1 1, inl refl, once (inl refl)))

-- A1 3, B1 4, C1 =A1*A1+B1*B1, E1 =G(A1:C1,A1,6)
area_copy_unknown : IsForecast area_copy (Unknown (addr 5 1))
area_copy_unknown = unknown (behind (λ h. absurd (cc h)) (here refl))

-- A1 5, B1 =HSTACK(A1:A2,TAKE(SEQUENCE(A1,1),2,1)), C1 =LET(x,B1#,x+x), D1 =SUM(C1#)
abbrev shapes : Cells
shapes = (addr 1 1, number 5)
    ∷ (addr 2 1, Form (call F.Fun.HStack (area 1 1 1 2 ∷ call F.Fun.Take (call F.Fun.Sequence (cell 1 1 ∷ int 1 ∷ []) ∷ int 2 ∷ int 1 ∷ []) ∷ [])))
    ∷ (addr 3 1, Form (F.Formula.Let (120 ∷ []) (hash 2 1) (plus (F.Formula.Var (120 ∷ [])) (F.Formula.Var (120 ∷ [])))))
    ∷ (addr 4 1, Form (call F.Fun.Sum (hash 3 1 ∷ [])))
    ∷ []

shape_b1 : cell_shape shapes (addr 2 1) ≡ Some (size 10000 10000)
shape_b1 = refl

shape_c1 : cell_shape shapes (addr 3 1) ≡ Some (size 10000 10000)
shape_c1 = refl

shape_d1 : cell_shape shapes (addr 4 1) ≡ None
shape_d1 = refl
