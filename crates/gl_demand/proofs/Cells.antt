-- The value of a cell, which looks at its own address first, and answers without memory.
use Rattle.std.proofs.Common.{◌≡◌, Option, None, Result, Ok, ap, sym, subst, ◌∙◌, refl, IsTrue}
use Rattle.gl_calculus.specs.Computation.Query.{Ready}
use Rattle.gl_calculus.specs.Grid.Grid.{Addr, single}
use Rattle.gl_calculus.specs.Values.Value as V
use Rattle.gl_calculus.specs.Values.Value.{Frame}
use Rattle.gl_calculus.specs.Formulas.Formula.{Version}
use Rattle.gl_calculus.specs.Evaluation.Reference.{Held}
use Rattle.gl_calculus.specs.Evaluation.Evaluation.{cell_value}
use Rattle.gl_calculus.specs.Evaluation.Sound.{is_sound_value}
use Rattle.gl_value.specs.View.{value_tree}
use Rattle.gl_value.specs.Forms.{value_tree-One, scalar_tree-Blank}
use Rattle.gl_value.specs.declared.Scalar.{Blank}
use Rattle.gl_value.specs.declared.Value.{One}
use Rattle.gl_demand.specs.Cells.{looked_cell}
use Rattle.gl_demand.specs.Walk.{Inputs, walk, looking}
use Rattle.gl_demand.specs.Walks.{Walks, trail_tree}
use Rattle.gl_demand.specs.declared.trail.Trail as Code
use Rattle.gl_demand.specs.declared.trail.Halt.{Halt}
use Rattle.gl_demand.proofs.Walking.{over, later}

blank_tree : V.Value.One V.Scalar.Blank ≡ value_tree (One Blank)
blank_tree = sym (value_tree-One Blank ∙ ap V.Value.One scalar_tree-Blank)

pub blank_sound : IsTrue (is_sound_value (value_tree (One Blank)))
blank_sound = subst (λ v. IsTrue (is_sound_value v)) blank_tree refl

module _ (w : Inputs) (v : Version) (e : Frame) where
  pub looked_on : {B : Type 0} (held h : Option Held) (a : Addr) (f : B → V.Value) (old mid new : Code.Trail) (r : Result B Halt) → trail_tree mid ≡ looking (single a) (trail_tree old) → held ≡ h
      → Walks w (cell_value v e held) f mid r new → Walks w (looked_cell v e h a) f old r new
  looked_on held h a f old mid new r l i =
      later w (looked_cell v e h a) (cell_value v e held) f old mid new r
      (λ g m. ap (walk (over w g) (cell_value v e h)) (sym l) ∙ ap (λ z. walk (over w g) (cell_value v e z) (trail_tree mid)) (sym i))

  pub blank_cell : (t : Code.Trail) → Walks w (cell_value v e None) value_tree t (Ok (One Blank)) t
  unfolding cell_value
  blank_cell t = ap (λ z. (Ready (Ok z), trail_tree t)) blank_tree
