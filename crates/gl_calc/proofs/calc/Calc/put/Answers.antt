use Rattle.std.proofs.Common.{◌≡◌, ◌++◌, ◌∷◌, [], length, ap, sym, subst, ◌∙◌, arith}
use Rattle.gl_calculus.specs.Formulas.Formula.{content}
use Rattle.gl_ast.specs.View.{version_tree}
use Rattle.gl_cells.specs.Content.{content_tree}
use Rattle.gl_cells.specs.Sheet.{sheet}
use Rattle.gl_calc.specs.Places.{ArePlaces}
use Rattle.gl_calc.proofs.Calcs.{edited, set_same, set_length}
use Rattle.gl_calc.proofs.calc.Calc.put.Goals as goal

pub invariant_of-self-in-Ok-put : goal.invariant_of-self-in-Ok-put
invariant_of-self-in-Ok-put c =
    let S = sheet c.self.inside.cells in
    let a = c.args.a in
    let x = content_tree c.args.c in
    let goal = c.in-Ok-put.ensures.0 in
    let longer = ap length goal in
    let most = set_length S a x in (
      edited S (sheet c.put.new.self) c.self.inside.held c.self.inside.tables.items (version_tree c.self.inside.version) c.self.inside.touched c.push_reserved.new.self c.self.inside.ended (a ∷ []) c.self.invariant.0
          (c.push_reserved.ensures.items ∙ ap (λ xs. xs ++ a ∷ []) c.reserve.ensures.items)
          (λ b f. subst (λ T. content T b ≡ content S b) (sym goal) (set_same S a x b f))
          (omega (arith, longer, most, c.push_reserved.ensures.len, c.push_reserved.ensures.capacity, c.reserve.ensures.len, c.in-Ok.ensures.ok, c.contents.ensures.count)),
      subst (λ T. ArePlaces T c.places_with.result) (sym goal)
          (c.places_with.ensures S x c.contents.ensures.ordered c.is_formula-formula.ensures
          (c.while_few-places.ensures S (subst (ArePlaces S) (sym c.take-places.ensures.value) c.self.invariant.1))),
    )
