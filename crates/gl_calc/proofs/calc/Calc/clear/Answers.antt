use Rattle.std.proofs.Common.{◌≡◌, length, ap, sym, subst, arith}
use Rattle.gl_calculus.specs.Formulas.Formula.{content}
use Rattle.gl_calculus.specs.Edits.Sheets.{places_in}
use Rattle.gl_ast.specs.View.{version_tree}
use Rattle.gl_cells.specs.Sheet.{sheet}
use Rattle.gl_calc.specs.Places.{ArePlaces}
use Rattle.gl_calc.proofs.Calcs.{edited, clear_same, clear_length}
use Rattle.gl_calc.proofs.calc.Calc.clear.Goals as goal

pub invariant_of-self : goal.invariant_of-self
invariant_of-self c =
    let S = sheet c.self.inside.cells in
    let r = c.args.r.now in
    let goal = c.clear-count.ensures.cleared in
    let left = ap length goal in
    let all = clear_length S r in (
      edited S (sheet c.clear-count.new.self) c.self.inside.held c.self.inside.tables.items (version_tree c.self.inside.version) c.self.inside.touched c.mark_in.new.touched c.self.inside.ended (places_in S r) c.self.invariant.0
          c.mark_in.ensures.items
          (λ b f. subst (λ T. content T b ≡ content S b) (sym goal) (clear_same S r b f))
          (omega (arith, left, all, c.mark_in.ensures.len, c.mark_in.ensures.capacity, c.self.invariant.0.room)),
      subst (λ T. ArePlaces T c.places_without.result) (sym goal) (c.places_without.ensures S (c.while_few-places.ensures S (subst (ArePlaces S) (sym c.take-places.ensures.value) c.self.invariant.1))),
    )
