use Rattle.std.proofs.Common.{◌≡◌, ◌++◌, List, length, map, ap, sym, subst, ◌∙◌, arith}
use Rattle.std.proofs.lemmas.Grind.{common_steps}
use Rattle.gl_calculus.specs.Grid.Grid.{Addr}
use Rattle.gl_calculus.specs.Formulas.Formula.{content}
use Rattle.gl_calculus.specs.Edits.Sheets.{with_contents}
use Rattle.laws_calculus.proofs.SheetEdits.SheetChanges.{sets_these}
use Rattle.gl_ast.specs.View.{version_tree}
use Rattle.gl_cells.proofs.TableLemmas.{length_sheet}
use Rattle.gl_cells.specs.declared.content.Content.{Content}
use Rattle.gl_cells.specs.Sheet.{sheet}
use Rattle.gl_calc.specs.Places.{ArePlaces}
use Rattle.gl_calc.proofs.Calcs.{edited, sets_length}
use Rattle.gl_calc.proofs.Marks.{places_length}
use Rattle.gl_calc.proofs.calc.Calc.put_all.Goals as goal

pub invariant_of-self-in-Ok-put_all : goal.invariant_of-self-in-Ok-put_all
invariant_of-self-in-Ok-put_all c =
    let S = sheet c.self.inside.cells in
    let xs = sheet c.args.list.items in
    let goal = c.in-Ok-put_all.ensures.0 in
    let longer = ap length goal in
    let most = sets_length S xs in
    let many = length_sheet c.args.list.items in
    let given = c.deref-in-Ok-put_all.ensures.value in
    let listed = given ∙ c.in-Ok-places_of.ensures ∙ ap (λ l. map (λ e. e.0) (sheet l)) c.deref.ensures.value in
    let marked = ap length listed in
    let places = places_length xs in (
      edited S (sheet c.put_all.new.self) c.self.inside.held c.self.inside.tables.items (version_tree c.self.inside.version) c.self.inside.touched c.mark_all.new.touched c.self.inside.ended (map (λ e. e.0) xs) c.self.invariant.0
          (c.mark_all.ensures.items ∙ ap (λ ys. ys ++ c.deref-in-Ok-put_all.result.now) c.reserve.ensures.items ∙ ap (λ ys. c.self.inside.touched.items ++ ys) listed)
          (λ b f. subst (λ T. content T b ≡ content S b) (sym goal) (sets_these S xs b f))
          (omega (arith, longer, most, many, marked, places, c.mark_all.ensures.len, c.mark_all.ensures.capacity, c.reserve.ensures.len, c.in-Ok.ensures.ok, c.contents.ensures.count, c.len.ensures, c.len-2.ensures, c.args.list.ok.0)),
      subst (λ T. ArePlaces T c.places_with_all-known.result) (sym goal)
          (subst (λ (l : List (Addr × Content)). ArePlaces (with_contents S (sheet l)) c.places_with_all-known.result) c.deref-2.ensures.value
          (c.places_with_all-known.ensures S c.contents.ensures.ordered
          (c.while_few-known.ensures S (subst (ArePlaces S) (sym c.take.ensures.value) c.self.invariant.1)))),
    )

pub mark_all-requires : goal.mark_all-requires
mark_all-requires c = grind (arith, common_steps)
