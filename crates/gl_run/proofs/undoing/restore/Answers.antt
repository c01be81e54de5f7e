use Rattle.std.proofs.Common.{◌≡◌, ◌∙◌, ◌++◌, List, map, ap, subst}
use Rattle.gl_calculus.specs.Grid.Grid.{Addr}
use Rattle.gl_calculus.specs.Formulas.Formula.{Cells, Content, IsSheet}
use Rattle.gl_calculus.specs.Edits.Sheets.{with_contents}
use Rattle.gl_calc.specs.View.{sheet_of}
use Rattle.gl_undo.specs.View.{changes_tree}
use Rattle.gl_run.specs.Changed.{Marks}
use Rattle.gl_calculus.specs.Edits.Sheets.{coming}
use Rattle.gl_protocol.specs.Run.Touched.{going, cleared, without_these}
use Rattle.gl_run.proofs.Listed.{apart_tree}
use Rattle.gl_run.proofs.Stepping.{restored_sheet, restored_marks}
use Rattle.gl_run.proofs.undoing.restore.Goals as goal

pub returns-in-Ok-clause-sheet : goal.returns-in-Ok-clause-sheet
returns-in-Ok-clause-sheet c =
    let old = c.args.calc.now in
    let mid = c.put_all.new.self in
    let new = c.remove_all.new.calc in
    let vs = c.args.list.items in
    let cs = changes_tree vs in
    let o : IsSheet (sheet_of old) = subst IsSheet c.cells.ensures c.is_ordered.ensures in
    let put : sheet_of mid ≡ with_contents (sheet_of old) (coming cs) = c.in-Ok.ensures.sheet.0 ∙ ap (with_contents (sheet_of old)) c.in_ok-coming.ensures.coming in
    let gone : sheet_of new ≡ without_these (sheet_of mid) (going cs) = c.remove_all.ensures.sheet ∙ ap (without_these (sheet_of mid)) (c.deref.ensures.value ∙ c.in_ok-coming.ensures.going) in
    restored_sheet cs old mid new o (apart_tree vs c.requires.apart) put gone

pub returns-in-Ok-clause-marks : goal.returns-in-Ok-clause-marks
returns-in-Ok-clause-marks c =
    let old = c.args.calc.now in
    let mid = c.put_all.new.self in
    let new = c.remove_all.new.calc in
    let vs = c.args.list.items in
    let cs = changes_tree vs in
    let h = c.in-Ok.ensures in
    let o : IsSheet (sheet_of old) = subst IsSheet c.cells.ensures c.is_ordered.ensures in
    let put : sheet_of mid ≡ with_contents (sheet_of old) (coming cs) = h.sheet.0 ∙ ap (with_contents (sheet_of old)) c.in_ok-coming.ensures.coming in
    let these = c.deref.ensures.value ∙ c.in_ok-coming.ensures.going in
    let gone : sheet_of new ≡ without_these (sheet_of mid) (going cs) = c.remove_all.ensures.sheet ∙ ap (without_these (sheet_of mid)) these in
    let marks : Marks (cleared (sheet_of mid) (going cs)) mid new = subst (λ (ps : List Addr). Marks (cleared (sheet_of mid) ps) mid new) these c.remove_all.ensures.marks in
    restored_marks cs old mid new o (apart_tree vs c.requires.apart) put gone h.tables h.version
    (h.touched ∙ ap (λ (S : Cells). old.touched ++ map (λ (c : Addr × Content). c.0) S) c.in_ok-coming.ensures.coming) marks
