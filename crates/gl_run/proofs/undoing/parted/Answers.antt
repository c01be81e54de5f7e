use Rattle.std.proofs.Common.{◌∙◌, ◌++◌, [], List, Option, option_map, sym, ap, subst, append_assoc, arith}
use Rattle.std.proofs.lemmas.Grind.{common_steps}
use Rattle.std.specs.Vec.Iter.{into_iter_items}
use Rattle.gl_calculus.specs.Grid.Grid.{Addr}
use Rattle.gl_calculus.specs.Formulas.Formula.{Cells}
use Rattle.gl_cells.specs.Content.{content_tree}
use Rattle.gl_cells.specs.declared.content.Content.{Content}
use Rattle.gl_cells.specs.Sheet.{sheet}
use Rattle.gl_undo.specs.View.{changes_tree, AreProperChanges}
use Rattle.gl_calculus.specs.Edits.Sheets.{and_content, coming}
use Rattle.gl_run.specs.Going.{and_address}
use Rattle.gl_protocol.specs.Run.Touched.{going}
use Rattle.gl_run.proofs.Restoring.{going_step}
use Rattle.gl_run.proofs.Stepping.{coming_first, going_first}
use Rattle.gl_run.proofs.undoing.parted.Goals as goal

pub loop-a-preserved : goal.loop-a-preserved
loop-a-preserved c =
    let inv = c.loop-a.invariant.1 in
    let e = c.in-Some.ensures.steps.0 in
    let rest = into_iter_items c.next.new.self in
    let a = c.in-Some.a in
    let o = option_map content_tree c.in-Some.content in
    let more = coming (changes_tree rest) in
    let left = going (changes_tree rest) in
    let old = sheet c.loop-a.coming.items in
    let gone = c.loop-a.going.items in (
      (tt, tt),
      record {
        comes =
            ap (λ (S : Cells). S ++ more) c.in-Ok.ensures.coming ∙ append_assoc old (and_content a o []) more ∙ ap (λ (S : Cells). old ++ S) (sym (coming_first a o more))
            ∙ ap (λ (vs : List (Addr × Option Content)). old ++ coming (changes_tree vs)) (sym e) ∙ inv.comes;
        goes =
            ap (λ (ps : List Addr). ps ++ left) c.in-Ok.ensures.going ∙ append_assoc gone (and_address a o []) left ∙ ap (λ (ps : List Addr). gone ++ ps) (sym (going_first a o left))
            ∙ ap (λ (ps : List Addr). gone ++ ps) (sym (going_step a o (changes_tree rest))) ∙ ap (λ (vs : List (Addr × Option Content)). gone ++ going (changes_tree vs)) (sym e) ∙ inv.goes;
        proper = c.in-Ok.ensures.proper;
        rest = (subst AreProperChanges e inv.rest).1;
      },
    )

pub returns-clause-coming : goal.returns-clause-coming
returns-clause-coming c = grind (arith, common_steps)

pub returns-clause-going : goal.returns-clause-going
returns-clause-going c = grind (arith, common_steps)
