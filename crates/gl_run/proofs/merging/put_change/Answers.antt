use Rattle.std.proofs.Common.{◌∙◌, ◌++◌, Option, Ok, None, option_map, sym, ap, subst}
use Rattle.gl_calculus.specs.Grid.Grid.{Range}
use Rattle.gl_calculus.specs.Formulas.Formula.{Cells}
use Rattle.gl_protocol.specs.Scripts.Commands.{Is}
use Rattle.gl_calculus.specs.Edits.Sheets.{with_content, without, places_in}
use Rattle.gl_protocol.specs.Scripts.Script.{allowed_change}
use Rattle.gl_cells.specs.Content.{content_tree}
use Rattle.gl_cells.specs.declared.content.Content.{Content}
use Rattle.gl_calc.specs.View.{sheet_of}
use Rattle.gl_run.specs.Changed.{Puts, Marks, marked_by}
use Rattle.gl_protocol.specs.Run.Touched.{touched_by_one}
use Rattle.gl_run.proofs.Editing.{puts_of, put_marks}
use Rattle.gl_run.proofs.merging.put_change.Goals as goal

pub returns-in-Some-clause-puts : goal.returns-in-Some-clause-puts
returns-in-Some-clause-puts c =
    let S = sheet_of c.args.calc.now in
    let T = sheet_of c.put.new.self in
    let puts = puts_of S (with_content S c.args.a (content_tree c.in-Some.c)) T c.put.result c.put.ensures.sheet in
    subst (λ (o : Option Content). Puts c.put.result (allowed_change S c.args.a (option_map content_tree o)) S T) (sym c.in-Some.is) puts

pub returns-in-Some-clause-marks : goal.returns-in-Some-clause-marks
returns-in-Some-clause-marks c =
    let S = sheet_of c.args.calc.now in
    let h = c.put.ensures in
    let marks = put_marks c.put.result c.args.a c.args.calc.now c.put.new.self h.tables h.version h.touched h.untouched in
    subst (λ (o : Option Content). Marks (marked_by c.put.result (touched_by_one S c.args.a (option_map content_tree o))) c.args.calc.now c.put.new.self) (sym c.in-Some.is) marks

pub returns-in-None-clause-puts : goal.returns-in-None-clause-puts
returns-in-None-clause-puts c =
    let S = sheet_of c.args.calc.now in
    let T = sheet_of c.clear.new.self in
    let done = ap (λ (Z : Cells). Is Z) (sym (c.clear.ensures.cleared ∙ ap (λ (r : Range). without S r) c.new.ensures)) in
    subst (λ (o : Option Content). Puts (Ok tt) (allowed_change S c.args.a (option_map content_tree o)) S T) (sym c.in-None.is) done

pub returns-in-None-clause-marks : goal.returns-in-None-clause-marks
returns-in-None-clause-marks c =
    let old = c.args.calc.now in
    let S = sheet_of old in
    let new = c.clear.new.self in
    let h = c.clear.ensures in
    let marks : Marks (touched_by_one S c.args.a None) old new = record { tables = h.tables; made_for = h.version; touched = h.touched ∙ ap (λ (r : Range). old.touched ++ places_in S r) c.new.ensures } in
    subst (λ (o : Option Content). Marks (touched_by_one S c.args.a (option_map content_tree o)) old new) (sym c.in-None.is) marks
