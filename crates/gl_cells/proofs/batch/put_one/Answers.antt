use Rattle.std.proofs.Common.{◌≡◌, ◌∙◌, Err, ap, subst, sym, arith}
use Rattle.gl_calculus.specs.Edits.Sheets.{with_content}
use Rattle.gl_cells.specs.declared.fault.PutFault.{PutFault}
use Rattle.gl_cells.specs.Content.{content_tree}
use Rattle.gl_cells.specs.Sheet.{sheet, restored, HasPlace, Answers}
use Rattle.gl_cells.proofs.Steps.{has_place, restored-insert}
use Rattle.gl_cells.proofs.TableLemmas.{put_sheet, forms_of_goal, size_of_goal}
use Rattle.gl_cells.proofs.batch.put_one.Goals as goal
use Rattle.gl_cells.proofs.batch.put_one.Goals.{then-forms-gt-MAX_FORMULAS, else-forms-gt-MAX_FORMULAS+then-len-gt-MAX_CONTENTS}

pub returns-else-len-gt-MAX_CONTENTS-clause-answers : goal.returns-else-len-gt-MAX_CONTENTS-clause-answers
returns-else-len-gt-MAX_CONTENTS-clause-answers c =
    let done = ap sheet c.in-Ok.ensures.ok ∙ put_sheet c.args.map.now c.args.a c.args.c in
    let forms = forms_of_goal c.put_in.new.map c.put_in.new.forms _ c.put_in.ensures.table done in
    let size = size_of_goal c.put_in.new.map _ done in
    (done, omega (arith, forms, c.if-forms-gt-MAX_FORMULAS.false), omega (arith, size, c.if-len-gt-MAX_CONTENTS.false, c.len.ensures.len))

pub restore-requires-clause-place : goal.restore-requires-clause-place
restore-requires-clause-place c =
    subst (HasPlace (c.args.a, c.in-Ok.was)) (sym c.in-Ok.ensures.ok) (has_place c.args.map.now c.args.a c.args.c c.in-Ok.was c.in-Ok.ensures.was.1)

pub returns-clause-answers : goal.returns-clause-answers
returns-clause-answers c =
    let es = c.args.map.now in
    let old = sheet es in
    let aim = with_content old c.args.a (content_tree c.args.c) in
    let new = sheet c.restore.new.map in
    let done = ap sheet c.in-Ok.ensures.ok ∙ put_sheet es c.args.a c.args.c in
    let forms = forms_of_goal c.put_in.new.map c.put_in.new.forms aim c.put_in.ensures.table done in
    let size = size_of_goal c.put_in.new.map aim done in
    let same : new ≡ old = ap sheet (c.restore.ensures.restored ∙ ap (restored (c.args.a, c.in-Ok.was)) c.in-Ok.ensures.ok ∙ restored-insert es c.args.a c.args.c c.in-Ok.was c.requires.table.ordered c.in-Ok.ensures.was.0) in
    elim c.if-forms-gt-MAX_FORMULAS.branch [
      | then-forms-gt-MAX_FORMULAS w ↦ subst (λ (f : PutFault). Answers (Err f) old aim new) (sym w.fault-is) (same, omega (arith, forms, w.if-forms-gt-MAX_FORMULAS.true))
      | else-forms-gt-MAX_FORMULAS+then-len-gt-MAX_CONTENTS w ↦
          subst (λ (f : PutFault). Answers (Err f) old aim new) (sym w.fault-is)
          (same, omega (arith, forms, w.if-forms-gt-MAX_FORMULAS.false), omega (arith, size, w.if-len-gt-MAX_CONTENTS.true, w.len.ensures.len))
    ]
