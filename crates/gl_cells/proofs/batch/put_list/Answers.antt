use Rattle.std.proofs.Common.{◌≡◌, ◌∙◌, Err, ap, subst, sym, arith}
use Rattle.gl_calculus.specs.Edits.Sheets.{with_contents}
use Rattle.gl_cells.specs.declared.fault.PutFault.{PutFault}
use Rattle.gl_cells.specs.Sheet.{sheet, undo_all, Answers}
use Rattle.gl_cells.proofs.TableLemmas.{put_each_sheet, forms_of_goal, size_of_goal}
use Rattle.gl_cells.proofs.batch.put_list.Goals as goal
use Rattle.gl_cells.proofs.batch.put_list.Goals.{in-Err, in-Ok-put_each_in+then-forms-gt-MAX_FORMULAS, in-Ok-put_each_in+else-forms-gt-MAX_FORMULAS+then-len-gt-MAX_CONTENTS}

pub returns-else-len-gt-MAX_CONTENTS-clause-answers : goal.returns-else-len-gt-MAX_CONTENTS-clause-answers
returns-else-len-gt-MAX_CONTENTS-clause-answers c =
    let done = ap sheet c.in-Ok-put_each_in.ensures.ok ∙ put_each_sheet c.args.list.items c.args.map.now in
    let forms = forms_of_goal c.put_each_in.new.map c.put_each_in.new.forms _ c.put_each_in.ensures.table done in
    let size = size_of_goal c.put_each_in.new.map _ done in
    (done, omega (arith, forms, c.if-forms-gt-MAX_FORMULAS.false), omega (arith, size, c.if-len-gt-MAX_CONTENTS.false, c.len-else-forms-gt-MAX_FORMULAS.ensures.len))

pub returns-clause-answers : goal.returns-clause-answers
returns-clause-answers c =
    let es = c.args.map.now in
    let old = sheet es in
    let aim = with_contents old (sheet c.args.list.items) in
    let new = sheet c.roll_back.new.map in
    let table = c.put_each_in.ensures.table in
    let same : new ≡ old = ap sheet (c.roll_back.ensures.back ∙ c.put_each_in.ensures.back ∙ ap (λ us. undo_all us es) c.in-Ok.ensures.items) in
    elim c.match-put_each_in.branch [
      | in-Err w ↦ subst (λ (f : PutFault). Answers (Err f) old aim new) (sym w.fault-is) same
      | in-Ok-put_each_in+then-forms-gt-MAX_FORMULAS w ↦
          let done = ap sheet w.in-Ok-put_each_in.ensures.ok ∙ put_each_sheet c.args.list.items es in
          let forms = forms_of_goal c.put_each_in.new.map c.put_each_in.new.forms aim table done in
          subst (λ (f : PutFault). Answers (Err f) old aim new) (sym w.fault-is) (same, omega (arith, forms, w.if-forms-gt-MAX_FORMULAS.true))
      | in-Ok-put_each_in+else-forms-gt-MAX_FORMULAS+then-len-gt-MAX_CONTENTS w ↦
          let done = ap sheet w.in-Ok-put_each_in.ensures.ok ∙ put_each_sheet c.args.list.items es in
          let forms = forms_of_goal c.put_each_in.new.map c.put_each_in.new.forms aim table done in
          let size = size_of_goal c.put_each_in.new.map aim done in
          subst (λ (f : PutFault). Answers (Err f) old aim new) (sym w.fault-is)
          (same, omega (arith, forms, w.if-forms-gt-MAX_FORMULAS.false), omega (arith, size, w.if-len-gt-MAX_CONTENTS.true, w.len-else-forms-gt-MAX_FORMULAS.ensures.len))
    ]
