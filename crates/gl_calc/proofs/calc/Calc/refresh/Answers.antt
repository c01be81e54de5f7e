use Rattle.std.proofs.Common.{◌≡◌, [], List, Vec, Global, OnErr, Some, if◌then◌else◌, sym, ap, subst, ◌∙◌, arith}
use Rattle.gl_calculus.specs.Calculation.Memory as M
use Rattle.gl_calculus.specs.Calculation.Memory.{Table, AreTables, tables_for}
use Rattle.gl_ast.specs.View.{version_tree}
use Rattle.gl_cells.specs.Sheet.{sheet}
use Rattle.gl_calc.specs.View.{View, sheet_of, memory_of}
use Rattle.gl_calc.specs.Answers.{Answers, Takes}
use Rattle.gl_calc.specs.Kept.{AreEarlier}
use Rattle.gl_calc.specs.Held.{answer_of, Parts, held_by, IsCalc}
use Rattle.gl_calc.specs.Places.{ArePlaces}
use Rattle.gl_calc.proofs.Calcs.{standing_answers, standing_takes, standing_tables, tables_passed, passed_earlier, emptied, on_err, left_answers, left_calc}
use Rattle.gl_calc.proofs.calc.Calc.refresh.Goals as goal

pub returns-in-Some-clause-answer : goal.returns-in-Some-clause-answer
returns-in-Some-clause-answer g c =
    let S = sheet c.self.inside.cells in
    let held = c.self.inside.held in
    let tables = c.self.inside.tables.items in
    let version = version_tree c.self.inside.version in
    let marks = c.self.inside.touched in
    let ended = c.self.inside.ended in
    let V = version_tree c.args.version in
    let same = c.same_version-is_same in
    let x = c.in-Some.answer in
    subst (λ (v : View). Answers V (sheet_of v) x v.held v.held) c.self.view_is
    (standing_answers S held tables version marks ended c.self.invariant.0 V x same.result same.ensures (sym c.in-Some.is ∙ c.standing.ensures))

pub returns-in-Some-clause-tables : goal.returns-in-Some-clause-tables
returns-in-Some-clause-tables g c =
    let S = sheet c.self.inside.cells in
    let held = c.self.inside.held in
    let tables = c.self.inside.tables.items in
    let version = version_tree c.self.inside.version in
    let marks = c.self.inside.touched in
    let ended = c.self.inside.ended in
    let V = version_tree c.args.version in
    let same = c.same_version-is_same in
    let x = c.in-Some.answer in
    subst (λ (v : View). AreTables V (sheet_of v) v.tables) c.self.view_is
    (standing_tables S held tables version marks ended c.self.invariant.0 V x same.result same.ensures (sym c.in-Some.is ∙ c.standing.ensures))

pub returns-in-Some-clause-steps : goal.returns-in-Some-clause-steps
returns-in-Some-clause-steps g c =
    let S = sheet c.self.inside.cells in
    let held = c.self.inside.held in
    let tables = c.self.inside.tables.items in
    let version = version_tree c.self.inside.version in
    let marks = c.self.inside.touched in
    let ended = c.self.inside.ended in
    let V = version_tree c.args.version in
    let same = c.same_version-is_same in
    let x = c.in-Some.answer in
    let n = c.args.steps.now in
    subst (λ (v : View). Takes V (sheet_of v) (tables_for V (memory_of v)) v.touched x n n) c.self.view_is
    (standing_takes S held tables version marks ended c.self.invariant.0 V x same.result same.ensures (sym c.in-Some.is ∙ c.standing.ensures) n)

pub invariant_of-self : goal.invariant_of-self
invariant_of-self g c =
    let S = sheet c.self.inside.cells in
    let held = c.self.inside.held in
    let tables = c.self.inside.tables.items in
    let version = version_tree c.self.inside.version in
    let marks = c.self.inside.touched in
    let ended = c.self.inside.ended in
    let V = version_tree c.args.version in
    let same = c.same_version-is_same in
    let parts = subst (λ h. Parts tables h c.parted.new.tables.items c.parted.result) c.take-held.ensures.value c.parted.ensures in
    let none = subst (λ (v : Vec Table Global). v.items ≡ []) (sym c.replace-tables.ensures.after) c.new.ensures.items in (
      emptied S held tables version marks ended c.self.invariant.0 c.parted.new.tables.items c.replace-tables.new.dest.items c.parted.result none parts,
      subst (ArePlaces S) (sym c.take-places.ensures.after) tt,
    )

pub returns-in_err-places-clause-err : goal.returns-in_err-places-clause-err
returns-in_err-places-clause-err g c =
    let S = sheet c.self.inside.cells in
    let held = c.self.inside.held in
    let tables = c.self.inside.tables.items in
    let version = version_tree c.self.inside.version in
    let marks = c.self.inside.touched in
    let ended = c.self.inside.ended in
    let V = version_tree c.args.version in
    let same = c.same_version-is_same in
    let parts = subst (λ h. Parts tables h c.parted.new.tables.items c.parted.result) c.take-held.ensures.value c.parted.ensures in
    let none = subst (λ (v : Vec Table Global). v.items ≡ []) (sym c.replace-tables.ensures.after) c.new.ensures.items in
    subst (λ (v : View). OnErr c.from_residual.result (answer_of c.replace-tables.new.dest.items c.parted.result ≡ v.held)) c.self.view_is
    (on_err c.from_residual.result (answer_of c.replace-tables.new.dest.items c.parted.result ≡ answer_of tables held) (parts.answer S c.replace-tables.new.dest.items c.self.invariant.0.answer))

pub invariant_of-self-in_err-ended : goal.invariant_of-self-in_err-ended
invariant_of-self-in_err-ended g c =
    let S = sheet c.self.inside.cells in
    let held = c.self.inside.held in
    let tables = c.self.inside.tables.items in
    let version = version_tree c.self.inside.version in
    let marks = c.self.inside.touched in
    let ended = c.self.inside.ended in
    let V = version_tree c.args.version in
    let same = c.same_version-is_same in
    let parts = subst (λ h. Parts tables h c.parted.new.tables.items c.parted.result) c.take-held.ensures.value c.parted.ensures in
    let none = subst (λ (v : Vec Table Global). v.items ≡ []) (sym c.replace-tables.ensures.after) c.new.ensures.items in (
      emptied S held tables version marks ended c.self.invariant.0 c.parted.new.tables.items c.replace-tables.new.dest.items c.parted.result none parts,
      subst (ArePlaces S) (sym c.take-places.ensures.after) tt,
    )

pub returns-in_err-ended-clause-err : goal.returns-in_err-ended-clause-err
returns-in_err-ended-clause-err g c =
    let S = sheet c.self.inside.cells in
    let held = c.self.inside.held in
    let tables = c.self.inside.tables.items in
    let version = version_tree c.self.inside.version in
    let marks = c.self.inside.touched in
    let ended = c.self.inside.ended in
    let V = version_tree c.args.version in
    let same = c.same_version-is_same in
    let parts = subst (λ h. Parts tables h c.parted.new.tables.items c.parted.result) c.take-held.ensures.value c.parted.ensures in
    let none = subst (λ (v : Vec Table Global). v.items ≡ []) (sym c.replace-tables.ensures.after) c.new.ensures.items in
    subst (λ (v : View). OnErr c.from_residual-in_err-ended.result (answer_of c.replace-tables.new.dest.items c.parted.result ≡ v.held)) c.self.view_is
    (on_err c.from_residual-in_err-ended.result (answer_of c.replace-tables.new.dest.items c.parted.result ≡ answer_of tables held) (parts.answer S c.replace-tables.new.dest.items c.self.invariant.0.answer))

pub invariant_of-self-2 : goal.invariant_of-self-2
invariant_of-self-2 g c =
    let S = sheet c.self.inside.cells in
    let held = c.self.inside.held in
    let tables = c.self.inside.tables.items in
    let version = version_tree c.self.inside.version in
    let marks = c.self.inside.touched in
    let ended = c.self.inside.ended in
    let V = version_tree c.args.version in
    let same = c.same_version-is_same in
    let parts = subst (λ h. Parts tables h c.parted.new.tables.items c.parted.result) c.take-held.ensures.value c.parted.ensures in
    let x = c.in_ok-ended.ended in
    let n = c.args.steps.now in
    let m = c.calculate.new.steps in
    let before = c.earlier_tables-tables.result.items in
    let since = c.deref-2.result.now in
    let sheet_is = c.in_ok-ended.ensures.ordered in
    let ends = c.in_ok-ended.ensures.ends in
    let held_is : c.held_after-held.result.0 ≡ held_by x.answer c.args.version x.beyond c.parted.result = c.held_after-held.ensures.held ∙ ap (held_by x.answer c.args.version x.beyond) c.take-held-2.ensures.value in
    let tables_are : c.held_after-held.result.1.items ≡ x.tables.items = c.held_after-held.ensures.tables in
    let room = c.self.invariant.0.room in (
      subst (λ y. IsCalc S c.held_after-held.result.0 c.held_after-held.result.1.items V c.clear.new.self (Some y)) (sym c.answer.ensures)
          (subst (λ ts. IsCalc S c.held_after-held.result.0 ts V c.clear.new.self (Some x.answer)) (sym tables_are)
          (subst (λ h. IsCalc S h x.tables.items V c.clear.new.self (Some x.answer)) (sym held_is)
          (left_calc c.args.version S before since x n m sheet_is ends c.parted.result c.clear.new.self c.clear.ensures.items (omega (arith, room, c.clear.ensures.len, c.clear.ensures.capacity))
          (parts.kept S x.tables.items c.self.invariant.0.answer) (parts.has_own S c.self.invariant.0.answer)))),
      c.in_ok-places.ensures,
    )

pub returns-clause-answer : goal.returns-clause-answer
returns-clause-answer g c =
    let S = sheet c.self.inside.cells in
    let held = c.self.inside.held in
    let tables = c.self.inside.tables.items in
    let version = version_tree c.self.inside.version in
    let marks = c.self.inside.touched in
    let ended = c.self.inside.ended in
    let V = version_tree c.args.version in
    let same = c.same_version-is_same in
    let parts = subst (λ h. Parts tables h c.parted.new.tables.items c.parted.result) c.take-held.ensures.value c.parted.ensures in
    let x = c.in_ok-ended.ended in
    let n = c.args.steps.now in
    let m = c.calculate.new.steps in
    let before = c.earlier_tables-tables.result.items in
    let since = c.deref-2.result.now in
    let sheet_is = c.in_ok-ended.ensures.ordered in
    let ends = c.in_ok-ended.ensures.ends in
    let held_is : c.held_after-held.result.0 ≡ held_by x.answer c.args.version x.beyond c.parted.result = c.held_after-held.ensures.held ∙ ap (held_by x.answer c.args.version x.beyond) c.take-held-2.ensures.value in
    let tables_are : c.held_after-held.result.1.items ≡ x.tables.items = c.held_after-held.ensures.tables in
    subst (λ (v : View). Answers V (sheet_of v) c.answer-answer.result v.held (answer_of c.held_after-held.result.1.items c.held_after-held.result.0)) c.self.view_is
    (subst (λ y. Answers V S y (answer_of tables held) (answer_of c.held_after-held.result.1.items c.held_after-held.result.0)) (sym c.answer-answer.ensures)
    (subst (λ ts. Answers V S x.answer (answer_of tables held) (answer_of ts c.held_after-held.result.0)) (sym tables_are)
    (subst (λ h. Answers V S x.answer (answer_of tables held) (answer_of x.tables.items h)) (sym held_is)
    (left_answers c.args.version S before since x n m sheet_is ends c.parted.result (answer_of tables held) (parts.answer S x.tables.items c.self.invariant.0.answer)))))

pub returns-clause-steps : goal.returns-clause-steps
returns-clause-steps g c =
    let S = sheet c.self.inside.cells in
    let held = c.self.inside.held in
    let tables = c.self.inside.tables.items in
    let version = version_tree c.self.inside.version in
    let marks = c.self.inside.touched in
    let ended = c.self.inside.ended in
    let V = version_tree c.args.version in
    let same = c.same_version-is_same in
    let parts = subst (λ h. Parts tables h c.parted.new.tables.items c.parted.result) c.take-held.ensures.value c.parted.ensures in
    let x = c.in_ok-ended.ended in
    let n = c.args.steps.now in
    let m = c.calculate.new.steps in
    let before = c.earlier_tables-tables.result.items in
    let since = c.deref-2.result.now in
    let sheet_is = c.in_ok-ended.ensures.ordered in
    let ends = c.in_ok-ended.ensures.ends in
    let held_is : c.held_after-held.result.0 ≡ held_by x.answer c.args.version x.beyond c.parted.result = c.held_after-held.ensures.held ∙ ap (held_by x.answer c.args.version x.beyond) c.take-held-2.ensures.value in
    let tables_are : c.held_after-held.result.1.items ≡ x.tables.items = c.held_after-held.ensures.tables in
    let passed = c.earlier_tables-tables.ensures ∙ ap (λ (v : Vec Table Global). if same.result then v.items else []) c.replace-tables.ensures.value
    ∙ tables_passed S held tables version marks ended c.self.invariant.0 V same.result same.ensures (sym c.standing.ensures ∙ c.in_default.is) c.parted.new.tables.items parts.same in
    subst (λ (v : View). Takes V (sheet_of v) (tables_for V (memory_of v)) v.touched c.answer-answer.result n m) c.self.view_is
    (subst (λ y. Takes V S (if M.same_version V version then tables else []) marks.items y n m) (sym c.answer-answer.ensures)
    (subst (λ ts. Takes V S ts marks.items x.answer n m) passed (subst (λ ts. Takes V S before ts x.answer n m) c.deref-2.ensures.value ends.takes)))

pub calculate-requires-clause-earlier : goal.calculate-requires-clause-earlier
calculate-requires-clause-earlier g c =
    let S = sheet c.self.inside.cells in
    let held = c.self.inside.held in
    let tables = c.self.inside.tables.items in
    let version = version_tree c.self.inside.version in
    let marks = c.self.inside.touched in
    let ended = c.self.inside.ended in
    let V = version_tree c.args.version in
    let same = c.same_version-is_same in
    let parts = subst (λ h. Parts tables h c.parted.new.tables.items c.parted.result) c.take-held.ensures.value c.parted.ensures in
    let passed = c.earlier_tables-tables.ensures ∙ ap (λ (v : Vec Table Global). if same.result then v.items else []) c.replace-tables.ensures.value in
    subst (λ (ts : List Table). AreEarlier V S ts c.deref-2.result.now) (sym passed)
    (subst (λ ms. AreEarlier V S (if same.result then c.parted.new.tables.items else []) ms) (sym c.deref-2.ensures.value)
    (passed_earlier S held tables version marks ended c.self.invariant.0 V same.result same.ensures (sym c.standing.ensures ∙ c.in_default.is) c.parted.new.tables.items parts.same))
