use Rattle.std.proofs.Common.{refl, sym, subst}
use Rattle.std.proofs.lemmas.Result.{IfOk-weaker, IfErr-weaker}
use Rattle.gl_calculus.specs.Grid.Grid.{AreInOrder}
use Rattle.gl_calculus.specs.Evaluation.World.{world}
use Rattle.gl_ast.specs.View.{version_tree}
use Rattle.gl_cells.specs.Sheet.{sheet}
use Rattle.gl_calc.specs.Progress.{next_base}
use Rattle.gl_calc.proofs.Formulas.{formulas_in_order}
use Rattle.gl_calc.proofs.Called.{base_apart, kept_true, set_again, after_ready, called, stopped, stopped_fails}
use Rattle.gl_calc.proofs.round.TopRoundRound.sizes.Goals as goal

pub begun-requires-clause-apart : goal.begun-requires-clause-apart
begun-requires-clause-apart g c = λ t.
    let s = c.args.self.now in
    base_apart (version_tree s.version) (sheet s.cells.now) s.touched.now s.tables c.requires.can.1.ready t

pub evaluated-requires-clause-true_notes : goal.evaluated-requires-clause-true_notes
evaluated-requires-clause-true_notes g c =
    let s = c.args.self.now in
    kept_true (version_tree s.version) (sheet s.cells.now) s.touched.now s.tables c.requires.can.1.ready c.args.w.now c.in-Ok.results (c.in-Ok.ensures.kept s.touched.now c.requires.can.1.covered)

pub finished-requires-clause-placed : goal.finished-requires-clause-placed
finished-requires-clause-placed g c = subst AreInOrder (sym c.requires.can.1.all) (formulas_in_order (sheet c.args.self.now.cells.now) c.requires.can.1.ordered)

pub returns-in-Ok-evaluated-clause-can_again : goal.returns-in-Ok-evaluated-clause-can_again
returns-in-Ok-evaluated-clause-can_again g c =
    let s = c.args.self.now in
    let V = version_tree s.version in
    let S = sheet s.cells.now in (
      c.requires.can.0,
      set_again V S s.places.now s.touched.now s.ranges.now s.tables c.finished.new.tables c.requires.can.1
          (after_ready V S s.touched.now s.tables c.begun.new.tables c.finished.new.tables c.args.w.now c.requires.under c.requires.can.1.ready c.in-Ok.ensures.taken (c.finished.ensures.kept V S c.in-Ok-evaluated.ensures.evaluated)),
    )

pub returns-in-Ok-evaluated-clause-called : goal.returns-in-Ok-evaluated-clause-called
returns-in-Ok-evaluated-clause-called g c =
    let s = c.args.self.now in
    let V = version_tree s.version in
    let S = sheet s.cells.now in
    let e = c.in-Ok-evaluated.ensures.evaluated in
    let kept = c.in-Ok.ensures.kept s.touched.now c.requires.can.1.covered in (
      refl,
      refl,
      refl,
      called V S s.touched.now s.tables c.begun.new.tables c.finished.new.tables c.args.w.now c.args.steps.now c.evaluated.new.steps c.in-Ok.ensures.taken s.places.now c.in-Ok-evaluated.quiet c.finished.result
          (λ i. c.in-Ok-evaluated.ensures.steps (next_base s.tables s.touched.now) i kept) (c.finished.ensures.kept V S e) e c.requires.can.1.all c.finished.ensures.work,
    )

pub returns-in-Err-evaluated-clause-failed : goal.returns-in-Err-evaluated-clause-failed
returns-in-Err-evaluated-clause-failed g c =
    let s = c.args.self.now in
    let b = next_base s.tables s.touched.now in
    stopped_fails (world (version_tree s.version) (sheet s.cells.now) c.args.w.now) b c.in-Err-evaluated.fault c.args.steps.now c.evaluated.new.steps
    (c.in-Err-evaluated.ensures.stops b (c.in-Ok.ensures.kept s.touched.now c.requires.can.1.covered))

pub returns-in-Err-evaluated-clause-called : goal.returns-in-Err-evaluated-clause-called
returns-in-Err-evaluated-clause-called g c =
    let s = c.args.self.now in
    let b = next_base s.tables s.touched.now in (
      refl,
      refl,
      refl,
      stopped (version_tree s.version) (sheet s.cells.now) s.touched.now s.tables c.begun.new.tables c.begun.new.tables c.args.w.now c.args.steps.now c.evaluated.new.steps c.in-Ok.ensures.taken c.in-Err-evaluated.fault
          (c.in-Err-evaluated.ensures.stops b (c.in-Ok.ensures.kept s.touched.now c.requires.can.1.covered)),
    )

pub returns-in-Ok-evaluated-clause-given : goal.returns-in-Ok-evaluated-clause-given
returns-in-Ok-evaluated-clause-given g c =
    let s = c.args.self.now in
    let V = version_tree s.version in
    let S = sheet s.cells.now in
    IfOk-weaker c.finished.result _ _ (λ zs h. h V S c.in-Ok-evaluated.ensures.evaluated c.requires.can.1.all) c.finished.ensures.given

pub returns-in-Ok-evaluated-clause-failed : goal.returns-in-Ok-evaluated-clause-failed
returns-in-Ok-evaluated-clause-failed g c =
    let s = c.args.self.now in
    let V = version_tree s.version in
    let S = sheet s.cells.now in
    IfErr-weaker c.finished.result _ _ (λ e h. h V S c.in-Ok-evaluated.ensures.evaluated c.requires.can.1.all) c.finished.ensures.failed
