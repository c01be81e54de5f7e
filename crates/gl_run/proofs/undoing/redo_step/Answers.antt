use Rattle.std.proofs.Common.{ap, subst, option_map}
use Rattle.gl_calculus.specs.Edits.Replicas.{Changes}
use Rattle.gl_calculus.specs.Edits.Steps.{afters}
use Rattle.gl_calc.specs.View.{sheet_of}
use Rattle.gl_merge.specs.Replica.{replica_tree}
use Rattle.gl_undo.specs.View.{changes_tree}
use Rattle.gl_undo.specs.History.{history_tree, undone}
use Rattle.gl_run.specs.Changed.{Marks}
use Rattle.gl_run.specs.Script.{script_of}
use Rattle.gl_protocol.specs.Run.Touched.{touched_by_all, latest_changes}
use Rattle.gl_run.proofs.Spending.{touches_marks}
use Rattle.gl_run.proofs.Stepping.{redo_done}
use Rattle.gl_run.proofs.undoing.redo_step.Goals as goal

pub returns-in-Ok : goal.returns-in-Ok
returns-in-Ok c =
    let x = c.args.script.now in
    let S = sheet_of x.calc in
    let z = record x { calc = c.restore.new.calc; history = c.moved_forward.new.self } in
    let reply = c.in_ok-reply.reply.items in
    let marks : Marks (touched_by_all S (latest_changes afters (undone x.history))) x.calc z.calc = subst (λ (cs : Changes). Marks (touched_by_all S cs) x.calc z.calc) c.requires.changes c.in-Ok.ensures.marks in
    record {
      does = redo_done (script_of x) (sheet_of c.restore.new.calc) (history_tree c.moved_forward.new.self) (changes_tree c.args.list.items) c.in_ok-reply.reply.items (ap (option_map replica_tree) c.requires.alone) c.requires.changes c.in-Ok.ensures.sheet c.moved_forward.ensures c.in_ok-reply.ensures;
      touches = touches_marks x z (touched_by_all S (latest_changes afters (undone x.history))) reply c.in_ok-reply.ensures marks;
      err = tt;
    }
