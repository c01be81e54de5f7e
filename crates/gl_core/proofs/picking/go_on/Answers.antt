use Rattle.std.proofs.Common.{rules, refl, length, ◌<◌, ◌∙◌, arith}
use Rattle.gl_demand.specs.View.{key_tree}
use Rattle.gl_demand.specs.Marks.{mark_trees}
use Rattle.gl_core.specs.Table.{waiters}
use Rattle.gl_core.proofs.Waited.{needs_listed}
use Rattle.gl_core.proofs.Cores.{the_key_at}
use Rattle.gl_core.proofs.Grown.{table_kept_grown, written_kept_grown, core_grown}
use Rattle.gl_core.proofs.Settling.{gone_core, gone_on}
use Rattle.gl_core.proofs.Turns.{if_on, table_err, core_after, any_err, on_err}
use Rattle.gl_core.proofs.Places.{if_ok}
use Rattle.gl_core.proofs.Turns.{any_ok}
use Rattle.gl_core.proofs.picking.go_on.Goals as goal

pub returns-in_err-n-clause-needs : goal.returns-in_err-n-clause-needs
returns-in_err-n-clause-needs c =
    let l = c.args.ledger.now in
    let e = c.args.entries.now in
    let n = c.number.ensures in
    let core = c.requires.place.core in
    record {
      state = search rules;
      answer = search rules;
      notes = written_kept_grown l c.number.new.self e core n.kept n.grows n.rows;
      err = any_err c.from_residual.result (table_kept_grown l c.number.new.self e core n.kept n.grows n.rows);
      core = core_grown l c.number.new.self e core n.kept n.grows n.rows;
      marks_err = any_err c.from_residual.result refl;
      marks_full = search rules;
      waits = search rules;
    }

pub returns-clause-needs : goal.returns-clause-needs
returns-clause-needs c =
    let l = c.args.ledger.now in
    let e = c.args.entries.now in
    let n = c.number.ensures in
    let r = c.need.result in
    let core = c.requires.place.core in
    let (k, ek) = the_key_at l e core c.args.p c.requires.place.there in
    record {
      state = if_on r c.need.ensures.needs (λ picked need k ek.
          (gone_on l e core c.number.new.self n.kept n.grows n.rows c.args.p c.in_ok-n.n (key_tree c.args.on) c.in_ok-n.ensures.number c.need.new.self c.need.ensures.table c.need.ensures.passed picked need k ek).0);
      answer = if_ok r c.need.ensures.needs (λ picked need.
          (gone_on l e core c.number.new.self n.kept n.grows n.rows c.args.p c.in_ok-n.n (key_tree c.args.on) c.in_ok-n.ensures.number c.need.new.self c.need.ensures.table c.need.ensures.passed picked need k ek).1);
      notes = written_kept_grown l c.number.new.self e core n.kept n.grows n.rows;
      err = on_err r (table_err c.number.new.self e c.need.new.self r c.need.ensures.known_err c.need.ensures.err) (λ d. d ∙ table_kept_grown l c.number.new.self e core n.kept n.grows n.rows);
      core = core_after c.number.new.self e c.need.new.self r (core_grown l c.number.new.self e core n.kept n.grows n.rows) c.need.ensures.table c.need.ensures.passed
          (if_ok r c.need.ensures.needs (λ picked need. gone_core l e core c.number.new.self n.kept n.grows n.rows c.args.p c.in_ok-n.n (key_tree c.args.on) c.in_ok-n.ensures.number c.need.new.self c.need.ensures.table c.need.ensures.passed c.requires.place.idle k ek picked need))
          c.need.ensures.known_err c.need.ensures.err;
      marks_err = c.need.ensures.marks_err;
      marks_full = c.need.ensures.marks_full;
      waits = if_ok r c.need.ensures.needs (λ picked need. needs_listed (waiters c.need.new.self.waited.items) e.known.items c.need.new.self.known.items e.statuses.items.items c.need.new.self.statuses.items.items (mark_trees c.need.new.self.marks.items) c.args.p c.in_ok-n.n picked
          (omega (arith, core.table.statuses, c.requires.place.there)) need c.need.ensures.table.waiters);
    }

pub returns-clause-marks : goal.returns-clause-marks
returns-clause-marks c = any_ok c.need.result c.need.ensures.marks
