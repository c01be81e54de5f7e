use Rattle.std.proofs.Common.{sym, ◌∙◌}
use Rattle.gl_cells.specs.Sheet.{sheet}
use Rattle.gl_flow.proofs.Unknown.{seek_start, seek_on, seek_found, seek_done}
use Rattle.gl_flow.proofs.unknowns.first_unknown.Goals as goal

pub loop-a-init : goal.loop-a-init
loop-a-init c = seek_start (sheet c.args.cells.now) c.args.places.now

pub loop-a-preserved : goal.loop-a-preserved
loop-a-preserved c = seek_on (sheet c.args.cells.now) c.args.places.now c.loop-a.a-index c.a-item.result c.loop-a-test.true c.a-item.is (sym c.uses_sheets.ensures ∙ c.if-uses_sheets.false) c.loop-a.invariant

pub returns-then-uses_sheets-clause-some : goal.returns-then-uses_sheets-clause-some
returns-then-uses_sheets-clause-some c = seek_found (sheet c.args.cells.now) c.args.places.now c.loop-a.a-index c.a-item.result c.loop-a-test.true c.a-item.is (sym c.uses_sheets.ensures ∙ c.if-uses_sheets.true) c.loop-a.invariant

pub returns-clause-none : goal.returns-clause-none
returns-clause-none c = seek_done (sheet c.args.cells.now) c.args.places.now c.loop-a.a-index c.loop-a-test.false c.loop-a.invariant
