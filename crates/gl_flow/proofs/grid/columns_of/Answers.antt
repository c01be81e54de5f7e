use Rattle.std.proofs.Common.{arith}
use Rattle.gl_flow.proofs.Griding.{columns_start, columns_on, columns_done}
use Rattle.gl_flow.proofs.grid.columns_of.Goals as goal

pub loop-column-init : goal.loop-column-init
loop-column-init c = columns_start c.args.areas.now c.args.rows c.new-columns.result.items c.new-columns.ensures.items

pub loop-column-preserved : goal.loop-column-preserved
loop-column-preserved c =
    columns_on c.args.areas.now c.args.rows c.loop-column.column c.loop-column.columns.items c.push.new.self.items c.in_ok-numbers.numbers c.in_ok-push.ensures.items c.in_ok-numbers.ensures c.loop-column.invariant

pub returns : goal.returns
returns c = columns_done c.args.areas.now c.args.rows c.loop-column.column c.loop-column.columns.items (omega (arith, c.loop-column-test.false, c.loop-column.auto.column-end)) c.loop-column.invariant
