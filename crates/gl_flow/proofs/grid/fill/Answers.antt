use Rattle.std.proofs.Common.{arith}
use Rattle.gl_cells.specs.Sheet.{sheet}
use Rattle.gl_flow.specs.Grid.{number_lists}
use Rattle.gl_flow.proofs.Griding.{columns_within, fill_start, fill_on}
use Rattle.gl_flow.proofs.grid.fill.Goals as goal

pub loop-k-init : goal.loop-k-init
loop-k-init c = fill_start (sheet c.args.cells.now) c.args.places.now c.args.areas.now c.args.rows (number_lists c.args.columns.now.items) c.requires.cleared

pub write-requires : goal.write-requires
write-requires c = let l = columns_within c.args.rows c.loop-k.columns.items c.loop-k.invariant.shaped in omega (arith, l)

pub loop-k-preserved : goal.loop-k-preserved
loop-k-preserved c =
    let (t, b, l, r) = c.write.ensures.sound in
    fill_on (sheet c.args.cells.now) c.args.places.now c.args.areas.now c.args.rows c.loop-k.k c.index-places-k.result (number_lists c.loop-k.columns.items) (number_lists c.write.new.columns.items)
    c.requires.ordered (omega (arith, c.loop-k-test.true)) c.index-places-k.is l t c.write.ensures.numbers c.loop-k.invariant
