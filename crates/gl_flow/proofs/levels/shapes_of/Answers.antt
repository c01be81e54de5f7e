use Rattle.std.proofs.Common.{◌+◌, sym, ◌∙◌, arith}
use Rattle.gl_cells.specs.Sheet.{sheet}
use Rattle.gl_flow.proofs.Leveling.{next_shapes, all_shapes}
use Rattle.gl_flow.proofs.levels.shapes_of.Goals as goal

pub loop-level-preserved : goal.loop-level-preserved
loop-level-preserved c =
    next_shapes (sheet c.args.cells.now) c.loop-level._level (c.loop-level._level + 1) c.args.places.now c.deref.result.now c.in_ok-next.next.items (omega arith) c.requires.places
    (c.deref.ensures.value ∙ c.loop-level.invariant) c.in_ok-next.ensures

pub returns-then-same : goal.returns-then-same
returns-then-same c =
    all_shapes (sheet c.args.cells.now) c.loop-level._level (c.loop-level._level + 1) c.args.places.now c.loop-level.shapes.items c.in_ok-next.next.items (omega arith) (omega (arith, c.loop-level-test.true)) c.requires.places
    c.loop-level.invariant
    (next_shapes (sheet c.args.cells.now) c.loop-level._level (c.loop-level._level + 1) c.args.places.now c.deref.result.now c.in_ok-next.next.items (omega arith) c.requires.places
    (c.deref.ensures.value ∙ c.loop-level.invariant) c.in_ok-next.ensures)
    (sym c.deref-in-loop-level.ensures.value ∙ c.same_shapes-same.ensures c.if-same.true ∙ c.deref-in-loop-level-2.ensures.value)
