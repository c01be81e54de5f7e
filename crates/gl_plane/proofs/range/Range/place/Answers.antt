use Rattle.std.proofs.Common.{◌∙◌, arith}
use Rattle.gl_calculus.specs.Grid.Grid.{addr}
use Rattle.gl_plane.proofs.Places.{placed}
use Rattle.gl_plane.proofs.range.Range.place.Goals as goal

pub overflow_cast-result : goal.overflow_cast-result
overflow_cast-result c =
    let p = placed c.args.self.now c.args.i c.from-cols.result (addr c.first.inside.col c.first.inside.row) (addr c.last.inside.col c.last.inside.row) (c.first.view_is ∙ c.first-first.ensures.value) (c.last.view_is ∙ c.last-last.ensures.value) c.first-first.ensures.ordered c.from-cols.ensures c.requires in
    omega (arith, p.row, c.last.invariant.1)

pub overflow_add-result : goal.overflow_add-result
overflow_add-result c =
    let p = placed c.args.self.now c.args.i c.from-cols.result (addr c.first.inside.col c.first.inside.row) (addr c.last.inside.col c.last.inside.row) (c.first.view_is ∙ c.first-first.ensures.value) (c.last.view_is ∙ c.last-last.ensures.value) c.first-first.ensures.ordered c.from-cols.ensures c.requires in
    omega (arith, p.row, c.last.invariant.1)

pub invariant_of-result : goal.invariant_of-result
invariant_of-result c =
    let p = placed c.args.self.now c.args.i c.from-cols.result (addr c.first.inside.col c.first.inside.row) (addr c.last.inside.col c.last.inside.row) (c.first.view_is ∙ c.first-first.ensures.value) (c.last.view_is ∙ c.last-last.ensures.value) c.first-first.ensures.ordered c.from-cols.ensures c.requires in
    (omega (arith, c.first.invariant.0), omega (arith, p.row, c.last.invariant.1), omega (arith, c.first.invariant.2), omega (arith, p.column, c.last.invariant.3))

pub returns : goal.returns
returns c = (placed c.args.self.now c.args.i c.from-cols.result (addr c.first.inside.col c.first.inside.row) (addr c.last.inside.col c.last.inside.row) (c.first.view_is ∙ c.first-first.ensures.value) (c.last.view_is ∙ c.last-last.ensures.value) c.first-first.ensures.ordered c.from-cols.ensures c.requires).is
